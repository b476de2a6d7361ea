use Rattle.std.proofs.Common.{ℕ, ◌<◌}
use Rattle.std.specs.Prelude.{slice_index}
use Rattle.pip_audit.specs.Comparing.{CoversChildren, GoesOn, LoadsOnly}
use Rattle.pip_audit.specs.Reading.{IsRead}
use Rattle.pip_audit.proofs.auditor.Auditor.judge_all_placed.Given as goal

-- the second shadows of the children of the nodes so far are covered
abbrev pub invariant-loop-y : goal.invariant-loop-y
invariant-loop-y g l = record {
  read : IsRead (g.M.Frames.memory l.mem) l.self;
  rest : LoadsOnly l.fn.self l.self;
  goes : GoesOn (g.M.Frames.memory l.mem) l.fn.found l.first;
  covers : (y : ℕ) → y < l.y → CoversChildren (g.M.Frames.memory l.mem) l.fn.self l.first
      (slice_index l.fn.self.names.items y) l.fn.self.count;
}
