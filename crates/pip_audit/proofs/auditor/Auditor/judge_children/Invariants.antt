use Rattle.std.proofs.Common.{◌-◌, ◌≤◌}
use Rattle.std.specs.Prelude.{slice_index}
use Rattle.pip_audit.specs.Comparing.{CoversChildren, GoesOn, LoadsOnly}
use Rattle.pip_audit.specs.Families.{NamesParent, end_of}
use Rattle.pip_audit.specs.Given.{PlacesRows}
use Rattle.pip_audit.specs.Reading.{IsRead}
use Rattle.pip_audit.proofs.auditor.Auditor.judge_children.Given as goal

-- the second shadows of the children so far are covered
abbrev pub invariant-loop-next : goal.invariant-loop-next
invariant-loop-next g l = record {
  read : IsRead (g.M.Frames.memory l.mem) l.self;
  rest : LoadsOnly l.fn.self l.self;
  places : PlacesRows (g.M.Frames.memory l.mem) (slice_index l.fn.self.names.items l.y) l.self.words.above;
  goes : GoesOn (g.M.Frames.memory l.mem) l.fn.found l.first;
  child : NamesParent (g.M.Frames.memory l.mem) l.fn.self.names.items l.fn.self.count
      (slice_index l.fn.self.names.items l.y) l.next;
  most : end_of l.fn.self.count l.next ≤ l.fn.self.count;
  covers : CoversChildren (g.M.Frames.memory l.mem) l.fn.self l.first
      (slice_index l.fn.self.names.items l.y) (end_of l.fn.self.count l.next);
}

abbrev pub decreases-loop-next : goal.decreases-loop-next
decreases-loop-next g l = l.fn.self.count - end_of l.fn.self.count l.next
