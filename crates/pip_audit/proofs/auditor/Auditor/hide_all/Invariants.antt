use Rattle.std.proofs.Common.{◌≡◌}
use Rattle.pip_audit.specs.FrameSets.{contains}
use Rattle.pip_audit.specs.Reading.{IsRead}
use Rattle.pip_audit.proofs.Judges.{Hides}
use Rattle.pip_audit.proofs.auditor.Auditor.hide_all.Given as goal

-- the configuration of the nodes so far is hidden
abbrev pub invariant-loop-x : goal.invariant-loop-x
invariant-loop-x g l =
    IsRead (g.M.Frames.memory l.mem) l.self
    × (l.self ≡ record l.fn.self { sets = l.self.sets })
    × Hides (g.M.Frames.memory l.mem) l.fn.self.names.items l.x (contains l.self.sets.hidden)
