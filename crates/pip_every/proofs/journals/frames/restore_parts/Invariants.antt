use Rattle.std.proofs.Common.{◌-◌, ◌≤◌}
use Rattle.pip_every.proofs.Restoring.{IsRestored}
use Rattle.pip_every.proofs.journals.frames.restore_parts.Given as goal

-- the parts before this one are as they were at first
abbrev pub invariant-loop-part : goal.invariant-loop-part
invariant-loop-part l = record { most : l.part ≤ 32; restored : IsRestored l.from l.to l.parts l.part }

abbrev pub decreases-loop-part : goal.decreases-loop-part
decreases-loop-part l = 32 - l.part
