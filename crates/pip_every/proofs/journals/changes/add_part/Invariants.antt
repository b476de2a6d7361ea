use Rattle.std.proofs.Common.{◌≡◌, ◌+◌, ◌*◌, ◌-◌, ◌++◌}
use Rattle.pip_base.specs.Memory.{Memory, frame_at}
use Rattle.pip_every.specs.Changes.{changes_from}
use Rattle.pip_every.proofs.journals.changes.add_part.Given as goal

-- the words before i were looked at
abbrev pub invariant-loop-i : goal.invariant-loop-i
invariant-loop-i l =
    (a m : Memory) → frame_at a l.frame ≡ l.first → frame_at m l.frame ≡ l.now
    → l.to.items ≡ l.initial.to.items ++ changes_from a m (1024 * l.frame + l.start) (l.i - l.start)
