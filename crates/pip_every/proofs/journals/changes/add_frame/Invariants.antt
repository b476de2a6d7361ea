use Rattle.std.proofs.Common.{◌≡◌, ℕ, ◌+◌, ◌*◌, ◌-◌, ◌≤◌, ◌++◌}
use Rattle.pip_base.specs.Memory.{Memory, frame_at}
use Rattle.pip_every.specs.Changes.{changes_from}
use Rattle.pip_every.proofs.journals.changes.add_frame.Given as goal

-- the parts before this one were looked at
abbrev pub invariant-loop-part : goal.invariant-loop-part
invariant-loop-part l = record {
  most : l.part ≤ 32;
  adds : (a b m : Memory) (r : ℕ) → frame_at a l.frame ≡ l.first → frame_at b l.frame ≡ l.base
      → frame_at m l.frame ≡ l.now → l.words ≡ changes_from a b (1024 * l.frame) (1024 + r)
      → (l.to.items ≡ l.fn.to.items ++ changes_from a m (1024 * l.frame) (32 * l.part))
      × (l.rest ≡ changes_from a b (1024 * l.frame + 32 * l.part) (1024 - 32 * l.part + r));
}

abbrev pub decreases-loop-part : goal.decreases-loop-part
decreases-loop-part l = 32 - l.part
