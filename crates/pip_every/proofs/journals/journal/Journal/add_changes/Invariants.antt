use Rattle.std.proofs.Common.{◌≡◌, ◌*◌, ◌-◌, ◌≤◌, ◌++◌, length}
use Rattle.pip_base.specs.Memory.{IsMemory}
use Rattle.pip_every.specs.Changes.{changes_from}
use Rattle.pip_every.proofs.journals.journal.Journal.add_changes.Given as goal

-- the frames before f were looked at
abbrev pub invariant-loop-f : goal.invariant-loop-f
invariant-loop-f g l = record {
  high : l.f ≤ length g.F.First.words;
  adds : IsMemory g.F.First.words
      → (l.to.items ≡ l.fn.to.items ++ changes_from g.F.First.words l.self.frames.block.frames 0 (1024 * l.f))
      × (l.rest ≡ changes_from g.F.First.words l.self.base.block.frames (1024 * l.f)
      (1024 * (length g.F.First.words - l.f)));
}

abbrev pub decreases-loop-f : goal.decreases-loop-f
decreases-loop-f g l = length g.F.First.words - l.f
