use Rattle.std.proofs.Common.{◌≡◌, length}
use Rattle.pip_every.specs.Changes.{IsRewritten}
use Rattle.pip_every.proofs.journals.frames.take_back.Given as goal

-- what is left is over the first words
abbrev pub invariant-loop-rest : goal.invariant-loop-rest
invariant-loop-rest g l = record {
  kept : ∥ IsRewritten l.first.block.frames l.one.block.frames l.rest ∥₁;
  same : l.other.block.frames ≡ l.one.block.frames;
}

abbrev pub decreases-loop-rest : goal.decreases-loop-rest
decreases-loop-rest g l = length l.rest
