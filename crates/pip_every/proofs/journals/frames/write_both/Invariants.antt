use Rattle.std.proofs.Common.{◌≡◌, length}
use Rattle.pip_switch.specs.Rewinding.{ArePlaces, rewritten}
use Rattle.pip_every.proofs.journals.frames.write_both.Given as goal

-- what is left to be written leads to the same
abbrev pub invariant-loop-rest : goal.invariant-loop-rest
invariant-loop-rest l = record {
  places : ArePlaces (length l.one.block.frames) l.rest;
  count : length l.other.block.frames ≡ length l.one.block.frames;
  one : rewritten l.one.block.frames l.rest ≡ rewritten l.initial.one.block.frames l.words;
  other : rewritten l.other.block.frames l.rest ≡ rewritten l.initial.other.block.frames l.words;
}

abbrev pub decreases-loop-rest : goal.decreases-loop-rest
decreases-loop-rest l = length l.rest
