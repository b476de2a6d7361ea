use Rattle.std.proofs.Common.{◌≡◌, length}
use Rattle.pip_base.specs.Memory.{IsMemory}
use Rattle.pip_every.proofs.later.note_words.Given as goal

-- the frames keep their number and their shape
abbrev pub invariant-loop-f : goal.invariant-loop-f
invariant-loop-f g l = record {
  count : length l.to.block.frames ≡ length l.initial.to.block.frames;
  shape : IsMemory l.to.block.frames;
}
