use Rattle.std.proofs.Common.{◌≡◌, length}
use Rattle.pip_base.specs.Memory.{IsMemory}
use Rattle.pip_every.proofs.later.words_later.Given as goal

-- the frames keep their number and their shape
abbrev pub invariant-loop : goal.invariant-loop
invariant-loop g l = record {
  count : length l.later.block.frames ≡ l.count;
  shape : IsMemory l.later.block.frames;
}
