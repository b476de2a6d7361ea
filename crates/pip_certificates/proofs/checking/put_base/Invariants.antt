use Rattle.std.proofs.Common.{◌≡◌, drop, length}
use Rattle.pip_base.specs.Memory.{IsMemory}
use Rattle.pip_certificates.specs.BaseWords.{AreBaseWords}
use Rattle.pip_certificates.specs.PartAbout.{words_with}
use Rattle.pip_certificates.proofs.checking.put_base.Given as goal

abbrev pub invariant-loop-i : goal.invariant-loop-i
invariant-loop-i l = record {
  words : words_with l.mem.block.frames (drop l.i l.fn.base) ≡ words_with l.fn.mem.block.frames l.fn.base;
  base : AreBaseWords (length l.mem.block.frames) (drop l.i l.fn.base);
  shape : IsMemory l.mem.block.frames;
  count : length l.mem.block.frames ≡ length l.fn.mem.block.frames;
}
