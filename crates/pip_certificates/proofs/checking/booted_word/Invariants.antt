use Rattle.std.proofs.Common.{◌≡◌, ◌+◌, length}
use Rattle.pip_certificates.specs.BaseWords.{AreBaseWords}
use Rattle.pip_certificates.specs.PartExact.{booted_from}
use Rattle.pip_certificates.proofs.checking.booted_word.Given as goal

abbrev pub invariant-loop-rest : goal.invariant-loop-rest
invariant-loop-rest g l = record {
  first : booted_from l.fn.mem.block.frames l.place l.rest ≡ booted_from l.fn.mem.block.frames 0 l.base;
  count : l.place + length l.rest ≡ length l.base;
  base : AreBaseWords (length l.fn.mem.block.frames) l.rest;
}

abbrev pub decreases-loop-rest : goal.decreases-loop-rest
decreases-loop-rest g l = length l.rest
