use Rattle.std.proofs.Common.{◌≡◌, length}
use Rattle.pip_certificates.specs.Entries.{byte_digits}
use Rattle.pip_certificates.proofs.Pieces.{HasFront}
use Rattle.pip_certificates.proofs.writing.write_digits.Given as goal

-- the digits of the bytes before the rest were written
abbrev pub invariant-loop-rest : goal.invariant-loop-rest
invariant-loop-rest g l = record {
  wrote : HasFront byte_digits (g.K.Sink.history l.fn.sink).written (g.K.Sink.history l.sink).written l.rest l.fn.bytes;
  no_faults : (g.K.Sink.history l.sink).faults ≡ (g.K.Sink.history l.fn.sink).faults;
}

abbrev pub decreases-loop-rest : goal.decreases-loop-rest
decreases-loop-rest g l = length l.rest
