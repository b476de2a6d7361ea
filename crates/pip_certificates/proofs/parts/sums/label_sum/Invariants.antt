use Rattle.std.proofs.Common.{◌≡◌, drop}
use Rattle.pip_certificates.specs.Sums.{label_sum, sum_bytes}
use Rattle.pip_certificates.proofs.parts.sums.label_sum.Given as goal

abbrev pub invariant-loop-byte : goal.invariant-loop-byte
invariant-loop-byte l = sum_bytes l.sum (drop l.byte-index l.text) ≡ label_sum l.text
