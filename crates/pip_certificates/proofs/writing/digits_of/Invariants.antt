use Rattle.std.proofs.Common.{◌≡◌, ◌++◌, ◌*◌, drop, length}
use Rattle.std.specs.Prelude.{flat_map}
use Rattle.pip_certificates.specs.Entries.{byte_digits}
use Rattle.pip_certificates.proofs.writing.digits_of.Given as goal

abbrev pub invariant-loop-byte : goal.invariant-loop-byte
invariant-loop-byte l = record {
  items : l.digits.items ++ flat_map byte_digits (drop l.byte-index l.bytes) ≡ flat_map byte_digits l.fn.bytes;
  count : length l.digits.items ≡ 2 * l.byte-index;
}
