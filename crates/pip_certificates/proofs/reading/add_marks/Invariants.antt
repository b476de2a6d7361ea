use Rattle.std.proofs.Common.{◌≡◌, ◌+◌, ◌-◌, ◌++◌, length, min}
use Rattle.pip_certificates.specs.PartText.{after_bits, low_bits}
use Rattle.pip_certificates.proofs.reading.add_marks.Given as goal

abbrev pub invariant-loop : goal.invariant-loop
invariant-loop l = record {
  items : l.part.marks.items ++ low_bits (l.end - l.counter) l.bits
      ≡ l.fn.part.marks.items ++ low_bits (min l.fn.left 8) l.fn.byte;
  bits : after_bits (l.end - l.counter) l.bits ≡ after_bits (min l.fn.left 8) l.fn.byte;
  end : l.end ≡ min l.fn.left 8;
  base : l.part.base ≡ l.fn.part.base;
  way : l.part.way ≡ l.fn.part.way;
  count : length l.part.marks.items ≡ length l.fn.part.marks.items + l.counter;
}
