use Rattle.std.proofs.Common.{append_assoc}
use Rattle.pip_certificates.proofs.about.about_text.Goals as goal

pub returns : goal.returns
returns c =
    rw (
      c.push_digits-2.ensures.bytes,
      c.push_digits.ensures.bytes,
      c.push_str-5.ensures.bytes,
      c.push_decimal-5.ensures.bytes,
      c.push_str-4.ensures.bytes,
      c.push_decimal-4.ensures.bytes,
      c.push_str-3.ensures.bytes,
      c.push_decimal-3.ensures.bytes,
      c.push_str-2.ensures.bytes,
      c.push_decimal-2.ensures.bytes,
      c.push_str.ensures.bytes,
      c.push_decimal.ensures.bytes,
      c.new-text.ensures,
    )
    (simp append_assoc)
