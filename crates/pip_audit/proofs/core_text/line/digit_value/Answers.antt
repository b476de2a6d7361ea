use Rattle.std.proofs.Common.{refl}
use Rattle.pip_audit.proofs.Digits.{table_at}
use Rattle.pip_audit.proofs.core_text.line.digit_value.Goals as goal

pub returns : goal.returns
returns c = table_at _ c.args.byte refl c.ranges.byte.fits
