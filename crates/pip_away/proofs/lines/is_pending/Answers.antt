use Rattle.pip_switch.proofs.LineBits.{has_bit}
use Rattle.pip_away.proofs.lines.is_pending.Goals as goal

pub returns : goal.returns
returns c js l is = has_bit js l c.args.bits is c.args.line
