use Rattle.std.proofs.Common.{rules, arith}
use Rattle.pip_io.proofs.Newlines.{found_near, none_near}
use Rattle.pip_io.proofs.newline.find_newline.Goals as goal

pub returns-then-marks-ne0 : goal.returns-then-marks-ne0
returns-then-marks-ne0 c = found_near c.args.bytes.now c.if-bytes-lt32.false c.newlines-marks.result
    c.newlines-marks.ensures c.if-marks-ne0.true (search (rules, arith))

pub find_beyond-requires-clause-plain : goal.find_beyond-requires-clause-plain
find_beyond-requires-clause-plain c = none_near c.args.bytes.now c.if-bytes-lt32.false c.newlines-marks.result
    c.newlines-marks.ensures c.if-marks-ne0.false
