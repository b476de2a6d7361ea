use Rattle.std.proofs.Common.{rules, arith, ◌-◌, drop, length, subst, take, Some, None}
use Rattle.std.proofs.lemmas.List.{take_rest}
use Rattle.pip_io.specs.Newlines.{IsFirstNewline}
use Rattle.pip_io.proofs.Newlines.{NoneIn, first_beyond, found_near, none_both, none_near}
use Rattle.pip_io.proofs.newline.find_beyond.Goals as goal

pub returns-then-marks-ne0 : goal.returns-then-marks-ne0
returns-then-marks-ne0 c =
    let rest = take (length c.args.bytes.now - c.loop-from.from) (drop c.loop-from.from c.args.bytes.now) in
    first_beyond c.loop-from.from c.args.bytes.now c.loop-from.invariant.plain (Some _)
    (found_near rest (search (rules, arith)) c.newlines-marks.result c.newlines-marks.ensures c.if-marks-ne0.true
    (search (rules, arith)))

pub loop-from-preserved : goal.loop-from-preserved
loop-from-preserved c =
    let rest = take (length c.args.bytes.now - c.loop-from.from) (drop c.loop-from.from c.args.bytes.now) in
    record {
      inside = omega arith;
      plain = none_both c.loop-from.from c.args.bytes.now c.loop-from.invariant.plain 32
          (rw (← take_rest c.args.bytes.now c.loop-from.from)
          (none_near rest (search (rules, arith)) c.newlines-marks.result c.newlines-marks.ensures
          c.if-marks-ne0.false));
    }

pub returns-in-Some : goal.returns-in-Some
returns-in-Some c = first_beyond c.loop-from.from c.args.bytes.now c.loop-from.invariant.plain (Some c.in-Some.at)
    (rw c.in-Some.is at c.memchr.ensures)

pub returns-in-None : goal.returns-in-None
returns-in-None c = first_beyond c.loop-from.from c.args.bytes.now c.loop-from.invariant.plain
    None (rw c.in-None.is at c.memchr.ensures)
