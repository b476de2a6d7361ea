use Rattle.std.proofs.Common.{arith}
use Rattle.pip_apart.proofs.Entries.{fault_tells, word_tells}
use Rattle.pip_apart.proofs.taken.might_take.Goals as goal

pub returns-in-Ok : goal.returns-in-Ok
returns-in-Ok g c t x s lays is =
    word_tells t s c.args.line _ (omega arith) c.is_lent.result c.if-is_lent.false
    (c.is_lent.ensures t x s lays is) c.new.result c.new.ensures c.load.result
    (c.load.ensures.answer t x s lays (cc)) c.in-Ok.word c.in-Ok.is

pub returns-in-Err : goal.returns-in-Err
returns-in-Err g c t x s lays is =
    fault_tells t s c.args.line _ (omega arith) c.is_lent.result c.if-is_lent.false
    (c.is_lent.ensures t x s lays is) c.new.result c.new.ensures c.load.result
    (c.load.ensures.answer t x s lays (cc)) c.in-Err.field-0 c.in-Err.is
