use Rattle.std.proofs.Common.{◌∙◌, None, arith, sym}
use Rattle.pip_away.specs.Blind.{sight_of}
use Rattle.pip_away.proofs.Reading.{handler_block, handler_is, handler_left, handler_own, late_entry}
use Rattle.pip_away.proofs.handlers.handler_misses.Goals as goal

pub returns-then-vector-ge1024 : goal.returns-then-vector-ge1024
returns-then-vector-ge1024 g c t x s laid found =
    sym (handler_is c.args.blind.now.own.items (sight_of c.args.blind.now) t c.args.part c.args.vector None
    (late_entry t c.args.part c.args.vector x s found (omega arith)))

pub returns-in-None : goal.returns-in-None
returns-in-None g c t x s laid found =
    sym (handler_is c.args.blind.now.own.items (sight_of c.args.blind.now) t c.args.part c.args.vector None
    (sym c.in-None.is ∙ c.table_word.ensures t x s laid found))

pub returns-then-not-entry_fits : goal.returns-then-not-entry_fits
returns-then-not-entry_fits g c t x s laid found =
    handler_left c.args.blind.now.own.items (sight_of c.args.blind.now) t c.args.part c.args.vector c.in-Some.entry
    (sym c.in-Some.is ∙ c.table_word.ensures t x s laid found) (sym (c.entry_fits.ensures t x s laid found) ∙
    c.if-not-entry_fits.true)

pub returns-then-is_own : goal.returns-then-is_own
returns-then-is_own g c t x s laid found =
    c.if-is_own.true ∙ handler_own c.args.blind.now.own.items (sight_of c.args.blind.now) t c.args.part
    c.args.vector c.in-Some.entry
    (sym c.in-Some.is ∙ c.table_word.ensures t x s laid found) (sym (c.entry_fits.ensures t x s laid found) ∙
    c.if-not-entry_fits.false)
    (sym c.is_own.ensures ∙ c.if-is_own.true)

pub returns-else-is_own : goal.returns-else-is_own
returns-else-is_own g c t x s laid found =
    c.block_misses.ensures t x s laid found
    ∙ handler_block c.args.blind.now.own.items (sight_of c.args.blind.now) t c.args.part c.args.vector c.in-Some.entry
    (sym c.in-Some.is ∙ c.table_word.ensures t x s laid found) (sym (c.entry_fits.ensures t x s laid found) ∙
    c.if-not-entry_fits.false)
    (sym c.is_own.ensures ∙ c.if-is_own.false)
