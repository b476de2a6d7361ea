use Rattle.std.proofs.Common.{◌∙◌, None, ap, not, sym}
use Rattle.pip_away.specs.Blind.{sight_of}
use Rattle.pip_away.proofs.Reading.{save_block, save_is, save_left, save_other}
use Rattle.pip_away.proofs.handlers.save_misses.Goals as goal

pub returns-in-None : goal.returns-in-None
returns-in-None g c t x s laid found =
    sym (save_is c.args.blind.now.own.items (sight_of c.args.blind.now) t c.args.part c.args.vector None
    (sym c.in-None.is ∙ c.table_word.ensures t x s laid found))

pub returns-then-not-entry_fits : goal.returns-then-not-entry_fits
returns-then-not-entry_fits g c t x s laid found =
    save_left c.args.blind.now.own.items (sight_of c.args.blind.now) t c.args.part c.args.vector c.in-Some.entry
    (sym c.in-Some.is ∙ c.table_word.ensures t x s laid found) (sym (c.entry_fits.ensures t x s laid found) ∙
    c.if-not-entry_fits.true)

pub returns-then-not-is_own : goal.returns-then-not-is_own
returns-then-not-is_own g c t x s laid found =
    ap not c.if-not-is_own.true ∙ save_other c.args.blind.now.own.items (sight_of c.args.blind.now) t c.args.part
    c.args.vector c.in-Some.entry
    (sym c.in-Some.is ∙ c.table_word.ensures t x s laid found) (sym (c.entry_fits.ensures t x s laid found) ∙
    c.if-not-entry_fits.false)
    (sym c.is_own.ensures ∙ c.if-not-is_own.true)

pub returns-else-not-is_own : goal.returns-else-not-is_own
returns-else-not-is_own g c t x s laid found =
    c.save_lands.ensures t x s laid found
    ∙ save_block c.args.blind.now.own.items (sight_of c.args.blind.now) t c.args.part c.args.vector c.in-Some.entry
    (sym c.in-Some.is ∙ c.table_word.ensures t x s laid found) (sym (c.entry_fits.ensures t x s laid found) ∙
    c.if-not-entry_fits.false)
    (sym c.is_own.ensures ∙ c.if-not-is_own.false)
