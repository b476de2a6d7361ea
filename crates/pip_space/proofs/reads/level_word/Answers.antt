use Rattle.std.proofs.Common.{◌∙◌, sym}
use Rattle.pip_space.proofs.Tables.{row_of_page, no_page_no_row}
use Rattle.pip_space.proofs.reads.level_word.Goals as goal

pub returns-in-Some-clause-word : goal.returns-in-Some-clause-word
returns-in-Some-clause-word g c x rows space name =
    c.word.ensures.word ∙ row_of_page _ x rows space c.args.level c.args.v c.number-number.result
    c.in-Some.frame c.number-number.ensures.same c.number-number.ensures.small
    (rw (← c.table.ensures.page x _ space.node name) c.in-Some.is)

pub returns-in-None-clause-word : goal.returns-in-None-clause-word
returns-in-None-clause-word g c x rows space name =
    sym (no_page_no_row _ x rows space c.args.level c.args.v c.number-number.result
    c.number-number.ensures.same (rw (← c.table.ensures.page x _ space.node name) c.in-None.is))
