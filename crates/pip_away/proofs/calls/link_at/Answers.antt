use Rattle.std.proofs.Common.{◌∙◌, ap, arith, sym}
use Rattle.std.specs.Prelude.{option_map}
use Rattle.pip_space.specs.Rows.{full_of}
use Rattle.pip_away.proofs.Calling.{hidden_next, mapped_page, open_next, row_inside, unmapped_next, unmapped_page}
use Rattle.pip_away.proofs.calls.link_at.Goals as goal

pub word-requires-clause-frame : goal.word-requires-clause-frame
word-requires-clause-frame g c =
    let k = c.requires in
    let here = sym (c.row_at.ensures.row k.tree k.node k.sound k.laid k.found) ∙ ap (option_map full_of) c.in-Some.is in
    let low = row_inside k.tree k.sound c.args.part c.args.va k.node k.found (full_of c.in-Some.row) here in
    let count = k.laid.count in
    omega (arith, low, count)

pub returns-then-row-clause-page : goal.returns-then-row-clause-page
returns-then-row-clause-page g c t x s laid found = mapped_page t s c.args.part c.args.va x found
    (full_of c.in-Some.row) (sym (c.row_at.ensures.row t x s laid found) ∙ ap (option_map full_of) c.in-Some.is)

pub returns-then-row-clause-next : goal.returns-then-row-clause-next
returns-then-row-clause-next g c t x s laid found = c.word.ensures.word
    ∙ open_next t s c.args.part c.args.va x found (full_of c.in-Some.row)
    (sym (c.row_at.ensures.row t x s laid found) ∙ ap (option_map full_of) c.in-Some.is) c.if-row.true
    (g.M.Frames.memory c.args.mem.now) laid

pub returns-in-None-clause-page : goal.returns-in-None-clause-page
returns-in-None-clause-page g c t x s laid found = c.new.ensures ∙ unmapped_page t s c.args.part c.args.va x found
    (sym (ap (option_map full_of) c.in-None.is) ∙ c.row_at.ensures.row t x s laid found)

pub returns-in-None-clause-next : goal.returns-in-None-clause-next
returns-in-None-clause-next g c t x s laid found = unmapped_next t s c.args.part c.args.va x found
    (sym (ap (option_map full_of) c.in-None.is) ∙ c.row_at.ensures.row t x s laid found)

pub returns-else-row-clause-page : goal.returns-else-row-clause-page
returns-else-row-clause-page g c t x s laid found = mapped_page t s c.args.part c.args.va x found
    (full_of c.in-Some.row) (sym (c.row_at.ensures.row t x s laid found) ∙ ap (option_map full_of) c.in-Some.is)

pub returns-else-row-clause-next : goal.returns-else-row-clause-next
returns-else-row-clause-next g c t x s laid found = hidden_next t s c.args.part c.args.va x found
    (full_of c.in-Some.row) (sym (c.row_at.ensures.row t x s laid found) ∙ ap (option_map full_of) c.in-Some.is)
    c.if-row.false
