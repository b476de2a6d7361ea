use Rattle.std.proofs.Common.{◌∙◌, ◌+◌, ◌*◌, sym}
use Rattle.pip_base.specs.declared.types.Access.TheVariants.{Load}
use Rattle.pip_base.specs.declared.types.Size.TheVariants.{Word}
use Rattle.pip_guests.specs.Outside.{entry_place}
use Rattle.pip_away.proofs.Reading.{located_read, no_table, some_table}
use Rattle.pip_away.proofs.handlers.table_word.Goals as goal

pub returns-in-Err : goal.returns-in-Err
returns-in-Err g c t x s laid found = no_table t (entry_place t c.args.part c.args.vector) c.in-Err.field-0
    (sym c.in-Err.is ∙ c.locate.ensures.place t x s laid found)

pub returns-in-Ok : goal.returns-in-Ok
returns-in-Ok g c t x s laid found =
    let e = sym c.in-Ok.is ∙ c.locate.ensures.place t x s laid found in
    some_table t (entry_place t c.args.part c.args.vector) c.in-Ok.found c.word.result e
    (c.word.ensures.word ∙ located_read t s c.args.part (0xfffff000 + 4 * c.args.vector) Load Word x found
    c.in-Ok.found e (g.M.Frames.memory c.args.mem.now) laid)
