use Rattle.std.proofs.Common.{◌∙◌, sym, arith}
use Rattle.pip_space.proofs.RootWords.{few_tables, part_inside, read_tables}
use Rattle.pip_grow.proofs.CountToMap.Call.{needed_none, needed_some}
use Rattle.pip_grow.proofs.calls.count_to_map.pages_needed.Goals as goal

pub returns-then-has_table-clause-pages : goal.returns-then-has_table-clause-pages
returns-then-has_table-clause-pages g c x cells node name = needed_none x c.args.v c.number.result c.number.ensures.same
    (sym c.if-has_table.true ∙ c.has_table.ensures.table x cells node name)

pub word-tables-requires-clause-frame : goal.word-tables-requires-clause-frame
word-tables-requires-clause-frame g c = let n = c.requires in part_inside _ n.node n.cells n.is_in c.args.part n.name

pub overflow_add-tables : goal.overflow_add-tables
overflow_add-tables g c =
    let n = c.requires in
    let few = few_tables _ n.node n.cells n.is_in in
    let read = read_tables _ n.node n.cells n.is_in c.args.part n.name in
    let word = c.word-tables.ensures.word in
    omega arith

pub returns-clause-pages : goal.returns-clause-pages
returns-clause-pages g c x cells node name =
    needed_some x c.args.v c.number.result c.number.ensures.same (sym c.if-has_table.false
    ∙ c.has_table.ensures.table x cells node name) c.word-tables.result c.lists.result c.lists-2.result
    (c.word-tables.ensures.word ∙ read_tables _ x cells node c.args.part name) c.lists.ensures c.lists-2.ensures
