use Rattle.std.proofs.Common.{subst, sym}
use Rattle.pip_table.specs.Table.{IsDirectory}
use Rattle.pip_model.specs.declared.level.Level.TheVariants.{Mmu}
use Rattle.pip_space.proofs.Tables.{empty_exactly, is_table, tables_entry}
use Rattle.pip_space.proofs.reads.is_table_empty.Goals as goal

pub table_is_empty-requires-clause-table : goal.table_is_empty-requires-clause-table
table_is_empty-requires-clause-table g c =
    let n = c.requires.tables.held in
    rw (c.directory-top.ensures.frame n.node n.cells n.is_in n.name) (is_table _ n.node n.cells n.is_in Mmu)

pub table_is_empty-requires-clause-has : goal.table_is_empty-requires-clause-has
table_is_empty-requires-clause-has g c =
    tables_entry (g.M.Frames.memory c.args.mem.now) c.args.part c.args.i c.directory-top.result c.requires.index
    c.requires.tables c.directory-top.ensures.frame

pub returns-clause-empty : goal.returns-clause-empty
returns-clause-empty g c x rows space name =
    let has = tables_entry (g.M.Frames.memory c.args.mem.now) c.args.part c.args.i c.directory-top.result
    c.requires.index c.requires.tables c.directory-top.ensures.frame in
    let rows_out = empty_exactly (g.M.Frames.memory c.args.mem.now) x rows space c.directory-top.result
    (c.directory-top.ensures.frame x _ space.node name) c.args.i c.requires.index has in
    let zeros = c.table_is_empty.ensures.empty in
    (λ b. rows_out.0 (zeros.0 b), λ none. zeros.1 (rows_out.1 none))
