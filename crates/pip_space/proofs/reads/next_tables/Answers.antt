use Rattle.std.proofs.Common.{◌∙◌, sym, subst}
use Rattle.pip_table.specs.Table.{IsDirectory}
use Rattle.pip_model.specs.declared.level.Level.TheVariants.{Mmu}
use Rattle.pip_space.proofs.Tables.{is_table, next_index, none_at_all}
use Rattle.pip_space.proofs.reads.next_tables.Goals as goal

pub next_table-requires-clause-table : goal.next_table-requires-clause-table
next_table-requires-clause-table g c =
    let n = c.requires.node in
    rw (c.directory-top.ensures.frame n.node n.cells n.is_in n.name) (is_table _ n.node n.cells n.is_in Mmu)

pub returns-clause-next : goal.returns-clause-next
returns-clause-next g c x cells node name = next_index
    (g.M.Frames.memory c.args.mem.now) x cells node c.directory-top.result
    (c.directory-top.ensures.frame x cells node name) c.args.from c.next_table.result c.next_table.ensures.first

pub returns-then-table_count-eq0-clause-next : goal.returns-then-table_count-eq0-clause-next
returns-then-table_count-eq0-clause-next g c x cells node name i low high =
    none_at_all x.tables (cc (c.if-table_count-eq0.true, c.table_count.ensures.tables x cells node name)) i
