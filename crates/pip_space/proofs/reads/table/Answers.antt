use Rattle.std.proofs.Common.{◌∙◌, sym, ap, subst}
use Rattle.pip_base.specs.Memory.{word_at}
use Rattle.pip_table.specs.Table.{IsDirectory}
use Rattle.pip_entry.specs.DirWord.{packed_dir}
use Rattle.pip_space.proofs.Tables.{entry_none, entry_some, is_table, page_inside}
use Rattle.pip_space.proofs.reads.table.Goals as goal

pub dir-requires-clause-table : goal.dir-requires-clause-table
dir-requires-clause-table g c =
    let n = c.requires.node in
    rw (c.directory-top.ensures.frame n.node n.cells n.is_in n.name) (is_table _ n.node n.cells n.is_in c.args.level)

pub returns-in-Empty-clause-page : goal.returns-in-Empty-clause-page
returns-in-Empty-clause-page g c x cells node name =
    let top = c.directory-top.ensures.frame x cells node name in
    sym (entry_none _ x cells node c.args.level c.args.i c.requires.index
    (rw (← top, ← c.dir.ensures.entry, c.in-Empty.is)))

pub returns-in-Table-clause-page : goal.returns-in-Table-clause-page
returns-in-Table-clause-page g c x cells node name =
    let top = c.directory-top.ensures.frame x cells node name in
    sym (entry_some _ x cells node c.args.level c.args.i c.in-Table.frame c.requires.index
    (rw (← top, ← c.dir.ensures.entry, c.in-Table.is)))

pub returns-in-Table-clause-inside : goal.returns-in-Table-clause-inside
returns-in-Table-clause-inside g c =
    let n = c.requires.node in
    page_inside _ n.node n.cells n.is_in c.args.level c.args.i c.in-Table.frame
    (sym (returns-in-Table-clause-page g c n.node n.cells n.is_in n.name))
