use Rattle.std.proofs.Common.{sym, ap, subst, ◌∙◌, [], length}
use Rattle.pip_model.specs.Boot.{boot_root, boot_tree, first_user, tables_of_root}
use Rattle.pip_model.specs.FullRows.{full_rows}
use Rattle.pip_kern.specs.Boot.{HoldsRoot, no_rows}
use Rattle.pip_kern.proofs.RootFilled.{boot_done}
use Rattle.pip_kern.proofs.RootAlone.{start}
use Rattle.pip_kern.proofs.root.boot_zeros.Goals as goal

pub add_tables-requires-clause-number : goal.add_tables-requires-clause-number
add_tables-requires-clause-number g c =
    rw (c.root_tables-tables.ensures.number, c.count-n.ensures, ← c.write_root.ensures.count)

pub add_tables-requires-clause-root : goal.add_tables-requires-clause-root
add_tables-requires-clause-root g c =
    let bounds = g.met.M.Frames.bounds c.args.mem.now in
    let n = length (g.M.Frames.memory c.args.mem.now) in
    let m = g.M.Frames.memory c.write_root.new.mem in
    rw c.write_root.ensures.count (start n bounds.0 bounds.1 (g.M.Frames.memory c.args.mem.now) m c.requires
    c.write_root.ensures.words)

pub add_pages-requires-clause-count : goal.add_pages-requires-clause-count
add_pages-requires-clause-count g c = cc (c.count-n.ensures, c.write_root.ensures.count, c.add_tables.ensures.count)

pub add_pages-requires-clause-root : goal.add_pages-requires-clause-root
add_pages-requires-clause-root g c =
    let m = g.M.Frames.memory c.add_tables.new.mem in
    rw (c.count-n.ensures, ← c.write_root.ensures.count) c.add_tables.ensures

pub returns-clause-layout : goal.returns-clause-layout
returns-clause-layout g c =
    let bounds = g.met.M.Frames.bounds c.args.mem.now in
    let m = g.M.Frames.memory c.add_pages.new.mem in
    boot_done (length (g.M.Frames.memory c.args.mem.now)) bounds.0 bounds.1 m
    (rw (← c.count-n.ensures) c.add_pages.ensures)
