use Rattle.std.proofs.Common.{◌∙◌, refl, arith}
use Rattle.pip_model.specs.FullRows.{cells_of}
use Rattle.pip_space.proofs.Packed.{not_both}
use Rattle.pip_space.proofs.Removing.{can_drop_page, can_take_slot, entries_gone, found_page, lists_done, removed}
use Rattle.pip_space.proofs.Removing.{removed_others, removed_rows, some_table}
use Rattle.pip_space.proofs.install.remove_table.Goals as goal

pub never-assert_unchecked-requires : goal.never-assert_unchecked-requires
never-assert_unchecked-requires g c =
    let r = c.requires.can in
    let n = r.is_in.node in
    absurd (not_both c.table.result r.can.table.mmu.frame c.in-None.is (c.table.ensures.page r.node (cells_of r.rows) n
    r.name ∙ found_page _ r.node (cells_of r.rows) n c.args.i c.requires.index r.can.table r.can.has r.can.listed))

pub take_slot-slot-requires : goal.take_slot-slot-requires
take_slot-slot-requires g c =
    let r = c.requires.can in
    let n = r.is_in.node in
    let a = c.read_table_roots-at.ensures.roots r.node (cells_of r.rows) n r.name in
    let is = c.table.ensures.page r.node (cells_of r.rows) n r.name in
    can_take_slot _ r.node (cells_of r.rows) n c.args.i c.requires.index r.can.table r.can.has r.can.listed
    c.read_table_roots-at.result a c.table.result c.in-Some.page c.in-Some.is is

pub overflow_sub-at : goal.overflow_sub-at
overflow_sub-at g c =
    let r = c.requires.can in
    let n = r.is_in.node in
    let a = c.read_table_roots-at.ensures.roots r.node (cells_of r.rows) n r.name in
    let is = c.table.ensures.page r.node (cells_of r.rows) n r.name in
    some_table _ r.node (cells_of r.rows) n c.args.i c.requires.index r.can.table r.can.has r.can.listed
    c.read_table_roots-at.result a c.table.result c.in-Some.page c.in-Some.is is

pub overflow_sub-at-in-Some : goal.overflow_sub-at-in-Some
overflow_sub-at-in-Some g c =
    let r = c.requires.can in
    let n = r.is_in.node in
    let a = c.read_table_roots-at.ensures.roots r.node (cells_of r.rows) n r.name in
    let is = c.table.ensures.page r.node (cells_of r.rows) n r.name in
    some_table _ r.node (cells_of r.rows) n c.args.i c.requires.index r.can.table r.can.has r.can.listed
    c.read_table_roots-at.result a c.table.result c.in-Some.page c.in-Some.is is

pub drop_list_page-list-requires : goal.drop_list_page-list-requires
drop_list_page-list-requires g c =
    let r = c.requires.can in
    let n = r.is_in.node in
    let a = c.read_table_roots-at.ensures.roots r.node (cells_of r.rows) n r.name in
    let is = c.table.ensures.page r.node (cells_of r.rows) n r.name in
    can_drop_page _ r.node (cells_of r.rows) n c.args.i c.requires.index r.can.table r.can.has r.can.listed
    c.read_table_roots-at.result a c.table.result c.in-Some.page c.in-Some.is is _ c.take_slot-slot.result
    c.take_slot-slot.ensures.list

pub returns-clause-pages : goal.returns-clause-pages
returns-clause-pages g c x rows space name can =
    let n = space.node in
    let a = c.read_table_roots-at.ensures.roots x (cells_of rows) n name in
    let is = c.table.ensures.page x (cells_of rows) n name in
    (lists_done _ x (cells_of rows) n c.args.i c.requires.index can.table can.has can.listed
    c.read_table_roots-at.result a
    c.table.result c.in-Some.page c.in-Some.is is _ _ c.take_slot-slot.result c.drop_list_page-list.result
    c.take_slot-slot.ensures.list c.drop_list_page-list.ensures.list).0

pub returns-clause-node : goal.returns-clause-node
returns-clause-node g c x rows space name can =
    let n = space.node in
    let a = c.read_table_roots-at.ensures.roots x (cells_of rows) n name in
    let is = c.table.ensures.page x (cells_of rows) n name in
    let done = lists_done _ x (cells_of rows) n c.args.i c.requires.index can.table can.has can.listed
    c.read_table_roots-at.result a c.table.result c.in-Some.page c.in-Some.is is _ _ c.take_slot-slot.result
    c.drop_list_page-list.result c.take_slot-slot.ensures.list c.drop_list_page-list.ensures.list in
    let e = entries_gone _ x (cells_of rows) n c.args.i c.requires.index can.table can.has can.listed _ _
    done.1.pages.shape done.2.count c.read_table_roots-at.result a _ refl c.clear_entries.ensures.words in (
      removed_rows _ _ x c.args.i rows space
          (removed _ x (cells_of rows) n c.args.i c.requires.index can.table can.has can.listed _ _ done.1 done.2 e),
      removed_others _ x (cells_of rows) n c.args.i c.requires.index can.table can.has can.listed _ _ done.1 done.2 e,
    )

pub returns-clause-steps : goal.returns-clause-steps
returns-clause-steps g c x cells node name =
    omega (arith, (c.read_table_roots-at.ensures.roots x cells node name).tables)
