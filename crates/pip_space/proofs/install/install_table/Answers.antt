use Rattle.std.proofs.Common.{sym, subst, ◌<◌, refl}
use Rattle.pip_model.specs.FullRows.{cells_of}
use Rattle.pip_space.specs.Tables.{page_list}
use Rattle.pip_space.proofs.Installing.{can_add_page, entries_done, has_room, installed, installed_others}
use Rattle.pip_space.proofs.Installing.{installed_rows, list_done, no_row_at, slot_pages}
use Rattle.pip_space.proofs.ListChanges.{slot_mmu, slot_shadow1, slot_shadow2}
use Rattle.pip_space.proofs.install.install_table.Goals as goal

pub zero_slot-requires : goal.zero_slot-requires
zero_slot-requires g c = let r = c.requires.can in
    slot_pages _ r.node r.table (page_list c.args.list) c.args.s.now r.can r.pages

pub add_list_page-requires : goal.add_list_page-requires
add_list_page-requires g c =
    let r = c.requires.can in
    let low = subst (λ j. j < 1024) (sym r.index) c.requires.index in
    let a = c.read_table_roots-at.ensures.roots r.node r.cells r.is_in r.name in
    can_add_page _ r.node r.cells r.is_in r.table c.args.list low r.can _ c.read_table_roots-at.result.list
    c.read_table_roots-at.result.tables (c.zero_slot.ensures.words r.table r.pages) a.list a.tables

pub push_slot-requires : goal.push_slot-requires
push_slot-requires g c =
    let r = c.requires.can in
    let low = subst (λ j. j < 1024) (sym r.index) c.requires.index in
    let a = c.read_table_roots-at.ensures.roots r.node r.cells r.is_in r.name in
    has_room _ r.node r.cells r.is_in r.table c.args.list low r.can _ c.read_table_roots-at.result.list
    c.read_table_roots-at.result.tables (c.zero_slot.ensures.words r.table r.pages) a.list a.tables _
    c.add_list_page.ensures.list

pub returns-clause-node : goal.returns-clause-node
returns-clause-node g c x rows b space name index pages can =
    let n = space.node in
    let low = subst (λ j. j < 1024) (sym index) c.requires.index in
    let a = c.read_table_roots-at.ensures.roots x (cells_of rows) n name in
    let done = list_done _ x (cells_of rows) n b c.args.list low can _ c.read_table_roots-at.result.list
    c.read_table_roots-at.result.tables (c.zero_slot.ensures.words b pages) a.list a.tables _ _ c.args.s.now pages
    c.add_list_page.ensures.list c.push_slot.ensures.list in
    let e = entries_done _ x (cells_of rows) n b c.args.list low can _ _ done.0.pages.shape done.1.count
    c.read_table_roots-at.result a c.args.i _ _ _ _ index
    (slot_mmu b c.args.s.now pages c.index-s-0.result) (slot_shadow1 b c.args.s.now pages c.index-s-1.result)
    (slot_shadow2 b c.args.s.now pages c.index-s-2.result) refl c.set_entries.ensures.words in (
      installed_rows _ _ x b (page_list c.args.list) rows space (installed _ x (cells_of rows) n b c.args.list low can _
          _ done.0 done.1 e (no_row_at _ x rows space b.index can.new)),
      installed_others _ x (cells_of rows) n b c.args.list low can _ _ done.0 done.1 e,
    )
