use Rattle.std.proofs.Common.{◌≡◌, ◌+◌, ◌*◌, ◌/◌, ◌%◌, ◌<◌, refl, ltb-true}
use Rattle.std.proofs.Common.{sym, ap, ◌∙◌, subst, arith, get_or, None, Some}
use Rattle.std.specs.Prelude.{option_map}
use Rattle.pip_base.specs.Memory.{frame_at, word_at}
use Rattle.pip_model.specs.FullRows.{cells_of, row_word}
use Rattle.pip_model.specs.ReadOff.{node_read}
use Rattle.pip_model.specs.Tree.{table_at}
use Rattle.pip_model.proofs.Nodes.Reads.{row_word-none}
use Rattle.pip_audit.specs.Comparing.{FitsRole, entry_held, role_of, row_held, rows_held, wanted_word}
use Rattle.pip_audit.specs.Tables.{tables_in, triple_of}
use Rattle.pip_audit.proofs.Loads.{passes}
use Rattle.pip_model.specs.NodeWords.{list_word}
use Rattle.pip_model.specs.Tree.{lists}
use Rattle.pip_audit.proofs.PageWords.{descriptor_role, directory_role, entry_is}
use Rattle.pip_audit.proofs.PageWords.{list_role, no_descriptor_word, table_role}
use Rattle.pip_audit.proofs.Rows.{no_row, no_word, row_by_word}
use Rattle.pip_audit.proofs.auditor.Auditor.wants_zeros.Goals as goal

pub returns-in-Directory : goal.returns-in-Directory
returns-in-Directory g c on i below =
    let m = g.M.Frames.memory c.args.mem.now in
    let a = c.args.self.now in
    let x = node_read m a.node.part in
    let level = c.in-Directory.field-0 in
    let block = c.requires.block in
    let k = 32 * c.args.b + i in
    ap (λ r. wanted_word m a (role_of r) k) c.in-Directory.is
    ∙ directory_role x (cells_of (rows_held m a)) level k
    ∙ sym (entry_is level (table_at x.tables k))
    ∙ ap (entry_held level)
    (sym (c.requires.holds.of.of k (omega (arith, block, below))) ∙ c.has_none_in.ensures on i below)

pub returns-in-None : goal.returns-in-None
returns-in-None g c on i below =
    let m = g.M.Frames.memory c.args.mem.now in
    let a = c.args.self.now in
    let x = node_read m a.node.part in
    let ts = tables_in m a.node.part in
    let level = c.in-Table.level in
    let block = c.requires.block in
    let small : c.in-Table.index < 1024 =
    subst (λ r. FitsRole m a.node.part (role_of r)) c.in-Table.is c.requires.fits in
    let k = 32 * c.args.b + i in
    let v = 1024 * c.in-Table.index + k in
    let same : v / 1024 ≡ c.in-Table.index = omega (arith, block, below) in
    let none = subst (λ d. option_map triple_of (table_at ts d) ≡ None) (sym same)
    (sym (c.requires.holds.of.of c.in-Table.index small) ∙ (sym c.at.ensures ∙ c.in-None.is)) in
    ap (λ r. wanted_word m a (role_of r) k) c.in-Table.is
    ∙ table_role x (cells_of (rows_held m a)) level c.in-Table.index k
    ∙ ap (λ o. row_word level (option_map (row_held a) o)) (no_row m ts v none)
    ∙ row_word-none level

pub returns-in-Some : goal.returns-in-Some
unfolding frame_at word_at
returns-in-Some g c on i below =
    let m = g.M.Frames.memory c.args.mem.now in
    let a = c.args.self.now in
    let x = node_read m a.node.part in
    let ts = tables_in m a.node.part in
    let level = c.in-Table.level in
    let block = c.requires.block in
    let small : c.in-Table.index < 1024 =
    subst (λ r. FitsRole m a.node.part (role_of r)) c.in-Table.is c.requires.fits in
    let k = 32 * c.args.b + i in
    let v = 1024 * c.in-Table.index + k in
    let same : v / 1024 ≡ c.in-Table.index = omega (arith, block, below) in
    let index : v % 1024 ≡ k = omega (arith, block, below) in
    let b = c.in-Some.tables in
    let some = subst (λ d. option_map triple_of (table_at ts d) ≡ Some b) (sym same)
    (sym (c.requires.holds.of.of c.in-Table.index small) ∙ (sym c.at.ensures ∙ c.in-Some.is)) in
    let zero = ap (word_at m b.mmu) index
    ∙ (ap (λ ws. get_or ws k 0) (sym c.frame.ensures.words) ∙ c.is_zero_block.ensures on i below) in
    ap (λ r. wanted_word m a (role_of r) k) c.in-Table.is
    ∙ table_role x (cells_of (rows_held m a)) level c.in-Table.index k
    ∙ ap (λ o. row_word level (option_map (row_held a) o))
    (row_by_word m ts v b some ∙ no_word v (word_at m b.mmu (v % 1024)) zero)
    ∙ row_word-none level

pub returns-in-Descriptor : goal.returns-in-Descriptor
returns-in-Descriptor g c on i below =
    let m = g.M.Frames.memory c.args.mem.now in
    let a = c.args.self.now in
    let x = node_read m a.node.part in
    let k = 32 * c.args.b + i in
    ap (λ r. wanted_word m a (role_of r) k) c.in-Descriptor.is
    ∙ descriptor_role x (cells_of (rows_held m a)) k
    ∙ no_descriptor_word x k (let some = ltb-true 0 c.args.b on in omega (arith, some))

pub returns-in-List : goal.returns-in-List
returns-in-List g c on i below =
    let m = g.M.Frames.memory c.args.mem.now in
    let a = c.args.self.now in
    let x = node_read m a.node.part in
    let k = 32 * c.args.b + i in
    ap (λ r. wanted_word m a (role_of r) k) c.in-List.is
    ∙ list_role x (cells_of (rows_held m a)) c.in-List.k k
    ∙ ap (λ p. list_word (node_read m p) c.in-List.k k) (sym c.part.ensures)
    ∙ c.lacks_slots.ensures on i below

pub lacks_slots-requires-clause-few : goal.lacks_slots-requires-clause-few
lacks_slots-requires-clause-few g c =
    let m = g.M.Frames.memory c.args.mem.now in
    let part = c.args.self.now.node.part in
    let page : c.in-List.k < lists (word_at m part 12) =
    subst (λ r. FitsRole m part (role_of r)) c.in-List.is c.requires.fits in
    let few = (passes m part (word_at m part 12) refl c.requires.holds.of.passes).few in
    omega (arith, few, page)
