use Rattle.std.proofs.Common.{◌≡◌, ◌*◌, ◌++◌, ◌∙◌, sym, ap, Some}
use Rattle.std.specs.Prelude.{codes, decimal}
use Rattle.pip_space.proofs.Packed.{given_of, leaf_of, not_both}
use Rattle.pip_base.specs.Rights.{rights_number}
use Rattle.pip_entry.specs.declared.leaf.Leaf.TheVariants.{Empty, Page}
use Rattle.pip_model.specs.Dump.{rights_text, use_text}
use Rattle.pip_model.specs.Text.{word_text}
use Rattle.pip_model.specs.Tree.{holder}
use Rattle.pip_dump.specs.Lines.{view_between}
use Rattle.pip_dump.proofs.Uses.{given_is, page_of, pushed, row_is}
use Rattle.pip_dump.proofs.line.push_row.Goals as goal

pub returns-in_default : goal.returns-in_default
returns-in_default c t x q s at h =
    let given = given_of (Some h.row) h.packed in
    absurd (not_both c.unpack_sh1.result given.0 c.in_default.is
    (c.unpack_sh1.ensures.each given.0 given.1 (given.2 ∙ sym h.shadow)))

pub returns-in_default-unpack_leaf : goal.returns-in_default-unpack_leaf
returns-in_default-unpack_leaf c t x q s at h =
    let leaf = leaf_of (Some h.row) h.packed in
    absurd (not_both c.unpack_leaf.result leaf.0 c.in_default-unpack_leaf.is
    (c.unpack_leaf.ensures.each leaf.0 leaf.1 (leaf.2 ∙ sym h.mmu)))

pub returns-in-Empty : goal.returns-in-Empty
returns-in-Empty c t x q s at h =
    let page = c.unpack_leaf.ensures.each (Page h.row.frame h.row.user (record { 0 = h.row.rights }))
    (h.packed.frame, h.packed.low, h.packed.read) (sym h.mmu) in
    let both : Some Empty ≡ Some (Page h.row.frame h.row.user (record { 0 = h.row.rights })) =
    ap Some (sym c.in-Empty.is) ∙ (sym c.in-Some-unpack_leaf.is ∙ page) in
    cc

pub returns-in-Page : goal.returns-in-Page
returns-in-Page c t x q s at h =
    let page = c.unpack_leaf.ensures.each (Page h.row.frame h.row.user (record { 0 = h.row.rights }))
    (h.packed.frame, h.packed.low, h.packed.read) (sym h.mmu) in
    let (frame, user, rights) = page_of h.row c.unpack_leaf.result c.in-Some-unpack_leaf.leaf c.in-Page.frame
    c.in-Page.user c.in-Page.rights c.in-Some-unpack_leaf.is c.in-Page.is page in
    let given = c.in-Some.ensures.packs.1 ∙ (h.shadow ∙ given_is t x q h.row h.full) in
    let page = codes "row " ++ word_text (4096 * c.number.result) ++ codes " " ++ decimal c.in-Page.frame ++ codes " "
    ++ rights_text (rights_number c.in-Page.rights) ++ view_between c.in-Page.user in
    let used = use_text (holder t x.name q.frame) q.frame in
    let end = pushed c.push_page.new.text.bytes used (codes "\n") c.push_use.new.text.bytes c.push_str.new.self.bytes
    (c.push_use.ensures.bytes t x.name q.frame s given) c.push_str.ensures.bytes in
    pushed c.args.text.now.bytes page (used ++ codes "\n") c.push_page.new.text.bytes c.push_str.new.self.bytes
    c.push_page.ensures.bytes end
    ∙ ap (λ l. c.args.text.now.bytes ++ l) (row_is t x q h.row c.number.result c.in-Page.frame
    (rights_number c.in-Page.rights) c.in-Page.user h.full (c.number.ensures.same ∙ at) frame rights user)
