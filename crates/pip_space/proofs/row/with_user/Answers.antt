use Rattle.std.proofs.Common.{◌∙◌, sym, Some}
use Rattle.pip_space.proofs.Packed.{leaf_of, not_both}
use Rattle.pip_space.proofs.row.with_user.Goals as goal

pub never-assert_unchecked-requires : goal.never-assert_unchecked-requires
never-assert_unchecked-requires c =
    let l = leaf_of (Some c.requires.row) c.requires.packed in
    absurd (not_both c.unpack_leaf.result l.0 c.in-None.is
    (c.unpack_leaf.ensures.each l.0 l.1 (l.2 ∙ sym c.requires.is)))
