use Rattle.pip_model.specs.FullRows.{full_rows}
use Rattle.pip_mmu.proofs.Leaves.{leaf_unpacked, not_none, same_some, stands_name, stands_node, stands_space}
use Rattle.pip_mmu.proofs.translation.walk.Goals as goal

pub leaf_word-requires : goal.leaf_word-requires
leaf_word-requires g c = stands_node _ c.args.part c.requires

pub never-assert_unchecked-requires : goal.never-assert_unchecked-requires
never-assert_unchecked-requires g c =
    let s = c.requires in
    let space = stands_space _ c.args.part s in
    let word = c.leaf_word.ensures.word s.node (full_rows s.tree s.node) space (stands_name _ c.args.part s) in
    absurd (not_none c.unpack_leaf.result _ c.in-None.is (leaf_unpacked _ s.node (full_rows s.tree s.node) space
    c.args.v c.leaf_word.result word c.unpack_leaf.result c.unpack_leaf.ensures.each))

pub returns-clause-leaf : goal.returns-clause-leaf
returns-clause-leaf g c x rows space name =
    same_some c.unpack_leaf.result c.in-Some.entry _ c.in-Some.is (leaf_unpacked _ x rows space c.args.v
    c.leaf_word.result (c.leaf_word.ensures.word x rows space name) c.unpack_leaf.result c.unpack_leaf.ensures.each)
