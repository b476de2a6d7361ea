use Rattle.std.proofs.Common.{◌∙◌, sym}
use Rattle.pip_space.proofs.Packed.{leaf_of, not_both}
use Rattle.pip_kern.proofs.nodes.page_of.Goals as goal

pub returns-in_err-unpack_leaf : goal.returns-in_err-unpack_leaf
returns-in_err-unpack_leaf c r packed word =
    let l = leaf_of r packed in
    absurd (not_both c.unpack_leaf.result l.0 c.in_err-unpack_leaf.was
    (c.unpack_leaf.ensures.each l.0 l.1 (cc (l.2))))
