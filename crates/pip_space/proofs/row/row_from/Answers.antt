use Rattle.std.proofs.Common.{◌∙◌, sym}
use Rattle.pip_space.proofs.Packed.{from_of, given_of, leaf_of, not_both}
use Rattle.pip_space.proofs.row.row_from.Goals as goal

pub returns-in_err-unpack_leaf : goal.returns-in_err-unpack_leaf
returns-in_err-unpack_leaf c r packed word given from =
    let l = leaf_of r packed in
    absurd (not_both c.unpack_leaf.result l.0 c.in_err-unpack_leaf.was
    (c.unpack_leaf.ensures.each l.0 l.1 (cc (l.2))))

pub returns-in_err-unpack_sh1-in-Page : goal.returns-in_err-unpack_sh1-in-Page
returns-in_err-unpack_sh1-in-Page c r packed word given from =
    let s = given_of r packed in
    absurd (not_both c.unpack_sh1.result s.0 c.in_err-unpack_sh1-in-Page.was
    (c.unpack_sh1.ensures.each s.0 s.1 (cc (s.2))))

pub returns-in_err-unpack_sh2-in-Page : goal.returns-in_err-unpack_sh2-in-Page
returns-in_err-unpack_sh2-in-Page c r packed word given from =
    let s = from_of r packed in
    absurd (not_both c.unpack_sh2.result s.0 c.in_err-unpack_sh2-in-Page.was
    (c.unpack_sh2.ensures.each s.0 s.1 (cc (s.2))))
