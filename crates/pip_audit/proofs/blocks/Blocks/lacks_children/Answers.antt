use Rattle.std.proofs.Common.{ap₂, ◌∙◌}
use Rattle.std.specs.Prelude.{bit_and}
use Rattle.pip_audit.proofs.Masks.{mask_is}
use Rattle.pip_audit.proofs.blocks.Blocks.lacks_children.Goals as goal

pub returns : goal.returns
returns c = λ on b h.
    let a = c.args.self.now in
    let i = c.in-Some.i in
    let j = c.in-Some-place_of.j in
    let rows = c.place_of.ensures i c.in-Some.is in
    let told = c.place_of-2.ensures j c.in-Some-place_of.is in
    let long = c.are_apart.ensures.long in
    ap₂ bit_and
    (mask_is a.rows c.args.tables.mmu i b c.index.result.now rows.0 rows.1 c.index.ensures long.0 h)
    (mask_is a.descriptors c.args.tables.shadow1 j b c.index-2.result.now told.0 told.1 c.index-2.ensures long.1 h)
    ∙ c.are_apart.ensures.apart on b h
