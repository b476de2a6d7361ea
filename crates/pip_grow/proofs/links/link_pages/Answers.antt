use Rattle.std.proofs.Common.{inl, inr, refl, arith}
use Rattle.pip_grow.proofs.links.link_pages.Goals as goal

pub link_last-next-requires : goal.link_last-next-requires
link_last-next-requires g c h i = c.requires h (inr (inr (inr i)))

pub set_link-requires : goal.set_link-requires
set_link-requires g c =
    let low = c.requires c.args.pages.now.shadow2 (inr (inr (inl refl))) in
    let count = c.link_last-next.ensures.count in
    omega arith

pub set_link-requires-2 : goal.set_link-requires-2
set_link-requires-2 g c =
    let low = c.requires c.args.pages.now.shadow1 (inr (inl refl)) in
    let count = c.link_last-next.ensures.count in
    let same = c.set_link.ensures.count in
    omega arith

pub set_link-requires-3 : goal.set_link-requires-3
set_link-requires-3 g c =
    let low = c.requires c.args.pages.now.mmu (inl refl) in
    let count = c.link_last-next.ensures.count in
    let same = c.set_link.ensures.count in
    let still = c.set_link-2.ensures.count in
    omega arith
