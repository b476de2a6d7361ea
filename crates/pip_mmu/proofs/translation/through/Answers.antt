use Rattle.std.proofs.Common.{◌∙◌, ap}
use Rattle.pip_entry.specs.declared.leaf.Leaf.TheVariants.{Page}
use Rattle.pip_mmu.proofs.Leaves.{has_right, lacks_right}
use Rattle.pip_mmu.proofs.translation.through.Goals as goal

pub returns-then-not-contains : goal.returns-then-not-contains
returns-then-not-contains c va =
    lacks_right va c.in-Page.frame c.args.access c.in-Page.rights c.right_for.result.0 c.args.entry
    (c.in-Page.is ∙ ap (λ u. Page c.in-Page.frame u c.in-Page.rights) c.if-not-user.false) c.right_for.ensures
    c.contains.result (c.contains.ensures tt) c.if-not-contains.true

pub returns-else-not-contains : goal.returns-else-not-contains
returns-else-not-contains c va =
    has_right va c.in-Page.frame c.args.access c.in-Page.rights c.right_for.result.0 c.args.entry
    (c.in-Page.is ∙ ap (λ u. Page c.in-Page.frame u c.in-Page.rights) c.if-not-user.false) c.right_for.ensures
    c.contains.result (c.contains.ensures tt) c.if-not-contains.false
