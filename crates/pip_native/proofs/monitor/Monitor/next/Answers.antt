use Rattle.std.proofs.Common.{sym, ap, ◌∙◌, subst, length, ◌≤◌}
use Rattle.pip_native.specs.Choice.{next_of}
use Rattle.pip_native.proofs.Following.{next_small}
use Rattle.pip_native.proofs.monitor.Monitor.next.Goals as goal

pub returns-clause-same : goal.returns-clause-same
returns-clause-same g c = (c.self.invariant.3 _ _ c.self.invariant.1 c.self.invariant.2).1 _ c.choose.ensures
    ∙ ap (λ m. next_of (length m.children) m.alive m.last) c.self.view_is

pub returns-clause-small : goal.returns-clause-small
returns-clause-small g c =
    let same = (c.self.invariant.3 _ _ c.self.invariant.1 c.self.invariant.2).1 _ c.choose.ensures in
    subst (λ m. c.choose.result ≤ length m.children) c.self.view_is
    (subst (λ r. r ≤ length c.self.inside.children.items) (sym same) (next_small _ _ _ c.self.invariant.2))
