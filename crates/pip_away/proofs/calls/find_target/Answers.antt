use Rattle.std.proofs.Common.{◌∙◌, eq-eqb, eqb-true, sym}
use Rattle.std.proofs.lemmas.Bool.{both_ways}
use Rattle.pip_switch.proofs.Targets.{child_target, no_parent, parent_target, self_target, some_parent}
use Rattle.pip_away.proofs.Calling.{crooked_target, target_here}
use Rattle.pip_away.proofs.calls.find_target.Goals as goal

pub returns-then-eq-clause-target : goal.returns-then-eq-clause-target
returns-then-eq-clause-target g c t x s laid found = no_parent t s c.args.caller x found c.parent_of-up.result
    (c.parent_of-up.ensures.parent t x s laid found) (eqb-true _ _ (sym c.eq.ensures ∙ c.if-eq.true))
    ∙ sym (parent_target t c.args.caller c.args.d c.if-d-eq0.true)

pub returns-else-eq-clause-target : goal.returns-else-eq-clause-target
returns-else-eq-clause-target g c t x s laid found =
    some_parent t s c.args.caller x found c.parent_of-up.result (c.parent_of-up.ensures.parent t x s laid found)
    (λ e. both_ways c.eq.result c.if-eq.false (c.eq.ensures ∙ eq-eqb _ _ e))
    ∙ sym (parent_target t c.args.caller c.args.d c.if-d-eq0.true)

pub returns-then-d-eq1-clause-target : goal.returns-then-d-eq1-clause-target
returns-then-d-eq1-clause-target g c t x s laid found = self_target t c.args.caller c.args.d x found c.if-d-eq1.true

pub returns-then-d-ne0-clause-target : goal.returns-then-d-ne0-clause-target
returns-then-d-ne0-clause-target g c t x s laid found =
    crooked_target t s c.args.caller c.args.d c.if-d-eq0.false c.if-d-eq1.false c.if-d-ne0.true

pub returns-clause-target : goal.returns-clause-target
returns-clause-target g c t x s laid found = c.child_at.ensures.child t x s laid found
    ∙ sym (child_target t c.args.caller c.args.d c.if-d-eq0.false c.if-d-eq1.false)

pub returns-clause-stands : goal.returns-clause-stands
returns-clause-stands g c =
    let k = c.requires in
    target_here (g.M.Frames.memory c.args.mem.now) c.args.caller c.args.d k c.child_at.result
    (c.child_at.ensures.child k.tree k.node k.sound k.laid k.found
    ∙ sym (child_target k.tree c.args.caller c.args.d c.if-d-eq0.false c.if-d-eq1.false))
