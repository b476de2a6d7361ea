use Rattle.std.proofs.Common.{◌∙◌, eq-eqb, eqb-true, sym}
use Rattle.std.proofs.lemmas.Bool.{both_ways}
use Rattle.pip_switch.proofs.Targets.{no_parent, some_parent}
use Rattle.pip_switch.proofs.switching.parent.Goals as goal

pub returns-then-eq-clause-parent : goal.returns-then-eq-clause-parent
returns-then-eq-clause-parent g c t x s laid found = no_parent t s c.args.part x found c.parent_of-up.result
    (c.parent_of-up.ensures.parent t x s laid found) (eqb-true _ _ (sym c.eq.ensures ∙ c.if-eq.true))

pub returns-clause-parent : goal.returns-clause-parent
returns-clause-parent g c t x s laid found =
    some_parent t s c.args.part x found c.parent_of-up.result (c.parent_of-up.ensures.parent t x s laid found)
    (λ e. both_ways c.eq.result c.if-eq.false (c.eq.ensures ∙ eq-eqb _ _ e))
