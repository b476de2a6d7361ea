use Rattle.std.proofs.Common.{◌≡◌, ◌∙◌, ◌+◌, cond, sym, ap, subst, Some, None}
use Rattle.pip_model.specs.Handlers.{handler}
use Rattle.pip_model.specs.Tree.{find_node}
use Rattle.pip_model.proofs.Trees.Ancestry.{root_is_one}
use Rattle.pip_model.proofs.Frames.ControlLays.{root_there}
use Rattle.pip_switch.proofs.lines.line_handler.Goals as goal

pub returns-clause-handler : goal.returns-clause-handler
returns-clause-handler g c t js s laid rise sum =
    c.find_handler.ensures.handler t t.root s laid
    (subst (λ p. find_node t p ≡ Some t.root) (sym c.new.ensures) (root_there t s))
    ∙ ap (λ p. handler t p (32 + c.args.line)) (c.new.ensures ∙ sym (root_is_one t s))
    ∙ sym (ap (λ b. cond b (handler t t.root.name (32 + c.args.line)) None)
    (sym (c.has_line.ensures js rise sum) ∙ c.if-not-has_line.false))
