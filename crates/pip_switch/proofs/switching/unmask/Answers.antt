use Rattle.std.proofs.Common.{◌∙◌, sym}
use Rattle.pip_model.proofs.Trees.Ancestry.{root_is_one}
use Rattle.pip_model.proofs.Frames.ControlLays.{unmasked_other, unmasked_root}
use Rattle.pip_switch.proofs.switching.unmask.Goals as goal

pub returns-then-number-eq-ROOT : goal.returns-then-number-eq-ROOT
returns-then-number-eq-ROOT g c t x s laid found = unmasked_root t _ c.args.caller (sym c.number.ensures.same
    ∙ c.if-number-eq-ROOT.true ∙ sym (root_is_one t s)) (c.set_masked.ensures.tree t x s laid found).1

pub returns-else-number-eq-ROOT : goal.returns-else-number-eq-ROOT
returns-else-number-eq-ROOT g c t x s laid found = unmasked_other t s _ c.args.caller
    (λ e. c.if-number-eq-ROOT.false (c.number.ensures.same ∙ e ∙ root_is_one t s)) laid
