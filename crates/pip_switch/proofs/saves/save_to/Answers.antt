use Rattle.std.proofs.Common.{◌∙◌, sym, subst}
use Rattle.pip_model.specs.Handlers.{saved_to}
use Rattle.pip_model.specs.Layout.{LaysOut}
use Rattle.pip_switch.proofs.Placed.{cell_read}
use Rattle.pip_switch.proofs.Running.{none_or_some, same_some}
use Rattle.pip_switch.proofs.saves.save_to.Goals as goal

pub returns-in-Some-clause-tree : goal.returns-in-Some-clause-tree
returns-in-Some-clause-tree g c r runs t q s laid may is =
    subst (λ z. LaysOut (saved_to t z.ctx q) (g.M.Frames.memory c.save_at.new.mem)) (same_some _ c.in-Some.r r
    (sym (cell_read _ _ c.as_slice.ensures.value c.args.cpu c.requires.cpu c.index-as_slice-cpu.result)
    ∙ sym c.index-as_slice-cpu.is ∙ c.in-Some.is) runs) (c.save_at.ensures.tree t q s laid may is)

pub returns-in-None-clause-tree : goal.returns-in-None-clause-tree
returns-in-None-clause-tree g c r runs t q s laid may is = absurd
    (none_or_some _ r (sym (cell_read _ _ c.as_slice.ensures.value
    c.args.cpu c.requires.cpu c.index-as_slice-cpu.result) ∙ sym c.index-as_slice-cpu.is ∙ c.in-None.is) runs)
