use Rattle.std.proofs.Common.{◌∙◌, sym}
use Rattle.pip_switch.proofs.Placed.{cell_read}
use Rattle.pip_switch.proofs.Running.{can_some, saved_none, saved_some}
use Rattle.pip_switch.proofs.saves.save.Goals as goal

pub save_in-requires-clause-stands : goal.save_in-requires-clause-stands
save_in-requires-clause-stands g c = (can_some _ _ c.in-Some.r (sym (cell_read _ _ c.as_slice.ensures.value c.args.cpu
    c.requires.cpu c.index-as_slice-cpu.result) ∙ sym c.index-as_slice-cpu.is ∙ c.in-Some.is) c.requires.saves).0

pub save_in-requires-clause-context : goal.save_in-requires-clause-context
save_in-requires-clause-context g c = (can_some _ _ c.in-Some.r (sym (cell_read _ _ c.as_slice.ensures.value c.args.cpu
    c.requires.cpu c.index-as_slice-cpu.result) ∙ sym c.index-as_slice-cpu.is ∙ c.in-Some.is) c.requires.saves).1

pub returns-in-Some-clause-tree : goal.returns-in-Some-clause-tree
returns-in-Some-clause-tree g c t s laid named = saved_some _ _ _ c.in-Some.r
    (sym (cell_read _ _ c.as_slice.ensures.value c.args.cpu c.requires.cpu c.index-as_slice-cpu.result)
    ∙ sym c.index-as_slice-cpu.is ∙ c.in-Some.is) c.save_in.ensures.tree t s laid named

pub returns-in-None-clause-tree : goal.returns-in-None-clause-tree
returns-in-None-clause-tree g c t s laid named =
    saved_none _ _ (sym (cell_read _ _ c.as_slice.ensures.value c.args.cpu c.requires.cpu c.index-as_slice-cpu.result)
    ∙ sym c.index-as_slice-cpu.is ∙ c.in-None.is) t s laid
