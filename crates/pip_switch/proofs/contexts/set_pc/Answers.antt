use Rattle.std.proofs.Common.{◌∙◌, ap}
use Rattle.std.specs.Prelude.{option_map}
use Rattle.pip_model.specs.declared.processors.Occupant.{Occupant}
use Rattle.pip_switch.proofs.Placed.{cell_put, cell_read}
use Rattle.pip_switch.proofs.contexts.set_pc.Goals as goal

pub returns-clause-set : goal.returns-clause-set
returns-clause-set c = cell_put _ _ c.deref_mut.ensures.value c.args.cpu _ _
    (c.set_pc_of.ensures ∙ ap (option_map {T = Occupant} (λ r. record r { ctx = record r.ctx { pc = c.args.pc } }))
    (cell_read _ _ c.deref_mut.ensures.value c.args.cpu c.requires _))
