use Rattle.std.proofs.Common.{◌∙◌, ap}
use Rattle.std.specs.Prelude.{option_map}
use Rattle.pip_model.specs.declared.processors.Occupant.{Occupant}
use Rattle.pip_switch.proofs.Placed.{cell_put, cell_read}
use Rattle.pip_switch.proofs.contexts.set_context.Goals as goal

pub returns-clause-set : goal.returns-clause-set
returns-clause-set c = cell_put _ _ c.deref_mut.ensures.value c.args.cpu _ _ (c.set_context_of.ensures.set
    ∙ ap (option_map {T = Occupant} (λ r. record r { ctx = record { pc = c.args.pc; regs = c.args.regs.now } }))
    (cell_read _ _ c.deref_mut.ensures.value c.args.cpu c.requires _))
