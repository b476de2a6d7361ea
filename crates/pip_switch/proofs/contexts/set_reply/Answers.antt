use Rattle.std.proofs.Common.{◌∙◌}
use Rattle.pip_switch.proofs.Placed.{cell_put, cell_read}
use Rattle.pip_switch.proofs.contexts.set_reply.Goals as goal

pub returns-clause-set : goal.returns-clause-set
returns-clause-set c r e = cell_put _ _ c.deref_mut.ensures.value c.args.cpu _ _
    (c.set_reply_of.ensures r (cell_read _ _ c.deref_mut.ensures.value c.args.cpu c.requires _ ∙ e))
