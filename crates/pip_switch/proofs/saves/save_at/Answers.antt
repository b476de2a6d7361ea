use Rattle.std.proofs.Common.{◌∙◌, sym}
use Rattle.pip_switch.proofs.Blocking.{saved_nowhere, saved_there}
use Rattle.pip_switch.proofs.saves.save_at.Goals as goal

pub returns-in-Some-clause-tree : goal.returns-in-Some-clause-tree
returns-in-Some-clause-tree g c t q s laid may is = saved_there t _ _ c.args.ctx.now q laid may c.in-Some.block
    (sym c.in-Some.is ∙ is) c.write_context.ensures.registers c.write_context.ensures.words

pub returns-in-None-clause-tree : goal.returns-in-None-clause-tree
returns-in-None-clause-tree g c t q s laid may is = saved_nowhere t _ c.args.ctx.now q laid (sym c.in-None.is ∙ is)
