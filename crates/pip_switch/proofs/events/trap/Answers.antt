use Rattle.std.proofs.Common.{sym, ◌∙◌}
use Rattle.pip_switch.proofs.Working.{delivers_in}
use Rattle.pip_switch.proofs.events.trap.Goals as goal

pub returns-clause-work : goal.returns-clause-work
returns-clause-work g c =
    delivers_in _ _ c.args.cpu c.in-Some.part (sym c.runner.ensures ∙ c.in-Some.is) _ _ 76 c.deliver.ensures.chain
