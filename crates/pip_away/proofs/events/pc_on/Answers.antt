use Rattle.std.proofs.Common.{◌∙◌, ap, sym}
use Rattle.std.specs.Prelude.{option_map}
use Rattle.pip_away.proofs.OnMachines.{pc_here, pc_nowhere}
use Rattle.pip_away.proofs.events.pc_on.Goals as goal

pub returns-in-Some : goal.returns-in-Some
returns-in-Some g c w r s on = pc_here w c.args.cpu r on c.in-Some.ctx.now
    (sym (ap (option_map (λ x. x.now)) c.in-Some.is) ∙ c.ctx.ensures w s)

pub returns-in-None : goal.returns-in-None
returns-in-None g c w r s on = pc_nowhere w c.args.cpu r on
    (sym (ap (option_map (λ x. x.now)) c.in-None.is) ∙ c.ctx.ensures w s)
