use Rattle.pip_model.specs.Soak.{drawn_call, five}
use Rattle.pip_soak.proofs.DrawnKinds.{told}
use Rattle.pip_soak.proofs.draws.draw_giving_up.Goals as goal

pub returns-clause-drawn : goal.returns-clause-drawn
returns-clause-drawn c = told _ _ c.call.result _
    (c.draw_goal-goal.ensures (λ goal. drawn_call c.args.cpu 8 (five goal 63 256 0 0))) c.call.ensures.events
