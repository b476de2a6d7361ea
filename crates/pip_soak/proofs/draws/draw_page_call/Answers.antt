use Rattle.pip_model.specs.Soak.{drawn_call, five}
use Rattle.pip_soak.proofs.DrawnKinds.{told}
use Rattle.pip_soak.proofs.draws.draw_page_call.Goals as goal

pub returns-clause-drawn : goal.returns-clause-drawn
returns-clause-drawn c = told _ _ c.call.result _
    (c.draw_page-page.ensures (λ page. drawn_call c.args.cpu c.args.no (five page 0 0 0 0))) c.call.ensures.events
