use Rattle.std.proofs.Common.{◌∙◌}
use Rattle.pip_model.specs.Soak.{draw_place, drawn_call, five}
use Rattle.pip_soak.proofs.DrawnKinds.{told}
use Rattle.pip_soak.proofs.draws.draw_child_call.Goals as goal

pub returns-clause-drawn : goal.returns-clause-drawn
returns-clause-drawn c =
    told _ _ c.call.result _
    (c.draw_page-page.ensures (λ page. draw_place (λ place. drawn_call c.args.cpu c.args.no (five page place 0 0 0)))
    ∙ c.draw_place-place.ensures (λ place. drawn_call c.args.cpu c.args.no (five c.draw_page-page.result place 0 0 0)))
    c.call.ensures.events
