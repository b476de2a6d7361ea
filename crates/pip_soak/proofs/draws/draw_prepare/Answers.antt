use Rattle.std.proofs.Common.{◌+◌, ◌*◌, ◌∙◌}
use Rattle.pip_model.specs.Soak.{draw_both, draw_place, drawn_prepare}
use Rattle.pip_soak.proofs.DrawnKinds.{drew}
use Rattle.pip_soak.proofs.draws.draw_prepare.Goals as goal

pub returns-clause-drawn : goal.returns-clause-drawn
returns-clause-drawn c =
    let cpu = c.args.cpu in
    let x = 4194304 + 4096 * c.draw.result in
    drew 13 (λ j. draw_both (drawn_prepare cpu (4194304 + 4096 * j))) _ _ c.draw.result c.draw.ensures.state
    c.draw.ensures.drawn
    ∙ (c.draw_page-page.ensures (λ page. draw_place (drawn_prepare cpu x page))
    ∙ c.draw_place-place.ensures (drawn_prepare cpu x c.draw_page-page.result))
