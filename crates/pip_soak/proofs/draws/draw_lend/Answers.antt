use Rattle.std.proofs.Common.{ℕ, ◌+◌, ◌*◌, ◌∙◌}
use Rattle.pip_model.specs.Soak.{Drawn, draw, draw_both, draw_place, drawn_call, five}
use Rattle.pip_soak.proofs.DrawnKinds.{drew, told}
use Rattle.pip_soak.proofs.draws.draw_lend.Goals as goal

-- the last draw, once the others are made
abbrev last : ℕ → ℕ → ℕ → ℕ → ℕ → Drawn
last cpu v page place = draw 7 (λ r. drawn_call cpu 5 (five (4194304 + 4096 * v) page place (1 + r) 0))

pub returns-clause-drawn : goal.returns-clause-drawn
returns-clause-drawn c =
    let cpu = c.args.cpu in
    let v = c.draw.result in
    let page = c.draw_page-page.result in
    let place = c.draw_place-place.result in
    told _ _ c.call.result _
    (drew 17 (λ w. draw_both (last cpu w)) _ _ v c.draw.ensures.state c.draw.ensures.drawn
    ∙ (c.draw_page-page.ensures (λ p. draw_place (last cpu v p))
    ∙ (c.draw_place-place.ensures (last cpu v page)
    ∙ drew 7 (λ r. drawn_call cpu 5 (five (4194304 + 4096 * v) page place (1 + r) 0)) _ _ c.draw-rights.result
    c.draw-rights.ensures.state c.draw-rights.ensures.drawn)))
    c.call.ensures.events
