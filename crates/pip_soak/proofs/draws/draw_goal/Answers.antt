use Rattle.std.proofs.Common.{◌%◌, cond, sym, ap, ◌∙◌, ne_eqb}
use Rattle.pip_model.specs.Generator.{next_state}
use Rattle.pip_model.specs.Soak.{draw_page}
use Rattle.pip_soak.proofs.draws.draw_goal.Goals as goal

pub returns-else-draw-eq0 : goal.returns-else-draw-eq0
returns-else-draw-eq0 c f =
    let old = next_state c.args.generator.now in
    ap (λ b. cond b (f 0 old) (draw_page f old))
    (ne_eqb (old % 4) 0 (λ e. c.if-draw-eq0.false (c.draw.ensures.drawn ∙ e)))
    ∙ (ap (draw_page f) (sym c.draw.ensures.state) ∙ c.draw_page.ensures f)
