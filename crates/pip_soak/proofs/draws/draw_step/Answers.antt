use Rattle.std.proofs.Common.{◌∙◌}
use Rattle.std.specs.Prelude.{slice_index_or}
use Rattle.pip_model.specs.Soak.{by_kind, draw, drawn_poll}
use Rattle.pip_soak.proofs.DrawnKinds.{drew}
use Rattle.pip_soak.proofs.draws.draw_step.Goals as goal

pub returns-clause-drawn : goal.returns-clause-drawn
returns-clause-drawn c =
    drew 2 (λ cpu. draw 16 (λ kind. slice_index_or (by_kind cpu) kind (drawn_poll cpu))) _ _ c.draw-cpu.result
    c.draw-cpu.ensures.state c.draw-cpu.ensures.drawn
    ∙ (drew 16 (λ kind. slice_index_or (by_kind c.draw-cpu.result) kind (drawn_poll c.draw-cpu.result)) _ _
    c.draw-kind.result c.draw-kind.ensures.state c.draw-kind.ensures.drawn
    ∙ c.draw_kind.ensures.drawn)
