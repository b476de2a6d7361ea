use Rattle.std.proofs.Common.{◌<◌, [], ◌∷◌, ap, ◌∙◌, arith}
use Rattle.std.specs.Prelude.{slice_index_or}
use Rattle.pip_base.specs.declared.types.Size.TheVariants.{Word}
use Rattle.pip_model.specs.Events as E
use Rattle.pip_model.specs.Soak.{by_kind, drawn, drawn_poll}
use Rattle.pip_soak.proofs.DrawnKinds.{loads, told}
use Rattle.pip_soak.proofs.draws.draw_kind.Goals as goal

pub returns-in-2-clause-drawn : goal.returns-in-2-clause-drawn
returns-in-2-clause-drawn c =
    told _ _ c.load.result _
    (ap (λ k. slice_index_or (by_kind c.args.cpu) k (drawn_poll c.args.cpu) c.args.generator.now) c.in-2.is
    ∙ c.draw_place.ensures (λ place. drawn (E.Load c.args.cpu place Word ∷ [])))
    c.load.ensures.events

pub returns-in-0-clause-drawn : goal.returns-in-0-clause-drawn
returns-in-0-clause-drawn c =
    let low : c.args.kind < 2 = omega arith in
    told _ _ c.load-in-0.result _
    (ap (λ f. f c.args.generator.now) (loads c.args.cpu c.args.kind low)
    ∙ c.draw_page.ensures (λ page. drawn (E.Load c.args.cpu page Word ∷ [])))
    c.load-in-0.ensures.events
