use Rattle.std.proofs.Common.{[], ◌∷◌, ◌∙◌}
use Rattle.pip_base.specs.declared.types.Size.TheVariants.{Word}
use Rattle.pip_model.specs.Events as E
use Rattle.pip_model.specs.Soak.{draw_page, drawn}
use Rattle.pip_soak.proofs.draws.draw_store.Goals as goal

pub returns-clause-drawn : goal.returns-clause-drawn
returns-clause-drawn c =
    c.draw_page-va.ensures (λ page. draw_page (λ word. drawn (E.Store c.args.cpu page Word word ∷ [])))
    ∙ c.draw_page-word.ensures (λ word. drawn (E.Store c.args.cpu c.draw_page-va.result Word word ∷ []))
