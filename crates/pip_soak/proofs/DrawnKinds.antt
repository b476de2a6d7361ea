-- What is drawn, draw by draw.
use Rattle.std.proofs.Common.{◌≡◌, ℕ, zero, suc, ◌%◌, ◌<◌, List, [], ◌∷◌, refl, sym, ap, ◌∙◌, arith}
use Rattle.std.specs.Prelude.{slice_index_or}
use Rattle.pip_base.specs.declared.types.Size.TheVariants.{Word}
use Rattle.pip_model.specs.Events as E
use Rattle.pip_model.specs.Events.{Event}
use Rattle.pip_model.specs.Generator.{next_state}
use Rattle.pip_model.specs.Soak.{Drawn, by_kind, draw, draw_page, drawn, drawn_poll}
use Rattle.pip_soak.specs.Asks.{events_of}
use Rattle.pip_soak.specs.declared.asks.LoadStep.{LoadStep}

-- a number that is drawn, and the state after it
pub drew : (n : ℕ) (f : ℕ → ℕ → Drawn) (old new v : ℕ) → new ≡ next_state old → v ≡ next_state old % n
    → draw n f old ≡ f v new
drew n f old new v s e = λ i. f (sym e i) (sym s i)

-- the step of events that are drawn
pub told : (d : Drawn) (new : ℕ) (step : LoadStep) (es : List Event) → d ≡ drawn es new → events_of step ≡ es
    → d ≡ drawn (events_of step) new
told d new step es e f = e ∙ ap (λ l. drawn l new) (sym f)

-- the first two kinds are the same
pub loads : (cpu kind : ℕ) → kind < 2
    → slice_index_or (by_kind cpu) kind (drawn_poll cpu) ≡ draw_page (λ page. drawn (E.Load cpu page Word ∷ []))
loads cpu zero h = refl
loads cpu (suc zero) h = refl
loads cpu (suc (suc kind)) h = absurd (omega (arith, h))
