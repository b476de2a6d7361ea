-- What a delivery leads to.
use Rattle.pip_switch.specs.Plain.{plain_world}
use Rattle.std.proofs.Common.{◌≡◌, ℕ, List, sym, ap, ap₂, ◌∙◌, subst, Option, Some, None}
use Rattle.std.specs.Prelude.{slice_set}
use Rattle.pip_base.specs.Memory.{Memory}
use Rattle.pip_base.specs.declared.outcome.Outcome.TheVariants as O
use Rattle.pip_model.specs.Deliver.{deliver, deliver_to, nearest_taker}
use Rattle.pip_model.specs.Handlers.{save}
use Rattle.pip_model.specs.Layout.{LaysOut}
use Rattle.pip_model.specs.Partitions.{IsHeld}
use Rattle.pip_model.specs.Worlds.{World, runs_on, save_running, handler_context}
use Rattle.pip_model.specs.declared.processors.Occupant.{Occupant}
use Rattle.pip_model.specs.declared.processors.Taker.{Taker}
use Rattle.pip_switch.specs.Occupied.{on_cpu, part_on}
use Rattle.pip_switch.specs.Standing.{Came, StandsFor}
use Rattle.pip_switch.proofs.Running.{part_of, runs_there}

module _ (m n : Memory) (cs ds : List (Option Occupant)) (w : World) (s : StandsFor m cs w)
    (cpu : ℕ) (r : Occupant) (runs : runs_on w cpu ≡ Some r) (p : ℕ) (on : part_on cs cpu ≡ Some p) (k a b : ℕ)
    (taker : Option Taker) (taker_is : taker ≡ nearest_taker (plain_world w.tree cs) p k)
    (held : IsHeld (save_running w.tree (on_cpu cs cpu)) n) where
  here : on_cpu cs cpu ≡ Some r
  here = sym (runs_there m cs cpu w s) ∙ runs

  name : r.name ≡ p
  unfolding here
  name = let (q, is, named) = part_of (on_cpu cs cpu) p on in let same : Some r ≡ Some q = sym here ∙ is in
      let one : r ≡ q = cc in ap (λ z. z.name) one ∙ named

  saved_laid : LaysOut (save w.tree r.name 63 r.ctx) n
  unfolding here
  saved_laid = subst (λ o. LaysOut (save_running w.tree o) n) here held.1

  decided : (o : Option Taker) → taker ≡ o → deliver w cpu r k a b ≡ deliver_to w cpu r k a b o
  unfolding name
  decided o e = ap (deliver_to w cpu r k a b)
      (ap₂ (λ c q. nearest_taker (plain_world w.tree c) q k) s.shows.cpus name ∙ sym taker_is ∙ e)

  pub parked : taker ≡ None → ds ≡ slice_set cs cpu None → Came (deliver w cpu r k a b) (O.Parked p k) n ds
  unfolding name saved_laid decided
  parked e is = subst (λ h. Came h (O.Parked p k) n ds) (sym (decided None e))
      (record {
        outcome = ap (λ q. O.Parked q k) (sym name);
        shows = record { laid = saved_laid; cpus = ap (λ c. slice_set c cpu None) s.shows.cpus ∙ sym is };
      })

  pub switched : (y : Taker) → taker ≡ Some y → (o : Occupant)
      → o ≡ record { name = y.to; ctx = handler_context y.handler k a b y.born } → ds ≡ slice_set cs cpu (Some o)
      → Came (deliver w cpu r k a b) (O.Switched p y.to k) n ds
  unfolding name saved_laid decided
  switched y e o o_is is = subst (λ h. Came h (O.Switched p y.to k) n ds) (sym (decided (Some y) e))
      (record {
        outcome = ap (λ q. O.Switched q y.to k) (sym name);
        shows = record {
          laid = saved_laid;
          cpus = ap (λ c. slice_set c cpu (Some (record { name = y.to; ctx = handler_context y.handler k a b y.born })))
              s.shows.cpus ∙ ap (λ q. slice_set cs cpu (Some q)) (sym o_is) ∙ sym is;
        };
      })
