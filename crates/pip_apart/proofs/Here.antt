-- A turn that stays inside changes what runs on its own processor alone.
use Rattle.std.proofs.Common.{◌≡◌, ◌≢◌, ℕ, List, [], ◌∷◌, refl, ap, ◌∙◌, Option, Some, None}
use Rattle.std.specs.List.{AllByRecursion}
use Rattle.pip_base.specs.declared.outcome.Outcome.{Outcome}
use Rattle.pip_base.specs.declared.outcome.Outcome.TheVariants as O
use Rattle.pip_base.specs.declared.types.Ctx.{Ctx}
use Rattle.pip_model.specs.Acts.{after_acts, events_made}
use Rattle.pip_model.specs.Effects.{word_effect}
use Rattle.pip_model.specs.Events.{Event, IsEvent}
use Rattle.pip_model.specs.Events as E
use Rattle.pip_model.specs.Happens.{after, event}
use Rattle.pip_model.specs.InstrRead.{instr_of}
use Rattle.pip_model.specs.Local.{cpu_of}
use Rattle.pip_model.specs.Turn.{acts_after_fetch, effect_acts, fetch_acts, load_acts, outcome_of, store_acts, turn}
use Rattle.pip_model.specs.Turn.{word_acts, world_of}
use Rattle.pip_model.specs.Worlds.{IsSoundWorld, World, runs_on}
use Rattle.pip_model.specs.declared.effect.Effect.{Effect}
use Rattle.pip_model.specs.declared.effect.Effect.TheVariants as F
use Rattle.pip_model.specs.declared.processors.Occupant.{Occupant}
use Rattle.pip_model.proofs.Events.Soundness.{event-sound}
use Rattle.pip_model.proofs.Trees.Free.{IsName}
use Rattle.pip_guests.specs.Guests.{PollsInVain}
use Rattle.pip_guests.specs.Programs.{AllStayInside, IsInsideTurn}
use Rattle.pip_guests.proofs.Lines.{not_top}
use Rattle.pip_guests.proofs.Elsewhere.{guests_leave}
use Rattle.pip_guests.proofs.Turns.{after_turn}
use Rattle.pip_guests.proofs.Words.{fetch_are}

-- all events of a list are of one processor
abbrev AreHere : ℕ → List Event → Type 0
AreHere cpu es = AllByRecursion (λ e. cpu_of e ≡ cpu) es

module _ (cpu t : ℕ) where
  loads_here : (x : Ctx) (a : ℕ) (o : Outcome) → AreHere cpu (events_made (load_acts t cpu x a o))
  loads_here x a (O.Word v) = (refl, tt)
  loads_here x a O.Done = tt
  loads_here x a (O.Reply s v) = tt
  loads_here x a (O.Switched from to k) = tt
  loads_here x a (O.Parked from k) = tt
  loads_here x a O.Idle = tt

  stores_here : (x : Ctx) (o : Outcome) → AreHere cpu (events_made (store_acts t cpu x o))
  stores_here x O.Done = (refl, tt)
  stores_here x (O.Word v) = tt
  stores_here x (O.Reply s v) = tt
  stores_here x (O.Switched from to k) = tt
  stores_here x (O.Parked from k) = tt
  stores_here x O.Idle = tt

  effect_here : (w : World) (x : Ctx) (f : Effect) → AreHere cpu (events_made (effect_acts w t cpu x f))
  effect_here w x (F.Sets a v) = (refl, tt)
  effect_here w x (F.Goes pc) = (refl, tt)
  effect_here w x (F.Links a pc) = (refl, tt)
  effect_here w x (F.Loads a va z) = (refl, loads_here x a (outcome_of w (E.Load cpu va z)))
  effect_here w x (F.Stores va v z) = (refl, stores_here x (outcome_of w (E.Store cpu va z v)))
  effect_here w x (F.Traps k a b) = (refl, tt)
  effect_here w x (F.Interrupts k) = (refl, (refl, tt))
  effect_here w x (F.Calls n) = (refl, (refl, tt))
  effect_here w x (F.Shows v) = (refl, tt)

  word_here : (w : World) (u : ℕ) (o : Option Occupant) → AreHere cpu (events_made (word_acts w t cpu u o))
  word_here w u None = tt
  word_here w u (Some r) = effect_here w r.ctx (word_effect r.ctx u (instr_of u))

  fetched_here : (w : World) (o : Outcome) → AreHere cpu (events_made (acts_after_fetch w t cpu o))
  fetched_here w (O.Word u) = word_here w u (runs_on w cpu)
  fetched_here w O.Done = tt
  fetched_here w (O.Reply s v) = tt
  fetched_here w (O.Switched from to k) = tt
  fetched_here w (O.Parked from k) = tt
  fetched_here w O.Idle = tt

  fetch_here : (w : World) → AreHere cpu (events_made (fetch_acts w t cpu))
  fetch_here w = (refl, fetched_here (world_of w (E.Fetch cpu)) (outcome_of w (E.Fetch cpu)))

-- what runs on another processor is the same after such events
list_elsewhere : (q cpu i : ℕ) (es : List Event) (w : World) → IsSoundWorld w → q ≢ w.tree.root.name → i ≢ cpu
    → AllByRecursion IsEvent es → AreHere cpu es → AllStayInside q w es → runs_on (after w es) i ≡ runs_on w i
list_elsewhere q cpu i [] w s m d all here k = refl
list_elsewhere q cpu i (e ∷ es) w s m d all here k =
    let sw = event-sound w e s all.0 in
    let l = guests_leave w q e s all.0 m k.0.own k.0.below in
    list_elsewhere q cpu i es (event w e).world sw (not_top w.tree (event w e).world.tree s.tree sw.tree q m) d all.1
    here.1 k.1
    ∙ l.cpus i (λ h. d (h ∙ here.0))

pub turn_elsewhere : (w : World) (q cpu t i : ℕ) → IsSoundWorld w → IsName w.tree q → q ≢ w.tree.root.name
    → PollsInVain w cpu → IsInsideTurn q w cpu t → i ≢ cpu → runs_on (after_acts w (turn w cpu t)) i ≡ runs_on w i
turn_elsewhere w q cpu t i s n m vain k d =
    rw (
      after_turn w cpu t vain,
      list_elsewhere q cpu i (events_made (fetch_acts w t cpu)) w s m d
          (fetch_are w cpu t s) (fetch_here cpu t w) k.inside,
    )
