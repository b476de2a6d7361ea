-- A turn that reads nothing of words but what is seen.
use Rattle.std.proofs.Common.{◌≡◌, ℕ, List, [], ◌∷◌, refl, sym, ap, ◌∙◌, subst, Option, Some, None}
use Rattle.pip_base.specs.declared.outcome.Outcome.{Outcome}
use Rattle.pip_base.specs.declared.outcome.Outcome.TheVariants as O
use Rattle.pip_base.specs.declared.types.Access.TheVariants.{Fetch}
use Rattle.pip_base.specs.declared.types.Ctx.{Ctx}
use Rattle.pip_base.specs.declared.types.Size.TheVariants.{Word}
use Rattle.pip_model.specs.Acts.{Makes, events_made}
use Rattle.pip_model.specs.Effects.{at_next, word_effect}
use Rattle.pip_model.specs.Events.{Event}
use Rattle.pip_model.specs.Events as E
use Rattle.pip_model.specs.Happens.{after, event, load_happens, on_running, what_happens}
use Rattle.pip_model.specs.InstrRead.{instr_of}
use Rattle.pip_model.specs.Lists.{In}
use Rattle.pip_model.specs.Local.{Succeeded}
use Rattle.pip_model.specs.Reach.{reach}
use Rattle.pip_model.specs.Turn.{acts_after_fetch, acts_after_poll, arguments, effect_acts, fetch_acts}
use Rattle.pip_model.specs.Turn.{load_acts, move_acts, outcome_of, store_acts, turn, word_acts, world_of}
use Rattle.pip_model.specs.Worlds.{World, runs_on}
use Rattle.pip_model.specs.declared.effect.Effect.{Effect}
use Rattle.pip_model.specs.declared.effect.Effect.TheVariants as F
use Rattle.pip_model.specs.declared.processors.Occupant.{Occupant}
use Rattle.pip_model.proofs.OnLists.Acts.{after-events}
use Rattle.pip_model.proofs.Locality.OneEvent.{loaded_world}
use Rattle.pip_guests.specs.Outside.{Alike, AlikeOn, ByRunner, IsAlike, LoadMisses, ReadsOutside}
use Rattle.pip_guests.specs.Turns.{AllReadOutside, TurnReadsOutside, TurnsDependOnOutside}
use Rattle.pip_guests.proofs.Moved.{outside_depends_on_outside}
use Rattle.pip_guests.proofs.Runners.{at_alike}

-- what runs on a processor
pub runs_alike : (own : List ℕ) (look : ℕ → ℕ → ℕ → ℕ) (w v : World) (cpu : ℕ) → Alike own look w v
    → AlikeOn own (runs_on w cpu) (runs_on v cpu)
runs_alike own look w v cpu a = at_alike own w.cpus v.cpus cpu a.cpus

-- a partition outside runs there with the same context
pub runs_there : (own : List ℕ) (look : ℕ → ℕ → ℕ → ℕ) (w v : World) (cpu : ℕ) (r : Occupant) → Alike own look w v
    → (In r.name own → ⊥) → runs_on w cpu ≡ Some r → runs_on v cpu ≡ Some r
runs_there own look w v cpu r a n k =
    go (runs_on v cpu) (rw (← k) (runs_alike own look w v cpu a))
  where
    go : (o : Option Occupant) → AlikeOn own (Some r) o → o ≡ Some r
    go None l = absurd l
    go (Some q) l = sym (let f = l.0 in let g = l.1 n in λ i. Some (record { name = f i; ctx = g i }))

pub idle_there : (own : List ℕ) (look : ℕ → ℕ → ℕ → ℕ) (w v : World) (cpu : ℕ) → Alike own look w v
    → runs_on w cpu ≡ None
    → runs_on v cpu ≡ None
idle_there own look w v cpu a k =
    go (runs_on v cpu) (rw k at (runs_alike own look w v cpu a))
  where
    go : (o : Option Occupant) → AlikeOn own None o → o ≡ None
    go None l = refl
    go (Some q) l = absurd l

pub all_alike : (own : List ℕ) (look : ℕ → ℕ → ℕ → ℕ) (es : List Event) (w v : World) → Alike own look w v
    → AllReadOutside own look w es → Alike own look (after w es) (after v es)
all_alike own look [] w v a m = a
all_alike own look (e ∷ es) w v a m =
    all_alike own look es (event w e).world (event v e).world (outside_depends_on_outside own look w v e a m.0).world
    m.1

-- what is done where a partition runs
pub fetch_by : (w : World) (cpu : ℕ) (r : Occupant) → runs_on w cpu ≡ Some r → what_happens w (E.Fetch cpu)
    ≡ load_happens w cpu r r.ctx.pc Fetch Word (reach w.tree r.name r.ctx.pc Fetch Word)
fetch_by w cpu r k = rw k

-- a fetch that gives a word leaves the tree and what runs
pub fetch_stays : (w : World) (cpu u : ℕ) (r : Occupant) → runs_on w cpu ≡ Some r
    → outcome_of w (E.Fetch cpu) ≡ O.Word u → (what_happens w (E.Fetch cpu)).world ≡ w
fetch_stays w cpu u r k e =
    let l = fetch_by w cpu r k in
    let q = ap (λ h. h.outcome) (sym l) ∙ e in
    rw (
      l,
      loaded_world w cpu r r.ctx.pc Fetch Word (reach w.tree r.name r.ctx.pc Fetch Word)
          (subst Succeeded (sym q) tt),
    )

-- nothing is fetched where nothing runs
fetch_idle : (w : World) (cpu u : ℕ) → runs_on w cpu ≡ None → outcome_of w (E.Fetch cpu) ≡ O.Word u → ⊥
fetch_idle w cpu u k e =
    let d = ap (λ o. (on_running w cpu o
    (λ r. load_happens w cpu r r.ctx.pc Fetch Word (reach w.tree r.name r.ctx.pc Fetch Word))).outcome) k in
    let idle : O.Idle ≡ O.Word u = cc in cc

module _ (own : List ℕ) (look : ℕ → ℕ → ℕ → ℕ) (cpu t : ℕ) where
  -- the outcome of an event after another
  second : (w v : World) (a e : Event) → Alike own look w v → ReadsOutside own look w a
      → ReadsOutside own look (world_of w a) e → outcome_of (world_of w a) e ≡ outcome_of (world_of v a) e
  second w v a e k m n =
      (outside_depends_on_outside own look (world_of w a) (world_of v a) e
      (outside_depends_on_outside own look w v a k m).world n).outcome

  effect_alike : (w v : World) (x : Ctx) (f : Effect) → Alike own look w v
      → AllReadOutside own look w (events_made (effect_acts w t cpu x f))
      → effect_acts w t cpu x f ≡ effect_acts v t cpu x f
  effect_alike w v x (F.Sets a n) k m = refl
  effect_alike w v x (F.Goes pc) k m = refl
  effect_alike w v x (F.Links a pc) k m = refl
  effect_alike w v x (F.Shows n) k m = refl
  effect_alike w v x (F.Loads a va z) k m = ap (λ o. Makes (E.Load cpu va z) ∷ load_acts t cpu x a o)
      (outside_depends_on_outside own look w v (E.Load cpu va z) k m.0).outcome
  effect_alike w v x (F.Stores va n z) k m = ap (λ o. Makes (E.Store cpu va z n) ∷ store_acts t cpu x o)
      (outside_depends_on_outside own look w v (E.Store cpu va z n) k m.0).outcome
  effect_alike w v x (F.Traps j a b) k m = ap (λ o. Makes (E.Trap cpu j a b) ∷ move_acts t cpu o)
      (outside_depends_on_outside own look w v (E.Trap cpu j a b) k m.0).outcome
  effect_alike w v x (F.Interrupts j) k m =
      let a = E.SetContext cpu (at_next x) in
      let e = E.Trap cpu j 0 0 in
      rw (second w v a e k m.0 m.1.0)
  effect_alike w v x (F.Calls n) k m =
      let a = E.SetContext cpu (at_next x) in
      let e = E.Call cpu n (arguments x) in
      rw (second w v a e k m.0 m.1.0)

  word_alike : (w v : World) (u : ℕ) (o : Option Occupant) → runs_on w cpu ≡ o
      → ((r : Occupant) → o ≡ Some r → In r.name own → ⊥) → Alike own look w v
      → AllReadOutside own look w (events_made (word_acts w t cpu u o))
      → word_acts w t cpu u o ≡ word_acts v t cpu u (runs_on v cpu)
  word_alike w v u None k n a m = cc (idle_there own look w v cpu a k)
  word_alike w v u (Some r) k n a m =
      cc (effect_alike w v r.ctx (word_effect r.ctx u (instr_of u)) a m, runs_there own look w v cpu r a (n r refl) k)

  -- what was fetched is that of a partition outside
  outside : (w : World) (u : ℕ) (o : Option Occupant) → runs_on w cpu ≡ o
      → ReadsOutside own look w (E.Fetch cpu) → outcome_of w (E.Fetch cpu) ≡ O.Word u
      → (r : Occupant) → runs_on (world_of w (E.Fetch cpu)) cpu ≡ Some r → In r.name own → ⊥
  outside w u None k m e = absurd (fetch_idle w cpu u k e)
  outside w u (Some q) k m e =
      let f = subst (λ o. ByRunner o (λ r. (In r.name own
      → ⊥) × LoadMisses own look w r.name (reach w.tree r.name r.ctx.pc Fetch Word))) k m in
      λ r h i.
      let d : Some q ≡ Some r = rw (← k, ← fetch_stays w cpu u q k e, h) in
      let same : q ≡ r = cc in
      f.0 (rw same i)

  fetch_alike : (w v : World) → Alike own look w v → AllReadOutside own look w (events_made (fetch_acts w t cpu))
      → fetch_acts w t cpu ≡ fetch_acts v t cpu
  fetch_alike w v a m = rw (go (outcome_of w (E.Fetch cpu)) refl m.1, z.outcome)
    where
      here : World
      here = world_of w (E.Fetch cpu)

      there : World
      there = world_of v (E.Fetch cpu)

      z : IsAlike own look (E.Fetch cpu) w v
      z = outside_depends_on_outside own look w v (E.Fetch cpu) a m.0

      go : (o : Outcome) → outcome_of w (E.Fetch cpu) ≡ o
          → AllReadOutside own look here (events_made (acts_after_fetch here t cpu o))
          → acts_after_fetch here t cpu o ≡ acts_after_fetch there t cpu o
      go (O.Word u) e n = word_alike here there u (runs_on here cpu) refl
          (outside w u (runs_on w cpu) refl m.0 e) z.world n
      go O.Done e n = refl
      go (O.Reply x y) e n = refl
      go (O.Switched x y k) e n = refl
      go (O.Parked x k) e n = refl
      go O.Idle e n = refl

  turn_acts : (w v : World) → Alike own look w v → TurnReadsOutside own look w cpu t → turn w cpu t ≡ turn v cpu t
  turn_acts w v a m = rw (go (outcome_of w (E.Poll cpu)) m.1, z.outcome)
    where
      here : World
      here = world_of w (E.Poll cpu)

      there : World
      there = world_of v (E.Poll cpu)

      z : IsAlike own look (E.Poll cpu) w v
      z = outside_depends_on_outside own look w v (E.Poll cpu) a m.0

      go : (o : Outcome) → AllReadOutside own look here (events_made (acts_after_poll here t cpu o))
          → acts_after_poll here t cpu o ≡ acts_after_poll there t cpu o
      go (O.Switched x y k) n = refl
      go O.Idle n = refl
      go (O.Word x) n = fetch_alike here there z.world n
      go O.Done n = fetch_alike here there z.world n
      go (O.Reply x y) n = fetch_alike here there z.world n
      go (O.Parked x k) n = fetch_alike here there z.world n

pub turns_depend_on_outside : TurnsDependOnOutside
turns_depend_on_outside own look w v cpu step a m =
    let same = turn_acts own look cpu step w v a m in
    let l = all_alike own look (events_made (turn w cpu step)) w v a m in
    record {
      acts = same;
      world = rw (after-events w (turn w cpu step))
          (subst (Alike own look (after w (events_made (turn w cpu step))))
          (ap (λ acts. after v (events_made acts)) same ∙ sym (after-events v (turn v cpu step))) l);
    }
