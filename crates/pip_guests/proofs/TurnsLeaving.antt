-- A turn in which control may leave a guest: in two worlds in which the guest is the same it has the same events.
use Rattle.std.proofs.Common.{◌≡◌, ◌≢◌, ℕ, inl, inr, Bool, true, false, cond, List, [], ◌∷◌, refl, sym, ap, ◌∙◌, subst}
use Rattle.std.proofs.Common.{Option, Some, None}
use Rattle.std.specs.List.{AllByRecursion}
use Rattle.pip_base.specs.declared.outcome.Outcome.{Outcome}
use Rattle.pip_base.specs.declared.outcome.Outcome.TheVariants as O
use Rattle.pip_base.specs.declared.types.Ctx.{Ctx}
use Rattle.pip_model.specs.Acts.{after_acts, events_made}
use Rattle.pip_model.specs.Effects.{at_next, with_register, word_effect}
use Rattle.pip_model.specs.Events.{Event, IsEvent}
use Rattle.pip_model.specs.Events as E
use Rattle.pip_model.specs.Happens.{after, event}
use Rattle.pip_model.specs.InstrRead.{instr_of}
use Rattle.pip_model.specs.Lists.{In, has}
use Rattle.pip_model.specs.Poll.{occupant_name}
use Rattle.pip_model.specs.Tree.{Tree, ancestry}
use Rattle.pip_model.specs.Turn.{effect_acts, fetch_acts, acts_after_fetch, load_acts, outcome_of, store_acts, turn}
use Rattle.pip_model.specs.Turn.{word_acts, world_of}
use Rattle.pip_model.specs.Worlds.{IsSoundWorld, World, runs_on}
use Rattle.pip_model.specs.declared.effect.Effect.{Effect}
use Rattle.pip_model.specs.declared.effect.Effect.TheVariants as F
use Rattle.pip_model.specs.declared.processors.Occupant.{Occupant}
use Rattle.pip_model.proofs.Events.Soundness.{event-sound}
use Rattle.pip_model.proofs.Locality.OneEvent.{to_trees}
use Rattle.pip_guests.specs.Guests.{AllStayOrLeave, IsSameGuest, Leaves, guest_learns}
use Rattle.pip_guests.specs.Programs.{TurnsLeaveAlike}
use Rattle.pip_guests.proofs.Lines.{line_alike, not_top}
use Rattle.pip_guests.proofs.Inside.{actor_runs, inside_same}
use Rattle.pip_guests.proofs.Leaving.{guests_are_left_alike}
use Rattle.pip_guests.proofs.Together.{step_same}
use Rattle.pip_guests.proofs.Turns.{after_turn, fetch_stays, turn_fetches}
use Rattle.pip_guests.proofs.Words.{fetch_are}

-- ---- lists of events that stay inside or leave

record SameSteps (p : ℕ) (es : List Event) (w v : World) : Type 0 where
  there : AllStayOrLeave p v es
  guest : IsSameGuest p (after w es) (after v es)

steps_same : (p : ℕ) (es : List Event) (w v : World) → IsSoundWorld w → IsSoundWorld v → p ≢ w.tree.root.name
    → IsSameGuest p w v → AllByRecursion IsEvent es → AllStayOrLeave p w es → SameSteps p es w v
steps_same p [] w v s s' m g all i = record { there = tt; guest = g }
steps_same p (e ∷ es) w v s s' m g all i =
    let z = step_same w v p e s s' all.0 m g i.0 in
    let sw = event-sound w e s all.0 in
    let h = steps_same p es (event w e).world (event v e).world sw (event-sound v e s' all.0)
    (not_top w.tree (event w e).world.tree s.tree sw.tree p m) z.guest all.1 i.1 in
    record { there = (z.there, h.there); guest = h.guest }

-- ---- the events of a turn, by what the guest learns

module _ (p cpu t : ℕ) where
  -- after a load, and after a store
  loaded_events : Ctx → ℕ → Option Outcome → List Event
  loaded_events x a (Some (O.Word v)) = E.SetContext cpu (with_register x a v) ∷ []
  loaded_events x a _ = []

  stored_events : Ctx → Option Outcome → List Event
  stored_events x (Some O.Done) = E.SetContext cpu (at_next x) ∷ []
  stored_events x _ = []

  loads : (u : Tree) (x : Ctx) (a : ℕ) (o : Outcome)
      → events_made (load_acts t cpu x a o) ≡ loaded_events x a (guest_learns u p o)
  unfolding loaded_events
  loads u x a (O.Word v) = refl
  loads u x a O.Done = refl
  loads u x a (O.Reply s v) = refl
  loads u x a (O.Switched from to k) = go (has (ancestry u to) p)
    where
      go : (b : Bool) → [] ≡ loaded_events x a (cond b (Some (O.Switched from to k)) None)
      go true = refl
      go false = refl
  loads u x a (O.Parked from k) = refl
  loads u x a O.Idle = refl

  stores : (u : Tree) (x : Ctx) (o : Outcome) → events_made (store_acts t cpu x o) ≡ stored_events x
      (guest_learns u p o)
  unfolding stored_events
  stores u x (O.Word v) = refl
  stores u x O.Done = refl
  stores u x (O.Reply s v) = refl
  stores u x (O.Switched from to k) = go (has (ancestry u to) p)
    where
      go : (b : Bool) → [] ≡ stored_events x (cond b (Some (O.Switched from to k)) None)
      go true = refl
      go false = refl
  stores u x (O.Parked from k) = refl
  stores u x O.Idle = refl

  effect_events : (w v : World) (x : Ctx) (f : Effect) → IsSoundWorld w → IsSoundWorld v → p ≢ w.tree.root.name
      → IsSameGuest p w v → AllByRecursion IsEvent (events_made (effect_acts w t cpu x f))
      → AllStayOrLeave p w (events_made (effect_acts w t cpu x f))
      → events_made (effect_acts w t cpu x f) ≡ events_made (effect_acts v t cpu x f)
  effect_events w v x (F.Sets a n) s s' m g all i = refl
  effect_events w v x (F.Goes pc) s s' m g all i = refl
  effect_events w v x (F.Links a pc) s s' m g all i = refl
  effect_events w v x (F.Shows n) s s' m g all i = refl
  effect_events w v x (F.Traps k a b) s s' m g all i = refl
  effect_events w v x (F.Interrupts k) s s' m g all i = refl
  effect_events w v x (F.Calls n) s s' m g all i = refl
  effect_events w v x (F.Loads a va z) s s' m g all i =
      let e = E.Load cpu va z in
      let same = (step_same w v p e s s' all.0 m g i.0).answer in
      rw (loads w.tree x a (outcome_of w e), same, ← loads v.tree x a (outcome_of v e))
  effect_events w v x (F.Stores va n z) s s' m g all i =
      let e = E.Store cpu va z n in
      let same = (step_same w v p e s s' all.0 m g i.0).answer in
      rw (stores w.tree x (outcome_of w e), same, ← stores v.tree x (outcome_of v e))

  -- nothing follows a fetch that leaves
  left_events : (w : World) (u : Tree) (o : Outcome) → Leaves u p o → events_made (acts_after_fetch w t cpu o) ≡ []
  left_events w u (O.Word v) h = absurd h
  left_events w u O.Done h = absurd h
  left_events w u (O.Reply s v) h = absurd h
  left_events w u (O.Switched from to k) h = refl
  left_events w u (O.Parked from k) h = refl
  left_events w u O.Idle h = absurd h

  fetch_events : (w v : World) (r : Occupant) → runs_on w cpu ≡ Some r → In p (ancestry w.tree r.name) → IsSoundWorld w
      → IsSoundWorld v → p ≢ w.tree.root.name → IsSameGuest p w v
      → AllStayOrLeave p w (events_made (fetch_acts w t cpu))
      → events_made (fetch_acts w t cpu) ≡ events_made (fetch_acts v t cpu)
  fetch_events w v r k h s s' m g i = ap (λ l. E.Fetch cpu ∷ l) (elim i.0 [
    | inl j ↦ let z = inside_same w v p (E.Fetch cpu) s s' tt m g j in
        rw (go z.guest (outcome_of w (E.Fetch cpu)) refl (fetch_are w cpu t s).1 i.1, z.outcome)
    | inr j ↦ let z = guests_are_left_alike w v p (E.Fetch cpu) s s' tt m g j in
        left_events here w.tree (outcome_of w (E.Fetch cpu)) j.leaves
        ∙ sym (left_events there v.tree (outcome_of v (E.Fetch cpu)) z.leaving.leaves)
  ])
    where
      here : World
      here = world_of w (E.Fetch cpu)

      there : World
      there = world_of v (E.Fetch cpu)

      go : IsSameGuest p here there → (o : Outcome) → outcome_of w (E.Fetch cpu) ≡ o → AllByRecursion IsEvent
          (events_made (acts_after_fetch here t cpu o)) → AllStayOrLeave p here
          (events_made (acts_after_fetch here t cpu o))
          → events_made (acts_after_fetch here t cpu o) ≡ events_made (acts_after_fetch there t cpu o)
      go same (O.Word u) q all i =
          let stays = fetch_stays w cpu u r k q in
          let k1 : runs_on here cpu ≡ Some r = cc in
          let h1 : In p (ancestry here.tree r.name) = rw (← stays) at h in
          let k2 : runs_on there cpu ≡ Some r = same.runs cpu r h1 k1 in
          let sw = event-sound w (E.Fetch cpu) s tt in
          let sv = event-sound v (E.Fetch cpu) s' tt in
          let all1 = subst (λ o. AllByRecursion IsEvent (events_made (word_acts here t cpu u o))) k1 all in
          let i1 = subst (λ o. AllStayOrLeave p here (events_made (word_acts here t cpu u o))) k1 i in
          cc (effect_events here there r.ctx (word_effect r.ctx u (instr_of u)) sw sv
          (not_top w.tree here.tree s.tree sw.tree p m) same all1 i1)
      go same O.Done q all i = refl
      go same (O.Reply a b) q all i = refl
      go same (O.Switched a b c) q all i = refl
      go same (O.Parked a b) q all i = refl
      go same O.Idle q all i = refl

pub turns_leave_alike : TurnsLeaveAlike
turns_leave_alike w v p cpu t s s' m g vain vain' i =
    let (r, k, q) = actor_runs w p (E.Poll cpu) s i.below in
    let h : In p (ancestry w.tree r.name) = rw (← q) i.below in
    let k' = g.runs cpu r h k in
    let same = fetch_events p cpu t w v r k h s s' m g i.fits in
    let l = steps_same p (events_made (fetch_acts w t cpu)) w v s s' m g (fetch_are w cpu t s) i.fits in
    let one = after_turn w cpu t vain in
    let two = after_turn v cpu t vain' ∙ ap (after v) (sym same) in
    record {
      events = cc (turn_fetches w cpu t vain, turn_fetches v cpu t vain');
      there = record {
        below = rw k' (line_alike w.tree v.tree p s.tree s'.tree (to_trees p w v g.below) r.name h);
        fits = subst (AllStayOrLeave p v) same l.there;
      };
      guest = rw one (subst (IsSameGuest p (after w (events_made (fetch_acts w t cpu)))) (sym two) l.guest);
    }
