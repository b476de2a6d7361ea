-- A walk through turns in two worlds at once: where a relation between them is kept by each event of a partition other
-- than the root, which is answered alike in both, their turns are the same, and the relation is kept.
use Rattle.std.proofs.Common.{◌≡◌, ◌≢◌, ℕ, zero, suc, ◌+◌, Bool, true, false, List, [], ◌++◌, refl, sym}
use Rattle.std.proofs.Common.{ap, ap₂, ◌∙◌, subst, Some, eq-eqb}
use Rattle.std.specs.List.{AllByRecursion}
use Rattle.std.proofs.lemmas.Bool.{both_ways}
use Rattle.pip_base.specs.declared.outcome.Outcome.{Outcome}
use Rattle.pip_base.specs.declared.outcome.Outcome.TheVariants as O
use Rattle.pip_base.specs.declared.types.Ctx.{Ctx}
use Rattle.pip_model.specs.Acts.{Act, after_acts, events_made}
use Rattle.pip_model.specs.Effects.{at_next, with_link, with_register, word_effect}
use Rattle.pip_model.specs.Events.{Event, IsEvent}
use Rattle.pip_model.specs.Events as E
use Rattle.pip_model.specs.Happens.{event}
use Rattle.pip_model.specs.InstrRead.{instr_of}
use Rattle.pip_model.specs.Local.{cpu_of}
use Rattle.pip_model.specs.Turn.{acts_after_fetch, arguments, effect_acts, fetch_acts, load_acts}
use Rattle.pip_model.specs.Turn.{outcome_of, store_acts, turn, word_acts, world_of}
use Rattle.pip_model.specs.Worlds.{World, runs_on}
use Rattle.pip_model.specs.declared.effect.Effect.{Effect}
use Rattle.pip_model.specs.declared.effect.Effect.TheVariants as F
use Rattle.pip_model.specs.declared.processors.Occupant.{Occupant}
use Rattle.pip_model.proofs.OnLists.Acts.{after-append}
use Rattle.pip_model.proofs.Events.Outcomes.{load_same, store_same}
use Rattle.pip_model.proofs.Events.Soundness.{event-sound}
use Rattle.pip_model.proofs.Locality.OneEvent.{at_set_here}
use Rattle.pip_guests.specs.Guests.{PollsInVain, is_own}
use Rattle.pip_guests.proofs.Lines.{not_top}
use Rattle.pip_guests.proofs.Moves.{set_by}
use Rattle.pip_guests.proofs.Turns.{fetch_stays, poll_vain, turn_fetches}
use Rattle.pip_guests.proofs.Words.{fetch_are}
use Rattle.pip_slots.specs.Slots.{slot_turn, slot_turns}
use Rattle.pip_native.specs.Watching.{root_runs}
use Rattle.pip_slots.proofs.Ready.{Ready}

-- one event, answered alike in both worlds
pub record Stepped (R : World → World → Type 0) (e : Event) (w v : World) : Type 0 where
  pub outcome : (event w e).outcome ≡ (event v e).outcome
  pub next : R (event w e).world (event v e).world

-- acts, the same from both worlds
pub record Walked (R : World → World → Type 0) (w v : World) (xs ys : List Act) : Type 0 where
  pub acts : xs ≡ ys
  pub next : R (after_acts w xs) (after_acts v ys)

-- what runs where the root doesn't
pub not_root_runs : (w : World) (r : Occupant) → root_runs w ≡ false → runs_on w 0 ≡ Some r
    → r.name ≢ w.tree.root.name
not_root_runs w r e k d = both_ways (root_runs w) e (rw (k, eq-eqb r.name w.tree.root.name d))

-- what runs goes on with the context that is set
pub set_runs : (w : World) (cpu : ℕ) (r : Occupant) (c : Ctx) → runs_on w cpu ≡ Some r
    → runs_on (event w (E.SetContext cpu c)).world cpu ≡ Some (record r { ctx = c })
set_runs w cpu r c k =
    rw (set_by w r cpu c k, at_set_here (Some (record r { ctx = c })) w.cpus cpu r k)

module _ (R : World → World → Type 0) where
  pub walked_append : (w v : World) (xs ys xs' ys' : List Act) → Walked R w v xs ys
      → Walked R (after_acts w xs) (after_acts v ys) xs' ys' → Walked R w v (xs ++ xs') (ys ++ ys')
  walked_append w v xs ys xs' ys' a b = record {
    acts = ap₂ (λ x y. x ++ y) a.acts b.acts;
    next = rw (after-append w xs xs') (subst (R (after_acts (after_acts w xs) xs')) (sym (after-append v ys ys'))
        b.next);
  }

  pub walked_by : (w v : World) (xs ys xs' ys' : List Act) → xs' ≡ xs → ys' ≡ ys → Walked R w v xs ys
      → Walked R w v xs' ys'
  walked_by w v xs ys xs' ys' a b h =
      rw a (subst (Walked R w v xs) (sym b) h)

module _ (R : World → World → Type 0) (left : (w v : World) → R w v → Ready w) (right : (w v : World) → R w v → Ready v)
    (same : (w v : World) → R w v → (r : Occupant) → runs_on w 0 ≡ Some r → r.name ≢ w.tree.root.name
    → runs_on v 0 ≡ Some r) (tops : (w v : World) → R w v → root_runs w ≡ root_runs v) (step : (w v : World) → R w v
    → (e : Event) (r : Occupant) → IsEvent e → is_own e ≡ true → cpu_of e ≡ 0 → runs_on w 0 ≡ Some r
    → r.name ≢ w.tree.root.name → Stepped R e w v) where
  -- no partition but the root is the root after an event
  low_after : (w v : World) → R w v → (e : Event) → IsEvent e → (n : ℕ) → n ≢ w.tree.root.name
      → n ≢ (event w e).world.tree.root.name
  low_after w v h e ev n m = let s = (left w v h).sound in
      not_top w.tree (event w e).world.tree s.tree (event-sound w e s ev).tree n m

  -- what an instruction does
  effect_walked : (t : ℕ) (w v : World) (r : Occupant) → R w v → runs_on w 0 ≡ Some r → r.name ≢ w.tree.root.name
      → (x : Ctx) (f : Effect) → AllByRecursion IsEvent (events_made (effect_acts w t 0 x f))
      → Walked R w v (effect_acts w t 0 x f) (effect_acts v t 0 x f)
  effect_walked t w v r h k m x (F.Sets a n) all = record {
    acts = refl;
    next = (step w v h (E.SetContext 0 (with_register x a n)) r all.0 refl refl k m).next;
  }
  effect_walked t w v r h k m x (F.Goes pc) all = record {
    acts = refl;
    next = (step w v h (E.SetContext 0 (record x { pc = pc })) r all.0 refl refl k m).next;
  }
  effect_walked t w v r h k m x (F.Links a pc) all = record {
    acts = refl;
    next = (step w v h (E.SetContext 0 (with_link x a pc)) r all.0 refl refl k m).next;
  }
  effect_walked t w v r h k m x (F.Shows n) all = record {
    acts = refl;
    next = (step w v h (E.SetContext 0 (at_next x)) r all.0 refl refl k m).next;
  }
  effect_walked t w v r h k m x (F.Loads a va z) all = record {
    acts = rw st.outcome;
    next = rw (← st.outcome) (go (outcome_of w (E.Load 0 va z)) refl all.1);
  }
    where
      st : Stepped R (E.Load 0 va z) w v
      st = step w v h (E.Load 0 va z) r all.0 refl refl k m

      go : (o : Outcome) → outcome_of w (E.Load 0 va z) ≡ o → AllByRecursion IsEvent
          (events_made (load_acts t 0 x a o)) → R (after_acts (world_of w (E.Load 0 va z)) (load_acts t 0 x a o))
          (after_acts (world_of v (E.Load 0 va z)) (load_acts t 0 x a o))
      go (O.Word u) q ev = (step _ _ st.next (E.SetContext 0 (with_register x a u)) r ev.0 refl refl
          (rw (load_same w 0 va u z q, k))
          (low_after w v h (E.Load 0 va z) all.0 r.name m)).next
      go O.Done q ev = st.next
      go (O.Reply b c) q ev = st.next
      go (O.Switched b c d) q ev = st.next
      go (O.Parked b c) q ev = st.next
      go O.Idle q ev = st.next
  effect_walked t w v r h k m x (F.Stores va n z) all = record {
    acts = rw st.outcome;
    next = rw (← st.outcome) (go (outcome_of w (E.Store 0 va z n)) refl all.1);
  }
    where
      st : Stepped R (E.Store 0 va z n) w v
      st = step w v h (E.Store 0 va z n) r all.0 refl refl k m

      go : (o : Outcome) → outcome_of w (E.Store 0 va z n) ≡ o → AllByRecursion IsEvent
          (events_made (store_acts t 0 x o)) → R (after_acts (world_of w (E.Store 0 va z n)) (store_acts t 0 x o))
          (after_acts (world_of v (E.Store 0 va z n)) (store_acts t 0 x o))
      go O.Done q ev = (step _ _ st.next (E.SetContext 0 (at_next x)) r ev.0 refl refl
          (rw (store_same w 0 va n z q, k))
          (low_after w v h (E.Store 0 va z n) all.0 r.name m)).next
      go (O.Word u) q ev = st.next
      go (O.Reply b c) q ev = st.next
      go (O.Switched b c d) q ev = st.next
      go (O.Parked b c) q ev = st.next
      go O.Idle q ev = st.next
  effect_walked t w v r h k m x (F.Traps n a b) all = let st = step w v h (E.Trap 0 n a b) r all.0 refl refl k m in
      record { acts = rw st.outcome; next = st.next }
  effect_walked t w v r h k m x (F.Interrupts n) all =
      let a = E.SetContext 0 (at_next x) in
      let one = step w v h a r all.0 refl refl k m in
      let two = step _ _ one.next (E.Trap 0 n 0 0) (record r { ctx = at_next x }) all.1.0 refl refl
      (set_runs w 0 r (at_next x) k) (low_after w v h a all.0 r.name m) in
      record { acts = rw two.outcome; next = two.next }
  effect_walked t w v r h k m x (F.Calls n) all =
      let a = E.SetContext 0 (at_next x) in
      let e = E.Call 0 n (arguments x) in
      let one = step w v h a r all.0 refl refl k m in
      let two = step _ _ one.next e (record r { ctx = at_next x }) all.1.0 refl refl (set_runs w 0 r (at_next x) k)
      (low_after w v h a all.0 r.name m) in
      record { acts = rw two.outcome; next = two.next }

  -- the fetch, and what comes after it
  fetch_walked : (t : ℕ) (w v : World) (r : Occupant) → R w v → runs_on w 0 ≡ Some r → r.name ≢ w.tree.root.name
      → Walked R w v (fetch_acts w t 0) (fetch_acts v t 0)
  fetch_walked t w v r h k m = record {
    acts = rw (z.acts, st.outcome);
    next = rw (← st.outcome) z.next;
  }
    where
      here : World
      here = world_of w (E.Fetch 0)

      there : World
      there = world_of v (E.Fetch 0)

      st : Stepped R (E.Fetch 0) w v
      st = step w v h (E.Fetch 0) r tt refl refl k m

      go : (o : Outcome) → outcome_of w (E.Fetch 0) ≡ o → AllByRecursion IsEvent
          (events_made (acts_after_fetch here t 0 o))
          → Walked R here there (acts_after_fetch here t 0 o) (acts_after_fetch there t 0 o)
      go (O.Word u) q all =
          let k1 : runs_on here 0 ≡ Some r = cc (fetch_stays w 0 u r k q) in
          let m1 = low_after w v h (E.Fetch 0) tt r.name m in
          let k2 : runs_on there 0 ≡ Some r = same here there st.next r k1 m1 in
          let all1 = subst (λ o. AllByRecursion IsEvent (events_made (word_acts here t 0 u o))) k1 all in
          let e = effect_walked t here there r st.next k1 m1 r.ctx (word_effect r.ctx u (instr_of u)) all1 in
          walked_by R here there _ _ _ _ (rw k1) (rw k2) e
      go O.Done q all = record { acts = refl; next = st.next }
      go (O.Reply a b) q all = record { acts = refl; next = st.next }
      go (O.Switched a b c) q all = record { acts = refl; next = st.next }
      go (O.Parked a b) q all = record { acts = refl; next = st.next }
      go O.Idle q all = record { acts = refl; next = st.next }

      z : Walked R here there (acts_after_fetch here t 0 (outcome_of w (E.Fetch 0)))
          (acts_after_fetch there t 0 (outcome_of w (E.Fetch 0)))
      z = go (outcome_of w (E.Fetch 0)) refl (fetch_are w 0 t (left w v h).sound).1

  -- a turn of what runs, if that is not the root
  turn_walked : (t : ℕ) (w v : World) (r : Occupant) → R w v → runs_on w 0 ≡ Some r → r.name ≢ w.tree.root.name
      → Walked R w v (turn w 0 t) (turn v 0 t)
  turn_walked t w v r h k m =
      let vain : PollsInVain w 0 = poll_vain w 0 r k (left w v h).quiet in
      let vain' : PollsInVain v 0 = poll_vain v 0 r (same w v h r k m) (right w v h).quiet in
      let z = fetch_walked t w v r h k m in
      let one = ap (after_acts w) (turn_fetches w 0 t vain) ∙ ap (λ x. after_acts x.world (fetch_acts w t 0)) vain in
      let two = ap (after_acts v) (turn_fetches v 0 t vain') ∙ ap (λ x. after_acts x.world (fetch_acts v t 0)) vain' in
      record {
        acts = rw (turn_fetches w 0 t vain, z.acts, ← turn_fetches v 0 t vain');
        next = rw one (subst (R (after_acts w (fetch_acts w t 0))) (sym two) z.next);
      }

  -- a step within a slot
  inner_walked : (t : ℕ) (w v : World) → R w v → Walked R w v (slot_turn w t) (slot_turn v t)
  inner_walked t w v h = go (root_runs w) refl
    where
      go : (b : Bool) → root_runs w ≡ b → Walked R w v (slot_turn w t) (slot_turn v t)
      go true e = walked_by R w v [] [] (slot_turn w t) (slot_turn v t) (rw e)
          (rw (← tops w v h, e)) (record { acts = refl; next = h })
      go false e =
          let (r, k) = (left w v h).runs in
          walked_by R w v (turn w 0 t) (turn v 0 t) (slot_turn w t) (slot_turn v t) (rw e)
          (rw (← tops w v h, e))
          (turn_walked t w v r h k (not_root_runs w r e k))

  -- all of them
  pub inners_walked : (n t : ℕ) (w v : World) → R w v → Walked R w v (slot_turns w n t) (slot_turns v n t)
  inners_walked zero t w v h = record { acts = refl; next = h }
  inners_walked (suc n) t w v h =
      let z = inner_walked t w v h in
      walked_append R w v (slot_turn w t) (slot_turn v t) _ _ z (inners_walked n (t + 1) _ _ z.next)
