-- A turn before and after which the guest runs on the processor stays inside.
use Rattle.std.proofs.Common.{◌≡◌, ◌≢◌, ℕ, ◌==◌, ◌&&◌, inl, inr, Bool, true, false, not, List, [], ◌∷◌, refl, sym, ap}
use Rattle.std.proofs.Common.{ap₂, ◌∙◌, subst, eq-eqb, eqb-true, Option, Some, None, slice_index}
use Rattle.std.specs.List.{AllByRecursion}
use Rattle.std.proofs.lemmas.Bool.{false_from_ne_true}
use Rattle.pip_base.specs.declared.outcome.Outcome.{Outcome}
use Rattle.pip_base.specs.declared.outcome.Outcome.TheVariants as O
use Rattle.pip_base.specs.declared.types.Ctx.{Ctx}
use Rattle.pip_model.specs.Acts.{events_made}
use Rattle.pip_base.specs.declared.types.Size.{Size}
use Rattle.pip_model.specs.Effects.{at_next, with_link, with_register, word_effect}
use Rattle.pip_model.specs.Events.{Event, IsEvent}
use Rattle.pip_model.specs.Events as E
use Rattle.pip_model.specs.Happens.{after, call_named, event, on_running}
use Rattle.pip_model.specs.InstrRead.{instr_of}
use Rattle.pip_model.specs.Lists.{In, has}
use Rattle.pip_model.specs.Local.{actor, cpu_of}
use Rattle.pip_model.specs.Poll.{occupant_name}
use Rattle.pip_model.specs.Tree.{ancestry}
use Rattle.pip_model.specs.Turn.{acts_after_fetch, arguments, effect_acts, fetch_acts, load_acts, outcome_of}
use Rattle.pip_model.specs.Turn.{store_acts}
use Rattle.pip_model.specs.Turn.{word_acts, world_of}
use Rattle.pip_model.specs.Worlds.{Happened, IsSoundWorld, World, done, runs_on, with_running}
use Rattle.pip_model.specs.declared.call_name.CallName.TheVariants.{Yields}
use Rattle.pip_model.specs.declared.effect.Effect.{Effect}
use Rattle.pip_model.specs.declared.effect.Effect.TheVariants as F
use Rattle.pip_model.specs.declared.processors.Occupant.{Occupant}
use Rattle.pip_model.proofs.OnLists.Members.{has_in}
use Rattle.pip_model.proofs.Events.Soundness.{event-sound}
use Rattle.pip_model.proofs.Locality.OneEvent.{at_set_here}
use Rattle.pip_guests.specs.Guests.{AsksParent, IsInside, is_own}
use Rattle.pip_guests.specs.Programs.{AllStayInside}
use Rattle.pip_guests.proofs.Elsewhere.{same_world}
use Rattle.pip_guests.proofs.Inside.{actor_runs}
use Rattle.pip_guests.proofs.Known.{events_are_known}
use Rattle.pip_guests.proofs.Leaving.{event_left}
use Rattle.pip_guests.proofs.Lines.{not_top}
use Rattle.pip_guests.proofs.Moves.{set_by}
use Rattle.pip_guests.proofs.Turns.{after_turn, fetch_stays}
use Rattle.pip_guests.proofs.Words.{fetch_are}
use Rattle.pip_apart.specs.Kept.{InsideTurnsAskNot, KeptTurnsStay, asks_by, asks_next, is_yield, yields_by}
use Rattle.pip_apart.proofs.Testing.{and_both, both, same_events, yields_to}

-- the guest p runs on a processor
abbrev Below : ℕ → World → ℕ → Type 0
Below p w cpu = In p (ancestry w.tree (actor w (E.Poll cpu)))

-- whose line is looked at after an event
abbrev line : ℕ → Happened → List ℕ
line cpu h = ancestry h.world.tree (occupant_name (runs_on h.world cpu))

-- a context that is set leaves who runs there
set_name : (w : World) (cpu : ℕ) (c : Ctx) → (o : Option Occupant) → runs_on w cpu ≡ o
    → (actor (event w (E.SetContext cpu c)).world (E.Poll cpu) ≡ actor w (E.Poll cpu))
    × (line cpu (event w (E.SetContext cpu c)) ≡ ancestry w.tree (actor w (E.Poll cpu)))
set_name w cpu c None k =
    let f : Occupant → Happened = λ r. done (with_running w cpu (Some (record r { ctx = c }))) in
    let none = ap (λ o. on_running w cpu o f) k in
    (rw none, rw none)
set_name w cpu c (Some r) k =
    let q : Occupant = record r { ctx = c } in
    let set = set_by w r cpu c k in
    let here = at_set_here (Some q) w.cpus cpu r k in (
      cc,
      cc,
    )

module _ (p : ℕ) where
  -- an event of the guest after which the guest runs there, and that does not ask p's parent, stays inside
  inside_of : (w : World) (e : Event) → IsSoundWorld w → IsEvent e → p ≢ w.tree.root.name → is_own e ≡ true
      → Below p w (cpu_of e) → Below p (event w e).world (cpu_of e) → (AsksParent p (actor w e) e → ⊥)
      → IsInside p w e
  inside_of w e s ev m o b c asks = elim (events_are_known w p e s m o b) [
    | inl (inl i) ↦ i
    | inl (inr l) ↦
        let (r, k, q) = actor_runs w p e s l.below in
        let h : In p (ancestry w.tree r.name) = rw (← q) l.below in
        let z = event_left w w p s s (same_world p w) m e r l.faults k h l.leaves in
        let v = (event w e).world in
        let (r', k', q') = actor_runs v p (E.Poll (cpu_of e)) (event-sound w e s ev) c in
        absurd (z.off r' k' (rw (← q') c))
    | inr a ↦ absurd (asks a)
  ]

  module _ (cpu : ℕ) where
    -- a context that is set
    set_before : (w : World) (c : Ctx) → Below p (event w (E.SetContext cpu c)).world cpu → Below p w cpu
    set_before w c b = subst (In p) (set_name w cpu c (runs_on w cpu) refl).1 b

    set_after : (w : World) (c : Ctx) → Below p w cpu → Below p (event w (E.SetContext cpu c)).world cpu
    set_after w c b = rw (← sym (set_name w cpu c (runs_on w cpu) refl).1) b

    set_inside : (w : World) (c : Ctx) → IsSoundWorld w → IsEvent (E.SetContext cpu c) → p ≢ w.tree.root.name
        → Below p w cpu → IsInside p w (E.SetContext cpu c)
    set_inside w c s ev m b = inside_of w (E.SetContext cpu c) s ev m refl b (set_after w c b) (λ h. h)

    module _ (t : ℕ) (w : World) (x : Ctx) (s : IsSoundWorld w) (m : p ≢ w.tree.root.name) (b : Below p w cpu) where
      loads_inside : (a va : ℕ) (z : Size) (o : Outcome) → IsEvent (E.Load cpu va z)
          → AllByRecursion IsEvent (events_made (load_acts t cpu x a o))
          → Below p (after (event w (E.Load cpu va z)).world (events_made (load_acts t cpu x a o))) cpu
          → AllStayInside p w (E.Load cpu va z ∷ events_made (load_acts t cpu x a o))
      loads_inside a va z (O.Word v) ev all c =
          let e = E.Load cpu va z in
          let u = (event w e).world in
          let su = event-sound w e s ev in
          let d = set_before u (with_register x a v) c in (
            inside_of w e s ev m refl b d (λ h. h),
            (set_inside u (with_register x a v) su all.0 (not_top w.tree u.tree s.tree su.tree p m) d, tt),
          )
      loads_inside a va z O.Done ev all c = (inside_of w (E.Load cpu va z) s ev m refl b c (λ h. h), tt)
      loads_inside a va z (O.Reply q v) ev all c = (inside_of w (E.Load cpu va z) s ev m refl b c (λ h. h), tt)
      loads_inside a va z (O.Switched from to k) ev all c =
          (inside_of w (E.Load cpu va z) s ev m refl b c (λ h. h), tt)
      loads_inside a va z (O.Parked from k) ev all c = (inside_of w (E.Load cpu va z) s ev m refl b c (λ h. h), tt)
      loads_inside a va z O.Idle ev all c = (inside_of w (E.Load cpu va z) s ev m refl b c (λ h. h), tt)

      stores_inside : (va v : ℕ) (z : Size) (o : Outcome) → IsEvent (E.Store cpu va z v)
          → AllByRecursion IsEvent (events_made (store_acts t cpu x o))
          → Below p (after (event w (E.Store cpu va z v)).world (events_made (store_acts t cpu x o))) cpu
          → AllStayInside p w (E.Store cpu va z v ∷ events_made (store_acts t cpu x o))
      stores_inside va v z O.Done ev all c =
          let e = E.Store cpu va z v in
          let u = (event w e).world in
          let su = event-sound w e s ev in
          let d = set_before u (at_next x) c in (
            inside_of w e s ev m refl b d (λ h. h),
            (set_inside u (at_next x) su all.0 (not_top w.tree u.tree s.tree su.tree p m) d, tt),
          )
      stores_inside va v z (O.Word n) ev all c = (inside_of w (E.Store cpu va z v) s ev m refl b c (λ h. h), tt)
      stores_inside va v z (O.Reply q n) ev all c = (inside_of w (E.Store cpu va z v) s ev m refl b c (λ h. h), tt)
      stores_inside va v z (O.Switched from to k) ev all c =
          (inside_of w (E.Store cpu va z v) s ev m refl b c (λ h. h), tt)
      stores_inside va v z (O.Parked from k) ev all c =
          (inside_of w (E.Store cpu va z v) s ev m refl b c (λ h. h), tt)
      stores_inside va v z O.Idle ev all c = (inside_of w (E.Store cpu va z v) s ev m refl b c (λ h. h), tt)

      -- one that is set, and then another event
      then_inside : (c : Ctx) (e : Event) → cpu_of e ≡ cpu → is_own e ≡ true → IsEvent (E.SetContext cpu c)
          → IsEvent e → Below p (event (event w (E.SetContext cpu c)).world e).world cpu
          → (AsksParent p (actor (event w (E.SetContext cpu c)).world e) e → ⊥)
          → AllStayInside p w (E.SetContext cpu c ∷ e ∷ [])
      then_inside c e here o ev ev2 d asks =
          let u = (event w (E.SetContext cpu c)).world in
          let su = event-sound w (E.SetContext cpu c) s ev in (
            set_inside w c s ev m b,
            (
              inside_of u e su ev2 (not_top w.tree u.tree s.tree su.tree p m) o
                  (rw here (set_after w c b)) (rw here d)
                  asks,
              tt,
            ),
          )

      effect_inside : (f : Effect) → AllByRecursion IsEvent (events_made (effect_acts w t cpu x f))
          → Below p (after w (events_made (effect_acts w t cpu x f))) cpu
          → ((n : ℕ) → f ≡ F.Calls n → call_named n ≡ Yields → actor w (E.Poll cpu) ≡ p
          → slice_index x.regs 1 ≡ 0 → ⊥) → AllStayInside p w (events_made (effect_acts w t cpu x f))
      effect_inside (F.Sets a v) all c asks = (set_inside w (with_register x a v) s all.0 m b, tt)
      effect_inside (F.Goes pc) all c asks = (set_inside w (record x { pc = pc }) s all.0 m b, tt)
      effect_inside (F.Links a pc) all c asks = (set_inside w (with_link x a pc) s all.0 m b, tt)
      effect_inside (F.Loads a va z) all c asks =
          loads_inside a va z (outcome_of w (E.Load cpu va z)) all.0 all.1 c
      effect_inside (F.Stores va v z) all c asks =
          stores_inside va v z (outcome_of w (E.Store cpu va z v)) all.0 all.1 c
      effect_inside (F.Traps k a v) all c asks =
          (inside_of w (E.Trap cpu k a v) s all.0 m refl b c (λ h. h), tt)
      effect_inside (F.Interrupts k) all c asks =
          then_inside (at_next x) (E.Trap cpu k 0 0) refl refl all.0 all.1.0 c (λ h. h)
      effect_inside (F.Calls n) all c asks =
          then_inside (at_next x) (E.Call cpu n (arguments x)) refl refl all.0 all.1.0 c
          (λ h. asks n refl h.0 (sym (set_name w cpu (at_next x) (runs_on w cpu) refl).0 ∙ h.1) h.2)
      effect_inside (F.Shows v) all c asks = (set_inside w (at_next x) s all.0 m b, tt)

    -- the word v was fetched
    word_inside : (t u : ℕ) (w : World) (r : Occupant) → IsSoundWorld w → p ≢ w.tree.root.name → runs_on w cpu ≡ Some r
        → Below p w cpu → AllByRecursion IsEvent (events_made (word_acts w t cpu u (Some r)))
        → Below p (after w (events_made (word_acts w t cpu u (Some r)))) cpu
        → asks_by p (Some r) (O.Word u) ≡ false → AllStayInside p w (events_made (word_acts w t cpu u (Some r)))
    word_inside t u w r s m k b all c asks =
        effect_inside t w r.ctx s m b (word_effect r.ctx u (instr_of u)) all c
        (λ n e y z1 z2. let name : r.name ≡ p = cc in
        let yes = and_both (r.name == p && slice_index r.ctx.regs 1 == 0) (yields_by (word_effect r.ctx u (instr_of u)))
        (and_both (r.name == p) (slice_index r.ctx.regs 1 == 0) (eq-eqb r.name p name)
        (eq-eqb (slice_index r.ctx.regs 1) 0 z2)) (rw (e, y)) in
        let no = sym yes ∙ asks in cc)

    fetch_inside : (w : World) (t : ℕ) → IsSoundWorld w → p ≢ w.tree.root.name → Below p w cpu
        → asks_next p w cpu ≡ false → Below p (after w (events_made (fetch_acts w t cpu))) cpu
        → AllStayInside p w (events_made (fetch_acts w t cpu))
    fetch_inside w t s m b asks c = go (outcome_of w (E.Fetch cpu)) refl all.1 c
      where
        e : Event
        e = E.Fetch cpu

        there : World
        there = world_of w e

        all : AllByRecursion IsEvent (events_made (fetch_acts w t cpu))
        all = fetch_are w cpu t s

        only : Below p there cpu → IsInside p w e
        only d = inside_of w e s tt m refl b d (λ h. h)

        go : (o : Outcome) → outcome_of w e ≡ o
            → AllByRecursion IsEvent (events_made (acts_after_fetch there t cpu o))
            → Below p (after there (events_made (acts_after_fetch there t cpu o))) cpu
            → AllStayInside p w (e ∷ events_made (acts_after_fetch there t cpu o))
        go O.Done q a d = (only d, tt)
        go (O.Reply n v) q a d = (only d, tt)
        go (O.Switched from to k) q a d = (only d, tt)
        go (O.Parked from k) q a d = (only d, tt)
        go O.Idle q a d = (only d, tt)
        go (O.Word u) q a d =
            let (r, k, n) = actor_runs w p e s b in
            let stays = fetch_stays w cpu u r k q in
            let k1 : runs_on there cpu ≡ Some r = cc in
            let h : In p (ancestry w.tree r.name) = rw (← n) b in
            let h1 : In p (ancestry there.tree r.name) =
            simp stays h in
            let b1 : Below p there cpu = rw k1 h1 in
            let sv = event-sound w e s tt in
            let no : asks_by p (Some r) (O.Word u) ≡ false =
            rw (← ap₂ (asks_by p) k q) asks in
            let a1 = subst (λ o. AllByRecursion IsEvent (events_made (word_acts there t cpu u o))) k1 a in
            let d1 = subst (λ o. Below p (after there (events_made (word_acts there t cpu u o))) cpu) k1 d in
            let z = word_inside t u there r sv (not_top w.tree there.tree s.tree sv.tree p m) k1 b1 a1 d1 no in
            (only b1, rw k1 z)

not_is : (b : Bool) → not b ≡ true → b ≡ false
not_is true e = cc
not_is false e = refl

pub kept_turns_stay : KeptTurnsStay
kept_turns_stay p w cpu t s m vain q =
    let x = both (has (ancestry w.tree (actor w (E.Poll cpu))) p) _ q in
    let y = both (not (asks_next p w cpu)) _ x.1 in
    let b = has_in p (ancestry w.tree (actor w (E.Poll cpu))) x.0 in
    let c = subst (λ v. Below p v cpu) (after_turn w cpu 0 vain) (has_in p _ y.1) in
    record {
      below = b;
      inside = subst (AllStayInside p w) (same_events w cpu 0 t)
          (fetch_inside p cpu w 0 s m b (not_is (asks_next p w cpu) y.0) c);
    }

-- ---- the other way

module _ (p cpu t : ℕ) where
  -- a yield of p to its parent is not inside
  effect_asks : (w : World) (r : Occupant) (f : Effect) → actor w (E.Poll cpu) ≡ p → slice_index r.ctx.regs 1 ≡ 0
      → yields_by f ≡ true → AllStayInside p w (events_made (effect_acts w t cpu r.ctx f)) → ⊥
  effect_asks w r (F.Calls n) name zero_there y i =
      let c = at_next r.ctx in
      i.1.0.asks (yields_to (call_named n) y, cc ((set_name w cpu c (runs_on w cpu) refl).0), zero_there)
  effect_asks w r (F.Sets a v) name zero_there y i = cc
  effect_asks w r (F.Goes pc) name zero_there y i = cc
  effect_asks w r (F.Links a pc) name zero_there y i = cc
  effect_asks w r (F.Loads a va z) name zero_there y i = cc
  effect_asks w r (F.Stores va v z) name zero_there y i = cc
  effect_asks w r (F.Traps k a b) name zero_there y i = cc
  effect_asks w r (F.Interrupts k) name zero_there y i = cc
  effect_asks w r (F.Shows v) name zero_there y i = cc

  asks_not : (w : World) → (o : Option Occupant) → runs_on w cpu ≡ o → (a : Outcome) → outcome_of w (E.Fetch cpu) ≡ a
      → AllStayInside p (world_of w (E.Fetch cpu))
      (events_made (acts_after_fetch (world_of w (E.Fetch cpu)) t cpu a)) → asks_by p o a ≡ false
  asks_not w None k a q i = refl
  asks_not w (Some r) k O.Done q i = refl
  asks_not w (Some r) k (O.Reply n v) q i = refl
  asks_not w (Some r) k (O.Switched from to x) q i = refl
  asks_not w (Some r) k (O.Parked from x) q i = refl
  asks_not w (Some r) k O.Idle q i = refl
  asks_not w (Some r) k (O.Word u) q i = false_from_ne_true _ (λ z.
      let there = world_of w (E.Fetch cpu) in
      let k1 : runs_on there cpu ≡ Some r = cc (fetch_stays w cpu u r k q) in
      let i1 = subst (λ o. AllStayInside p there (events_made (word_acts there t cpu u o))) k1 i in
      let f = word_effect r.ctx u (instr_of u) in
      let x = both (r.name == p && slice_index r.ctx.regs 1 == 0) (yields_by f) z in
      let y = both (r.name == p) (slice_index r.ctx.regs 1 == 0) x.0 in
      effect_asks there r f (rw (k1, eqb-true r.name p y.0))
      (eqb-true (slice_index r.ctx.regs 1) 0 y.1) x.1 i1)

pub inside_turns_ask_not : InsideTurnsAskNot
inside_turns_ask_not p w cpu t s i =
    asks_not p cpu t w (runs_on w cpu) refl (outcome_of w (E.Fetch cpu)) refl i.inside.1
