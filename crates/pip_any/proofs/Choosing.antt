-- Each turn has a choice at a moment that looks like its world.
use Rattle.std.proofs.Common.{◌≡◌, ℕ, zero, suc, ◌+◌, ◌-◌, ◌*◌, ◌/◌, ◌%◌, ◌<◌, ◌≤◌, ◌&&◌, ◌⊎◌, inl, inr, nat_lt, Bool}
use Rattle.std.proofs.Common.{true}
use Rattle.std.proofs.Common.{false, if◌then◌else◌, List, [], ◌∷◌, length, refl, sym, ap, ◌∙◌, subst, arith}
use Rattle.std.proofs.Common.{Option, Some, None, option_map, slice_get}
use Rattle.std.proofs.lemmas.Bool.{lt-ltb, ltb-false}
use Rattle.std.proofs.lemmas.List.{append-nil}
use Rattle.std.proofs.lemmas.Nat.{div-mul-add, mod-mul-add, mul-add-lt}
use Rattle.pip_base.specs.declared.outcome.Outcome.{Outcome}
use Rattle.pip_base.specs.declared.outcome.Outcome.TheVariants as O
use Rattle.pip_base.specs.declared.types.Ctx.{Ctx}
use Rattle.pip_every.specs.Menus.{Hostile, Menu, Usual, acts_after_line, deed_cpu, deed_event, deed_line}
use Rattle.pip_every.specs.Menus.{hostile_acts, is_hostile, is_its, name_on, pick_acts, pick_turns}
use Rattle.pip_every.specs.Menus.{picked, usual_choices}
use Rattle.pip_every.specs.Moments.{Moment, turns_after}
use Rattle.pip_every.specs.declared.menus.May.{May}
use Rattle.pip_every.proofs.Choosing.{more_turns, turn_chosen}
use Rattle.pip_every.proofs.Picking.{deed_is, goes_is, own_is, waits_is}
use Rattle.pip_model.specs.Acts.{Makes, after_acts, events_made, text_of}
use Rattle.pip_model.specs.Events as E
use Rattle.pip_model.specs.Happens.{after}
use Rattle.pip_model.proofs.OnLists.Acts.{after-events}
use Rattle.pip_model.specs.Poll.{lowest_line, may_take, none_taken, poll, poll_line, take_line}
use Rattle.pip_model.specs.Handlers.{handler}
use Rattle.pip_model.specs.Turn.{acts_after_poll, fetch_acts, move_acts, outcome_of, turn, turn_end, world_of}
use Rattle.pip_model.specs.Worlds.{Happened, World, done, runs_on, with_caches}
use Rattle.pip_model.specs.declared.processors.Occupant.{Occupant}
use Rattle.pip_model.specs.declared.turn_end.TurnEnd.{TurnEnd}
use Rattle.pip_model.specs.declared.turn_end.TurnEnd.TheVariants as N
use Rattle.pip_guests.specs.Outside.{Alike, AlikeOn, IsAlike, ReadsOutside}
use Rattle.pip_guests.specs.Turns.{IsOneTurn}
use Rattle.pip_guests.proofs.Alikes.{alike_back}
use Rattle.pip_guests.proofs.Moved.{outside_depends_on_outside}
use Rattle.pip_guests.proofs.Turning.{runs_alike, turns_depend_on_outside}
use Rattle.pip_any.specs.Hostile.{DeedAnswers, HasChoice, LooksAway, FindsNoLine, RunsHostile}
use Rattle.pip_any.specs.Hostile.{TurnKeepsToMenu, TurnStaysInside, TurnsHaveChoices}
use Rattle.pip_any.proofs.Doing.{Does, LeavesBy, fetch_does, unseen_alike}

-- ---- how many turns were made

either : (from n : ℕ) (b : Bool) → nat_lt n from ≡ b
    → (from ≤ (if b then suc n else n)) ⊎ (n < (if b then suc n else n))
either from n true e = inr (omega arith)
either from n false e = inl (ltb-false n from e)

counted : (from n : ℕ) (e : TurnEnd) → (from ≤ turns_after from n e) ⊎ (n < turns_after from n e)
counted from n (N.Polled O.Idle) = inl (omega arith)
counted from n (N.Polled (O.Word w)) = either from n (nat_lt n from) refl
counted from n (N.Polled O.Done) = either from n (nat_lt n from) refl
counted from n (N.Polled (O.Reply s v)) = either from n (nat_lt n from) refl
counted from n (N.Polled (O.Switched p q k)) = either from n (nat_lt n from) refl
counted from n (N.Polled (O.Parked p k)) = either from n (nat_lt n from) refl
counted from n (N.Fetched o) = either from n (nat_lt n from) refl
counted from n N.Ran = either from n (nat_lt n from) refl

-- ---- polls

-- a poll where a partition runs takes a line, or changes nothing
poll_either : (w : World) (cpu : ℕ) (r : Occupant) → runs_on w cpu ≡ Some r
    → FindsNoLine w cpu ⊎ ((p : ℕ) × (q : ℕ) × (k : ℕ) × (outcome_of w (E.Poll cpu) ≡ O.Switched p q k))
poll_either w cpu r e = go (may_take w cpu (runs_on w cpu)) (lowest_line w w.tree.root.pending) refl
  where
    vain : (h : Happened) → h ≡ none_taken w (runs_on w cpu) → with_caches w.caches h ≡ done w
    vain h k = rw (k, e)

    go : (b : Bool) (j : Option ℕ)
        → poll w cpu (runs_on w cpu)
        ≡ (if b then poll_line w cpu (runs_on w cpu) j else none_taken w (runs_on w cpu))
        → FindsNoLine w cpu ⊎ ((p : ℕ) × (q : ℕ) × (k : ℕ) × (outcome_of w (E.Poll cpu) ≡ O.Switched p q k))
    go false j q = inl (vain _ q)
    go true None q = inl (vain _ q)
    go true (Some j) q = takes (handler w.tree w.tree.root.name (32 + j)) q
      where
        takes : (c : Option Ctx) → poll w cpu (runs_on w cpu) ≡ take_line w cpu (runs_on w cpu) j c
            → FindsNoLine w cpu ⊎ ((p : ℕ) × (q : ℕ) × (k : ℕ) × (outcome_of w (E.Poll cpu) ≡ O.Switched p q k))
        takes None q = inl (vain _ q)
        takes (Some c) q = inr (_, _, _, ap (λ h. h.outcome) q)

get_below : {X : Type 0} (xs : List X) (i : ℕ) (x : X) → slice_get xs i ≡ Some x → i < length xs
get_below [] i x e = cc
get_below (y ∷ ys) zero x e = omega arith
get_below (y ∷ ys) (suc i) x e = omega (arith, get_below ys i x e)

-- no line of a menu is of nobody
pub nobody_hostile : (root : ℕ) (ds : List May) → is_hostile root None ds ≡ true → ⊥
nobody_hostile root [] e = cc
nobody_hostile root (d ∷ ds) e = nobody_hostile root ds e

-- ---- a partition outside, or none

module _ (own : List ℕ) (look : ℕ → ℕ → ℕ → ℕ) (g : Menu) (w : World) (cpu : ℕ) (m : Moment)
    (a : Alike own look w m.world)
    (lt : cpu < g.scope.cpus) (l : LooksAway own look g m.world cpu) where
  abbrev v : World
  v = m.world

  there : nat_lt cpu g.scope.cpus ≡ true
  there = lt-ltb cpu g.scope.cpus lt

  usual : cpu < usual_choices g
  usual = omega arith

  outside_has : is_hostile v.tree.root.name (name_on v cpu) g.may ≡ false → HasChoice own look g w cpu m
  outside_has f =
      let pick : picked g v cpu ≡ Usual = goes_is g v cpu usual
      (rw (there, f)) in
      let acts : pick_acts g m cpu (picked g v cpu) ≡ turn v cpu 0 = rw (pick, turn_chosen g.scope m cpu lt) in
      let turns : pick_turns g m cpu (picked g v cpu) ≡ turns_after g.scope.from m.turns (turn_end v cpu) =
      rw (pick, more_turns g.scope m cpu lt) in
      let t : IsOneTurn own look cpu 0 v w =
      turns_depend_on_outside own look v w cpu 0 (alike_back own look w v a) (l.turn f) in
      record {
        choice = cpu;
        can = omega arith;
        counts = rw turns (counted g.scope.from m.turns (turn_end v cpu));
        same = inl (rw (acts, t.acts));
        alike = rw acts (alike_back own look _ _ t.world);
      }

  -- ---- a hostile partition

  -- it waits
  waits : RunsHostile g v cpu → (label : List ℕ) → Alike own look (after_acts w (turn w cpu 0))
      (world_of v (E.Poll cpu))
      → text_of (acts_after_line (world_of v (E.Poll cpu)) cpu None (outcome_of v (E.Poll cpu))) ≡ label
      → (label ≡ text_of (turn w cpu 0)) ⊎ TurnStaysInside own look w cpu → HasChoice own look g w cpu m
  waits h label b shows same =
      let pick : picked g v cpu ≡ Hostile cpu None = waits_is g v cpu usual
      (rw (there, h)) in
      let acts : pick_acts g m cpu (picked g v cpu) ≡ hostile_acts v cpu None = rw pick in
      let turns : pick_turns g m cpu (picked g v cpu) ≡ turns_after g.scope.from m.turns N.Ran =
      rw pick in
      record {
        choice = cpu;
        can = omega arith;
        counts = rw turns (counted g.scope.from m.turns N.Ran);
        same = rw (acts, shows) same;
        alike = rw acts (polled (outcome_of v (E.Poll cpu)) b);
      }
    where
      polled : (o : Outcome) → Alike own look (after_acts w (turn w cpu 0)) (world_of v (E.Poll cpu))
          → Alike own look (after_acts w (turn w cpu 0))
          (after_acts (world_of v (E.Poll cpu)) (acts_after_line (world_of v (E.Poll cpu)) cpu None o))
      polled (O.Switched p q k) b = b
      polled (O.Word x) b = b
      polled O.Done b = b
      polled (O.Reply s x) b = b
      polled (O.Parked p k) b = b
      polled O.Idle b = b

  -- the turn after a poll in vain
  pub turn_is : FindsNoLine w cpu → turn w cpu 0 ≡ Makes (E.Poll cpu) ∷ fetch_acts w 0 cpu
  turn_is vain = ap (λ h. Makes (E.Poll cpu) ∷ acts_after_poll h.world 0 cpu h.outcome) vain

  turn_leads : FindsNoLine w cpu → after_acts w (turn w cpu 0) ≡ after_acts w (fetch_acts w 0 cpu)
  turn_leads vain = ap (λ h. after_acts h.world (acts_after_poll h.world 0 cpu h.outcome)) vain

  -- it does a deed
  does : FindsNoLine w cpu → FindsNoLine v cpu
      → (d : (place : ℕ) (d : May) → slice_get g.may place ≡ Some d → is_its v.tree.root.name (name_on v cpu) d ≡ true
      → (DeedAnswers v cpu d.deed → ⊥) → ReadsOutside own look v (deed_event cpu d.deed))
      → LeavesBy own look g cpu v d w (fetch_acts w 0 cpu) → HasChoice own look g w cpu m
  does vain vain' d x =
      let c : ℕ = g.scope.cpus in
      let u : ℕ = usual_choices g in
      let k : ℕ = u + (x.place * c + cpu) in
      let left : k - u ≡ x.place * c + cpu = omega arith in
      let row : (k - u) / c ≡ x.place = rw (left, div-mul-add x.place c cpu lt) in
      let column : deed_cpu g k ≡ cpu = rw (left, mod-mul-add x.place c cpu lt) in
      let at = deed_is g k x.may (omega arith) (rw (row, x.at)) in
      let pick : picked g v k ≡ Hostile cpu (Some x.may.deed) =
      rw (own_is g v k x.may at (ap (λ n. is_its v.tree.root.name (name_on v n) x.may) column ∙ x.its), column) in
      let acts : pick_acts g m k (picked g v k) ≡ hostile_acts v cpu (Some x.may.deed) = rw pick in
      let turns : pick_turns g m k (picked g v k) ≡ turns_after g.scope.from m.turns N.Ran =
      rw pick in
      let shows : text_of (hostile_acts v cpu (Some x.may.deed))
      ≡ deed_line cpu x.may.deed (outcome_of v (deed_event cpu x.may.deed)) =
      ap (λ h. text_of (acts_after_line h.world cpu (Some x.may.deed) h.outcome)) vain' ∙ append-nil _ in
      let leads : after_acts v (hostile_acts v cpu (Some x.may.deed)) ≡ world_of v (deed_event cpu x.may.deed) =
      ap (λ h. after_acts h.world (acts_after_line h.world cpu (Some x.may.deed) h.outcome)) vain' in
      let few = mul-add-lt x.place c cpu (length g.may) (get_below g.may x.place x.may x.at) lt in
      record {
        choice = k;
        can = omega arith;
        counts = rw turns (counted g.scope.from m.turns N.Ran);
        same = inl (cc (x.same, turn_is vain));
        alike = rw (turn_leads vain) (subst (λ es. Alike own look (after_acts w (fetch_acts w 0 cpu))
            (after_acts v es)) (sym acts) (subst (Alike own look (after_acts w (fetch_acts w 0 cpu))) (sym leads)
            x.alike));
      }

  hostile_has : RunsHostile g v cpu → TurnKeepsToMenu own look g w cpu → HasChoice own look g w cpu m
  hostile_has h k = runs (runs_on v cpu) (runs_on w cpu) refl refl (runs_alike own look w v cpu a)
    where
      poll : IsAlike own look (E.Poll cpu) v w
      poll = outside_depends_on_outside own look v w (E.Poll cpu) (alike_back own look w v a) (l.poll h)

      -- neither or both find a line
      polls : FindsNoLine w cpu ⊎ ((p : ℕ) × (q : ℕ) × (j : ℕ) × (outcome_of w (E.Poll cpu) ≡ O.Switched p q j))
          → FindsNoLine v cpu ⊎ ((p : ℕ) × (q : ℕ) × (j : ℕ) × (outcome_of v (E.Poll cpu) ≡ O.Switched p q j))
          → HasChoice own look g w cpu m
      polls (inl x) (inr y) =
          let e : O.Switched y.0 y.1 y.2 ≡ O.Done = cc (y.3, poll.outcome) in cc
      polls (inr x) (inl y) =
          let e : O.Switched x.0 x.1 x.2 ≡ O.Done = cc (x.3, poll.outcome) in cc
      polls (inl x) (inl y) = by (fetch_does own look g cpu v (l.deeds h y) w a (k x))
        where
          by : Does own look g cpu v (l.deeds h y) w (fetch_acts w 0 cpu) → HasChoice own look g w cpu m
          by (inr z) = does x y (l.deeds h y) z
          by (inl all) = waits h []
              (rw (turn_leads x, after-events w (fetch_acts w 0 cpu))
              (subst (λ t. Alike own look (after w (events_made (fetch_acts w 0 cpu))) t) (sym (ap (λ h. h.world) y))
              (unseen_alike own look g cpu v (l.deeds h y) (events_made (fetch_acts w 0 cpu)) w v all a)))
              (ap (λ h. text_of (acts_after_line h.world cpu None h.outcome)) y)
              (inr (record { vain = x; unseen = all }))
      polls (inr x) (inr y) = waits h (text_of (move_acts 0 cpu (O.Switched y.0 y.1 y.2)))
          (rw switched_to (alike_back own look _ _ poll.world))
          (rw y.3)
          (inl (cc (y.3, poll.outcome)))
        where
          switched_to : after_acts w (turn w cpu 0) ≡ world_of w (E.Poll cpu)
          switched_to = rw (← poll.outcome, y.3)

      runs : (o p : Option Occupant) → runs_on v cpu ≡ o → runs_on w cpu ≡ p
          → AlikeOn own (runs_on w cpu) (runs_on v cpu)
          → HasChoice own look g w cpu m
      runs None p e f b =
          let x : is_hostile v.tree.root.name None g.may ≡ true =
          cc in
          absurd (nobody_hostile v.tree.root.name g.may x)
      runs (Some r) None e f b = absurd (rw f at (subst (AlikeOn own (runs_on w cpu)) e b))
      runs (Some r) (Some q) e f b = polls (poll_either w cpu q f) (poll_either v cpu r e)

pub turns_have_choices : TurnsHaveChoices
turns_have_choices own look g w cpu m a lt l k =
    go (is_hostile m.world.tree.root.name (name_on m.world cpu) g.may) refl
  where
    go : (b : Bool) → is_hostile m.world.tree.root.name (name_on m.world cpu) g.may ≡ b → HasChoice own look g w cpu m
    go false e = outside_has own look g w cpu m a lt l e
    go true e = hostile_has own look g w cpu m a lt l e (k e)
