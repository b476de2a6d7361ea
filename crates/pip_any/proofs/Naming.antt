-- A search with a menu names each line of a run of programs that keep to it.
use Rattle.std.proofs.Common.{◌≡◌, ◌≢◌, ℕ, zero, suc, ◌+◌, ◌-◌, ◌<◌, ◌≤◌, ◌&&◌, ◌⊎◌, inl, inr, min, List, [], ◌∷◌, ◌++◌}
use Rattle.std.proofs.Common.{length, refl, Bool, true, false, cond, sym, ap, ◌∙◌, subst, arith, slice_index, Option}
use Rattle.std.proofs.Common.{Some, None, option_map}
use Rattle.std.proofs.lemmas.Bool.{le-ltb}
use Rattle.std.proofs.lemmas.Nat.{mod_below}
use Rattle.pip_base.specs.Memory.{Memory}
use Rattle.pip_base.specs.declared.types.Plan.{Plan}
use Rattle.pip_every.specs.Menus.{Menu, Usual, is_hostile, menu_model, name_on, pick_acts, pick_turns, picked}
use Rattle.pip_every.specs.Moments.{Moment}
use Rattle.pip_every.proofs.Choosing.{raise_chosen, same_turns}
use Rattle.pip_every.proofs.Picking.{goes_is}
use Rattle.pip_model.specs.Acts.{Act, Makes, after_acts, text_of}
use Rattle.pip_model.specs.Due.{is_due}
use Rattle.pip_model.specs.Events as E
use Rattle.pip_model.specs.Generator.{state_after}
use Rattle.pip_model.specs.Happens.{after}
use Rattle.pip_model.specs.Lists.{In}
use Rattle.pip_model.specs.Run.{raises, schedule, step, steps}
use Rattle.pip_model.specs.Turn.{turn, world_of}
use Rattle.pip_model.specs.Worlds.{World, runs_on}
use Rattle.pip_model.proofs.OnLists.Acts.{after-append, after-events, text-append, text-raises}
use Rattle.pip_any.specs.Hostile.{HasChoice, RunsHostile, TurnKeepsToMenu, TurnStaysInside}
use Rattle.pip_any.proofs.Choosing.{nobody_hostile, turns_have_choices}
use Rattle.pip_any.proofs.Keeping.{confined_keeps_to_menu}
use Rattle.pip_guests.specs.Exits.{IsConfined}
use Rattle.pip_guests.proofs.Alikes.{alike_back}
use Rattle.pip_guests.proofs.Confined.{confined_alike}
use Rattle.pip_model.specs.declared.processors.Occupant.{Occupant}
use Rattle.pip_any.proofs.Doing.{name_alike, root_alike}
use Rattle.pip_guests.specs.Outside.{Alike}
use Rattle.pip_search.specs.Reached.{AreChoices, IsCovered}
use Rattle.pip_search.specs.Summary.{IsTold, Witness}
use Rattle.pip_search.specs.Systems.{after_choices}
use Rattle.pip_search.specs.declared.searching.Extent.{Extent}
use Rattle.pip_search.specs.declared.searching.Extent.TheVariants.{Closed}
use Rattle.pip_any.specs.Programs.{AreNamedTurns, ConfinedProgramsAreNamed, EachTurn, HostileExits}
use Rattle.pip_any.specs.Programs.{HostileKeeps, ProgramsAreNamed, SearchLooksAway}
use Rattle.pip_any.proofs.Beginning.{raised_alike}
use Rattle.pip_search_commands.specs.RunLaw.{ArePlansFrom, IsNamedBy}
use Rattle.pip_search_commands.proofs.RunsChosen.{StandsAt, due_late, place_in, turn_events}

module _ (own : List ℕ) (look : ℕ → ℕ → ℕ → ℕ) (first : Memory) (g : Menu) (m : Moment) (t0 : ℕ) where
  -- the moment after choices
  abbrev at : List ℕ → Moment
  at cs = after_choices (menu_model first g) m cs

  -- choices lead to a moment that looks like this world at step t, and as many turns were made as have to be counted
  record IsLike (w : World) (t : ℕ) : Type 0 where
    choices : List ℕ
    can : AreChoices (menu_model first g) choices
    since : t0 ≤ t
    late : min (t - t0) g.scope.from ≤ (at choices).turns
    alike : Alike own look w (at choices).world

  -- a line is raised
  raised : (w : World) (t j : ℕ) → In j g.scope.lines → g.scope.from ≤ t - t0 → IsLike w t
      → IsLike (world_of w (E.Raise j)) t
  raised w t j i time h =
      let s : StandsAt g.scope.lines j = place_in j g.scope.lines i in
      let c : ℕ = g.scope.cpus + s.place in
      let here : Moment = at h.choices in
      let above : g.scope.cpus ≤ c = omega arith in
      let there : c - g.scope.cpus ≡ s.place = omega arith in
      let now : g.scope.from ≤ here.turns = omega arith in
      let pick : picked g here.world c ≡ Usual = goes_is g here.world c (omega arith)
      (rw (le-ltb c g.scope.cpus above))
      in
      let acts : pick_acts g here c (picked g here.world c) ≡ Makes (E.Raise j) ∷ [] = rw
      (pick, raise_chosen g.scope here c above now, there, s.is) in
      let turns : pick_turns g here c (picked g here.world c) ≡ here.turns =
      rw (pick, same_turns g.scope here c above) in
      record {
        choices = c ∷ h.choices;
        can = (omega arith, h.can);
        since = h.since;
        late = rw turns h.late;
        alike = rw acts (raised_alike own look w here.world j h.alike);
      }

  -- the lines that are due are raised
  all_raised : (ps : List Plan) (w : World) (t : ℕ) → ArePlansFrom g.scope.lines t0 g.scope.from ps → IsLike w t
      → IsLike (after_acts w (raises ps t)) t
  all_raised [] w t are h = h
  all_raised (p ∷ ps) w t are h = by (is_due p t) refl (λ v. all_raised ps v t are.1)
    where
      by : (b : Bool) → is_due p t ≡ b → ((v : World) → IsLike v t → IsLike (after_acts v (raises ps t)) t)
          → IsLike (after_acts w (cond b (Makes (E.Raise p.line) ∷ raises ps t) (raises ps t))) t
      by true due others =
          let late : g.scope.from ≤ t - t0 = due_late t0 g.scope.from p t are.0.1 h.since due in
          others (world_of w (E.Raise p.line)) (raised w t p.line are.0.0 late h)
      by false due others = others w h

  module _ (ws : List Witness) (most limit count depth : ℕ) (end : Extent)
      (told : IsTold (menu_model first g) m most limit ws count end) (closed : end ≡ Closed depth)
      (away : SearchLooksAway own look first g m) (K : World → ℕ → Type 0)
      (keeps : (w : World) (c : ℕ) (cs : List ℕ) → AreChoices (menu_model first g) cs → Alike own look w (at cs).world
      → K w c → RunsHostile g w c → TurnKeepsToMenu own look g w c) where
    covered : (k : ℕ) → IsCovered end k
    covered k = rw closed tt

    -- a processor has its turn
    turned : (w : World) (t c : ℕ) → c < g.scope.cpus
        → K w c → IsLike w t
        → IsLike (after_acts w (turn w c t)) (t + 1)
        × (text_of (turn w c 0) ≢ [] → IsNamedBy ws (text_of (turn w c 0)) ⊎ TurnStaysInside own look w c)
    turned w t c lt k h =
        let here : Moment = at h.choices in
        let root = root_alike own look w here.world h.alike in
        let name = name_alike own look w here.world c h.alike in
        let x : HasChoice own look g w c here = turns_have_choices own look g w c here h.alike lt
        (away h.choices c h.can lt)
        (λ r. keeps w c h.choices h.can h.alike k ((λ i. is_hostile (root i) (name i) g.may) ∙ r)) in
        let same : after_acts w (turn w c 0) ≡ after_acts w (turn w c t) =
        rw (after-events w (turn w c 0), ← turn_events w c t, ← after-events w (turn w c t)) in (
          record {
            choices = x.choice ∷ h.choices;
            can = (x.can, h.can);
            since = omega arith;
            late = elim x.counts [
              | inl all ↦ omega arith
              | inr more ↦ omega arith
            ];
            alike = rw (← same) x.alike;
          },
          λ some. elim x.same [
            | inl shows ↦
                let n = told.all (text_of (turn w c 0)) (x.choice ∷ h.choices) ((x.can, h.can), sym shows) some
                (covered (length (x.choice ∷ h.choices))) in
                inl (search)
            | inr stays ↦ inr stays
          ],
        )

    -- n steps more
    on : (ps : List Plan) (seed n t : ℕ) (w : World) → 1 ≤ g.scope.cpus → ArePlansFrom g.scope.lines t0 g.scope.from ps
        → EachTurn K w ps seed g.scope.cpus n t → IsLike w t
        → AreNamedTurns ws own look w ps seed g.scope.cpus n t (text_of (steps w ps seed g.scope.cpus n t))
    on ps seed zero t w some are ks h = refl
    on ps seed (suc n) t w some are ks h =
        let cpu : ℕ = schedule seed g.scope.cpus t in
        let rs : List Act = raises ps t in
        let w' : World = after_acts w rs in
        let acts : List Act = turn w' cpu t in
        let st : List Act = step w ps cpu t in
        let one = turned w' t cpu (mod_below (state_after seed (suc t)) g.scope.cpus some) ks.0
        (all_raised ps w t are h) in
        let there : after_acts w' acts ≡ after_acts w st = sym (after-append w rs acts) in
        let others : List Act = steps (after_acts w st) ps seed g.scope.cpus n (t + 1) in
        record {
          rest = text_of others;
          whole = rw (text-append st others, text-append rs acts, text-raises ps t);
          known = one.1;
          goes_on = on ps seed n (t + 1) (after_acts w st) some are ks.1 (rw (← there) one.0);
        }

pub programs_are_named : ProgramsAreNamed
programs_are_named own look first g m most limit count depth ws end told closed some away w alike plans seed n t are
    keeps =
    on own look first g m t ws most limit count depth end told closed away (HostileKeeps own look g)
    (λ w c cs can a k. k) plans seed n t w some are keeps
    (record { choices = []; can = tt; since = omega arith; late = omega arith; alike = alike })

-- a confined partition keeps to the menu where its exits do
confined_keeps : (own : List ℕ) (look : ℕ → ℕ → ℕ → ℕ) (g : Menu) (w v : World) (c : ℕ) → Alike own look w v → ((p : ℕ)
    → name_on v c ≡ Some p → RunsHostile g v c → In p own × IsConfined v.tree p) → HostileExits own look g w c
    → RunsHostile g w c → TurnKeepsToMenu own look g w c
confined_keeps own look g w v c a f x h = by (runs_on w c) refl
  where
    hostile : RunsHostile g v c
    hostile =
        let root = root_alike own look w v a in
        let name = name_alike own look w v c a in
        sym (λ i. is_hostile (root i) (name i) g.may) ∙ h

    by : (o : Option Occupant) → runs_on w c ≡ o → TurnKeepsToMenu own look g w c
    by None k = absurd (nobody_hostile w.tree.root.name g.may
        (cc))
    by (Some r) k =
        let named : name_on v c ≡ Some r.name = rw (← name_alike own look w v c a, k) in
        let (i, confined) = f r.name named hostile in
        confined_keeps_to_menu own look g w c r k i
        (confined_alike look v.tree w.tree r.name (alike_back own look w v a).tree confined) (x h)

pub confined_programs_are_named : ConfinedProgramsAreNamed
confined_programs_are_named own look first g m most limit count depth ws end told end_is some away fits w alike plans
    seed n t are exits =
    on own look first g m t ws most limit count depth end told end_is away (HostileExits own look g)
    (λ w c cs can a k h. confined_keeps own look g w (after_choices (menu_model first g) m cs).world c a
    (λ p q r. fits cs c p can q r) k h) plans seed n t w some are exits
    (record { choices = []; can = tt; since = omega arith; late = omega arith; alike = alike })
