-- A search with a menu that closed names each line of a run whose turns are matched by its choices.
use Rattle.std.proofs.Common.{◌≡◌, ◌≢◌, ℕ, zero, suc, ◌+◌, ◌-◌, ◌≤◌, inl, inr, min, List, [], ◌∷◌, length}
use Rattle.std.proofs.Common.{refl, Bool, true, false, if◌then◌else◌, sym, arith}
use Rattle.std.proofs.lemmas.Bool.{le-ltb}
use Rattle.pip_base.specs.declared.types.Plan.{Plan}
use Rattle.pip_every.specs.Menus.{Menu, Usual, menu_model, pick_acts, pick_turns, picked}
use Rattle.pip_every.specs.Moments.{Moment}
use Rattle.pip_every.proofs.Choosing.{raise_chosen, same_turns}
use Rattle.pip_every.proofs.Picking.{goes_is}
use Rattle.pip_base.specs.Memory.{Memory}
use Rattle.pip_model.specs.Acts.{Act, Makes, after_acts, text_of}
use Rattle.pip_model.specs.Due.{is_due}
use Rattle.pip_model.specs.Events as E
use Rattle.pip_model.specs.Lists.{In}
use Rattle.pip_model.specs.Run.{raises, schedule, step, steps}
use Rattle.pip_model.specs.Turn.{turn, world_of}
use Rattle.pip_model.specs.Worlds.{World}
use Rattle.pip_model.proofs.OnLists.Acts.{after-append, after-events, text-append, text-raises}
use Rattle.pip_search.specs.Reached.{AreChoices, IsCovered}
use Rattle.pip_search.specs.Summary.{IsTold, Witness}
use Rattle.pip_search.specs.Systems.{after_choices}
use Rattle.pip_search.specs.declared.searching.Extent.{Extent}
use Rattle.pip_search.specs.declared.searching.Extent.TheVariants.{Closed}
use Rattle.pip_search_commands.specs.CoverLaw.{AreMatched, IsMatched, LookAlike, MatchedRunsAreNamed, Matches}
use Rattle.pip_search_commands.specs.RunLaw.{AreLinesOf, ArePlansFrom, IsNamedBy}
use Rattle.pip_search_commands.specs.SearchDues.{begun_moment, begun_world, image_menu, most_choices}
use Rattle.pip_search_commands.proofs.EveryLines.{lines_are_of_runs}
use Rattle.pip_search_commands.proofs.RunsChosen.{StandsAt, due_late, place_in, turn_events}

-- a line that is raised in both keeps worlds alike
alike_raised : (own pages : List ℕ) (w v : World) (j : ℕ) → LookAlike own pages w v
    → LookAlike own pages (world_of w (E.Raise j)) (world_of v (E.Raise j))
alike_raised own pages w v j a = record {
  tree = cc (a.tree);
  words = a.words;
  count = a.count;
  names = a.names;
  others = a.others;
}

module _ (first : Memory) (g : Menu) (m : Moment) (t0 : ℕ) (own pages : List ℕ) where
  -- the moment after choices
  abbrev at : List ℕ → Moment
  at cs = after_choices (menu_model first g) m cs

  -- choices lead to a moment that looks like this world at step t, and as many turns were made as have to be counted
  record IsLike (w : World) (t : ℕ) : Type 0 where
    choices : List ℕ
    can : AreChoices (menu_model first g) choices
    since : t0 ≤ t
    late : min (t - t0) g.scope.from ≤ (at choices).turns
    alike : LookAlike own pages w (at choices).world

  -- a line is raised
  raised : (w : World) (t j : ℕ) → In j g.scope.lines → g.scope.from ≤ t - t0 → IsLike w t
      → IsLike (world_of w (E.Raise j)) t
  raised w t j i time h =
      let s : StandsAt g.scope.lines j = place_in j g.scope.lines i in
      let c : ℕ = g.scope.cpus + s.place in
      let here : Moment = at h.choices in
      let above : g.scope.cpus ≤ c = omega arith in
      let there : c - g.scope.cpus ≡ s.place = omega arith in
      let now : g.scope.from ≤ here.turns = omega arith in
      let pick : picked g here.world c ≡ Usual = goes_is g here.world c (omega arith)
      (rw (le-ltb c g.scope.cpus above))
      in
      let acts : pick_acts g here c (picked g here.world c) ≡ Makes (E.Raise j) ∷ [] = rw
      (pick, raise_chosen g.scope here c above now, there, s.is) in
      let turns : pick_turns g here c (picked g here.world c) ≡ here.turns =
      rw (pick, same_turns g.scope here c above) in
      record {
        choices = c ∷ h.choices;
        can = (omega arith, h.can);
        since = h.since;
        late = rw turns h.late;
        alike = rw acts (alike_raised own pages w here.world j h.alike);
      }

  -- the lines that are due are raised
  all_raised : (ps : List Plan) (w : World) (t : ℕ) → ArePlansFrom g.scope.lines t0 g.scope.from ps → IsLike w t
      → IsLike (after_acts w (raises ps t)) t
  all_raised [] w t are h = h
  all_raised (p ∷ ps) w t are h = by (is_due p t) refl (λ v. all_raised ps v t are.1)
    where
      by : (b : Bool) → is_due p t ≡ b → ((v : World) → IsLike v t → IsLike (after_acts v (raises ps t)) t)
          → IsLike (after_acts w (if b then Makes (E.Raise p.line) ∷ raises ps t else raises ps t)) t
      by true due others =
          let late : g.scope.from ≤ t - t0 = due_late t0 g.scope.from p t are.0.1 h.since due in
          others (world_of w (E.Raise p.line)) (raised w t p.line are.0.0 late h)
      by false due others = others w h

  module _ (ws : List Witness) (most limit count depth : ℕ) (end : Extent)
      (told : IsTold (menu_model first g) m most limit ws count end) (closed : end ≡ Closed depth) where
    covered : (k : ℕ) → IsCovered end k
    covered k = rw closed tt

    -- a processor has its turn, which a choice matches
    turned : (w : World) (t c : ℕ) → IsMatched own pages g w c → IsLike w t
        → IsLike (after_acts w (turn w c t)) (t + 1)
        × (text_of (turn w c 0) ≢ [] → IsNamedBy ws (text_of (turn w c 0)))
    turned w t c match h =
        let here : Moment = at h.choices in
        let k = told.counted.all h.choices h.can (covered (length h.choices)) in
        let x : Matches own pages g w c here = match here k.stands.stands.sound h.alike in
        let same : after_acts w (turn w c 0) ≡ after_acts w (turn w c t) =
        rw (after-events w (turn w c 0), ← turn_events w c t, ← after-events w (turn w c t)) in (
          record {
            choices = x.choice ∷ h.choices;
            can = (x.can, h.can);
            since = omega arith;
            late = elim x.counts [
              | inl all ↦ omega arith
              | inr more ↦ omega arith
            ];
            alike = rw (← same) x.alike;
          },
          λ some.
              let n = told.all (text_of (turn w c 0)) (x.choice ∷ h.choices) ((x.can, h.can), sym x.same) some
              (covered (length (x.choice ∷ h.choices))) in
              search,
        )

    -- n steps more
    on : (ps : List Plan) (seed c n t : ℕ) (w : World) → ArePlansFrom g.scope.lines t0 g.scope.from ps
        → AreMatched own pages g w ps seed c n t → IsLike w t
        → AreLinesOf (IsNamedBy ws) t n (text_of (steps w ps seed c n t))
    on ps seed c zero t w are match h = refl
    on ps seed c (suc n) t w are match h =
        let cpu : ℕ = schedule seed c t in
        let rs : List Act = raises ps t in
        let w' : World = after_acts w rs in
        let acts : List Act = turn w' cpu t in
        let st : List Act = step w ps cpu t in
        let one = turned w' t cpu match.0 (all_raised ps w t are h) in
        let there : after_acts w' acts ≡ after_acts w st = sym (after-append w rs acts) in
        let others : List Act = steps (after_acts w st) ps seed c n (t + 1) in
        record {
          label = text_of (turn w' cpu 0);
          line = text_of acts;
          rest = text_of others;
          whole = rw (text-append st others, text-append rs acts, text-raises ps t);
          same = lines_are_of_runs w' cpu t;
          known = one.1;
          goes_on = on ps seed c n (t + 1) (after_acts w st) are match.1 (rw (← there) one.0);
        }

pub matched_runs_are_named : MatchedRunsAreNamed
matched_runs_are_named own pages menu states from depth most start i j v s closed cpus alike ps seed n are match =
    let t : ℕ = start.count in
    let w : World = begun_world j start in
    rw (← cpus) at (on s.first (image_menu i from menu.may) (begun_moment i start) t own pages s.found
    (most_choices most) states s.count depth s.verdict s.told closed ps seed i.cpus n t w are match
    (record { choices = []; can = tt; since = omega arith; late = omega arith; alike = alike }))
