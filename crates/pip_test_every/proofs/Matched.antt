-- The premises of the law on runs whose turns are matched are met: with an empty menu each run of the image that was
-- searched is matched, with no partition and no page left out.
use Rattle.std.proofs.Common.{◌≡◌, ℕ, zero, suc, ◌+◌, ◌-◌, ◌<◌, ◌≤◌, ◌&&◌, ◌⊎◌, inl, inr, nat_lt, Bool, true, false}
use Rattle.std.proofs.Common.{if◌then◌else◌, List, [], ◌∷◌, length, refl, sym, ap, ap₂, ◌∙◌, subst, arith, slice_index}
use Rattle.std.proofs.Common.{slice_get, Option, Some, None, option_map, unwrap_or}
use Rattle.std.proofs.Math.Path.{fun_ext}
use Rattle.std.proofs.lemmas.Bool.{lt-ltb, ltb-false}
use Rattle.std.proofs.lemmas.Nat.{mod_below}
use Rattle.pip_base.specs.declared.outcome.Outcome.TheVariants as O
use Rattle.pip_base.specs.declared.types.Plan.{Plan}
use Rattle.pip_every.specs.Menus.{Menu, Usual, is_hostile, name_on, pick_acts, pick_turns, picked}
use Rattle.pip_every.specs.Moments.{turns_after}
use Rattle.pip_every.proofs.Picking.{goes_is}
use Rattle.pip_every.proofs.Unseen.{IsBut, acts_same, turn_same}
use Rattle.pip_model.specs.Acts.{Makes, after_acts, text_of}
use Rattle.pip_model.specs.Events as E
use Rattle.pip_model.specs.Generator.{state_after}
use Rattle.pip_model.specs.Images.{Image}
use Rattle.pip_model.specs.Run.{raises, schedule, step}
use Rattle.pip_model.specs.Tree.{Tree}
use Rattle.pip_model.specs.Turn.{turn, turn_end}
use Rattle.pip_model.specs.Worlds.{World, runs_on}
use Rattle.pip_model.specs.declared.processors.Occupant.{Occupant}
use Rattle.pip_model.specs.declared.turn_end.TurnEnd.{TurnEnd}
use Rattle.pip_model.specs.declared.turn_end.TurnEnd.TheVariants as N
use Rattle.pip_search_commands.specs.CoverLaw.{AreMatched, IsMatched, LookAlike}
use Rattle.pip_search_commands.specs.SearchDues.{begun_world, image_menu}
use Rattle.pip_search_commands.specs.declared.start.Start.{Start}

-- ---- worlds that look alike with nothing left out differ in their caches at most

cpus_same : (xs ys : List (Option Occupant)) → length ys ≡ length xs
    → ((i : ℕ) → unwrap_or (slice_get xs i) None ≡ unwrap_or (slice_get ys i) None) → xs ≡ ys
cpus_same [] [] n at = refl
cpus_same [] (y ∷ ys) n at = absurd (omega (arith, n))
cpus_same (x ∷ xs) [] n at = absurd (omega (arith, n))
cpus_same (x ∷ xs) (y ∷ ys) n at =
    ap₂ (λ z zs. z ∷ zs) (at 0) (cpus_same xs ys (omega (arith, n)) (λ i. at (suc i)))

runs_same : (w v : World) → LookAlike [] [] w v → (i : ℕ) → runs_on w i ≡ runs_on v i
runs_same w v a i = go (runs_on w i) (runs_on v i) refl refl
  where
    go : (o p : Option Occupant) → runs_on w i ≡ o → runs_on v i ≡ p → runs_on w i ≡ runs_on v i
    go (Some r) p e f = e ∙ sym (a.others i r e (λ k. k))
    go None None e f = e ∙ sym f
    go None (Some r) e f =
        let name : ◌≡◌ {A = Option ℕ} (Some r.name) None = sym (ap (option_map (λ x. x.name)) f) ∙ a.names i
        ∙ ap (option_map (λ x. x.name)) e in
        cc

alike_but : (w v : World) → LookAlike [] [] w v → IsBut w v
alike_but w v a = record {
  tree = ap (λ f. record w.tree { words = f }) (fun_ext (λ g. sym (a.words g (λ i. i)))) ∙ a.tree;
  cpus = cpus_same w.cpus v.cpus a.count (runs_same w v a);
}

looks_alike : (own pages : List ℕ) (w v : World) → IsBut w v → LookAlike own pages w v
looks_alike own pages w v b = record {
  tree = ap {A = Tree} (λ t. record t { words = v.tree.words }) b.tree;
  words = λ g i. ap (λ t. t.words g) (sym b.tree);
  count = ap length (sym b.cpus);
  names = λ cpu. ap (λ cs. option_map (λ r. r.name) (unwrap_or (slice_get cs cpu) None)) (sym b.cpus);
  others = λ cpu r e i. ap (λ cs. unwrap_or (slice_get cs cpu) None) (sym b.cpus) ∙ e;
}

-- ---- a turn

-- a turn counts, or as many turns were made as have to be counted
either : (from n : ℕ) (b : Bool) → nat_lt n from ≡ b
    → (from ≤ (if b then suc n else n)) ⊎ (n < (if b then suc n else n))
either from n true e = inr (omega arith)
either from n false e = inl (ltb-false n from e)

counted : (from n : ℕ) (e : TurnEnd) → (from ≤ turns_after from n e) ⊎ (n < turns_after from n e)
counted from n (N.Polled O.Idle) = inl (omega arith)
counted from n (N.Polled (O.Word w)) = either from n (nat_lt n from) refl
counted from n (N.Polled O.Done) = either from n (nat_lt n from) refl
counted from n (N.Polled (O.Reply s v)) = either from n (nat_lt n from) refl
counted from n (N.Polled (O.Switched p q k)) = either from n (nat_lt n from) refl
counted from n (N.Polled (O.Parked p k)) = either from n (nat_lt n from) refl
counted from n (N.Fetched o) = either from n (nat_lt n from) refl
counted from n N.Ran = either from n (nat_lt n from) refl

-- the choice that is the turn of the processor matches it
matched_turn : (g : Menu) (w : World) (cpu : ℕ) → g.may ≡ [] → cpu < g.scope.cpus → IsMatched [] [] g w cpu
matched_turn g w cpu none inside m sound alike =
    let v : World = m.world in
    let but : IsBut w v = alike_but w v alike in
    let there : nat_lt cpu g.scope.cpus ≡ true = lt-ltb cpu g.scope.cpus inside in
    let pick : picked g v cpu ≡ Usual = goes_is g v cpu (omega (arith, inside))
    (ap (λ ds. nat_lt cpu g.scope.cpus && is_hostile v.tree.root.name (name_on v cpu) ds) none
    ∙ ap (λ b. b && is_hostile v.tree.root.name (name_on v cpu) []) there) in
    let acts : pick_acts g m cpu (picked g v cpu) ≡ turn w cpu 0 = ap (pick_acts g m cpu) pick
    ∙ (ap (λ b. if b then turn v cpu 0 else if nat_lt m.turns g.scope.from then []
    else Makes (E.Raise (slice_index g.scope.lines (cpu - g.scope.cpus))) ∷ []) there
    ∙ sym (turn_same w v cpu 0 but)) in
    let turns : pick_turns g m cpu (picked g v cpu) ≡ turns_after g.scope.from m.turns (turn_end v cpu) =
    ap (pick_turns g m cpu) pick
    ∙ ap (λ b. if b then turns_after g.scope.from m.turns (turn_end v cpu) else m.turns) there in
    record {
      choice = cpu;
      can = omega (arith, inside);
      counts = subst (λ n. (g.scope.from ≤ n) ⊎ (m.turns < n)) (sym turns)
          (counted g.scope.from m.turns (turn_end v cpu));
      same = ap text_of acts;
      alike = subst (λ es. LookAlike [] [] (after_acts w (turn w cpu 0)) (after_acts v es)) (sym acts)
          (looks_alike [] [] (after_acts w (turn w cpu 0)) (after_acts v (turn w cpu 0))
          (acts_same (turn w cpu 0) w v but));
    }

-- ---- a run

matched_run : (g : Menu) → g.may ≡ [] → 0 < g.scope.cpus → (plans : List Plan) (seed n t : ℕ) (w : World)
    → AreMatched [] [] g w plans seed g.scope.cpus n t
matched_run g none some plans seed zero t w = tt
matched_run g none some plans seed (suc n) t w = (
  matched_turn g (after_acts w (raises plans t)) (schedule seed g.scope.cpus t) none
      (mod_below (state_after seed (suc t)) g.scope.cpus some),
  matched_run g none some plans seed n (t + 1) (after_acts w (step w plans (schedule seed g.scope.cpus t) t)),
)

-- each run of the image that was searched: its turns are matched, and it begins alike
image_matched : (i : Image) (from : ℕ) (start : Start) → 0 < i.cpus → (plans : List Plan) (seed n : ℕ)
    → LookAlike [] [] (begun_world i start) (begun_world i start)
    × AreMatched [] [] (image_menu i from []) (begun_world i start) plans seed i.cpus n start.count
image_matched i from start some plans seed n = (
  looks_alike [] [] (begun_world i start) (begun_world i start) (record { tree = refl; cpus = refl }),
  matched_run (image_menu i from []) refl some plans seed n start.count (begun_world i start),
)
