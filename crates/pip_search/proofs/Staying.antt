-- A choice that leads back to the key from which it is made, and shows nothing.
use Rattle.std.proofs.Common.{◌≡◌, ◌+◌, ◌<◌, ℕ, List, [], inl, inr, refl, Some, slice_get, arith}
use Rattle.std.proofs.lemmas.Bool.{cases_eq}
use Rattle.pip_search.specs.Exploring.{StartsRun}
use Rattle.pip_search.specs.Growing.{Grew, Told}
use Rattle.pip_search.specs.Keys.{Keyed, key_of, step_of, visits_of}
use Rattle.pip_search.specs.Searching.{IsSearching}
use Rattle.pip_search.specs.Systems.{LeadsOn, Model}
use Rattle.pip_search.specs.declared.searching.Search.{Search}
use Rattle.pip_search.specs.declared.visits.Visit.{Visit}
use Rattle.pip_search.proofs.Making.{grown_and_told}
use Rattle.pip_search.proofs.Ranking.{ranked_more}

-- a run of equal choices starts somewhere
starts_run : (i : ℕ) (from : Visit) (c : ℕ) → (run : ℕ) × StartsRun i from c run
starts_run i from c = elim (cases_eq i 0) [
  | inl first ↦ (i, inl (inl first, refl))
  | inr later ↦ elim (cases_eq from.choice c) [
    | inl same ↦ (from.run, inr (omega arith, (same, refl)))
    | inr other ↦ (i, inl (inr other, refl))
  ]
]

-- then the choice was made, and nothing is added
pub stayed : (m : Model) (start : List ℕ) (s : Search) (i c : ℕ) (v : Keyed) → IsSearching m start s i c
    → slice_get (visits_of s) i ≡ Some v → c < m.choices → LeadsOn m (key_of v) c (key_of v) []
    → IsSearching m start s i (c + 1)
stayed m start s i c v h at can leads =
    let vs = visits_of s in
    let fs = s.found.items in
    let (run, runs) = starts_run i (step_of v) c in
    let grew : Grew vs vs v.key i c (v.depth + 1) run = inl (record {
      same = refl;
      has = record { place = i; at = record { visit = v; at = at; same = refl } };
    }) in
    let told : Told fs fs [] i c (v.depth + 1) = inl (record { same = refl; has = inl refl }) in
    let r = ranked_more vs vs fs fs v.key [] i c (v.depth + 1) run h.ranked grew told in
    record {
      exploring = grown_and_told m start vs fs i c h.exploring v v.key [] (v.depth + 1) run
          (record { at = at; can = can; leads = leads; depth = refl; run = runs }) vs fs r grew told;
      ranked = r;
      keyed = h.keyed;
      told = h.told;
      kept = h.kept;
    }
