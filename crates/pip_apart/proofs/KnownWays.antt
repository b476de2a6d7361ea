-- The choices of the runs of ways.
use Rattle.std.proofs.Common.{◌≡◌, ℕ, zero, suc, ◌<◌, List, [], ◌∷◌, ◌++◌, sym, ap, ◌∙◌, subst, true, false, length}
use Rattle.std.proofs.Common.{Some, map, get_or}
use Rattle.std.specs.Prelude.{◌==◌, ◌+◌, if◌then◌else◌, filter, reverse, slice_get}
use Rattle.std.specs.List.{AllByRecursion}
use Rattle.std.proofs.lemmas.List.{reverse-append}
use Rattle.pip_search.specs.Ways.{found_way, is_covered, run_before, run_of, runs_of, witness_of, witnesses_of}
use Rattle.pip_search.specs.declared.found.Found.{Found}
use Rattle.pip_search.specs.declared.searching.Extent.{Extent}
use Rattle.pip_search.specs.declared.visits.Visit.{Visit}
use Rattle.pip_search.specs.declared.ways.Run.{Run}
use Rattle.pip_every.specs.Told.{AreWaysOf, runs_to}
use Rattle.pip_every.proofs.LabelLines.{found_at, runs_here}

before_known : (n : ℕ) (r : Run) (rs : List Run) → r.choice < n → AllByRecursion (λ r. r.choice < n) rs
    → AllByRecursion (λ r. r.choice < n) (run_before r rs)
unfolding run_before
before_known n r [] h all = (h, tt)
before_known n r (q ∷ rs) h all = elim (r.choice == q.choice) as (λ b. AllByRecursion (λ r. r.choice < n) (if b
    then run_of r.choice (r.count + q.count) ∷ rs else r ∷ (q ∷ rs))) [
      | true ↦ (h, all.1)
      | false ↦ (h, all)
    ]

runs_known : (n : ℕ) (cs : List ℕ) → AllByRecursion (λ c. c < n) cs → AllByRecursion (λ r. r.choice < n) (runs_of cs)
unfolding runs_of
runs_known n [] all = tt
runs_known n (c ∷ cs) all = before_known n (run_of c 1) (runs_of cs) all.0 (runs_known n cs all.1)

both_known : (n : ℕ) (rs qs : List Run) → AllByRecursion (λ r. r.choice < n) rs → AllByRecursion (λ r. r.choice < n) qs
    → AllByRecursion (λ r. r.choice < n) (rs ++ qs)
both_known n [] qs all more = more
both_known n (r ∷ rs) qs all more = (all.0, both_known n rs qs all.1 more)

reverse_known : (n : ℕ) (rs : List Run) → AllByRecursion (λ r. r.choice < n) rs
    → AllByRecursion (λ r. r.choice < n) (reverse rs)
reverse_known n [] all = tt
reverse_known n (r ∷ rs) all = rw (reverse-append (r ∷ []) rs)
    (both_known n (reverse rs) (r ∷ []) (reverse_known n rs all.1) (all.0, tt))

-- what holds of each choice holds of the choice of each run
each_run : (n : ℕ) (way : List ℕ) → AllByRecursion (λ c. c < n) way
    → AllByRecursion (λ r. r.choice < n) (reverse (runs_of way))
each_run n way all = reverse_known n (runs_of way) (runs_known n way all)

-- a label that was covered is among the witnesses
module _ (vs : List Visit) (v : Extent) where
  witnessed : (fs : List Found) (k : ℕ) (f : Found) → slice_get fs k ≡ Some f → is_covered v f.depth ≡ true
      → (j : ℕ) × (slice_get (witnesses_of v vs fs) j ≡ Some (witness_of vs f))
  witnessed [] k f at covered = cc
  witnessed (e ∷ fs) zero f at covered =
      let is : e ≡ f = cc in
      let yes : is_covered v e.depth ≡ true = rw (is, covered) in (
        0,
        rw (yes, is),
      )
  witnessed (e ∷ fs) (suc k) f at covered =
      let (j, there) = witnessed fs k f at covered in
      elim (is_covered v e.depth) as (λ b. (j : ℕ) × (slice_get (map (witness_of vs) (if b
      then e ∷ filter (λ f. is_covered v f.depth) fs else filter (λ f. is_covered v f.depth) fs)) j
      ≡ Some (witness_of vs f))) [
        | true ↦ (suc j, there)
        | false ↦ (j, there)
      ]

-- so each choice of the runs of its way is one of n
pub known_here : {W : Type 0} (items : W → List Run) (vs : List Visit) (fs : List Found) (ws : List W)
    → map items ws ≡ runs_to vs fs → (k : ℕ) → k < length fs → (f : Found) → f ≡ get_or fs k f → (w : W)
    → w ≡ get_or ws k w → (v : Extent) → true ≡ is_covered v f.depth → (n : ℕ) → AreWaysOf n (witnesses_of v vs fs)
    → AllByRecursion (λ r. r.choice < n) (items w)
known_here items vs fs ws same k less f here w there v covered n known =
    let at : slice_get fs k ≡ Some f = found_at items vs fs ws same k less f here w there in
    let (j, is) = witnessed vs v fs k f at (sym covered) in
    rw (runs_here items vs fs ws same k less f here w there) (each_run n (found_way vs f) (known.each j _ is))
