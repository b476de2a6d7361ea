-- The ways to visits, and the runs of equal choices that they are made of.
use Rattle.std.specs.Prelude.{◌≡◌, ◌≢◌, ℕ, zero, suc, ◌+◌, ◌<◌, ◌⊎◌, List, [], ◌∷◌, ◌++◌, map, replicate, Option, Some}
use Rattle.std.specs.Prelude.{None, slice_get, nat_le, ◌==◌, if◌then◌else◌, Bool, true, filter}
use Rattle.pip_search.specs.Began.{IsRoot}
use Rattle.pip_search.specs.Exploring.{StartsRun}
use Rattle.pip_search.specs.Summary.{Witness}
use Rattle.pip_search.specs.declared.visits.Visit.{Visit}
use Rattle.pip_search.specs.declared.found.Found.{Found}
use Rattle.pip_search.specs.declared.searching.Extent.{Extent}
use Rattle.pip_search.specs.declared.searching.Extent.TheVariants.{Closed, Stopped, Within}
use Rattle.pip_search.specs.declared.ways.Run.{Run}

-- the choice of a visit, and then what leads to its parent
abbrev pub choices_back : Option Visit → (ℕ → List ℕ) → List ℕ
choices_back None before = []
choices_back (Some u) before = u.choice ∷ before u.parent

-- the way to visit j, back over at most n parents, the last choice first
unfoldable pub way_back : ℕ → List Visit → ℕ → List ℕ
way_back zero vs j = []
way_back (suc n) vs zero = []
way_back (suc n) vs (suc j) = choices_back (slice_get vs (suc j)) (way_back n vs)

-- the way to visit j, the last choice first
abbrev pub way_to : List Visit → ℕ → List ℕ
way_to vs j = way_back j vs j

-- the way on which a label was found
abbrev pub found_way : List Visit → Found → List ℕ
found_way vs f = f.choice ∷ way_to vs f.at

-- that many choices were all gone through
abbrev pub is_covered : Extent → ℕ → Bool
is_covered (Closed depth) n = true
is_covered (Within depth) n = nat_le n depth
is_covered (Stopped depth) n = nat_le n depth

-- a label and the way on which it was found
abbrev pub witness_of : List Visit → Found → Witness
witness_of vs f = record { label = f.label.items; way = found_way vs f }

-- the labels that were covered, in the order in which they were found, with their ways
abbrev pub witnesses_of : Extent → List Visit → List Found → List Witness
witnesses_of verdict vs fs = map (witness_of vs) (filter (λ f. is_covered verdict f.depth) fs)

-- a choice, that many times
abbrev pub run_of : ℕ → ℕ → Run
run_of c n = record { choice = c; count = n }

-- a run before others: one with the first of them where that is of the same choice
unfoldable pub run_before : Run → List Run → List Run
run_before r [] = r ∷ []
run_before r (q ∷ qs) = if r.choice == q.choice then run_of r.choice (r.count + q.count) ∷ qs else r ∷ (q ∷ qs)

-- the runs of equal neighbours, in the order of the list
unfoldable pub runs_of : List ℕ → List Run
runs_of [] = []
runs_of (c ∷ cs) = run_before (run_of c 1) (runs_of cs)

-- what runs are made of
unfoldable pub choices_of : List Run → List ℕ
choices_of [] = []
choices_of (r ∷ rs) = replicate r.count r.choice ++ choices_of rs

-- runs have choices, and neighbours differ
abbrev pub AreRuns : List Run → Type 0
AreRuns [] = Unit {0}
AreRuns (r ∷ []) = 0 < r.count
AreRuns (r ∷ (q ∷ rs)) = (0 < r.count) × ((r.choice ≢ q.choice) × AreRuns (q ∷ rs))

-- a visit that is not the first has a parent before it, and its run of equal choices
pub record ComesFrom (vs : List Visit) (j : ℕ) (u : Visit) : Type 0 where
  pub from : Visit
  pub at : slice_get vs u.parent ≡ Some from
  pub earlier : u.parent < j
  pub depth : u.depth ≡ from.depth + 1
  pub run : StartsRun u.parent from u.choice u.run

-- a label was shown by a choice of a visit
pub record ComesAt (vs : List Visit) (f : Found) : Type 0 where
  pub from : Visit
  pub at : slice_get vs f.at ≡ Some from
  pub depth : f.depth ≡ from.depth + 1

-- all visits but the first, to which nothing leads, and all labels can be traced back
pub record AreTraced (vs : List Visit) (fs : List Found) : Type 0 where
  pub visits : (j : ℕ) (u : Visit) → slice_get vs j ≡ Some u → ((j ≡ 0) × IsRoot u) ⊎ ComesFrom vs j u
  pub labels : (k : ℕ) (f : Found) → slice_get fs k ≡ Some f → ComesAt vs f
