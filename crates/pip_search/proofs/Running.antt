-- Runs of equal choices.
use Rattle.std.proofs.Common.{◌≡◌, ◌≢◌, ℕ, zero, suc, ◌+◌, ◌-◌, ◌<◌, inl, inr, List, [], ◌∷◌, ◌++◌, length, replicate}
use Rattle.std.proofs.Common.{Some, slice_get, refl, ap, sym, ◌∙◌, arith, append_assoc, reverse, take}
use Rattle.std.specs.Prelude.{slice_index}
use Rattle.std.proofs.lemmas.Bool.{cases_eq}
use Rattle.std.proofs.lemmas.Bool.Decides.{nat_tests}
use Rattle.std.proofs.lemmas.List.{reverse-append, reverse-reverse, take_more}
use Rattle.pip_search.specs.Ways.{AreRuns, AreTraced, run_before, run_of, runs_of, choices_of, way_to}
use Rattle.pip_search.specs.declared.visits.Visit.{Visit}
use Rattle.pip_search.specs.declared.found.Found.{Found}
use Rattle.pip_search.specs.declared.ways.Run.{Run}
use Rattle.pip_search.proofs.Making.{at-same}
use Rattle.pip_search.proofs.Tracing.{IsRunBack, run_back, way_none}

pub before_none : (r : Run) → run_before r [] ≡ r ∷ []
unfolding run_before
before_none r = refl

before_same : (r q : Run) (qs : List Run) → r.choice ≡ q.choice
    → run_before r (q ∷ qs) ≡ run_of r.choice (r.count + q.count) ∷ qs
unfolding run_before
before_same r q qs e = grind (arith, nat_tests)

before_other : (r q : Run) (qs : List Run) → r.choice ≢ q.choice → run_before r (q ∷ qs) ≡ r ∷ (q ∷ qs)
unfolding run_before
before_other r q qs e = grind (arith, nat_tests)

-- two runs of one choice before others
pub join_same : (first next : Run) (rs : List Run) → first.choice ≡ next.choice
    → run_before (run_of first.choice (first.count + next.count)) rs ≡ run_before first (run_before next rs)
join_same first next [] e = before_none (run_of first.choice (first.count + next.count))
    ∙ sym (rw (before_none next) (before_same first next [] e))
join_same first next (q ∷ qs) e = elim (cases_eq next.choice q.choice) [
  | inl same ↦ before_same (run_of first.choice (first.count + next.count)) q qs (e ∙ same)
      ∙ ap (λ n. run_of first.choice n ∷ qs) (omega arith)
      ∙ sym (ap (λ x. run_before first x) (before_same next q qs same)
      ∙ before_same first (run_of next.choice (next.count + q.count)) qs e)
  | inr other ↦ before_other (run_of first.choice (first.count + next.count)) q qs (λ f. other (sym e ∙ f))
      ∙ sym (rw (before_other next q qs other) (before_same first next (q ∷ qs) e))
]

-- two runs of two choices
pub join_other : (first next : Run) (rs : List Run) → first.choice ≢ next.choice
    → first ∷ run_before next rs ≡ run_before first (run_before next rs)
join_other first next [] e = rw (before_none next, ← before_other first next [] e, ← before_none next)
join_other first next (q ∷ qs) e = elim (cases_eq next.choice q.choice) [
  | inl same ↦ rw (
    before_same next q qs same,
    ← before_other first (run_of next.choice (next.count + q.count)) qs e,
    ←
        before_same next q qs same,
  )
  | inr other ↦ rw (before_other next q qs other, ← before_other first next (q ∷ qs) e, ← before_other next q qs other)
]

runs_more : (c : ℕ) (cs : List ℕ) → runs_of (c ∷ cs) ≡ run_before (run_of c 1) (runs_of cs)
unfolding runs_of
runs_more c cs = refl

pub runs_none : runs_of [] ≡ []
unfolding runs_of
runs_none = refl

-- the runs of a choice that is made many times, and then others
pub runs_replicate : (n c : ℕ) (cs : List ℕ) → 0 < n
    → runs_of (replicate n c ++ cs) ≡ run_before (run_of c n) (runs_of cs)
runs_replicate zero c cs some = absurd (omega arith)
runs_replicate (suc zero) c cs some = runs_more c cs
runs_replicate (suc (suc n)) c cs some = runs_more c (replicate (suc n) c ++ cs)
    ∙ ap (λ x. run_before (run_of c 1) x) (runs_replicate (suc n) c cs (omega arith))
    ∙ sym (join_same (run_of c 1) (run_of c (suc n)) (runs_of cs) refl)
    ∙ ap (λ m. run_before (run_of c m) (runs_of cs)) (omega arith)

pub runs_first : (c : ℕ) (cs : List ℕ) → run_before (run_of c 1) (runs_of cs) ≡ runs_of (c ∷ cs)
runs_first c cs = sym (runs_more c cs)

-- ---- a choice more, where the last run stands last

-- of the choice of the last
pub last_longer : (front : List Run) (q : Run) (c n : ℕ) → q.choice ≡ c → n ≡ q.count + 1
    → reverse (front ++ run_of c n ∷ []) ≡ run_before (run_of c 1) (reverse (front ++ q ∷ []))
last_longer front q c n same more =
    reverse-append front (run_of c n ∷ [])
    ∙ ap (λ k. run_of c k ∷ reverse front) (let e : n ≡ 1 + q.count = omega arith in e)
    ∙ sym (rw (reverse-append front (q ∷ []), before_same (run_of c 1) q (reverse front) (sym same)))

-- of another
pub last_other : (front : List Run) (q : Run) (c : ℕ) → (q.choice ≡ c → ⊥)
    → reverse ((front ++ q ∷ []) ++ run_of c 1 ∷ []) ≡ run_before (run_of c 1) (reverse (front ++ q ∷ []))
last_other front q c other =
    rw (
      reverse-append (front ++ q ∷ []) (run_of c 1 ∷ []),
      reverse-append front (q ∷ []),
      ← before_other (run_of c 1)
          q (reverse front) (λ e. other (sym e)),
      ← reverse-append front (q ∷ []),
    )

-- the runs of the first choices, and one more
pub runs_along_more : (cs : List ℕ) (i : ℕ) (rs more : List Run) → i < length cs
    → rs ≡ reverse (runs_of (reverse (take i cs)))
    → reverse more ≡ run_before (run_of (slice_index cs i) 1) (reverse rs)
    → more ≡ reverse (runs_of (reverse (take (i + 1) cs)))
runs_along_more cs i rs more inside is step =
    let taken : reverse (take (i + 1) cs) ≡ slice_index cs i ∷ reverse (take i cs) =
    rw (take_more cs i 0 inside, reverse-append (take i cs) (slice_index cs i ∷ [])) in
    rw (
      ← reverse-reverse more,
      step,
      is,
      reverse-reverse (runs_of (reverse (take i cs))),
      runs_first
          (slice_index cs i) (reverse (take i cs)),
      ← taken,
    )

-- ---- they are runs of this list

unfolded_before : (c : ℕ) (rs : List Run) → choices_of (run_before (run_of c 1) rs) ≡ c ∷ choices_of rs
unfolding choices_of
unfolded_before c [] = rw (before_none (run_of c 1))
unfolded_before c (q ∷ qs) = elim (cases_eq c q.choice) [
  | inl same ↦ ap choices_of (before_same (run_of c 1) q qs same)
      ∙ ap (λ n. replicate n c ++ choices_of qs) (let e : 1 + q.count ≡ suc q.count = omega arith in e)
      ∙ ap (λ d. c ∷ (replicate q.count d ++ choices_of qs)) same
  | inr other ↦ rw (before_other (run_of c 1) q qs other)
]

pub unfolded_runs : (cs : List ℕ) → choices_of (runs_of cs) ≡ cs
unfolding choices_of runs_of
unfolded_runs [] = refl
unfolded_runs (c ∷ cs) = rw (unfolded_before c (runs_of cs), unfolded_runs cs)

-- a run that goes on is one, too
longer : (c n : ℕ) (q : Run) (qs : List Run) → c ≡ q.choice → 0 < n → AreRuns (q ∷ qs) → AreRuns (run_of c n ∷ qs)
longer c n q [] same some h = some
longer c n q (r ∷ rs) same some (a, (b, rest)) = (some, (λ e. b (cc), rest))

are_before : (c : ℕ) (rs : List Run) → AreRuns rs → AreRuns (run_before (run_of c 1) rs)
are_before c [] h = rw (before_none (run_of c 1)) (let e : 0 < 1 = omega arith in e)
are_before c (q ∷ qs) h = elim (cases_eq c q.choice) [
  | inl same ↦ rw (before_same (run_of c 1) q qs same) (longer c (1 + q.count) q qs same (omega arith) h)
  | inr other ↦ rw (before_other (run_of c 1) q qs other) (let e : 0 < 1 = omega arith in (e, (other, h)))
]

pub are_runs : (cs : List ℕ) → AreRuns (runs_of cs)
unfolding runs_of
are_runs [] = tt
are_runs (c ∷ cs) = are_before c (runs_of cs) (are_runs cs)

-- ---- a way back, run by run

module _ (vs : List Visit) (fs : List Found) (t : AreTraced vs fs) (done : List Run) (choice end j : ℕ) (all : List Run)
    (u : Visit) (at : slice_get vs j ≡ Some u) (some : 0 < j) (low : u.depth < end)
    (h : done ++ run_before (run_of choice (end - u.depth)) (runs_of (way_to vs j)) ≡ all) where
  back : IsRunBack vs j u
  back = run_back vs fs t (suc j) j u (omega arith) some at

  start_is : (w : Visit) → slice_get vs u.run ≡ Some w → back.start ≡ w
  start_is w e = at-same vs u.run back.start w back.at e

  -- the run that ends here is before those that come earlier
  whole : runs_of (way_to vs j) ≡ run_before (run_of u.choice back.count) (runs_of (way_to vs u.run))
  whole = rw (back.way, runs_replicate back.count u.choice (way_to vs u.run) back.some)

  pub goes_on : choice ≡ u.choice → (w : Visit) → slice_get vs u.run ≡ Some w
      → done ++ run_before (run_of choice (end - w.depth)) (runs_of (way_to vs u.run)) ≡ all
  goes_on same w e =
      let depth : back.start.depth ≡ w.depth = rw (start_is w e) in
      let deep = back.depth in
      let count : end - w.depth ≡ end - u.depth + back.count = omega arith in
      rw (
        count,
        join_same (run_of choice (end - u.depth)) (run_of u.choice back.count) (runs_of (way_to vs u.run))
            same,
        ← whole,
        h,
      )

  pub begins_anew : choice ≢ u.choice → (more : List Run) → more ≡ done ++ run_of choice (end - u.depth) ∷ []
      → (w : Visit) → slice_get vs u.run ≡ Some w
      → more ++ run_before (run_of u.choice (u.depth - w.depth)) (runs_of (way_to vs u.run)) ≡ all
  begins_anew other more grew w e =
      let depth : back.start.depth ≡ w.depth = rw (start_is w e) in
      let deep = back.depth in
      let count : u.depth - w.depth ≡ back.count = omega arith in
      let rest = runs_of (way_to vs u.run) in
      let own = run_of choice (end - u.depth) in
      rw (
        count,
        grew,
        append_assoc done (own ∷ []) (run_before (run_of u.choice back.count) rest),
        join_other own
            (run_of u.choice back.count) rest other,
        ← whole,
        h,
      )

-- at the first visit all runs are there
pub all_joined : (vs : List Visit) (fs : List Found) → AreTraced vs fs → (done : List Run) (choice end j : ℕ)
    (all : List Run)
    (u : Visit) → slice_get vs j ≡ Some u → j ≡ 0
    → done ++ run_before (run_of choice (end - u.depth)) (runs_of (way_to vs j)) ≡ all
    → done ++ run_of choice end ∷ [] ≡ all
all_joined vs fs t done choice end j all u at first h =
    let depth : u.depth ≡ 0 = elim (t.visits j u at) [
      | inl none ↦ none.1.depth
      | inr from ↦ absurd (omega arith)
    ] in
    let count : end ≡ end - u.depth = omega arith in
    rw (count, ← before_none (run_of choice (end - u.depth)), ← runs_none, ← way_none vs fs t, ← first, h)
