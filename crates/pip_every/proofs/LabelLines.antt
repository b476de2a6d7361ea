-- The labels that were found, one by one.
use Rattle.std.proofs.Common.{◌≡◌, ℕ, zero, suc, ◌+◌, ◌-◌, ◌<◌, ◌≤◌, List, [], ◌∷◌, ◌++◌, length, take, refl, sym, ap}
use Rattle.std.proofs.Common.{◌∙◌, subst, arith, true, false, Some, map, get_or, length-append}
use Rattle.std.specs.Prelude.{if◌then◌else◌, flat_map, filter, slice_get, option_map, reverse, codes, decimal}
use Rattle.std.proofs.Math.Seq.{take-length}
use Rattle.std.proofs.lemmas.List.{length-map, take-append-le}
use Rattle.std.proofs.lemmas.Option.{slice_get-get_or, slice_get-map}
use Rattle.pip_io.specs.Taken.{Taken, Appends}
use Rattle.pip_io.proofs.Taken.{Appends-nil}
use Rattle.pip_search.specs.Ways.{AreTraced, found_way, is_covered, runs_of, witness_of, witnesses_of}
use Rattle.pip_search.specs.declared.found.Found.{Found}
use Rattle.pip_search.specs.declared.searching.Extent.{Extent}
use Rattle.pip_search.specs.declared.visits.Visit.{Visit}
use Rattle.pip_search.specs.declared.ways.Run.{Run}
use Rattle.pip_search.proofs.Tracing.{way_trail}
use Rattle.pip_every.specs.Texts.{inner, spaced_run, witness_line}
use Rattle.pip_every.specs.Told.{runs_to}
use Rattle.pip_io.proofs.Piecewise.{one_more}

-- what stands at a place of a list
pub within : {A : Type 0} (xs : List A) (k : ℕ) → k < length xs → (x : A) × (slice_get xs k ≡ Some x)
within [] k less = absurd (omega (arith, less))
within (x ∷ xs) zero less = (x, refl)
within (x ∷ xs) (suc k) less = within xs k (omega (arith, less))

-- all of a list
pub all_taken : {A : Type 0} (xs : List A) (k : ℕ) → length xs ≤ k → take k xs ≡ xs
all_taken [] zero most = refl
all_taken [] (suc k) most = refl
all_taken (x ∷ xs) zero most = absurd (omega (arith, most))
all_taken (x ∷ xs) (suc k) most = ap (λ l. x ∷ l) (all_taken xs k (omega (arith, most)))

-- a line of a trace without its first byte and its last
pub inner_of : (x y : ℕ) (body : List ℕ) → inner (x ∷ (body ++ y ∷ [])) ≡ body
inner_of x y body =
    let long : length (body ++ y ∷ []) ≡ length body + 1 = length-append body (y ∷ []) in
    let count : length (x ∷ (body ++ y ∷ [])) - 2 ≡ length body = omega (arith, long) in
    ap (λ n. take n (body ++ y ∷ [])) count
    ∙ (take-append-le (length body) body (y ∷ []) (omega arith) ∙ take-length body)

-- ---- their runs

module _ (vs : List Visit) where
  one_taken : (fs : List Found) (k : ℕ) (f : Found) → slice_get fs k ≡ Some f
      → runs_to vs (take (suc k) fs) ≡ runs_to vs (take k fs) ++ reverse (runs_of (found_way vs f)) ∷ []
  one_taken [] k f at = cc
  one_taken (e ∷ fs) zero f at = ap (λ f. reverse (runs_of (found_way vs f)) ∷ []) (let is : e ≡ f = cc in is)
  one_taken (e ∷ fs) (suc k) f at = ap (λ rss. reverse (runs_of (found_way vs e)) ∷ rss) (one_taken fs k f at)

  -- the runs of one label more
  pub runs_next : (fs : List Found) (k : ℕ) (rss : List (List Run)) (rs : List Run) → k < length fs
      → rss ≡ runs_to vs (take k fs)
      → ((f : Found) → slice_get fs k ≡ Some f → rs ≡ reverse (runs_of (found_way vs f)))
      → rss ++ rs ∷ [] ≡ runs_to vs (take (k + 1) fs)
  runs_next fs k rss rs less before way =
      let (f, at) = within fs k less in
      let one : suc k ≡ k + 1 = omega arith in
      ap (λ q. q ++ rs ∷ []) before ∙ ap (λ r. runs_to vs (take k fs) ++ r ∷ []) (way f at)
      ∙ (sym (one_taken fs k f at) ∙ ap (λ j. runs_to vs (take j fs)) one)

-- ---- what AreTraced says of a label

-- a label was found by as many choices as its way has
pub way_long : (vs : List Visit) (fs : List Found) → AreTraced vs fs → (k : ℕ) (f : Found) → slice_get fs k ≡ Some f
    → length (found_way vs f) ≡ f.depth
way_long vs fs t k f at =
    let come = t.labels k f at in
    let (trail, long) = way_trail vs fs t (suc f.at) f.at come.from (omega arith) come.at in
    let depth = come.depth in omega (arith, long, depth)

-- ---- their lines

-- the line of a label, if it was covered
abbrev pub found_line : ℕ → List ℕ → Extent → List Visit → Found → List ℕ
found_line cpus lines v vs f = if is_covered v f.depth
    then witness_line cpus lines (witness_of vs f) else []

module _ (cpus : ℕ) (lines : List ℕ) (v : Extent) (vs : List Visit) where
  -- they are the lines of the witnesses
  pub found_lines : (fs : List Found) → flat_map (found_line cpus lines v vs) fs
      ≡ flat_map (witness_line cpus lines) (witnesses_of v vs fs)
  found_lines [] = refl
  found_lines (f ∷ fs) =
      let rest = found_lines fs in
      elim (is_covered v f.depth) as (λ b. (if b then witness_line cpus lines (witness_of vs f) else [])
      ++ flat_map (found_line cpus lines v vs) fs ≡ flat_map (witness_line cpus lines)
      (map (witness_of vs)
      (if b then f ∷ filter (λ f. is_covered v f.depth) fs else filter (λ f. is_covered v f.depth) fs))) [
        | true ↦ ap (λ k. witness_line cpus lines (witness_of vs f) ++ k) rest
        | false ↦ rest
      ]

  -- one that wasn't covered has no line
  pub skipped : (a b : Taken) (fs : List Found) (k : ℕ) (f : Found) → slice_get fs k ≡ Some f
      → is_covered v f.depth ≡ false → Appends a b (flat_map (found_line cpus lines v vs) (take k fs))
      → Appends a b (flat_map (found_line cpus lines v vs) (take (k + 1) fs))
  skipped a b fs k f at left before =
      one_more (found_line cpus lines v vs) a b b fs k f at before
      (subst (Appends b b) (sym (ap (λ c. if c then witness_line cpus lines (witness_of vs f) else []) left))
      (Appends-nil b))

  -- the line of one that was
  pub shown_line : (f : Found) (rs : List Run) → is_covered v f.depth ≡ true → length (found_way vs f) ≡ f.depth
      → rs ≡ reverse (runs_of (found_way vs f))
      → decimal (f.depth - 1) ++ inner f.label.items ++ codes ":" ++ flat_map (spaced_run cpus lines) rs ++ codes "\n"
      ≡ found_line cpus lines v vs f
  shown_line f rs covered depth is =
      ap (λ n. decimal (n - 1) ++ inner f.label.items ++ codes ":" ++ flat_map (spaced_run cpus lines) rs ++ codes "\n")
      (sym depth)
      ∙ (ap (λ q. decimal (length (found_way vs f) - 1) ++ inner f.label.items ++ codes ":"
      ++ flat_map (spaced_run cpus lines) q ++ codes "\n") is
      ∙ sym (ap (λ c. if c then witness_line cpus lines (witness_of vs f) else []) covered))

-- what is read of a list at a place is the element there
item_at : {A : Type 0} (xs : List A) (k : ℕ) (x : A) → k < length xs → x ≡ get_or xs k x → slice_get xs k ≡ Some x
item_at xs k x less is = slice_get-get_or xs k x less ∙ ap Some (sym is)

-- ---- label k and its way, which were read of lists

module _ {W : Type 0} (items : W → List Run) (vs : List Visit) (fs : List Found) (ws : List W)
    (same : map items ws ≡ runs_to vs fs) (k : ℕ) (less : k < length fs) (f : Found) (here : f ≡ get_or fs k f) (w : W)
    (there : w ≡ get_or ws k w) where
  pub found_at : slice_get fs k ≡ Some f
  found_at = item_at fs k f less here

  pub runs_here : items w ≡ reverse (runs_of (found_way vs f))
  runs_here =
      let count : length ws ≡ length fs = sym (length-map ws items) ∙ (ap (length {A = List Run}) same
      ∙ length-map fs (λ f. reverse (runs_of (found_way vs f)))) in
      let at : slice_get ws k ≡ Some w = item_at ws k w (omega (arith, less, count)) there in
      let mine : slice_get (map items ws) k ≡ Some (items w) =
      slice_get-map items ws k ∙ ap (option_map items) at in
      let its : slice_get (runs_to vs fs) k ≡ Some (reverse (runs_of (found_way vs f))) =
      slice_get-map (λ f. reverse (runs_of (found_way vs f))) fs k
      ∙ ap (option_map (λ f. reverse (runs_of (found_way vs f)))) found_at in
      let both : Some (items w) ≡ Some (reverse (runs_of (found_way vs f))) =
      sym mine ∙ (ap (λ rss. slice_get rss k) same ∙ its) in cc

  -- it was found by a choice
  pub some_here : AreTraced vs fs → 0 < f.depth
  some_here t = let e = way_long vs fs t k f found_at in omega (arith, e)

  module _ (v : Extent) (covered : true ≡ is_covered v f.depth) where
    pub line_here : AreTraced vs fs → (cpus : ℕ) (lines label : List ℕ) (rs : List Run) → label ≡ f.label.items
        → rs ≡ items w
        → decimal (f.depth - 1) ++ inner label ++ codes ":" ++ flat_map (spaced_run cpus lines) rs ++ codes "\n"
        ≡ found_line cpus lines v vs f
    line_here t cpus lines label rs is its =
        ap (λ l. decimal (f.depth - 1) ++ inner l ++ codes ":" ++ flat_map (spaced_run cpus lines) rs ++ codes "\n") is
        ∙ shown_line cpus lines v vs f rs (sym covered) (way_long vs fs t k f found_at) (its ∙ runs_here)
