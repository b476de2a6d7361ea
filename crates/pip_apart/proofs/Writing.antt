-- The lines of the labels that were found of a guest, one by one.
use Rattle.std.proofs.Common.{◌≡◌, ℕ, ◌+◌, ◌-◌, ◌<◌, List, [], ◌∷◌, ◌++◌, length, take, map, refl, sym, ap, ◌∙◌, subst}
use Rattle.std.proofs.Common.{zero, suc, true, false, get_or}
use Rattle.std.specs.Prelude.{Some, if◌then◌else◌, filter, flat_map, slice_get}
use Rattle.std.specs.List.{AllByRecursion}
use Rattle.std.proofs.lemmas.Option.{slice_get-get_or}
use Rattle.pip_io.specs.Taken.{Taken, Appends}
use Rattle.pip_io.proofs.Taken.{Appends-nil}
use Rattle.pip_search.specs.Ways.{AreTraced, found_way, is_covered, witness_of, witnesses_of}
use Rattle.pip_search.specs.declared.found.Found.{Found}
use Rattle.pip_search.specs.declared.searching.Extent.{Extent}
use Rattle.pip_search.specs.declared.visits.Visit.{Visit}
use Rattle.pip_search.specs.declared.ways.Run.{Run}
use Rattle.pip_every.specs.Told.{runs_to}
use Rattle.pip_every.proofs.LabelLines.{found_at, runs_here, way_long}
use Rattle.pip_io.proofs.Piecewise.{one_more}
use Rattle.pip_apart.specs.Searches.{alone_of}
use Rattle.pip_apart.specs.declared.searching.GuestSearch.{GuestSearch}
use Rattle.pip_apart.specs.Texts.{guest_text, leaving_text, shown_text, turn_line, turns_text, unmarked}

-- the line of a label, if it was covered
abbrev pub found_line : List ℕ → Extent → List Visit → Found → List ℕ
found_line cpus e vs f = if is_covered e f.depth then turn_line cpus (witness_of vs f) else []

module _ (cpus : List ℕ) (e : Extent) (vs : List Visit) where
  -- they are the lines of the witnesses
  pub found_lines : (fs : List Found)
      → flat_map (found_line cpus e vs) fs ≡ flat_map (turn_line cpus) (witnesses_of e vs fs)
  found_lines [] = refl
  found_lines (f ∷ fs) =
      let rest = found_lines fs in
      elim (is_covered e f.depth) as (λ b. (if b then turn_line cpus (witness_of vs f) else [])
      ++ flat_map (found_line cpus e vs) fs ≡ flat_map (turn_line cpus)
      (map (witness_of vs)
      (if b then f ∷ filter (λ f. is_covered e f.depth) fs else filter (λ f. is_covered e f.depth) fs))) [
        | true ↦ rw rest
        | false ↦ rest
      ]

  -- one that wasn't covered has no line
  pub skipped : (a b : Taken) (fs : List Found) (k : ℕ) (f : Found) → slice_get fs k ≡ Some f
      → is_covered e f.depth ≡ false → Appends a b (flat_map (found_line cpus e vs) (take k fs))
      → Appends a b (flat_map (found_line cpus e vs) (take (k + 1) fs))
  skipped a b fs k f at left before =
      one_more (found_line cpus e vs) a b b fs k f at before
      (rw left (Appends-nil b))

-- label k and its way, which were read of lists: its line
module _ {W : Type 0} (items : W → List Run) (vs : List Visit) (fs : List Found) (ws : List W)
    (same : map items ws ≡ runs_to vs fs) (k : ℕ) (less : k < length fs) (f : Found) (here : f ≡ get_or fs k f) (w : W)
    (there : w ≡ get_or ws k w) (e : Extent) (covered : true ≡ is_covered e f.depth) where
  pub line_here : AreTraced vs fs → (cpus ids label : List ℕ) (rs : List Run) → ids ≡ cpus → label ≡ f.label.items
      → rs ≡ items w
      → leaving_text label ++ shown_text (f.depth - 1) (unmarked label) (flat_map (turns_text ids) rs)
      ≡ found_line cpus e vs f
  line_here t cpus ids label rs own is its =
      let long : length (found_way vs f) ≡ f.depth =
      way_long vs fs t k f (found_at items vs fs ws same k less f here w there) in
      cc (runs_here items vs fs ws same k less f here w there)

-- ---- all guests

alone_text : (gs : List GuestSearch)
    → flat_map (λ g. guest_text (alone_of g)) gs ≡ flat_map guest_text (map alone_of gs)
alone_text [] = refl
alone_text (g ∷ gs) = rw (alone_text gs)

pub guests_text : (items gs : List GuestSearch) → gs ≡ items
    → flat_map (λ g. guest_text (alone_of g)) gs ≡ flat_map guest_text (map alone_of items)
guests_text items gs is = rw (is, alone_text items)

-- what holds of all of a list holds of one
pub all_at : {A : Type 0} (P : A → Type 0) (xs : List A) (k : ℕ) (x : A) → AllByRecursion P xs → slice_get xs k ≡ Some x
    → P x
all_at P [] k x all at = cc
all_at P (y ∷ ys) zero x all at = let same : y ≡ x = cc in rw (← same) all.0
all_at P (y ∷ ys) (suc k) x all at = all_at P ys k x all.1 at

-- what is read of a list is one of it
pub read_at : {A : Type 0} (xs : List A) (k : ℕ) (x : A) → k < length xs → x ≡ get_or xs k x → slice_get xs k ≡ Some x
read_at xs k x less is = rw (slice_get-get_or xs k x less, ← is)
