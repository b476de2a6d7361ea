-- What a search says of labels of which it is asked whether they can come again.
use Rattle.std.specs.Prelude.{◌≡◌, ℕ, List, ◌++◌, length, reverse, Some, slice_get, codes}
use Rattle.pip_search.specs.Again.{CanComeAgain, IsLost}
use Rattle.pip_search.specs.Systems.{Model}
use Rattle.pip_search.specs.Ways.{runs_of}
use Rattle.pip_search.specs.declared.searching.Extent.{Extent}
use Rattle.pip_search.specs.declared.searching.Extent.TheVariants.{Closed, Stopped, Within}
use Rattle.pip_every.specs.declared.again.Again.{Again}
use Rattle.pip_every.specs.declared.again.Again.TheVariants.{Can, Lost, Unknown}

-- what a choice shows, by the text of its line without the step
abbrev pub shown_line : List ℕ → List ℕ
shown_line text = codes "0 " ++ text ++ codes "\n"

-- of a label that a search from s asks for: by the first n choices it can come again, wherever choices lead, any of
-- all; or it can't after a way, the first of all such; or nothing, where the search didn't close
abbrev pub IsSaid : (m : Model) → ℕ → m.State → List ℕ → Extent → Again → Type 0
IsSaid m n s label (Closed depth) Can = CanComeAgain m n s label
IsSaid m n s label (Closed depth) (Lost way) =
    (cs : List ℕ) × ((way.items ≡ reverse (runs_of cs)) × IsLost m n s label cs)
IsSaid m n s label (Closed depth) Unknown = ⊥
IsSaid m n s label (Within depth) r = r ≡ Unknown
IsSaid m n s label (Stopped depth) r = r ≡ Unknown

-- of each of these lines something is said
pub record AreAnswers {R : Type 0} (IsAnswer : List ℕ → R → Type 0) (lines : List (List ℕ)) (said : List R) : Type 0
  where
    pub count : length said ≡ length lines
    pub each : (j : ℕ) (line : List ℕ) (r : R) → slice_get lines j ≡ Some line → slice_get said j ≡ Some r
        → IsAnswer line r

-- whether it can come again
abbrev pub AreSaid : (m : Model) → ℕ → m.State → List (List ℕ) → Extent → List Again → Type 0
AreSaid m n s lines end said = AreAnswers (λ line r. IsSaid m n s (shown_line line) end r) lines said
