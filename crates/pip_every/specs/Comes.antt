-- What a search says of labels of which it is asked whether they come.
use Rattle.std.specs.Prelude.{◌≡◌, ℕ, zero, suc, List, [], ◌∷◌, ◌++◌, reverse}
use Rattle.pip_search.specs.Comes.{IsAvoided, MustCome}
use Rattle.pip_search.specs.Systems.{Model}
use Rattle.pip_search.specs.Ways.{runs_of}
use Rattle.pip_search.specs.declared.searching.Extent.{Extent}
use Rattle.pip_search.specs.declared.searching.Extent.TheVariants.{Closed, Stopped, Within}
use Rattle.pip_search.specs.declared.ways.Run.{Run}
use Rattle.pip_every.specs.Again.{AreAnswers, shown_line}
use Rattle.pip_every.specs.declared.comes.Comes.{Comes}
use Rattle.pip_every.specs.declared.comes.Comes.TheVariants.{Avoided, Must, Unknown}

-- each of the first n choices has a class of its own, from 1 on, and the others have none
abbrev pub own_classes : ℕ → List ℕ
own_classes zero = []
own_classes (suc n) = own_classes n ++ suc n ∷ []

-- these runs are a way, and a loop after it that avoids a label
pub record IsAvoidedBy (m : Model) (classes : List ℕ) (s : m.State) (label : List ℕ) (way round : List Run) :
    Type 0 where
  pub before : List ℕ
  pub over : List ℕ
  pub way_is : way ≡ reverse (runs_of before)
  pub round_is : round ≡ reverse (runs_of over)
  pub avoided : IsAvoided m classes s label before over

-- of a label that a search from s asks for: wherever choices lead, it comes where those that are made next are fair; or
-- a fair loop after a way avoids it; or nothing, where the search didn't close
abbrev pub IsComing : (m : Model) → List ℕ → m.State → List ℕ → Extent → Comes → Type 0
IsComing m classes s label (Closed depth) (Must counts) = MustCome m classes s label counts.items
IsComing m classes s label (Closed depth) (Avoided way round) = IsAvoidedBy m classes s label way.items round.items
IsComing m classes s label (Closed depth) Unknown = ⊥
IsComing m classes s label (Within depth) r = r ≡ Unknown
IsComing m classes s label (Stopped depth) r = r ≡ Unknown

-- so of each of these lines
abbrev pub AreComing : (m : Model) → List ℕ → m.State → List (List ℕ) → Extent → List Comes → Type 0
AreComing m classes s lines end said = AreAnswers (λ line r. IsComing m classes s (shown_line line) end r) lines said
