-- What the tests of a call answer, and what they ask of a row.
use Rattle.std.specs.Prelude.{◌≡◌, ◌==◌, ℕ, Bool, List, [], ◌∷◌, Some, None, Result, MatchResult, bit_and, option_map}
use Rattle.pip_base.specs.declared.outcome.Status.{Status}
use Rattle.pip_model.specs.Answers.{first_met, no_child, some_null, some_unaligned}
use Rattle.pip_model.specs.FullRows.{FullRow}
use Rattle.pip_model.specs.Tree.{Tree, child_at}

-- none of these conditions is met, and P holds of the value; or this is the status of the first that is met
abbrev pub Tested : {A : Type 0} → List (Bool × Status) → (A → Type 0) → Result A Status → Type 0
Tested cs P r = MatchResult r (λ a. (first_met cs ≡ None) × P a) (λ s. first_met cs ≡ Some s)

-- no child has the row's page
abbrev pub is_ungiven : FullRow → Bool
is_ungiven r = r.given == 0

-- the row's page can be read and written
abbrev pub is_writable : FullRow → Bool
is_writable r = bit_and r.rights 3 == 3

-- the conditions on addresses alone
abbrev pub place_tests : List ℕ → List (Bool × Status)
place_tests xs = some_unaligned xs ∷ some_null xs ∷ []

-- p has the descriptor of the partition c at the address d
abbrev pub IsChildAt : Tree → ℕ → ℕ → ℕ → Type 0
IsChildAt t p d c = option_map (λ y. y.name) (child_at t p d) ≡ Some c

-- the conditions on addresses, and that a child's descriptor is at one of them
abbrev pub child_tests : Tree → ℕ → List ℕ → ℕ → List (Bool × Status)
child_tests t p xs d = some_unaligned xs ∷ some_null xs ∷ no_child t p d ∷ []
