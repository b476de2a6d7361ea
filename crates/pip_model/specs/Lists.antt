-- Words on lists that the definitions share.
use Rattle.std.specs.Prelude.{◌≡◌, ℕ, ◌+◌, ◌≤◌, ◌⊎◌, Bool, false, ◌==◌, ◌||◌, List, [], ◌∷◌}
use Rattle.std.specs.List.{list_any}

-- x is a member of the list
abbrev pub In : {A : Type 0} → A → List A → Type 0
In x [] = ⊥
In x (y ∷ ys) = (x ≡ y) ⊎ In x ys

-- the test of it, for numbers
abbrev pub has : List ℕ → ℕ → Bool
has xs x = list_any (λ y. y == x) xs

-- no member occurs twice
abbrev pub Distinct : List ℕ → Type 0
Distinct [] = Unit {0}
Distinct (x ∷ xs) = (In x xs → ⊥) × Distinct xs

-- each member is above the one before, and the first is at least low
abbrev pub Rising : ℕ → List ℕ → Type 0
Rising low [] = Unit {0}
Rising low (x ∷ xs) = (low ≤ x) × Rising (x + 1) xs

-- some member occurs twice
abbrev pub repeats : List ℕ → Bool
repeats [] = false
repeats (x ∷ xs) = has xs x || repeats xs
