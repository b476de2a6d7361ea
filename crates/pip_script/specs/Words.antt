-- The first word of a text, and what follows it.
use Rattle.std.specs.Prelude.{ℕ, ◌==◌, if◌then◌else◌, List, [], ◌∷◌, Option, Some, None}

-- the bytes before the first space
abbrev pub first_word : List ℕ → List ℕ
first_word [] = []
first_word (b ∷ bs) = if b == 32 then [] else b ∷ first_word bs

-- the bytes from the first space on
abbrev pub after_word : List ℕ → List ℕ
after_word [] = []
after_word (b ∷ bs) = if b == 32 then b ∷ bs else after_word bs

-- what a word writes of which a value was read before this rest: that value where the word ends here, and else no
-- number
abbrev pub value_before : List ℕ → ℕ → Option ℕ
value_before [] value = Some value
value_before (b ∷ bs) value = if b == 32 then Some value else None
