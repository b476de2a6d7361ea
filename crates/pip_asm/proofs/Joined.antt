-- Texts that are written piece by piece.
use Rattle.std.specs.Prelude.{◌≡◌, ℕ, List, [], ◌∷◌, ◌++◌}
use Rattle.std.proofs.Common.{ap, ◌∙◌, append_assoc}

-- a text and a word, and more after the space
pub joined : (n a b : List ℕ) → (n ++ (a ++ 32 ∷ [])) ++ b ≡ n ++ (a ++ 32 ∷ b)
joined n a b = append_assoc n (a ++ 32 ∷ []) b ∙ ap (λ t. n ++ t) (append_assoc a (32 ∷ []) b)

-- a name and three numbers
pub three_numbers : (n a b c : List ℕ) → ((((n ++ a) ++ 32 ∷ []) ++ b) ++ 32 ∷ []) ++ c ≡ n ++ (a ++ 32 ∷ (b ++ 32 ∷ c))
three_numbers n a b c =
    append_assoc (((n ++ a) ++ 32 ∷ []) ++ b) (32 ∷ []) c ∙ append_assoc ((n ++ a) ++ 32 ∷ []) b (32 ∷ c)
    ∙ append_assoc (n ++ a) (32 ∷ []) (b ++ 32 ∷ c) ∙ append_assoc n a (32 ∷ (b ++ 32 ∷ c))
