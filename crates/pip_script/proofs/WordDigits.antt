-- Digits that are written one after the other.
use Rattle.std.proofs.Common.{◌≡◌, ℕ, ap, ◌∙◌, append_assoc, List, [], ◌∷◌, ◌++◌}

-- a text after another, and one more digit
one_more : (xs text all : List ℕ) (d : ℕ) → all ≡ xs ++ text → all ++ d ∷ [] ≡ xs ++ (text ++ d ∷ [])
one_more xs text all d e = ap (λ k. k ++ d ∷ []) e ∙ append_assoc xs text (d ∷ [])

-- eight digits
pub digits_after : (x0 x1 x2 x3 x4 x5 x6 x7 x8 : List ℕ) (a b c d e f g h : ℕ)
    → x1 ≡ x0 ++ a ∷ [] → x2 ≡ x1 ++ b ∷ [] → x3 ≡ x2 ++ c ∷ [] → x4 ≡ x3 ++ d ∷ []
    → x5 ≡ x4 ++ e ∷ [] → x6 ≡ x5 ++ f ∷ [] → x7 ≡ x6 ++ g ∷ [] → x8 ≡ x7 ++ h ∷ []
    → x8 ≡ x0 ++ a ∷ b ∷ c ∷ d ∷ e ∷ f ∷ g ∷ h ∷ []
digits_after x0 x1 x2 x3 x4 x5 x6 x7 x8 a b c d e f g h i1 i2 i3 i4 i5 i6 i7 i8 =
    i8 ∙ one_more x0 _ x7 h (i7 ∙ one_more x0 _ x6 g (i6 ∙ one_more x0 _ x5 f (i5 ∙ one_more x0 _ x4 e
    (i4 ∙ one_more x0 _ x3 d (i3 ∙ one_more x0 _ x2 c (i2 ∙ one_more x0 _ x1 b i1))))))
