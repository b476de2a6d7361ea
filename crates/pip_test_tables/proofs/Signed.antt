-- Words as signed numbers: their order is that of the numbers.
use Rattle.std.proofs.Common.{◌≡◌, refl, ℕ, ◌<◌, ◌^◌, ap, ◌∙◌, Bool, true, false, T}
use Rattle.std.specs.Prelude.{ℤ, ◌<ℤ◌, ◌↔◌, IsTrue, FitsSigned, int_lt}
use Rattle.std.specs.Int.{w32}
use Rattle.std.proofs.lemmas.Float.{T_from_true}
use Rattle.std.proofs.lemmas.Int.{to_z-of_z, of_z-to_z}
use Rattle.pip_model.specs.Effects.{below_signed, signed_word, word_of_signed}

-- a signed number of 32 bits is read back from its word, and a word from its number
pub signed-word_for : (z : ℤ) → FitsSigned w32 z → signed_word (word_of_signed z) ≡ z
signed-word_for z h = to_z-of_z w32 z h

pub word_for-signed : (n : ℕ) → n < 2 ^ 32 → word_of_signed (signed_word n) ≡ n
word_for-signed n h = of_z-to_z w32 n h

true_from_T : (b : Bool) → T b → b ≡ true
true_from_T true h = refl
true_from_T false h = absurd h

-- the order of words is that of the signed numbers that they stand for
pub below_signed-is : (a b : ℕ) → IsTrue (below_signed a b) ↔ (signed_word a <ℤ signed_word b)
below_signed-is a b =
    ((λ h. record { lt = T_from_true (below_signed a b) h }), (λ h. true_from_T (below_signed a b) h.lt))

-- and the words of signed numbers are in their order
pub below_signed-words : (y z : ℤ) → FitsSigned w32 y → FitsSigned w32 z
    → below_signed (word_of_signed y) (word_of_signed z) ≡ int_lt y z
below_signed-words y z h k =
    ap (λ i. int_lt i (signed_word (word_of_signed z))) (signed-word_for y h) ∙ ap (int_lt y) (signed-word_for z k)
