-- Bytes with more after them.
use Rattle.std.specs.Prelude.{◌≡◌, refl, ℕ, zero, suc, ◌+◌, ◌*◌, ◌≤◌, List, ◌∷◌, ◌++◌, length, drop}
use Rattle.std.proofs.Common.{[], ap, ◌∙◌, arith}
use Rattle.byteorder.specs.Numbers.{little_from-append}
use Rattle.pip_model.specs.Images.{word_of_bytes, words_in}

pub drop_front : (a b : List ℕ) → drop (length a) (a ++ b) ≡ b
drop_front [] b = refl
drop_front (x ∷ a) b = drop_front a b

pub drop_less : (k : ℕ) (a b : List ℕ) → k ≤ length a → drop k (a ++ b) ≡ drop k a ++ b
drop_less zero a b h = refl
drop_less (suc k) [] b h = absurd (omega arith)
drop_less (suc k) (x ∷ a) b h = drop_less k a b (omega arith)

length_drop4 : (a : List ℕ) (n : ℕ) → 4 + n ≤ length a → n ≤ length (drop 4 a)
length_drop4 [] n h = absurd (omega arith)
length_drop4 (a ∷ []) n h = absurd (omega arith)
length_drop4 (a ∷ b ∷ []) n h = absurd (omega arith)
length_drop4 (a ∷ b ∷ c ∷ []) n h = absurd (omega arith)
length_drop4 (a ∷ b ∷ c ∷ d ∷ r) n h = omega arith

-- words of a front
pub words_front : (k : ℕ) (a b : List ℕ) → 4 * k ≤ length a → words_in k (a ++ b) ≡ words_in k a
unfolding words_in
words_front zero a b h = refl
words_front (suc k) a b h =
    (λ i. little_from-append 4 a b (omega arith) i ∷ words_in k (drop_less 4 a b (omega arith) i))
    ∙ ap (λ ws. word_of_bytes a ∷ ws) (words_front k (drop 4 a) b (length_drop4 a (4 * k) (omega arith)))
