-- Bytes are again the bytes of the words that they read as.
use Rattle.std.specs.Prelude.{◌≡◌, refl, ℕ, zero, suc, ◌+◌, ◌*◌, ◌/◌, ◌%◌, ◌<◌, ◌≤◌, ◌^◌, List, [], ◌∷◌, ◌++◌, length}
use Rattle.std.specs.Prelude.{drop, replicate}
use Rattle.std.proofs.Common.{ap, sym, ◌∙◌, arith, append_assoc, length-drop}
use Rattle.std.proofs.Math.Seq.{drop-drop}
use Rattle.byteorder.specs.Endian.{little_bytes}
use Rattle.pip_model.specs.Images.{word_of_bytes, words_in, bytes_of}
use Rattle.pip_asm.proofs.Trim.{AllWords}

abbrev pub AllBytes : List ℕ → Type 0
AllBytes [] = Unit {0}
AllBytes (b ∷ bs) = (b < 256) × AllBytes bs

pub bytes_drop : (k : ℕ) (bs : List ℕ) → AllBytes bs → AllBytes (drop k bs)
bytes_drop zero bs h = h
bytes_drop (suc k) [] h = h
bytes_drop (suc k) (b ∷ bs) h = bytes_drop k bs h.1

four : (a b c d : ℕ) → a < 256 → b < 256 → c < 256 → d < 256
    → little_bytes 4 (a + 256 * (b + 256 * (c + 256 * (d + 256 * 0)))) ≡ a ∷ b ∷ c ∷ d ∷ []
four a b c d ha hb hc hd =
    let n = a + 256 * (b + 256 * (c + 256 * (d + 256 * 0))) in
    let e : n % 256 ≡ a = omega arith in
    let f : n / 256 ^ 1 % 256 ≡ b = omega arith in
    let g : n / 256 ^ 2 % 256 ≡ c = omega arith in
    let k : n / 256 ^ 3 % 256 ≡ d = omega arith in
    λ i. e i ∷ f i ∷ g i ∷ k i ∷ []

-- a word that was read from four bytes is written as these four
pub word_front : (bs : List ℕ) → 4 ≤ length bs → AllBytes bs → little_bytes 4 (word_of_bytes bs) ++ drop 4 bs ≡ bs
word_front [] h a = absurd (omega arith)
word_front (a ∷ []) h z = absurd (omega arith)
word_front (a ∷ b ∷ []) h z = absurd (omega arith)
word_front (a ∷ b ∷ c ∷ []) h z = absurd (omega arith)
word_front (a ∷ b ∷ c ∷ d ∷ bs) h z = cc (four a b c d z.0 z.1.0 z.1.1.0 z.1.1.1.0)

small : (a b c d : ℕ) → a < 256 → b < 256 → c < 256 → d < 256 → a + 256 * (b + 256 * (c + 256 * (d + 256 * 0))) < 2 ^ 32
small a b c d ha hb hc hd = omega arith

pub word_small : (bs : List ℕ) → 4 ≤ length bs → AllBytes bs → word_of_bytes bs < 2 ^ 32
word_small [] h a = absurd (omega arith)
word_small (a ∷ []) h z = absurd (omega arith)
word_small (a ∷ b ∷ []) h z = absurd (omega arith)
word_small (a ∷ b ∷ c ∷ []) h z = absurd (omega arith)
word_small (a ∷ b ∷ c ∷ d ∷ bs) h z = small a b c d z.0 z.1.0 z.1.1.0 z.1.1.1.0

-- that many words from the front
pub record Front (k : ℕ) (bs ws : List ℕ) : Type 0 where
  pub bytes : bytes_of ws ++ drop (4 * k) bs ≡ bs
  pub words : AllWords ws
  pub count : length ws ≡ k

pub words_front : (k : ℕ) (bs : List ℕ) → 4 * k ≤ length bs → AllBytes bs → Front k bs (words_in k bs)
unfolding words_in
words_front zero bs h a = record { bytes = refl; words = tt; count = refl }
words_front (suc k) bs h a =
    let l = length-drop 4 bs in
    let r = words_front k (drop 4 bs) (omega arith) (bytes_drop 4 bs a) in
    let e : 4 * suc k ≡ 4 + 4 * k = omega arith in
    record {
      bytes = append_assoc (little_bytes 4 (word_of_bytes bs)) (bytes_of (words_in k (drop 4 bs))) (drop (4 * suc k) bs)
          ∙ ap (λ i. little_bytes 4 (word_of_bytes bs) ++ (bytes_of (words_in k (drop 4 bs)) ++ drop i bs)) e
          ∙ ap (λ t. little_bytes 4 (word_of_bytes bs)
          ++ (bytes_of (words_in k (drop 4 bs)) ++ t)) (sym (drop-drop (4 * k) 4 bs))
          ∙ ap (λ t. little_bytes 4 (word_of_bytes bs) ++ t) r.bytes
          ∙ word_front bs (omega (arith, h)) a;
      words = (word_small bs (omega arith) a, r.words);
      count = rw r.count;
    }

pub bytes_append : (a b : List ℕ) → bytes_of (a ++ b) ≡ bytes_of a ++ bytes_of b
bytes_append [] b = refl
bytes_append (w ∷ a) b =
    rw (bytes_append a b, ← append_assoc (little_bytes 4 w) (bytes_of a) (bytes_of b))

pub zeros_bytes : (k : ℕ) → bytes_of (replicate k 0) ≡ replicate (4 * k) 0
zeros_bytes zero = refl
zeros_bytes (suc k) = let e : 4 * suc k ≡ suc (suc (suc (suc (4 * k)))) = omega arith in
    cc (zeros_bytes k)
