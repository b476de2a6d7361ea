-- Words as bytes, and back.
use Rattle.std.proofs.Common.{◌≡◌, ℕ, suc, ◌+◌, ◌*◌, ◌/◌, ◌%◌, ◌^◌, ◌<◌, ◌≤◌, List, [], ◌∷◌, ◌++◌, length, get_or, drop}
use Rattle.std.proofs.Common.{inl, inr, refl, ap, sym, arith, append_assoc}
use Rattle.std.proofs.lemmas.Bool.{cases_lt}
use Rattle.std.proofs.lemmas.Bool.Decides.{nat_tests}
use Rattle.std.proofs.lemmas.List.{at_drop_more}
use Rattle.std.proofs.Math.Nat.{mod-eq_of_lt}
use Rattle.pip_search.specs.Packing.{packed_key, packed_word, seven_bits, unpacked_key, word_with, unpacked_after}

-- ---- seven bits

pub bits_none : (unit w : ℕ) → w < unit → seven_bits unit w ≡ []
unfolding seven_bits
bits_none unit w low = grind (arith, nat_tests)

pub bits_some : (unit w : ℕ) → unit ≤ w → seven_bits unit w ≡ (w / unit % 128 + 128) ∷ []
unfolding seven_bits
bits_some unit w low = grind (arith, nat_tests)

pub more_bits : (w b : ℕ) (bs : List ℕ) → 128 ≤ b → unpacked_after w (b ∷ bs) ≡ unpacked_after (word_with w b) bs
unfolding unpacked_after
more_bits w b bs high = grind (arith, nat_tests)

pub last_bits : (w b : ℕ) (bs : List ℕ) → b < 128 → unpacked_after w (b ∷ bs) ≡ word_with w b ∷ unpacked_after 0 bs
unfolding unpacked_after
last_bits w b bs low = grind (arith, nat_tests)

-- a word is its bits but the lowest seven, and these
word_split : (q b : ℕ) → q < 2 ^ 32 → b % 128 ≡ q % 128 → word_with (q / 128) b ≡ q
unfolding word_with
word_split q b low same =
    let first : q / 128 * 128 < 2 ^ 32 = omega arith in
    let whole : q / 128 * 128 + b % 128 ≡ q = omega arith in
    rw (mod-eq_of_lt first, whole, mod-eq_of_lt low)

-- ---- a word

bits_join : (unit w q : ℕ) (rest : List ℕ) → q ≡ w / unit → q < 2 ^ 32 → (w < unit → q ≡ 0)
    → unpacked_after (q / 128) (seven_bits unit w ++ rest) ≡ unpacked_after q rest
bits_join unit w q rest is low none = elim (cases_lt w unit) [
  | inl less ↦ rw (bits_none unit w less, none less, ← none less)
  | inr more ↦ rw (
    bits_some unit w more,
    more_bits (q / 128) (w / unit % 128 + 128) rest (omega arith),
    word_split q
        (w / unit % 128 + 128) low (let same : w / unit % 128 ≡ q % 128 = ap (λ x. x % 128) (sym is) in omega arith),
  )
]

pub word_back : (w : ℕ) (rest : List ℕ) → w < 2 ^ 32
    → unpacked_after 0 (packed_word w ++ rest) ≡ w ∷ unpacked_after 0 rest
unfolding packed_word
word_back w rest low =
    let e = (w % 128) ∷ rest in
    let d = seven_bits 0x80 w ++ e in
    let c = seven_bits 0x4000 w ++ d in
    let b = seven_bits 0x200000 w ++ c in
    let all : packed_word w ++ rest ≡ seven_bits 0x10000000 w ++ b = simp append_assoc in
    let none : 0 ≡ w / 0x10000000 / 128 = omega arith in
    let first : w / 0x10000000 ≡ w / 0x200000 / 128 = omega arith in
    let second : w / 0x200000 ≡ w / 0x4000 / 128 = omega arith in
    let third : w / 0x4000 ≡ w / 0x80 / 128 = omega arith in
    cc (
      bits_join 0x10000000 w (w / 0x10000000) b refl (omega arith) (λ h. omega arith),
      bits_join 0x200000 w
          (w / 0x200000) c refl (omega arith) (λ h. omega arith),
      bits_join 0x4000 w (w / 0x4000) d refl (omega arith)
          (λ h. omega arith),
      bits_join 0x80 w (w / 0x80) e refl (omega arith) (λ h. omega arith),
      last_bits (w / 128)
          (w % 128) rest (omega arith),
      word_split w (w % 128) low (omega arith),
    )

pub small_word : (w : ℕ) → w < 128 → packed_word w ≡ w ∷ []
unfolding packed_word
small_word w low =
    let d = seven_bits 0x80 w ++ (w % 128) ∷ [] in
    let c = seven_bits 0x4000 w ++ d in
    let b = seven_bits 0x200000 w ++ c in
    rw (
      bits_none 0x10000000 w (omega arith),
      bits_none 0x200000 w (omega arith),
      bits_none 0x4000 w (omega arith),
      bits_none 0x80 w (omega arith),
      mod-eq_of_lt low,
    )

-- ---- a key

pub packed_none : packed_key [] ≡ []
unfolding packed_key
packed_none = refl

pub packed_more : (w : ℕ) (ws : List ℕ) → packed_key (w ∷ ws) ≡ packed_word w ++ packed_key ws
unfolding packed_key
packed_more w ws = refl

-- words that fit are the words of their bytes
pub key_back : (ws : List ℕ) → ((i : ℕ) → get_or ws i 0 < 2 ^ 32) → unpacked_key (packed_key ws) ≡ ws
unfolding packed_key unpacked_after
key_back [] fit = refl
key_back (w ∷ ws) fit =
    rw (word_back w (packed_key ws) (fit 0), key_back ws (λ i. fit (suc i)))

-- ---- the loops

pub pack_step : (bytes more key : List ℕ) (i w : ℕ) → i < length key → w ≡ get_or key i 0
    → more ≡ bytes ++ packed_word w
    → bytes ++ packed_key (drop i key) ≡ packed_key key → more ++ packed_key (drop (i + 1) key) ≡ packed_key key
pack_step bytes more key i w low is grew h =
    let e : packed_key (drop i key) ≡ packed_key (get_or key i 0 ∷ drop (i + 1) key) =
    at_drop_more packed_key key i 0 low in
    rw (
      grew,
      append_assoc bytes (packed_word w) (packed_key (drop (i + 1) key)),
      is,
      ← packed_more (get_or key i 0)
          (drop (i + 1) key),
      ← e,
      h,
    )

pub unpack_more : (words bytes : List ℕ) (i w b : ℕ) (all : List ℕ) → i < length bytes → b ≡ get_or bytes i 0 → 128 ≤ b
    → words ++ unpacked_after w (drop i bytes) ≡ all
    → words ++ unpacked_after (word_with w b) (drop (i + 1) bytes) ≡ all
unpack_more words bytes i w b all low is high h =
    let e : unpacked_after w (drop i bytes) ≡ unpacked_after w (get_or bytes i 0 ∷ drop (i + 1) bytes) =
    at_drop_more (unpacked_after w) bytes i 0 low in
    rw (← more_bits w b (drop (i + 1) bytes) high, is, ← e, h)

pub unpack_last : (words more bytes : List ℕ) (i w b : ℕ) (all : List ℕ) → i < length bytes → b ≡ get_or bytes i 0
    → b < 128 → more ≡ words ++ word_with w b ∷ [] → words ++ unpacked_after w (drop i bytes) ≡ all
    → more ++ unpacked_after 0 (drop (i + 1) bytes) ≡ all
unpack_last words more bytes i w b all low is small grew h =
    let e : unpacked_after w (drop i bytes) ≡ unpacked_after w (get_or bytes i 0 ∷ drop (i + 1) bytes) =
    at_drop_more (unpacked_after w) bytes i 0 low in
    rw (
      grew,
      append_assoc words (word_with w b ∷ []) (unpacked_after 0 (drop (i + 1) bytes)),
      ← last_bits w b
          (drop (i + 1) bytes) small,
      is,
      ← e,
      h,
    )

pub words_none : (w : ℕ) → unpacked_after w [] ≡ []
unfolding unpacked_after
words_none w = refl
