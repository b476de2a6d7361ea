-- The lines that are written say what they are written for, and have no newline.
use Rattle.std.specs.Prelude.{◌≡◌, ◌≢◌, refl, ℕ, zero, suc, ◌+◌, ◌*◌, ◌/◌, ◌%◌, ◌-◌, ◌<◌, ◌≤◌, ◌^◌, ◌==◌, ◌&&◌, ◌||◌}
use Rattle.std.specs.Prelude.{true, false, List, [], ◌∷◌, ◌++◌, length, map, flat_map, take, drop, Option, Some, None}
use Rattle.std.specs.Prelude.{option_map, codes, decimal}
use Rattle.std.specs.List.{list_any}
use Rattle.std.specs.Str.{all_ascii_digits, bytes_eq}
use Rattle.std.proofs.Common.{ap, ◌∙◌, arith, ne_eqb, cond}
use Rattle.std.proofs.lemmas.Bool.{le-leb}
use Rattle.std.proofs.lemmas.Bool.Decides.{nat_tests}
use Rattle.std.proofs.lemmas.Fmt.{digits_decimal}
use Rattle.std.proofs.lemmas.Fmt.{length-decimal-le}
use Rattle.pip_script.specs.Lines.{HasNoNewline}
use Rattle.pip_model.specs.Dump.{index_text, numbers_from}
use Rattle.pip_model.specs.Grammar.{cons_number, decimal_from, hex_from, number_of}
use Rattle.pip_model.specs.Text.{hex_digit, word_digits}
use Rattle.pip_model.proofs.Texts.Numbers.{hex_word, number_decimal, own}
use Rattle.pip_audit.specs.declared.core_text.line.CoreLine.{CoreLine}
use Rattle.pip_audit.specs.declared.core_text.line.CoreLine.TheVariants as L
use Rattle.pip_audit.specs.Lines.{core_line, decimal_of, group_of, group_told, line_told, word_ahead, words_ahead}

-- ---- decimal numbers

decimal_again : (n : ℕ) → n < 2 ^ 32 → decimal_of (decimal n) ≡ Some n
decimal_again n h =
    ap (λ b. cond b (number_of (decimal n)) None) (digits_decimal own n (omega (arith, h))) ∙ number_decimal n h

-- ---- words

pub word_again : (w : ℕ) (rest : List ℕ) → w < 2 ^ 32 → word_ahead ((codes " " ++ word_digits w) ++ rest) ≡ Some w
word_again w rest h =
    ap (λ b. cond (b && true) (hex_from 0 (word_digits w)) None)
    (le-leb 9 (length ((codes " " ++ word_digits w) ++ rest)) (omega arith)) ∙ hex_word w h

abbrev pub words_after : (ℕ → ℕ) → List ℕ → List ℕ
words_after word is = flat_map (λ i. codes " " ++ word_digits (word i)) is

words_again : (word : ℕ → ℕ) (i k : ℕ) → ((j : ℕ) → i ≤ j → j < i + k → word j < 2 ^ 32)
    → words_ahead k (words_after word (numbers_from i k)) ≡ Some (map word (numbers_from i k))
unfolding words_ahead
words_again word i zero h = refl
words_again word i (suc k) h =
    let rest = words_after word (numbers_from (i + 1) k) in
    ap (λ o. cons_number o (words_ahead k rest)) (word_again (word i) rest (h i (omega arith) (omega arith)))
    ∙ ap (cons_number (Some (word i)))
    (words_again word (i + 1) k (λ j low high. h j (omega (arith, low)) (omega (arith, high))))

-- ---- an index

digit_step : (n d : ℕ) (ds : List ℕ) → d < 10 → 10 * n + d < 2 ^ 32
    → decimal_from n ((48 + d) ∷ ds) ≡ decimal_from (10 * n + d) ds
digit_step n d ds low h =
    let e : 48 + d - 48 ≡ d = omega arith in
    grind (arith, nat_tests, low, h, e)

index_again : (i : ℕ) → i < 1024 → decimal_from 0 (index_text i) ≡ Some i
index_again i h =
    let a : 10 * 0 + i / 1000 ≡ i / 1000 = omega arith in
    let b : 10 * (i / 1000) + i / 100 % 10 ≡ i / 100 = omega arith in
    let c : 10 * (i / 100) + i / 10 % 10 ≡ i / 10 = omega arith in
    let d : 10 * (i / 10) + i % 10 ≡ i = omega arith in
    digit_step 0
    (i / 1000) ((48 + i / 100 % 10) ∷ (48 + i / 10 % 10) ∷ (48 + i % 10) ∷ []) (omega (arith, h)) (omega (arith, h))
    ∙ ap (λ n. decimal_from n ((48 + i / 100 % 10) ∷ (48 + i / 10 % 10) ∷ (48 + i % 10) ∷ [])) a
    ∙ digit_step (i / 1000) (i / 100 % 10) ((48 + i / 10 % 10) ∷ (48 + i % 10)
    ∷ []) (omega (arith, h)) (omega (arith, h))
    ∙ ap (λ n. decimal_from n ((48 + i / 10 % 10) ∷ (48 + i % 10) ∷ [])) b
    ∙ digit_step (i / 100) (i / 10 % 10) ((48 + i % 10) ∷ []) (omega (arith, h)) (omega (arith, h))
    ∙ ap (λ n. decimal_from n ((48 + i % 10) ∷ [])) c
    ∙ digit_step (i / 10) (i % 10) [] (omega (arith, h)) (omega (arith, h))
    ∙ ap Some d

-- ---- lines

other_byte : (b c : ℕ) (bs cs : List ℕ) → b ≢ c → bytes_eq (b ∷ bs) (c ∷ cs) ≡ false
other_byte b c bs cs h = ap (λ t. t && bytes_eq bs cs) (ne_eqb b c h)

-- a line that begins with a digit
told_group : (b : ℕ) (bs : List ℕ) → b < 58 → line_told (b ∷ bs) ≡ group_told (b ∷ bs)
told_group b bs low =
    let end : Option CoreLine = cond (bytes_eq (take 4 (b ∷ bs)) (codes "end "))
    (option_map L.End (decimal_of (drop 4 (b ∷ bs)))) (group_told (b ∷ bs)) in
    ap (λ t. cond t (option_map L.Frame (decimal_of (drop 6 (b ∷ bs)))) end)
    (other_byte b 102 (take 5 bs) (codes "rame ") (λ e. omega (arith, e, low)))
    ∙ ap (λ t. cond t (option_map L.End (decimal_of (drop 4 (b ∷ bs)))) (group_told (b ∷ bs))) (other_byte b 101
    (take 3 bs) (codes "nd ") (λ e. omega (arith, e, low)))

abbrev pub group_body : (ℕ → ℕ) → ℕ → List ℕ
group_body word k = index_text (8 * k) ++ codes ":" ++ words_after word (numbers_from (8 * k) 8)

pub group_again : (word : ℕ → ℕ) (k : ℕ) → k < 128 → ((i : ℕ) → i < 1024 → word i < 2 ^ 32)
    → core_line (group_body word k) ≡ Some (L.Group (8 * k) (map word (numbers_from (8 * k) 8)))
group_again word k h small =
    let words = words_ahead 8 (words_after word (numbers_from (8 * k) 8)) in
    told_group (48 + 8 * k / 1000) (drop 1 (group_body word k)) (omega (arith, h))
    ∙ ap (λ o. group_of o words) (index_again (8 * k) (omega (arith, h)))
    ∙ ap (group_of (Some (8 * k))) (words_again word (8 * k) 8 (λ j low high. small j (omega (arith, h, high))))

short_decimal : (n : ℕ) → n < 2 ^ 32 → length (decimal n) ≤ 10
short_decimal n h = length-decimal-le 10 n (omega arith) (omega (arith, h)) (omega (arith, h))

pub frame_again : (f : ℕ) → f < 2 ^ 32 → core_line (codes "frame " ++ decimal f) ≡ Some (L.Frame f)
frame_again f h =
    let short = short_decimal f h in
    ap (λ b. cond b (option_map L.Frame (decimal_of (decimal f))) None)
    (le-leb (length (codes "frame " ++ decimal f)) 77 (omega (arith, short)))
    ∙ ap (option_map L.Frame) (decimal_again f h)

pub end_again : (t : ℕ) → t < 2 ^ 32 → core_line (codes "end " ++ decimal t) ≡ Some (L.End t)
end_again t h =
    let short = short_decimal t h in
    ap (λ b. cond b (option_map L.End (decimal_of (decimal t))) None)
    (le-leb (length (codes "end " ++ decimal t)) 77 (omega (arith, short)))
    ∙ ap (option_map L.End) (decimal_again t h)

-- ---- no newline

abbrev AllHigh : List ℕ → Type 0
AllHigh [] = Unit {0}
AllHigh (b ∷ bs) = (10 < b) × AllHigh bs

high_plain : (bs : List ℕ) → AllHigh bs → HasNoNewline bs
high_plain [] h = refl
high_plain (b ∷ bs) h = let low = h.0 in
    ap (λ t. t || list_any (λ c. c == 10) bs) (ne_eqb b 10 (λ e. omega (arith, e, low))) ∙ high_plain bs h.1

digits_high : (ds : List ℕ) → all_ascii_digits ds ≡ true → AllHigh ds
digits_high [] a = tt
digits_high (d ∷ ds) a =
    let first : 10 < d = grind (arith, nat_tests, a) in
    let rest : all_ascii_digits ds ≡ true = grind (arith, nat_tests, a) in
    (first, digits_high ds rest)

decimal_high : (n : ℕ) → n < 2 ^ 32 → AllHigh (decimal n)
decimal_high n h = digits_high (decimal n) (digits_decimal own n (omega (arith, h)))

hex_high : (d : ℕ) → 10 < hex_digit d
hex_high d = grind (arith, nat_tests)

words_high : (word : ℕ → ℕ) (is : List ℕ) → AllHigh (words_after word is)
words_high word [] = tt
words_high word (i ∷ is) =
    let w = word i in (
      omega arith,
      (
        hex_high (w / 2 ^ 28 % 16),
        (
          hex_high (w / 2 ^ 24 % 16),
          (
            hex_high (w / 2 ^ 20 % 16),
            (
              hex_high (w / 2 ^ 16 % 16),
              (
                hex_high (w / 2 ^ 12 % 16),
                (hex_high (w / 2 ^ 8 % 16), (hex_high (w / 2 ^ 4 % 16), (hex_high (w % 16), words_high word is))),
              ),
            ),
          ),
        ),
      ),
    )

pub group_plain : (word : ℕ → ℕ) (k : ℕ) → HasNoNewline (group_body word k)
group_plain word k = high_plain (group_body word k)
    (omega arith, (omega arith, (omega arith, (omega arith, (omega arith, words_high word (numbers_from (8 * k) 8))))))

pub frame_plain : (f : ℕ) → f < 2 ^ 32 → HasNoNewline (codes "frame " ++ decimal f)
frame_plain f h = high_plain (codes "frame " ++ decimal f)
    (omega arith, (omega arith, (omega arith, (omega arith, (omega arith, (omega arith, decimal_high f h))))))

pub end_plain : (t : ℕ) → t < 2 ^ 32 → HasNoNewline (codes "end " ++ decimal t)
end_plain t h =
    high_plain (codes "end " ++ decimal t) (omega arith, (omega arith, (omega arith, (omega arith, decimal_high t h))))
