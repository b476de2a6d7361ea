-- A line that says something is what is written for it.
use Rattle.std.specs.Prelude.{◌≡◌, refl, ℕ, zero, suc, ◌+◌, ◌*◌, ◌/◌, ◌%◌, ◌-◌, ◌<◌, ◌≤◌, ◌^◌, ◌==◌, ◌&&◌, Bool, true}
use Rattle.std.specs.Prelude.{false, List, [], ◌∷◌, ◌++◌, length, take, drop, Option, Some, None, option_and_then}
use Rattle.std.specs.Prelude.{option_map, codes, decimal, nat_le, nat_lt, slice_index}
use Rattle.std.specs.List.{AllByRecursion}
use Rattle.std.specs.Char.{is_ascii_digit}
use Rattle.std.specs.Str.{all_ascii_digits, bytes_eq}
use Rattle.std.proofs.Common.{ap, sym, subst, ◌∙◌, arith, get_or, cond}
use Rattle.std.proofs.lemmas.Bool.{eqb-true, leb-true, ltb-true}
use Rattle.std.proofs.lemmas.Bool.Decides.{nat_tests}
use Rattle.std.proofs.lemmas.Fmt.{decimal-digits_value}
use Rattle.std.proofs.lemmas.List.{take-append-drop}
use Rattle.pip_model.specs.Dump.{index_text}
use Rattle.pip_model.specs.Grammar.{after_zero, cons_number, decimal_from, hex_from, hex_value, number_of}
use Rattle.pip_model.specs.Text.{hex_digit, word_digits}
use Rattle.pip_audit.specs.declared.core_text.line.CoreLine.{CoreLine}
use Rattle.pip_audit.specs.declared.core_text.line.CoreLine.TheVariants as L
use Rattle.pip_audit.specs.CoreTexts.{IsLine, core_words, line_of}
use Rattle.pip_audit.specs.Lines.{core_line, decimal_of, group_of, group_told, line_told, word_ahead, words_ahead}
use Rattle.pip_model.proofs.Texts.Numbers.{own, read_on}

-- ---- tests

if_some : {X : Type 0} (b : Bool) (o : Option X) (x : X) → cond b o None ≡ Some x → (b ≡ true) × (o ≡ Some x)
if_some true o x h = (refl, h)
if_some false o x h = absurd cc

both : (a b : Bool) → (a && b) ≡ true → (a ≡ true) × (b ≡ true)
both true true h = (refl, refl)
both true false h = absurd cc
both false b h = absurd cc

same_bytes : (xs ys : List ℕ) → bytes_eq xs ys ≡ true → xs ≡ ys
same_bytes [] [] h = refl
same_bytes [] (y ∷ ys) h = absurd cc
same_bytes (x ∷ xs) [] h = absurd cc
same_bytes (x ∷ xs) (y ∷ ys) h =
    let t = both (x == y) (bytes_eq xs ys) h in
    ap (λ z. z ∷ xs) (eqb-true x y t.0) ∙ ap (λ zs. y ∷ zs) (same_bytes xs ys t.1)

-- ---- decimal digits

pub record Digit (n d : ℕ) (ds : List ℕ) (k : ℕ) : Type 0 where
  pub x : ℕ
  pub low : x < 10
  pub is : d ≡ 48 + x
  pub small : 10 * n + x < 2 ^ 32
  pub value : 10 * n + (d - 48) ≡ 10 * n + x
  pub rest : decimal_from (10 * n + x) ds ≡ Some k

digit_first : (n d : ℕ) (ds : List ℕ) (k : ℕ) → decimal_from n (d ∷ ds) ≡ Some k → Digit n d ds k
digit_first n d ds k h =
    let t =
    if_some (is_ascii_digit d && nat_lt (10 * n + (d - 48)) (2 ^ 32)) (decimal_from (10 * n + (d - 48)) ds) k h in
    let tests = both (is_ascii_digit d) (nat_lt (10 * n + (d - 48)) (2 ^ 32)) t.0 in
    let digit = tests.0 in
    let small = ltb-true (10 * n + (d - 48)) (2 ^ 32) tests.1 in
    let low : 48 ≤ d = grind (arith, nat_tests, digit) in
    let high : d ≤ 57 = grind (arith, nat_tests, digit) in
    record { x = d - 48; low = omega (arith, high); is = omega (arith, low); small = small; value = refl; rest = t.1 }

read_back : (n : ℕ) (ds : List ℕ) (k : ℕ) → n < 2 ^ 32 → decimal_from n ds ≡ Some k → (read_on n ds ≡ k) × (k < 2 ^ 32)
read_back n [] k low h = let e : n ≡ k = cc in (e, subst (λ m. m < 2 ^ 32) e low)
read_back n (d ∷ ds) k low h =
    let t = digit_first n d ds k h in
    let r = read_back (10 * n + t.x) ds k t.small t.rest in
    (ap (λ m. read_on m ds) t.value ∙ r.0, r.1)

pub record IsDecimal (ds : List ℕ) (n : ℕ) : Type 0 where
  pub is : ds ≡ decimal n
  pub small : n < 2 ^ 32

from_value : (ds : List ℕ) (n : ℕ) → all_ascii_digits ds ≡ true → 0 < length ds → (get_or ds 0 0 ≡ 48 → length ds ≡ 1)
    → (read_on 0 ds ≡ n) × (n < 2 ^ 32) → IsDecimal ds n
from_value ds n a some lead v =
    let is = v.0 in let small = v.1 in
    record {
      is = sym (decimal-digits_value own ds a some lead (omega (arith, is, small))) ∙ ap decimal is;
      small = small;
    }

decimal_back : (ds : List ℕ) (n : ℕ) → decimal_of ds ≡ Some n → IsDecimal ds n
decimal_back [] n h = absurd cc
decimal_back (d ∷ ds) n h =
    let t = if_some (all_ascii_digits (d ∷ ds)) (number_of (d ∷ ds)) n h in
    go (d == 48) refl t.0 t.1
  where
    zero_alone : (es : List ℕ) → all_ascii_digits es ≡ true → after_zero es ≡ Some n → (es ≡ []) × (0 ≡ n)
    zero_alone [] a h = (refl, cc)
    zero_alone (x ∷ xs) a h =
        let high : x < 120 = grind (arith, nat_tests, a) in
        let t = if_some (x == 120 && (nat_le 1 (length xs) && nat_le (length xs) 8)) (hex_from 0 xs) n h in
        let e = eqb-true x 120 (both (x == 120) (nat_le 1 (length xs) && nat_le (length xs) 8) t.0).0 in
        absurd (omega (arith, high, e))

    go : (b : Bool) → (d == 48) ≡ b → all_ascii_digits (d ∷ ds) ≡ true
        → cond b (after_zero ds) (decimal_from 0 (d ∷ ds)) ≡ Some n → IsDecimal (d ∷ ds) n
    go true e a h =
        let digits : all_ascii_digits ds ≡ true = (both (is_ascii_digit d) (all_ascii_digits ds) a).1 in
        let z = zero_alone ds digits h in
        let one : length (d ∷ ds) ≡ 1 = ap (λ es. length (d ∷ es)) z.0 in
        let d_is = eqb-true d 48 e in
        let value : read_on 0 (d ∷ ds) ≡ n = ap (λ es. read_on 0 (d ∷ es)) z.0 ∙ omega (arith, d_is) ∙ z.1 in
        let nought = z.1 in
        from_value (d ∷ ds) n a (omega arith) (λ l. one) (value, omega (arith, nought))
    go false e a h =
        from_value (d ∷ ds) n a (omega arith) (λ l. absurd (no l)) (read_back 0 (d ∷ ds) n (omega arith) h)
      where
        no : d ≡ 48 → ⊥
        no l = grind (arith, nat_tests, e, l)

-- ---- hexadecimal digits

pub record HexDigit (n d : ℕ) (ds : List ℕ) (w : ℕ) : Type 0 where
  pub x : ℕ
  pub low : x < 16
  pub is : d ≡ hex_digit x
  pub rest : hex_from (16 * n + x) ds ≡ Some w

hex_value_back : (d x : ℕ) → hex_value d ≡ Some x → (x < 16) × (d ≡ hex_digit x)
hex_value_back d x h = (grind (arith, nat_tests, h), grind (arith, nat_tests, h))

hex_first : (n d : ℕ) (ds : List ℕ) (w : ℕ) → hex_from n (d ∷ ds) ≡ Some w → HexDigit n d ds w
hex_first n d ds w h = go (hex_value d) refl h
  where
    go : (o : Option ℕ) → hex_value d ≡ o → option_and_then (λ x. hex_from (16 * n + x) ds) o ≡ Some w
        → HexDigit n d ds w
    go None e h = absurd cc
    go (Some x) e h = let b = hex_value_back d x e in record { x = x; low = b.0; is = b.1; rest = h }

pub record IsHexWord (ds : List ℕ) (w : ℕ) : Type 0 where
  pub is : ds ≡ word_digits w
  pub small : w < 2 ^ 32

eight_cells : (a b c d e f g h : ℕ) (w : ℕ) → hex_from 0 (a ∷ b ∷ c ∷ d ∷ e ∷ f ∷ g ∷ h ∷ []) ≡ Some w
    → IsHexWord (a ∷ b ∷ c ∷ d ∷ e ∷ f ∷ g ∷ h ∷ []) w
eight_cells a b c d e f g h w p =
    let t0 = hex_first 0 a (b ∷ c ∷ d ∷ e ∷ f ∷ g ∷ h ∷ []) w p in
    let n1 : ℕ = 16 * 0 + t0.x in
    let t1 = hex_first n1 b (c ∷ d ∷ e ∷ f ∷ g ∷ h ∷ []) w t0.rest in
    let n2 : ℕ = 16 * n1 + t1.x in
    let t2 = hex_first n2 c (d ∷ e ∷ f ∷ g ∷ h ∷ []) w t1.rest in
    let n3 : ℕ = 16 * n2 + t2.x in
    let t3 = hex_first n3 d (e ∷ f ∷ g ∷ h ∷ []) w t2.rest in
    let n4 : ℕ = 16 * n3 + t3.x in
    let t4 = hex_first n4 e (f ∷ g ∷ h ∷ []) w t3.rest in
    let n5 : ℕ = 16 * n4 + t4.x in
    let t5 = hex_first n5 f (g ∷ h ∷ []) w t4.rest in
    let n6 : ℕ = 16 * n5 + t5.x in
    let t6 = hex_first n6 g (h ∷ []) w t5.rest in
    let n7 : ℕ = 16 * n6 + t6.x in
    let t7 = hex_first n7 h [] w t6.rest in
    let end : 16 * n7 + t7.x ≡ w = some_same (16 * n7 + t7.x) w t7.rest in
    whole a b c d e f g h t0.x t1.x t2.x t3.x t4.x t5.x t6.x t7.x w t0.low t1.low t2.low t3.low t4.low t5.low t6.low
    t7.low t0.is t1.is t2.is t3.is t4.is t5.is t6.is t7.is end
  where
    some_same : (x y : ℕ) → Some x ≡ Some y → x ≡ y
    some_same x y h = cc

    whole : (a b c d e f g h p q r s t u v x w : ℕ) → p < 16 → q < 16 → r < 16 → s < 16 → t < 16 → u < 16 → v < 16
        → x < 16
        → a ≡ hex_digit p → b ≡ hex_digit q → c ≡ hex_digit r → d ≡ hex_digit s → e ≡ hex_digit t → f ≡ hex_digit u
        → g ≡ hex_digit v → h ≡ hex_digit x
        → 16 * (16 * (16 * (16 * (16 * (16 * (16 * (16 * 0 + p) + q) + r) + s) + t) + u) + v) + x ≡ w
        → IsHexWord (a ∷ b ∷ c ∷ d ∷ e ∷ f ∷ g ∷ h ∷ []) w
    whole a b c d e f g h p q r s t u v x w lp lq lr ls lt lu lv lx ea eb ec ed ee ef eg eh is =
        let dp : p ≡ w / 2 ^ 28 % 16 = omega (arith, lp, lq, lr, ls, lt, lu, lv, lx, is) in
        let dq : q ≡ w / 2 ^ 24 % 16 = omega (arith, lp, lq, lr, ls, lt, lu, lv, lx, is) in
        let dr : r ≡ w / 2 ^ 20 % 16 = omega (arith, lp, lq, lr, ls, lt, lu, lv, lx, is) in
        let ds : s ≡ w / 2 ^ 16 % 16 = omega (arith, lp, lq, lr, ls, lt, lu, lv, lx, is) in
        let dt : t ≡ w / 2 ^ 12 % 16 = omega (arith, lp, lq, lr, ls, lt, lu, lv, lx, is) in
        let du : u ≡ w / 2 ^ 8 % 16 = omega (arith, lp, lq, lr, ls, lt, lu, lv, lx, is) in
        let dv : v ≡ w / 2 ^ 4 % 16 = omega (arith, lp, lq, lr, ls, lt, lu, lv, lx, is) in
        let dx : x ≡ w % 16 = omega (arith, lp, lq, lr, ls, lt, lu, lv, lx, is) in
        record {
          is = λ i. (ea ∙ ap hex_digit dp) i ∷ (eb ∙ ap hex_digit dq) i ∷ (ec ∙ ap hex_digit dr) i
              ∷ (ed ∙ ap hex_digit ds) i ∷ (ee ∙ ap hex_digit dt) i ∷ (ef ∙ ap hex_digit du) i
              ∷ (eg ∙ ap hex_digit dv) i ∷ (eh ∙ ap hex_digit dx) i ∷ [];
          small = omega (arith, lp, lq, lr, ls, lt, lu, lv, lx, is);
        }

-- ---- words

pub record IsWordAhead (text : List ℕ) (w : ℕ) : Type 0 where
  pub is : text ≡ (codes " " ++ word_digits w) ++ drop 9 text
  pub small : w < 2 ^ 32

word_back : (text : List ℕ) (w : ℕ) → word_ahead text ≡ Some w → IsWordAhead text w
word_back text w h =
    let t = if_some (nat_le 9 (length text) && slice_index text 0 == 32) (hex_from 0 (take 8 (drop 1 text))) w h in
    let tests = both (nat_le 9 (length text)) (slice_index text 0 == 32) t.0 in
    cells text (leb-true 9 (length text) tests.0) (eqb-true (slice_index text 0) 32 tests.1) t.1
  where
    cells : (text : List ℕ) → 9 ≤ length text → slice_index text 0 ≡ 32 → hex_from 0 (take 8 (drop 1 text)) ≡ Some w
        → IsWordAhead text w
    cells (z ∷ a ∷ b ∷ c ∷ d ∷ e ∷ f ∷ g ∷ h ∷ rest) long space is =
        let k = eight_cells a b c d e f g h w is in
        record { is = (λ i. space i ∷ (k.is i ++ rest)); small = k.small }
    cells [] long space is = absurd (omega (arith, long))
    cells (z ∷ []) long space is = absurd (omega (arith, long))
    cells (z ∷ a ∷ []) long space is = absurd (omega (arith, long))
    cells (z ∷ a ∷ b ∷ []) long space is = absurd (omega (arith, long))
    cells (z ∷ a ∷ b ∷ c ∷ []) long space is = absurd (omega (arith, long))
    cells (z ∷ a ∷ b ∷ c ∷ d ∷ []) long space is = absurd (omega (arith, long))
    cells (z ∷ a ∷ b ∷ c ∷ d ∷ e ∷ []) long space is = absurd (omega (arith, long))
    cells (z ∷ a ∷ b ∷ c ∷ d ∷ e ∷ f ∷ []) long space is = absurd (omega (arith, long))
    cells (z ∷ a ∷ b ∷ c ∷ d ∷ e ∷ f ∷ g ∷ []) long space is = absurd (omega (arith, long))

pub record AreAhead (k : ℕ) (text : List ℕ) (ws : List ℕ) : Type 0 where
  pub is : text ≡ core_words ws
  pub size : length ws ≡ k
  pub small : AllByRecursion (λ w. w < 2 ^ 32) ws

words_back : (k : ℕ) (text : List ℕ) (ws : List ℕ) → words_ahead k text ≡ Some ws → AreAhead k text ws
unfolding words_ahead
words_back zero [] [] h = record { is = refl; size = refl; small = tt }
words_back zero [] (w ∷ ws) h = absurd cc
words_back zero (b ∷ bs) ws h = absurd cc
words_back (suc k) text ws h =
    go (word_ahead text) (words_ahead k (drop 9 text)) refl refl (words_back k (drop 9 text)) h
  where
    go : (o : Option ℕ) (p : Option (List ℕ)) → word_ahead text ≡ o → words_ahead k (drop 9 text) ≡ p
        → ((ws : List ℕ) → words_ahead k (drop 9 text) ≡ Some ws → AreAhead k (drop 9 text) ws)
        → cons_number o p ≡ Some ws → AreAhead (suc k) text ws
    go None p e f back h = absurd cc
    go (Some w) None e f back h = absurd cc
    go (Some w) (Some vs) e f back h =
        let first = word_back text w e in
        let others = back vs f in
        let all : w ∷ vs ≡ ws = cc in
        subst (AreAhead (suc k) text) all (record {
          is = first.is ∙ ap (λ r. (codes " " ++ word_digits w) ++ r) others.is;
          size = ap suc others.size;
          small = (first.small, others.small);
        })

-- ---- lines

pub record IsTold (line : List ℕ) (l : CoreLine) : Type 0 where
  pub is : line ≡ line_of l
  pub proper : IsLine l

four_digits : (a b c d i : ℕ) → decimal_from 0 (a ∷ b ∷ c ∷ d ∷ []) ≡ Some i
    → (a ∷ b ∷ c ∷ d ∷ [] ≡ index_text i) × (i < 10000)
four_digits a b c d i h =
    let t0 = digit_first 0 a (b ∷ c ∷ d ∷ []) i h in
    let n1 : ℕ = 10 * 0 + t0.x in
    let t1 = digit_first n1 b (c ∷ d ∷ []) i t0.rest in
    let n2 : ℕ = 10 * n1 + t1.x in
    let t2 = digit_first n2 c (d ∷ []) i t1.rest in
    let n3 : ℕ = 10 * n2 + t2.x in
    let t3 = digit_first n3 d [] i t2.rest in
    whole t0.x t1.x t2.x t3.x t0.low t1.low t2.low t3.low t0.is t1.is t2.is t3.is (same (10 * n3 + t3.x) i t3.rest)
  where
    same : (x y : ℕ) → Some x ≡ Some y → x ≡ y
    same x y h = cc

    whole : (p q r s : ℕ) → p < 10 → q < 10 → r < 10 → s < 10 → a ≡ 48 + p → b ≡ 48 + q → c ≡ 48 + r → d ≡ 48 + s
        → 10 * (10 * (10 * (10 * 0 + p) + q) + r) + s ≡ i
        → (a ∷ b ∷ c ∷ d ∷ [] ≡ index_text i) × (i < 10000)
    whole p q r s lp lq lr ls ea eb ec ed is =
        let da : a ≡ 48 + i / 1000 = omega (arith, lp, lq, lr, ls, ea, is) in
        let db : b ≡ 48 + i / 100 % 10 = omega (arith, lp, lq, lr, ls, eb, is) in
        let dc : c ≡ 48 + i / 10 % 10 = omega (arith, lp, lq, lr, ls, ec, is) in
        let dd : d ≡ 48 + i % 10 = omega (arith, lp, lq, lr, ls, ed, is) in
        ((λ k. da k ∷ db k ∷ dc k ∷ dd k ∷ []), omega (arith, lp, lq, lr, ls, is))

group_back : (line : List ℕ) (l : CoreLine) → group_told line ≡ Some l → IsTold line l
group_back line l h =
    let t = if_some (nat_le 5 (length line)
    && slice_index line 4 == 58) (group_of (decimal_from 0 (take 4 line)) (words_ahead 8 (drop 5 line))) l h in
    let tests = both (nat_le 5 (length line)) (slice_index line 4 == 58) t.0 in
    cells line (leb-true 5 (length line) tests.0) (eqb-true (slice_index line 4) 58 tests.1) t.1
  where
    parts : (a b c d : ℕ) (rest : List ℕ) (o : Option ℕ) (p : Option (List ℕ)) → decimal_from 0 (a ∷ b ∷ c ∷ d ∷ []) ≡ o
        → words_ahead 8 rest ≡ p → group_of o p ≡ Some l → IsTold (a ∷ b ∷ c ∷ d ∷ 58 ∷ rest) l
    parts a b c d rest None p e f h = absurd cc
    parts a b c d rest (Some i) None e f h = absurd cc
    parts a b c d rest (Some i) (Some ws) e f h =
        let index = four_digits a b c d i e in
        let words = words_back 8 rest ws f in
        let all : L.Group i ws ≡ l = cc in
        subst (IsTold (a ∷ b ∷ c ∷ d ∷ 58 ∷ rest)) all (record {
          is = ap (λ xs. xs ++ 58 ∷ rest) index.0 ∙ ap (λ r. index_text i ++ 58 ∷ r) words.is;
          proper = (index.1, words.size, words.small);
        })

    cells : (line : List ℕ) → 5 ≤ length line → slice_index line 4 ≡ 58
        → group_of (decimal_from 0 (take 4 line)) (words_ahead 8 (drop 5 line)) ≡ Some l → IsTold line l
    cells (a ∷ b ∷ c ∷ d ∷ e ∷ rest) long colon h =
        subst (λ x. IsTold (a ∷ b ∷ c ∷ d ∷ x ∷ rest) l) (sym colon)
        (parts a b c d rest (decimal_from 0 (a ∷ b ∷ c ∷ d ∷ [])) (words_ahead 8 rest) refl refl h)
    cells [] long colon h = absurd (omega (arith, long))
    cells (a ∷ []) long colon h = absurd (omega (arith, long))
    cells (a ∷ b ∷ []) long colon h = absurd (omega (arith, long))
    cells (a ∷ b ∷ c ∷ []) long colon h = absurd (omega (arith, long))
    cells (a ∷ b ∷ c ∷ d ∷ []) long colon h = absurd (omega (arith, long))

frame_back : (line ds : List ℕ) (l : CoreLine) → line ≡ codes "frame " ++ ds
    → option_map L.Frame (decimal_of ds) ≡ Some l → IsTold line l
frame_back line ds l is h = go (decimal_of ds) refl h
  where
    go : (o : Option ℕ) → decimal_of ds ≡ o → option_map L.Frame o ≡ Some l → IsTold line l
    go None e h = absurd cc
    go (Some f) e h =
        let d = decimal_back ds f e in
        let all : L.Frame f ≡ l = cc in
        subst (IsTold line) all (record { is = is ∙ ap (λ es. codes "frame " ++ es) d.is; proper = d.small })

end_back : (line ds : List ℕ) (l : CoreLine) → line ≡ codes "end " ++ ds → option_map L.End (decimal_of ds) ≡ Some l
    → IsTold line l
end_back line ds l is h = go (decimal_of ds) refl h
  where
    go : (o : Option ℕ) → decimal_of ds ≡ o → option_map L.End o ≡ Some l → IsTold line l
    go None e h = absurd cc
    go (Some t) e h =
        let d = decimal_back ds t e in
        let all : L.End t ≡ l = cc in
        subst (IsTold line) all (record { is = is ∙ ap (λ es. codes "end " ++ es) d.is; proper = d.small })

told_back : (line : List ℕ) (l : CoreLine) → line_told line ≡ Some l → IsTold line l
told_back line l h = go (bytes_eq (take 6 line) (codes "frame ")) (bytes_eq (take 4 line) (codes "end ")) refl refl h
  where
    go : (a b : Bool) → bytes_eq (take 6 line) (codes "frame ") ≡ a → bytes_eq (take 4 line) (codes "end ") ≡ b
        → cond a (option_map L.Frame (decimal_of (drop 6 line)))
        (cond b (option_map L.End (decimal_of (drop 4 line))) (group_told line)) ≡ Some l → IsTold line l
    go true b e f h = frame_back line (drop 6 line) l
        (sym (take-append-drop 6 line) ∙ ap (λ xs. xs ++ drop 6 line) (same_bytes (take 6 line) (codes "frame ") e)) h
    go false true e f h = end_back line (drop 4 line) l
        (sym (take-append-drop 4 line) ∙ ap (λ xs. xs ++ drop 4 line) (same_bytes (take 4 line) (codes "end ") f)) h
    go false false e f h = group_back line l h

pub line_back : (line : List ℕ) (l : CoreLine) → core_line line ≡ Some l → IsTold line l
line_back line l h = told_back line l (if_some (nat_le (length line) 77) (line_told line) l h).1
