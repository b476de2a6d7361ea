-- Rising lines as the bits of a word.
use Rattle.std.proofs.Common.{◌≡◌, ℕ, zero, suc, ◌+◌, ◌-◌, ◌*◌, ◌/◌, ◌%◌, ◌^◌, ◌<◌, ◌≤◌, ◌||◌, ◌==◌, inl, inr, Bool}
use Rattle.std.proofs.Common.{true, false, cond, not, List, [], ◌∷◌, refl, sym, ap, ap₂, ◌∙◌, subst, arith, eq-eqb}
use Rattle.std.proofs.Common.{ne_eqb, eqb-true, Option, Some, None}
use Rattle.std.specs.Prelude.{filter, find, is_some, nat_lt, sum_by}
use Rattle.std.proofs.lemmas.Bool.{cases_Bool, cases_eq, eqb-false, ltb-false, ltb-true}
use Rattle.std.proofs.lemmas.List.Sums.{sum_by-cons}
use Rattle.std.proofs.lemmas.Nat.{pow_below, shr-shr}
use Rattle.pip_model.specs.Lists.{has}
use Rattle.pip_model.specs.Poll.{lines_with}
use Rattle.pip_model.specs.Sound.{AreLines}
use Rattle.pip_base.specs.declared.types.Ctx.{Ctx}
use Rattle.pip_model.proofs.Frames.Same.{bits, bits_double, bits_sum}

-- ---- lists of lines

-- no line stands below the lowest
pub none_below : (low j : ℕ) (js : List ℕ) → AreLines low js → j < low → has js j ≡ false
none_below low j [] l b = refl
none_below low j (i ∷ is) l b = let k = l.0 in
    ap₂ (λ x y. x || y) (ne_eqb i j (λ e. omega arith)) (none_below (suc i) j is l.2 (omega arith))

pub none_above : (low j : ℕ) (js : List ℕ) → AreLines low js → 16 ≤ j → has js j ≡ false
none_above low j [] l b = refl
none_above low j (i ∷ is) l b = let k = l.1 in
    ap₂ (λ x y. x || y) (ne_eqb i j (λ e. omega arith)) (none_above (suc i) j is l.2 b)

-- ---- their sum

total : List ℕ → ℕ
total [] = 0
total (j ∷ js) = 2 ^ j + total js

sum_total : (js : List ℕ) → sum_by (λ j. 2 ^ j) js ≡ total js
unfolding total
sum_total [] = refl
sum_total (j ∷ js) = sum_by-cons (λ j. 2 ^ j) j js ∙ ap (λ n. 2 ^ j + n) (sum_total js)

total_raised : (low j : ℕ) (js : List ℕ) → AreLines low js
    → total (lines_with j js) ≡ cond (has js j) (total js) (total js + 2 ^ j)
unfolding total
total_raised low j [] l = omega arith
total_raised low j (i ∷ is) l = go (nat_lt j i) (j == i) refl refl (total_raised (suc i) j is l.2)
  where
    here : (b : Bool) → (i == j) ≡ b → cond ((i == j) || has is j) (2 ^ i + total is) (2 ^ i + total is + 2 ^ j)
        ≡ cond (b || has is j) (2 ^ i + total is) (2 ^ i + total is + 2 ^ j)
    here b e = ap (λ c. cond (c || has is j) (2 ^ i + total is) (2 ^ i + total is + 2 ^ j)) e

    more : (b : Bool)
        → 2 ^ i + cond b (total is) (total is + 2 ^ j) ≡ cond b (2 ^ i + total is) (2 ^ i + total is + 2 ^ j)
    more true = refl
    more false = omega arith

    go : (c d : Bool) → nat_lt j i ≡ c → (j == i) ≡ d → total (lines_with j is) ≡ cond (has is j) (total is)
        (total is + 2 ^ j) → total (cond c (j ∷ i ∷ is) (cond d (i ∷ is) (i ∷ lines_with j is)))
        ≡ cond ((i == j) || has is j) (2 ^ i + total is) (2 ^ i + total is + 2 ^ j)
    go true d e f ih =
        let k = ltb-true j i e in
        (let same : 2 ^ j + (2 ^ i + total is) ≡ 2 ^ i + total is + 2 ^ j = omega arith in same)
        ∙ sym (here false (ne_eqb i j (λ q. omega arith)) ∙ ap (λ b.
        cond b (2 ^ i + total is) (2 ^ i + total is + 2 ^ j)) (none_below (suc i) j is l.2 (omega arith)))
    go false true e f ih = sym (here true (eq-eqb i j (sym (eqb-true j i f))))
    go false false e f ih =
        let n = eqb-false j i f in
        ap (λ m. 2 ^ i + m) ih ∙ more (has is j) ∙ sym (here false (ne_eqb i j (λ q. n (sym q))))

filter_same : (j : ℕ) (js : List ℕ) → has js j ≡ false → filter (λ i. not (i == j)) js ≡ js
filter_same j [] e = refl
filter_same j (i ∷ is) e = go (i == j) refl e (filter_same j is)
  where
    go : (b : Bool) → (i == j) ≡ b → (b || has is j) ≡ false → (has is j ≡ false → filter (λ i. not (i == j)) is ≡ is)
        → cond (not b) (i ∷ filter (λ i. not (i == j)) is) (filter (λ i. not (i == j)) is) ≡ i ∷ is
    go true q h ih = cc
    go false q h ih = ap (λ z. i ∷ z) (ih h)

total_out : (low j : ℕ) (js : List ℕ) → AreLines low js → has js j ≡ true
    → total js ≡ total (filter (λ i. not (i == j)) js) + 2 ^ j
unfolding total
total_out low j [] l e = cc
total_out low j (i ∷ is) l e = go (i == j) refl e (total_out (suc i) j is l.2)
  where
    go : (b : Bool) → (i == j) ≡ b → (b || has is j) ≡ true
        → (has is j ≡ true → total is ≡ total (filter (λ i. not (i == j)) is) + 2 ^ j) → 2 ^ i + total is
        ≡ total (cond (not b) (i ∷ filter (λ i. not (i == j)) is) (filter (λ i. not (i == j)) is)) + 2 ^ j
    go true q h ih =
        let same : i ≡ j = eqb-true i j q in
        let rest : filter (λ i. not (i == j)) is ≡ is = filter_same j is (none_below (suc i) j is l.2 (omega arith)) in
        let powers : 2 ^ i ≡ 2 ^ j = ap (λ n. 2 ^ n) same in
        let sums : total (filter (λ i. not (i == j)) is) ≡ total is = ap total rest in
        omega (arith, powers, sums)
    go false q h ih = let r = ih h in omega (arith, r)

pow_most : (i j : ℕ) → i ≤ j → 2 ^ i ≤ 2 ^ j
pow_most i j h = elim (cases_eq i j) [
  | inl e ↦ (let p : 2 ^ i ≡ 2 ^ j = ap (λ n. 2 ^ n) e in
      omega (arith, p))
  | inr n ↦ (let p = pow_below i j (omega (arith, n)) in omega (arith, p))
]

total_small : (low : ℕ) (js : List ℕ) → AreLines low js → low ≤ 16 → total js + 2 ^ low ≤ 65536
unfolding total
total_small low [] l h = let p = pow_most low 16 h in omega (arith, p)
total_small low (j ∷ js) l h =
    let (a, b, more) = l in
    let r = total_small (suc j) js more (omega arith) in
    let p = pow_most low j a in
    let double : 2 ^ suc j ≡ 2 * 2 ^ j = omega arith in
    omega (arith, r, p, double)

-- ---- its bits

bits_total : (js : List ℕ) → total js ≡ bits 0 js
bits_total js = sym (sum_total js) ∙ bits_sum js

-- the first line, and the others: the rest of the bits is that of lines from the next on
record Split (low : ℕ) (js : List ℕ) : Type 0 where
  rest : List ℕ
  lines : AreLines (suc low) rest
  first : Bool
  bits_are : bits low js ≡ cond first 1 0 + 2 * bits (suc low) rest
  has_first : has js low ≡ first
  has_rest : (k : ℕ) → suc low ≤ k → has js k ≡ has rest k

split : (low : ℕ) (js : List ℕ) → AreLines low js → Split low js
unfolding bits
split low [] l =
    record { rest = []; lines = tt; first = false; bits_are = refl; has_first = refl; has_rest = λ k h. refl }
split low (j ∷ js) l = elim (cases_eq j low) [
  | inl e ↦
      let one : 2 ^ (j - low) ≡ 1 = ap (λ n. 2 ^ n) (let z : j - low ≡ 0 = omega arith in z) in
      let d = bits_double low (suc j) js (omega arith) l.2 in
      record {
        rest = js;
        lines = subst (λ n. AreLines (suc n) js) e l.2;
        first = true;
        bits_are = omega (arith, one, d);
        has_first = ap (λ b. b || has js low) (eq-eqb j low e);
        has_rest = λ k h. ap (λ b. b || has js k) (ne_eqb j k (λ q. omega arith));
      }
  | inr n ↦
      let a = l.0 in
      let up : AreLines (suc low) (j ∷ js) = (omega (arith, a, n), l.1, l.2) in
      record {
        rest = j ∷ js;
        lines = up;
        first = false;
        bits_are = bits_double low (suc low) (j ∷ js) (omega arith) up ∙ none (bits (suc low) (j ∷ js));
        has_first = none_below (suc low) low (j ∷ js) up (omega arith);
        has_rest = λ k h. refl;
      }
]
  where
    none : (n : ℕ) → 2 * n ≡ cond false 1 0 + 2 * n
    none n = omega arith

odd : (b : Bool) (n : ℕ) → ((cond b 1 0 + 2 * n) % 2 == 1) ≡ b
odd true n = eq-eqb ((1 + 2 * n) % 2) 1 (omega arith)
odd false n = ne_eqb ((0 + 2 * n) % 2) 1 (λ e. omega arith)

half : (b : Bool) (n : ℕ) → (cond b 1 0 + 2 * n) / 2 ≡ n
half true n = omega arith
half false n = omega arith

bit_at : (k low : ℕ) (js : List ℕ) → AreLines low js → (bits low js / 2 ^ k % 2 == 1) ≡ has js (low + k)
bit_at zero low js l =
    let s = split low js l in
    let one : bits low js / 2 ^ 0 ≡ bits low js = omega arith in
    let same : low ≡ low + 0 = omega arith in
    ap (λ n. n % 2 == 1) one ∙ ap (λ n. n % 2 == 1) s.bits_are ∙ odd s.first (bits (suc low) s.rest) ∙ sym s.has_first
    ∙ ap (has js) same
bit_at (suc k) low js l =
    let s = split low js l in
    let next : low + suc k ≡ suc low + k = omega arith in
    let halved : bits low js / 2 ^ 1 ≡ bits (suc low) s.rest =
    ap (λ n. n / 2 ^ 1) s.bits_are ∙ half s.first (bits (suc low) s.rest) in
    let shift : bits low js / 2 ^ (1 + k) ≡ bits (suc low) s.rest / 2 ^ k =
    sym (shr-shr (bits low js) 1 k) ∙ ap (λ n. n / 2 ^ k) halved in
    let order : suc k ≡ 1 + k = omega arith in
    ap (λ n. bits low js / 2 ^ n % 2 == 1) order ∙ ap (λ n. n % 2 == 1) shift ∙ bit_at k (suc low) s.rest s.lines
    ∙ sym (s.has_rest (suc low + k) (omega arith)) ∙ ap (has js) (sym next)

-- ---- said of the sum

module _ (js : List ℕ) (l : AreLines 0 js) (w : ℕ) (is : w ≡ sum_by (λ j. 2 ^ j) js) where
  w_total : w ≡ total js
  w_total = is ∙ sum_total js

  pub has_bit : (j : ℕ) → (w / 2 ^ j % 2 == 1) ≡ has js j
  has_bit j = ap (λ n. n / 2 ^ j % 2 == 1) (w_total ∙ bits_total js) ∙ bit_at j 0 js l
      ∙ ap (has js) (let z : 0 + j ≡ j = omega arith in z)

  pub bits_small : w < 65536
  bits_small = let r = total_small 0 js l (omega arith) in let e = w_total in omega (arith, r, e)

  pub bits_raised_there : (j : ℕ) → has js j ≡ true → w ≡ sum_by (λ i. 2 ^ i) (lines_with j js)
  bits_raised_there j e = w_total ∙ sym (ap (λ b. cond b (total js) (total js + 2 ^ j)) e) ∙ sym (total_raised 0 j js l)
      ∙ sym (sum_total (lines_with j js))

  pub bits_raised_new : (j : ℕ) → has js j ≡ false → w + 2 ^ j ≡ sum_by (λ i. 2 ^ i) (lines_with j js)
  bits_raised_new j e = ap (λ n. n + 2 ^ j) w_total ∙ sym (ap (λ b. cond b (total js) (total js + 2 ^ j)) e)
      ∙ sym (total_raised 0 j js l) ∙ sym (sum_total (lines_with j js))

  pub bits_hold : (j : ℕ) → has js j ≡ true → 2 ^ j ≤ w
  bits_hold j e = let r = total_out 0 j js l e in let q = w_total in omega (arith, r, q)

  pub bits_out_there : (j : ℕ) → has js j ≡ true → w - 2 ^ j ≡ sum_by (λ i. 2 ^ i) (filter (λ i. not (i == j)) js)
  bits_out_there j e =
      let r = total_out 0 j js l e in
      let q = w_total in
      let left : w - 2 ^ j ≡ total (filter (λ i. not (i == j)) js) = omega (arith, r, q) in
      left ∙ sym (sum_total (filter (λ i. not (i == j)) js))

  pub bits_out_none : (j : ℕ) → has js j ≡ false → w ≡ sum_by (λ i. 2 ^ i) (filter (λ i. not (i == j)) js)
  bits_out_none j e = is ∙ ap (sum_by (λ i. 2 ^ i)) (sym (filter_same j js e))

-- ---- the least line of a kind

module _ (P : ℕ → Option Ctx) where
  pub find_least : (low : ℕ) (js : List ℕ) → AreLines low js → (j : ℕ) (h : Ctx) → has js j ≡ true → P j ≡ Some h
      → ((k : ℕ) → k < j → has js k ≡ true → P k ≡ None) → find (λ j. is_some (P j)) js ≡ Some j
  find_least low [] l j h at is before = cc
  find_least low (i ∷ is) l j h at here before = go (P i) refl (find_least (suc i) is l.2 j h)
    where
      go : (o : Option Ctx) → P i ≡ o → (has is j ≡ true → P j ≡ Some h
          → ((k : ℕ) → k < j → has is k ≡ true → P k ≡ None) → find (λ j. is_some (P j)) is ≡ Some j)
          → cond (is_some o) (Some i) (find (λ j. is_some (P j)) is) ≡ Some j
      go None e ih = elim (cases_eq i j) [
        | inl q ↦ let no : None ≡ Some h = sym e ∙ ap P q ∙ here in cc
        | inr n ↦ ih (ap (λ b. b || has is j) (sym (ne_eqb i j n)) ∙ at) here
            (λ k b t. before k b (ap (λ b. (i == k) || b) t ∙ or_true (i == k)))
      ]
        where
          or_true : (b : Bool) → (b || true) ≡ true
          or_true true = refl
          or_true false = refl
      go (Some q) e ih = elim (cases_eq i j) [
        | inl same ↦ ap Some same
        | inr n ↦ elim (cases_Bool (nat_lt i j)) [
          | inl low ↦ let no : Some q ≡ None =
              sym e ∙ before i (ltb-true i j low) (ap (λ b. b || has is i) (eq-eqb i i refl)) in cc
          | inr high ↦
              let m = ltb-false i j high in
              let off : has (i ∷ is) j ≡ false =
              ap₂ (λ x y. x || y) (ne_eqb i j n) (none_below (suc i) j is l.2 (omega (arith, m))) in
              let no : true ≡ false = sym at ∙ off in cc
        ]
      ]

  pub find_no : (js : List ℕ) → ((k : ℕ) → has js k ≡ true → P k ≡ None) → find (λ j. is_some (P j)) js ≡ None
  find_no [] all = refl
  find_no (i ∷ is) all = ap (λ o. cond (is_some o) (Some i) (find (λ j. is_some (P j)) is))
      (all i (ap (λ b. b || has is i) (eq-eqb i i refl)))
      ∙ find_no is (λ k t. all k (ap (λ b. (i == k) || b) t ∙ or_true (i == k)))
    where
      or_true : (b : Bool) → (b || true) ≡ true
      or_true true = refl
      or_true false = refl
