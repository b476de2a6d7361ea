-- The words of a frame in groups of eight, and the frame that has them.
use Rattle.std.proofs.Common.{◌≡◌, ◌≢◌, ℕ, zero, suc, ◌+◌, ◌-◌, ◌*◌, ◌/◌, ◌≤◌, ◌<◌, ◌==◌, cond, Bool, true, false, not}
use Rattle.std.proofs.Common.{◌||◌, List, [], ◌∷◌, ◌++◌, refl, sym, ap, ap₂, ◌∙◌, subst, append_assoc, arith, get_or}
use Rattle.std.proofs.Common.{length, inl, inr, eq-eqb, ne_eqb}
use Rattle.std.proofs.lemmas.Bool.{cases_eq, cases_lt}
use Rattle.std.specs.Prelude.{codes, decimal, flat_map}
use Rattle.std.specs.List.{list_any}
use Rattle.pip_base.specs.Memory.{Memory, frame_at, word_at}
use Rattle.pip_model.specs.Dump.{frame_text, group_line, group_text, with_frame_line, index_text, numbers_from}
use Rattle.pip_model.specs.Dump.{words_text}
use Rattle.pip_model.specs.Layout.{LaysOut, layout}
use Rattle.pip_model.specs.Text.{line_text, word_digits}
use Rattle.pip_model.specs.Tree.{Tree}
use Rattle.pip_table.specs.NextWord.{AreZero}

-- the first of the numbers up to a bound
pub numbers_step : (i n : ℕ) → i < n → numbers_from i (n - i) ≡ i ∷ numbers_from (i + 1) (n - (i + 1))
numbers_step i n h = let k : n - i ≡ suc (n - (i + 1)) = omega (arith, h) in ap (numbers_from i) k

pub numbers_end : (i n : ℕ) → n ≤ i → numbers_from i (n - i) ≡ []
numbers_end i n h = let k : n - i ≡ 0 = omega (arith, h) in ap (numbers_from i) k

-- that many, and that many more
pub numbers_more : (i a b : ℕ) → numbers_from i (a + b) ≡ numbers_from i a ++ numbers_from (i + a) b
numbers_more i zero b = let k : i + 0 ≡ i = omega arith in let n : zero + b ≡ b = omega arith in
    ap (numbers_from i) n ∙ ap (λ j. numbers_from j b) (sym k)
numbers_more i (suc a) b =
    let n : suc a + b ≡ suc (a + b) = omega arith in
    let k : i + 1 + a ≡ i + suc a = omega arith in
    ap (numbers_from i) n
    ∙ (ap (λ l. i ∷ l) (numbers_more (i + 1) a b) ∙ ap (λ j. i ∷ (numbers_from (i + 1) a ++ numbers_from j b)) k)

any_append : (p : ℕ → Bool) (xs ys : List ℕ) → list_any p (xs ++ ys) ≡ (list_any p xs || list_any p ys)
any_append p [] ys = refl
any_append p (x ∷ xs) ys = go (p x) (any_append p xs ys)
  where
    go : (b : Bool) → list_any p (xs ++ ys) ≡ (list_any p xs || list_any p ys)
        → (b || list_any p (xs ++ ys)) ≡ ((b || list_any p xs) || list_any p ys)
    go true e = refl
    go false e = e

-- one of the words is not 0 where one is in one of the groups
pub any_grouped : (p : ℕ → Bool) (k n : ℕ)
    → list_any p (numbers_from (8 * k) (8 * n)) ≡ list_any (λ j. list_any p (numbers_from (8 * j) 8)) (numbers_from k n)
any_grouped p k zero = refl
any_grouped p k (suc n) =
    let long : 8 * suc n ≡ 8 + 8 * n = omega arith in
    let next : 8 * k + 8 ≡ 8 * (k + 1) = omega arith in
    ap (λ m. list_any p (numbers_from (8 * k) m)) long
    ∙ (ap (list_any p) (numbers_more (8 * k) 8 (8 * n))
    ∙ (any_append p (numbers_from (8 * k) 8) (numbers_from (8 * k + 8) (8 * n))
    ∙ (ap (λ m. list_any p (numbers_from (8 * k) 8) || list_any p (numbers_from m (8 * n))) next
    ∙ ap (λ b. list_any p (numbers_from (8 * k) 8) || b) (any_grouped p (k + 1) n))))

module _ (word : ℕ → ℕ) where
  abbrev some : ℕ → Bool
  some k = list_any (λ i. not (word i == 0)) (numbers_from (8 * k) 8)

  quiet : (k : ℕ) → some k ≡ false → group_text word k ≡ []
  quiet k e = go (some k) e _
    where
      go : (b : Bool) → b ≡ false → (l : List ℕ) → cond b l [] ≡ []
      go true e l = cc
      go false e l = refl

  -- no group has a line
  pub no_groups : (ks : List ℕ) → list_any (λ k. list_any (λ i. not (word i == 0)) (numbers_from (8 * k) 8)) ks ≡ false
      → flat_map (group_text word) ks ≡ []
  unfolding quiet
  no_groups [] e = refl
  no_groups (k ∷ ks) e = go (some k) refl (no_groups ks) e
    where
      go : (b : Bool) → some k ≡ b → (list_any some ks ≡ false → flat_map (group_text word) ks ≡ [])
          → (b || list_any some ks) ≡ false → group_text word k ++ flat_map (group_text word) ks ≡ []
      go true h more e = cc
      go false h more e = ap (λ l. l ++ flat_map (group_text word) ks) (quiet k h) ∙ more e

-- the text of one number more
pub piece_more : (f : ℕ → List ℕ) (i n : ℕ) (text new : List ℕ) → i < n → new ≡ text ++ f i
    → new ++ flat_map f (numbers_from (i + 1) (n - (i + 1))) ≡ text ++ flat_map f (numbers_from i (n - i))
piece_more f i n text new h e =
    ap (λ l. l ++ flat_map f (numbers_from (i + 1) (n - (i + 1)))) e
    ∙ (append_assoc text (f i) (flat_map f (numbers_from (i + 1) (n - (i + 1))))
    ∙ ap (λ l. text ++ flat_map f l) (sym (numbers_step i n h)))

-- a group with a line
pub loud : (word : ℕ → ℕ) (k : ℕ) → true ≡ list_any (λ i. not (word i == 0)) (numbers_from (8 * k) 8)
    → group_line word k ≡ group_text word k
loud word k e = ap (λ b. cond b (group_line word k) []) e

-- ---- words of 0

any_false : (p : ℕ → Bool) (i n : ℕ) → ((j : ℕ) → i ≤ j → j < i + n → p j ≡ false)
    → list_any p (numbers_from i n) ≡ false
any_false p i zero h = refl
any_false p i (suc n) h = ap₂ (λ a b. a || b) (h i (omega arith) (omega arith))
    (any_false p (i + 1) n (λ j low high. h j (omega (arith, low)) (omega (arith, high))))

any_true : (p : ℕ → Bool) (i n j : ℕ) → i ≤ j → j < i + n → p j ≡ true → list_any p (numbers_from i n) ≡ true
any_true p i zero j low high e = absurd (omega (arith, low, high))
any_true p i (suc n) j low high e = elim (cases_eq i j) [
  | inl q ↦ ap (λ b. b || list_any p (numbers_from (i + 1) n)) (ap p q ∙ e)
  | inr ne ↦ or_true (p i) _ (any_true p (i + 1) n j (omega (arith, low, ne)) (omega (arith, high)) e)
]
  where
    or_true : (a b : Bool) → b ≡ true → (a || b) ≡ true
    or_true true b h = refl
    or_true false b h = h

module _ (words : List ℕ) where
  abbrev some_in : ℕ → ℕ → Bool
  some_in i n = list_any (λ j. not (get_or words j 0 == 0)) (numbers_from i n)

  pub none_in : (i n : ℕ) → AreZero words i (i + n) → some_in i n ≡ false
  none_in i n z = any_false _ i n (λ j low high. ap not (eq-eqb (get_or words j 0) 0 (z j low high)))

  pub one_in : (i n j : ℕ) → i ≤ j → j < i + n → get_or words j 0 ≢ 0 → some_in i n ≡ true
  one_in i n j low high ne = any_true _ i n j low high (ap not (ne_eqb (get_or words j 0) 0 ne))

  abbrev lines_of : ℕ → ℕ → List ℕ
  lines_of k n = flat_map (group_text (λ i. get_or words i 0)) (numbers_from k n)

  -- groups of zeros have no line
  skipped : (k m n : ℕ) → AreZero words (8 * k) (8 * (k + m)) → lines_of k (m + n) ≡ lines_of (k + m) n
  skipped k zero n z =
      let e : k ≡ k + 0 = omega arith in
      let none : 0 + n ≡ n = omega arith in
      ap (lines_of k) none ∙ ap (λ j. lines_of j n) e
  skipped k (suc m) n z =
      let here : group_text (λ i. get_or words i 0) k ≡ [] =
      quiet (λ i. get_or words i 0) k (none_in (8 * k) 8 (λ j low high. z j low (omega (arith, high)))) in
      let e : k + 1 + m ≡ k + suc m = omega arith in
      let more : suc m + n ≡ suc (m + n) = omega arith in
      ap (lines_of k) more
      ∙ (ap (λ l. l ++ lines_of (k + 1) (m + n)) here
      ∙ (skipped (k + 1) m n (λ j low high. z j (omega (arith, low)) (omega (arith, high)))
      ∙ ap (λ j. lines_of j n) e))

  pub lines_skipped : (k l : ℕ) → k ≤ l → l ≤ 128 → AreZero words (8 * k) (8 * l)
      → lines_of k (128 - k) ≡ lines_of l (128 - l)
  lines_skipped k l low high z =
      let e : 128 - k ≡ (l - k) + (128 - l) = omega (arith, low, high) in
      let f : k + (l - k) ≡ l = omega (arith, low) in
      ap (lines_of k) e
      ∙ (skipped k (l - k) (128 - l) (λ j a b. z j a (omega (arith, b, f))) ∙ ap (λ j. lines_of j (128 - l)) f)

  -- after groups of zeros the line of the group that has word i, which isn't 0
  lines_from : (k i : ℕ) → 8 * k ≤ i → i < 1024 → get_or words i 0 ≢ 0 → AreZero words (8 * k) i
      → lines_of k (128 - k) ≡ group_line (λ j. get_or words j 0) (i / 8) ++ lines_of (i / 8 + 1) (128 - (i / 8 + 1))
  lines_from k i low high ne z =
      let h : k ≤ i / 8 = omega (arith, low) in
      let inside : i / 8 < 128 = omega (arith, high) in
      lines_skipped k (i / 8) h (omega (arith, inside)) (λ j a b. z j a (omega (arith, b)))
      ∙ (ap (flat_map (group_text (λ j. get_or words j 0))) (numbers_step (i / 8) 128 inside)
      ∙ ap (λ l. l ++ lines_of (i / 8 + 1) (128 - (i / 8 + 1))) (sym (loud (λ j. get_or words j 0)
      (i / 8) (sym (one_in (8 * (i / 8)) 8 i (omega arith) (omega arith) ne)))))

  -- and where all words after are 0 no line is left
  pub lines_none : (k : ℕ) → k ≤ 128 → AreZero words (8 * k) 1024 → lines_of k (128 - k) ≡ []
  lines_none k high z = lines_skipped k 128 high (omega arith) z

  -- the first of some words that isn't 0, where not all are
  first_in : (i n : ℕ) → (AreZero words i (i + n) → ⊥)
      → (j : ℕ) × (i ≤ j) × (j < i + n) × (get_or words j 0 ≢ 0) × AreZero words i j
  first_in i zero some = absurd (some (λ j low high. absurd (omega (arith, low, high))))
  first_in i (suc n) some = elim (cases_eq (get_or words i 0) 0) [
    | inr ne ↦ (i, omega arith, omega arith, ne, λ j low high. absurd (omega (arith, low, high)))
    | inl z ↦
        let rest = first_in (i + 1) n (λ q. some (λ k low high. elim (cases_eq i k) [
          | inl same ↦ ap (λ m. get_or words m 0) (sym same) ∙ z
          | inr other ↦ q k (omega (arith, low, other)) (omega (arith, high))
        ])) in
        let (j, low, high, ne, zeros) = rest in (
          j,
          omega (arith, low),
          omega (arith, high),
          ne,
          λ k above below. elim (cases_eq i k) [
            | inl same ↦ ap (λ m. get_or words m 0) (sym same) ∙ z
            | inr other ↦ zeros k (omega (arith, above, other)) below
          ],
        )
  ]

  -- after groups of zeros the line of the next group
  pub lines_next : (k l : ℕ) → k ≤ l → l < 128 → AreZero words (8 * k) (8 * l) → (AreZero words (8 * l) (8 * l + 8) → ⊥)
      → lines_of k (128 - k) ≡ group_line (λ j. get_or words j 0) l ++ lines_of (l + 1) (128 - (l + 1))
  lines_next k l order inside z some =
      let (j, low, high, ne, zeros) = first_in (8 * l) 8 some in
      let same : j / 8 ≡ l = omega (arith, low, high) in
      lines_from k j (omega (arith, order, low)) (omega (arith, high, inside)) ne
      (λ i above below. elim (cases_lt i (8 * l)) [
        | inl e ↦ z i above e
        | inr e ↦ zeros i e below
      ])
      ∙ ap (λ n. group_line (λ j. get_or words j 0) n ++ lines_of (n + 1) (128 - (n + 1))) same

  -- whether some word isn't 0, by the first group with one
  pub tells_one : (l : ℕ) → l < 128 → (AreZero words (8 * l) (8 * l + 8) → ⊥) → true ≡ some_in 0 1024
  tells_one l inside some = let (j, low, high, ne, zeros) = first_in (8 * l) 8 some in
      sym (one_in 0 1024 j (omega arith) (omega (arith, high, inside)) ne)

  pub tells_none : AreZero words 0 1024 → false ≡ some_in 0 1024
  tells_none z = sym (none_in 0 1024 z)

-- ---- a whole frame

some_lines : (word : ℕ → ℕ) (ks : List ℕ) → list_any (λ k. list_any (λ i. not (word i == 0)) (numbers_from (8 * k) 8))
    ks ≡ true → (b : ℕ) × (bs : List ℕ) × (flat_map (group_text word) ks ≡ b ∷ bs)
some_lines word [] e = cc
some_lines word (k ∷ ks) e = go (list_any (λ i. not (word i == 0)) (numbers_from (8 * k) 8)) refl (some_lines word ks) e
  where
    rest : List ℕ
    rest = flat_map (group_text word) ks

    go : (b : Bool) → list_any (λ i. not (word i == 0)) (numbers_from (8 * k) 8) ≡ b
        → (list_any (λ k. list_any (λ i. not (word i == 0)) (numbers_from (8 * k) 8)) ks ≡ true
        → (c : ℕ) × (bs : List ℕ) × (flat_map (group_text word) ks ≡ c ∷ bs))
        → (b || list_any (λ k. list_any (λ i. not (word i == 0)) (numbers_from (8 * k) 8)) ks) ≡ true
        → (c : ℕ) × (bs : List ℕ) × (group_text word k ++ flat_map (group_text word) ks ≡ c ∷ bs)
    go true h more e = (_, _, ap (λ l. l ++ flat_map (group_text word) ks) (sym (loud word k (sym h))))
    go false h more e =
        let (c, bs, same) = more e in
        (c, bs, ap (λ l. l ++ flat_map (group_text word) ks) (ap (λ b. cond b (group_line word k) []) h) ∙ same)

pub frame_some : (f : ℕ) (word : ℕ → ℕ) → true ≡ list_any (λ i. not (word i == 0)) (numbers_from 0 1024)
    → line_text (codes "frame " ++ decimal f) ++ flat_map (group_text word) (numbers_from 0 128) ≡ words_text f word
frame_some f word e =
    let (b, bs, same) =
    some_lines word (numbers_from 0 128) (sym (any_grouped (λ i. not (word i == 0)) 0 128) ∙ sym e) in
    ap (λ l. line_text (codes "frame " ++ decimal f) ++ l) same ∙ sym (ap (with_frame_line f) same)

pub frame_none : (f : ℕ) (word : ℕ → ℕ) → false ≡ list_any (λ i. not (word i == 0)) (numbers_from 0 1024)
    → [] ≡ words_text f word
frame_none f word e =
    sym (ap (with_frame_line f) (no_groups word (numbers_from 0 128) (sym (any_grouped (λ i. not (word i == 0)) 0 128)
    ∙ sym e)))

-- two frames with the same words
module _ (w v : ℕ → ℕ) (same : (i : ℕ) → i < 1024 → w i ≡ v i) where
  any_same : (i n : ℕ) → i + n ≤ 1024
      → list_any (λ j. not (w j == 0)) (numbers_from i n) ≡ list_any (λ j. not (v j == 0)) (numbers_from i n)
  any_same i zero h = refl
  any_same i (suc n) h = λ d. not (same i (omega (arith, h)) d == 0) || any_same (i + 1) n (omega (arith, h)) d

  digits_same : (i n : ℕ) → i + n ≤ 1024 → flat_map (λ j. codes " " ++ word_digits (w j)) (numbers_from i n)
      ≡ flat_map (λ j. codes " " ++ word_digits (v j)) (numbers_from i n)
  digits_same i zero h = refl
  digits_same i (suc n) h =
      λ d. (codes " " ++ word_digits (same i (omega (arith, h)) d)) ++ digits_same (i + 1) n (omega (arith, h)) d

  group_same : (k : ℕ) → k < 128 → group_text w k ≡ group_text v k
  unfolding any_same digits_same
  group_same k h = λ d. cond (any_same (8 * k) 8 (omega (arith, h)) d)
      (line_text (index_text (8 * k) ++ codes ":" ++ digits_same (8 * k) 8 (omega (arith, h)) d)) []

  groups_same : (k n : ℕ) → k + n ≤ 128
      → flat_map (group_text w) (numbers_from k n) ≡ flat_map (group_text v) (numbers_from k n)
  unfolding group_same
  groups_same k zero h = refl
  groups_same k (suc n) h = λ d. group_same k (omega (arith, h)) d ++ groups_same (k + 1) n (omega (arith, h)) d

  pub words_same : (f : ℕ) → words_text f w ≡ words_text f v
  unfolding groups_same
  words_same f = ap (with_frame_line f) (groups_same 0 128 (omega arith))

-- the words that a memory has in a frame are the tree's
pub laid_words : (t : Tree) (m : Memory) (f : ℕ) (ws : List ℕ) → LaysOut t m → f < length m → ws ≡ frame_at m f
    → words_text f (λ i. get_or ws i 0) ≡ frame_text t f
unfolding frame_at word_at
laid_words t m f ws lays low e = words_same (λ i. get_or ws i 0) (layout t f)
    (λ i h. ap (λ l. get_or l i 0) e ∙ lays.word f i (subst (λ n. f < n) lays.count low) h) f
