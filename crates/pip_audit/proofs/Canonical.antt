-- A text that is read as a memory is the text of this memory.
use Rattle.std.specs.Prelude.{◌≡◌, ◌≢◌, refl, ℕ, zero, suc, ◌+◌, ◌*◌, ◌-◌, ◌<◌, ◌≤◌, ◌==◌, ◌||◌, true, false, not, List}
use Rattle.std.specs.Prelude.{[], ◌∷◌, ◌++◌, length, map, flat_map, codes, decimal, slice_index}
use Rattle.std.specs.List.{list_any}
use Rattle.std.proofs.Common.{eq-eqb, ap, sym, ◌∙◌, arith, cond, append_assoc, append-nil}
use Rattle.pip_model.specs.Dump.{group_line, group_text, with_frame_line, index_text, numbers_from}
use Rattle.pip_model.specs.Text.{line_text, word_digits}
use Rattle.pip_audit.specs.CoreTexts.{core_words}
use Rattle.pip_audit.proofs.LineTexts.{words_after}
use Rattle.pip_audit.proofs.RoundTrip.{any_mapped, some}

-- ---- numbers and texts

pub numbers_more : (i a b : ℕ) → numbers_from i (a + b) ≡ numbers_from i a ++ numbers_from (i + a) b
numbers_more i zero b = let k : i + 0 ≡ i = omega arith in let n : zero + b ≡ b = omega arith in
    ap (numbers_from i) n ∙ ap (λ j. numbers_from j b) (sym k)
numbers_more i (suc a) b =
    let n : suc a + b ≡ suc (a + b) = omega arith in
    let k : i + 1 + a ≡ i + suc a = omega arith in
    ap (numbers_from i) n
    ∙ (ap (λ l. i ∷ l) (numbers_more (i + 1) a b) ∙ ap (λ j. i ∷ (numbers_from (i + 1) a ++ numbers_from j b)) k)

flat_append : (f : ℕ → List ℕ) (xs ys : List ℕ) → flat_map f (xs ++ ys) ≡ flat_map f xs ++ flat_map f ys
flat_append f [] ys = refl
flat_append f (x ∷ xs) ys =
    ap (λ l. f x ++ l) (flat_append f xs ys) ∙ sym (append_assoc (f x) (flat_map f xs) (flat_map f ys))

-- that many, and that many more of which nothing comes
flat_quiet : (f : ℕ → List ℕ) (i k : ℕ) → ((j : ℕ) → i ≤ j → j < i + k → f j ≡ []) → flat_map f (numbers_from i k) ≡ []
flat_quiet f i zero h = refl
flat_quiet f i (suc k) h = ap (λ l. l ++ flat_map f (numbers_from (i + 1) k)) (h i (omega arith) (omega arith))
    ∙ flat_quiet f (i + 1) k (λ j a b. h j (omega (arith, a)) (omega (arith, b)))

abbrev pub upto : (ℕ → List ℕ) → ℕ → List ℕ
upto f k = flat_map f (numbers_from 0 k)

pub upto_more : (f : ℕ → List ℕ) (a b : ℕ) → a ≤ b → ((j : ℕ) → a ≤ j → j < b → f j ≡ []) → upto f b ≡ upto f a
upto_more f a b le h =
    let e : b ≡ a + (b - a) = omega (arith, le) in
    ap (upto f) e
    ∙ ap (flat_map f) (numbers_more 0 a (b - a))
    ∙ flat_append f (numbers_from 0 a) (numbers_from (0 + a) (b - a))
    ∙ ap (λ l. upto f a ++ l) (flat_quiet f (0 + a) (b - a) (λ j x y. h j (omega (arith, x)) (omega (arith, y, le))))
    ∙ append-nil (upto f a)

pub upto_next : (f : ℕ → List ℕ) (a : ℕ) → upto f (a + 1) ≡ upto f a ++ f a
upto_next f a =
    ap (flat_map f) (numbers_more 0 a 1)
    ∙ flat_append f (numbers_from 0 a) (numbers_from (0 + a) 1)
    ∙ ap (λ l. upto f a ++ l) (append-nil (f (0 + a)) ∙ ap f (let e : 0 + a ≡ a = omega arith in e))

flat_same : (f g : ℕ → List ℕ) (i k : ℕ) → ((j : ℕ) → i ≤ j → j < i + k → f j ≡ g j)
    → flat_map f (numbers_from i k) ≡ flat_map g (numbers_from i k)
flat_same f g i zero h = refl
flat_same f g i (suc k) h =
    ap (λ l. l ++ flat_map f (numbers_from (i + 1) k)) (h i (omega arith) (omega arith))
    ∙ ap (λ l. g i ++ l) (flat_same f g (i + 1) k (λ j a b. h j (omega (arith, a)) (omega (arith, b))))

pub upto_same : (f g : ℕ → List ℕ) (k : ℕ) → ((j : ℕ) → j < k → f j ≡ g j) → upto f k ≡ upto g k
upto_same f g k h = flat_same f g 0 k (λ j a b. h j (omega (arith, b)))

-- ---- the groups of a frame

any_zero : (w : ℕ → ℕ) (i k : ℕ) → ((j : ℕ) → i ≤ j → j < i + k → w j ≡ 0)
    → list_any (λ i. not (w i == 0)) (numbers_from i k) ≡ false
any_zero w i zero h = refl
any_zero w i (suc k) h =
    ap (λ b. not b || list_any (λ i. not (w i == 0)) (numbers_from (i + 1) k))
    (eq-eqb (w i) 0 (h i (omega arith) (omega arith)))
    ∙ any_zero w (i + 1) k (λ j a b. h j (omega (arith, a)) (omega (arith, b)))

any_same : (w v : ℕ → ℕ) (i k : ℕ) → ((j : ℕ) → i ≤ j → j < i + k → w j ≡ v j)
    → list_any (λ i. not (w i == 0)) (numbers_from i k) ≡ list_any (λ i. not (v i == 0)) (numbers_from i k)
any_same w v i zero h = refl
any_same w v i (suc k) h =
    ap (λ x. not (x == 0) || list_any (λ i. not (w i == 0)) (numbers_from (i + 1) k)) (h i (omega arith) (omega arith))
    ∙ ap (λ b. not (v i == 0) || b) (any_same w v (i + 1) k (λ j a b. h j (omega (arith, a)) (omega (arith, b))))

pub quiet_group : (w : ℕ → ℕ) (k : ℕ) → ((j : ℕ) → 8 * k ≤ j → j < 8 * (k + 1) → w j ≡ 0) → group_text w k ≡ []
quiet_group w k h = ap (λ b. cond b (group_line w k) []) (any_zero w (8 * k) 8 (λ j a b. h j a (omega (arith, b))))

pub same_group : (w v : ℕ → ℕ) (k : ℕ) → ((j : ℕ) → 8 * k ≤ j → j < 8 * (k + 1) → w j ≡ v j)
    → group_text w k ≡ group_text v k
same_group w v k h =
    let on : (j : ℕ) → 8 * k ≤ j → j < 8 * k + 8 → w j ≡ v j = λ j a b. h j a (omega (arith, b)) in
    ap (λ b. cond b (group_line w k) []) (any_same w v (8 * k) 8 on)
    ∙ ap (λ l. cond (some v k)
    (line_text (index_text (8 * k) ++ codes ":" ++ l)) []) (flat_same (λ i. codes " " ++ word_digits (w i))
    (λ i. codes " " ++ word_digits (v i)) (8 * k) 8 (λ j a b. ap (λ x. codes " " ++ word_digits x) (on j a b)))

after_mapped : (w : ℕ → ℕ) (is : List ℕ) → words_after w is ≡ core_words (map w is)
after_mapped w [] = refl
after_mapped w (i ∷ is) = ap (λ l. (codes " " ++ word_digits (w i)) ++ l) (after_mapped w is)

mapped_is : (w : ℕ → ℕ) (i : ℕ) (ws : List ℕ) → ((j : ℕ) → j < length ws → w (i + j) ≡ slice_index ws j)
    → map w (numbers_from i (length ws)) ≡ ws
mapped_is w i [] h = refl
mapped_is w i (x ∷ xs) h =
    let z : i + 0 ≡ i = omega arith in
    ap (λ y. y ∷ map w (numbers_from (i + 1) (length xs))) (ap w (sym z) ∙ h 0 (omega arith))
    ∙ ap (λ ys. x ∷ ys) (mapped_is w (i + 1) xs (λ j low. let e : i + 1 + j ≡ i + suc j = omega arith in
    ap w e ∙ h (suc j) (omega (arith, low))))

-- a group that has these words
pub written_group : (w : ℕ → ℕ) (k : ℕ) (ws : List ℕ) → length ws ≡ 8 → list_any (λ x. not (x == 0)) ws ≡ true
    → ((j : ℕ) → j < length ws → w (8 * k + j) ≡ slice_index ws j)
    → group_text w k ≡ line_text (index_text (8 * k) ++ codes ":" ++ core_words ws)
written_group w k ws size loud h =
    let all : map w (numbers_from (8 * k) 8) ≡ ws =
    ap (λ n. map w (numbers_from (8 * k) n)) (sym size) ∙ mapped_is w (8 * k) ws h in
    let yes : some w k ≡ true =
    sym (any_mapped w (numbers_from (8 * k) 8)) ∙ ap (list_any (λ x. not (x == 0))) all ∙ loud in
    ap (λ b. cond b (group_line w k) []) yes
    ∙ ap (λ l. line_text (index_text (8 * k) ++ codes ":" ++ l)) (after_mapped w (numbers_from (8 * k) 8)
    ∙ ap core_words all)

-- a frame of which all words are 0
pub quiet_frame : (f c : ℕ) (w : ℕ → ℕ) → c ≡ 128 → ((j : ℕ) → j < 1024 → w j ≡ 0)
    → with_frame_line f (upto (group_text w) c) ≡ []
quiet_frame f c w is h = ap (with_frame_line f)
    (upto_more (group_text w) 0 c (omega arith) (λ k a b. quiet_group w k (λ j x y. h j (omega (arith, y, b, is)))))

-- a frame with groups up to k, and none after them
pub ended_frame : (f c k : ℕ) (w : ℕ → ℕ) → c ≡ 128 → k ≤ 128 → ((j : ℕ) → 8 * k ≤ j → j < 1024 → w j ≡ 0)
    → upto (group_text w) k ≢ []
    → with_frame_line f (upto (group_text w) c) ≡ line_text (codes "frame " ++ decimal f) ++ upto (group_text w) k
ended_frame f c k w is low h some =
    ap (with_frame_line f) (upto_more (group_text w) k c (omega (arith, low, is)) (λ l a b.
    quiet_group w l (λ j x y. h j (omega (arith, x, a)) (omega (arith, y, b, is)))))
    ∙ heads (upto (group_text w) k) some
  where
    heads : (gs : List ℕ) → gs ≢ [] → with_frame_line f gs ≡ line_text (codes "frame " ++ decimal f) ++ gs
    heads [] n = absurd (n refl)
    heads (b ∷ bs) n = refl

pub not_nothing : (xs : List ℕ) (b : ℕ) (bs : List ℕ) → xs ++ b ∷ bs ≢ []
not_nothing [] b bs h = cc
not_nothing (x ∷ xs) b bs h = cc
