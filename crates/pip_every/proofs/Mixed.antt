-- Changes are found place by place.
use Rattle.std.proofs.Common.{◌≡◌, ℕ, zero, suc, ◌+◌, ◌*◌, ◌/◌, ◌%◌, ◌<◌, ◌≤◌, List, [], ◌∷◌, ◌++◌, length}
use Rattle.std.proofs.Common.{if◌then◌else◌, refl, sym, ap, subst, ◌∙◌, arith, inl, inr}
use Rattle.std.proofs.lemmas.Bool.{cases_eq, cases_lt, eq-eqb, ne_eqb}
use Rattle.std.proofs.lemmas.Bool.Decides.{eqb_tells}
use Rattle.std.proofs.lemmas.List.{append-nil}
use Rattle.pip_base.specs.Memory.{IsMemory, Memory, put_word, word_at}
use Rattle.pip_base.proofs.Memory.{word_at-put_same, word_at-put_frame, word_at-put_index, length-put_word}
use Rattle.pip_base.proofs.Memory.{IsMemory-put, same_words}
use Rattle.pip_switch.specs.Rewinding.{ArePlaces, rewritten}
use Rattle.pip_every.specs.Changes.{AreChanges, IsMixed, changes, changes_at, changes_below, word_at_place}

pub no_change : (a m : Memory) (place : ℕ) → word_at_place m place ≡ word_at_place a place → changes_at a m place ≡ []
no_change a m place e = ap (λ b. if b then [] else place ∷ word_at_place m place ∷ [])
    (eq-eqb (word_at_place m place) (word_at_place a place) e)

pub one_change : (a m : Memory) (place : ℕ) → (word_at_place m place ≡ word_at_place a place → ⊥)
    → changes_at a m place ≡ place ∷ word_at_place m place ∷ []
one_change a m place n = ap (λ b. if b then [] else place ∷ word_at_place m place ∷ [])
    (ne_eqb (word_at_place m place) (word_at_place a place) n)

-- there are no more changes where the words from a place on are as at first
changes_same : (a m : Memory) (k l : ℕ) → k ≤ l
    → ((g j : ℕ) → j < 1024 → k ≤ 1024 * g + j → 1024 * g + j < l → word_at m g j ≡ word_at a g j)
    → changes_below a m l ≡ changes_below a m k
unfolding changes_below
changes_same a m k zero le same = let none : zero ≡ k = omega (arith, le) in ap (λ v. changes_below a m v) none
changes_same a m k (suc l) le same = elim (cases_eq k (suc l)) [
  | inl e ↦ ap (λ v. changes_below a m v) (sym e)
  | inr n ↦ let low : k ≤ l = omega (arith, le, n) in
      let index : l % 1024 < 1024 = omega arith in
      let whole : 1024 * (l / 1024) + l % 1024 ≡ l = omega arith in
      let here : word_at_place m l ≡ word_at_place a l = same (l / 1024) (l % 1024) index (omega (arith, low, whole))
      (omega (arith, whole)) in
      ap (λ v. changes_below a m l ++ v) (no_change a m l here) ∙ (append-nil (changes_below a m l) ∙
      changes_same a m k l low (λ g j ji large small. same g j ji large (omega (arith, small))))
]

-- a word that is another is one change more
changes_put : (a m : Memory) (f i : ℕ) → i < 1024 → (word_at m f i ≡ word_at a f i → ⊥)
    → changes_below a m (suc (1024 * f + i)) ≡ changes_below a m (1024 * f + i) ++ ((1024 * f + i) ∷ word_at m f i ∷ [])
unfolding changes_below
changes_put a m f i ii other =
    let div : (1024 * f + i) / 1024 ≡ f = omega (arith, ii) in
    let index : (1024 * f + i) % 1024 ≡ i = omega (arith, ii) in
    let word : (n : Memory) → word_at_place n (1024 * f + i) ≡ word_at n f i = λ n. ap (λ v. word_at n v
    ((1024 * f + i) % 1024)) div ∙ ap (λ v. word_at n f v) index in
    ap (λ v. changes_below a m (1024 * f + i) ++ v)
    (one_change a m (1024 * f + i) (λ e. other (sym (word m) ∙ (e ∙ word a))) ∙
    ap (λ v. (1024 * f + i) ∷ v ∷ []) (word m))

pub mixed_start : (a m : Memory) → IsMemory a → IsMixed a m 0 a
mixed_start a m shape = record {
  count = refl;
  shape = shape;
  below = λ g j gi ji lt. absurd (omega (arith, lt));
  above = λ g j gi ji le. refl;
}

pub mixed_end : (a m r : Memory) → IsMixed a m (1024 * length a) r → IsMemory m → length m ≡ length a → r ≡ m
mixed_end a m r x shape count =
    same_words r m x.shape shape (x.count ∙ sym count)
    (λ g j gi ji. let gi2 : g < length a = omega (arith, x.count, gi) in let small : 1024 * g + j < 1024 * length
    a = omega (arith, gi2, ji) in x.below g j gi2 ji small)

pub mixed_same : (a m r : Memory) (k l : ℕ) → IsMixed a m k r → k ≤ l
    → ((g j : ℕ) → j < 1024 → k ≤ 1024 * g + j → 1024 * g + j < l → word_at m g j ≡ word_at a g j)
    → IsMixed a m l r
mixed_same a m r k l x le same = record {
  count = x.count;
  shape = x.shape;
  below = λ g j gi ji lt. elim (cases_lt (1024 * g + j) k) [
    | inl small ↦ x.below g j gi ji small
    | inr large ↦ x.above g j gi ji large ∙ sym (same g j ji large lt)
  ];
  above = λ g j gi ji large. let far : k ≤ 1024 * g + j = omega (arith, le, large) in x.above g j gi ji far;
}

put_below : (a m r : Memory) (f i g j : ℕ) → IsMixed a m (1024 * f + i) r → f < length r → i < 1024 → g < length a
    → j < 1024 → 1024 * g + j < suc (1024 * f + i) → word_at (put_word r f i (word_at m f i)) g j ≡ word_at m g j
put_below a m r f i g j x fr ii gi ji lt = elim (cases_eq g f) [
  | inl ge ↦ elim (cases_eq j i) [
    | inl je ↦ ap (λ v. word_at (put_word r f i (word_at m f i)) v j)
        ge ∙ (ap (λ v. word_at (put_word r f i (word_at m f i)) f v)
        je ∙ (word_at-put_same r f i (word_at m f i) x.shape fr
        ii ∙ (ap (λ v. word_at m f v) (sym je) ∙ ap (λ v. word_at m v j) (sym ge))))
    | inr jn ↦ let small : 1024 * g + j < 1024 * f + i = omega (arith, lt, ge, jn) in
        ap (λ v. word_at (put_word r f i (word_at m f i)) v j)
        ge ∙ (word_at-put_index r f i (word_at m f i) f j x.shape fr ii
        jn ∙ (ap (λ v. word_at r v j) (sym ge) ∙ x.below g j gi ji small))
  ]
  | inr gn ↦ let small : 1024 * g + j < 1024 * f + i = omega (arith, lt, gn, ji, ii) in word_at-put_frame r f i
      (word_at m f i) g j x.shape fr ii gn ∙ x.below g j gi ji small
]

put_above : (a m r : Memory) (f i g j : ℕ) → IsMixed a m (1024 * f + i) r → f < length r → i < 1024 → g < length a
    → j < 1024 → suc (1024 * f + i) ≤ 1024 * g + j → word_at (put_word r f i (word_at m f i)) g j ≡ word_at a g j
put_above a m r f i g j x fr ii gi ji le =
    let far : 1024 * f + i ≤ 1024 * g + j = omega (arith, le) in
    elim (cases_eq g f) [
      | inl ge ↦ let jn : j ≡ i → ⊥ = λ e. omega (arith, le, ge, e) in
          ap (λ v. word_at (put_word r f i (word_at m f i)) v j)
          ge ∙ (word_at-put_index r f i (word_at m f i) f j x.shape fr ii
          jn ∙ (ap (λ v. word_at r v j) (sym ge) ∙ x.above g j gi ji far))
      | inr gn ↦ word_at-put_frame r f i (word_at m f i) g j x.shape fr ii gn ∙ x.above g j gi ji far
    ]

pub mixed_put : (a m r : Memory) (f i : ℕ) → IsMixed a m (1024 * f + i) r → f < length a → i < 1024
    → IsMixed a m (suc (1024 * f + i)) (put_word r f i (word_at m f i))
mixed_put a m r f i x fi ii =
    let fr : f < length r = omega (arith, x.count, fi) in record {
      count = length-put_word r f i (word_at m f i) ∙ x.count;
      shape = IsMemory-put r f i (word_at m f i) x.shape fr;
      below = λ g j gi ji lt. put_below a m r f i g j x fr ii gi ji lt;
      above = λ g j gi ji le. put_above a m r f i g j x fr ii gi ji le;
    }

rewritten_more : (a : Memory) (n : ℕ) (ws : List ℕ) (place word : ℕ) → ArePlaces n ws
    → rewritten a (ws ++ (place ∷ word ∷ [])) ≡ put_word (rewritten a ws) (place / 1024) (place % 1024) word
rewritten_more a n [] place word h = refl
rewritten_more a n (p ∷ []) place word h = absurd h
rewritten_more a n (p ∷ w ∷ ws) place word h = rewritten_more (put_word a (p / 1024) (p % 1024) w) n ws place word h.1

places_more : (n : ℕ) (ws : List ℕ) (place word : ℕ) → ArePlaces n ws → place < 1024 * n
    → ArePlaces n (ws ++ (place ∷ word ∷ []))
places_more n [] place word h in_frames = (in_frames, tt)
places_more n (p ∷ []) place word h in_frames = absurd h
places_more n (p ∷ w ∷ ws) place word h in_frames = (h.0, places_more n ws place word h.1 in_frames)

put_change : (a m : Memory) (f i : ℕ) (ws : List ℕ) → AreChanges a m (1024 * f + i) ws → f < length a → i < 1024
    → (word_at m f i ≡ word_at a f i → ⊥)
    → AreChanges a m (suc (1024 * f + i)) (ws ++ ((1024 * f + i) ∷ word_at m f i ∷ []))
put_change a m f i ws h fi ii other =
    let div : (1024 * f + i) / 1024 ≡ f = omega (arith, ii) in
    let index : (1024 * f + i) % 1024 ≡ i = omega (arith, ii) in
    let is : rewritten a (ws ++ ((1024 * f + i) ∷ word_at m f i ∷ [])) ≡ put_word (rewritten a ws) f i
    (word_at m f i) = rewritten_more a (length a) ws (1024 * f + i) (word_at m f i) h.places ∙
    (ap (λ v. put_word (rewritten a ws) v ((1024 * f + i) % 1024) (word_at m f i))
    div ∙ ap (λ v. put_word (rewritten a ws) f v (word_at m f i)) index) in
    record {
      are = ap (λ v. v ++ ((1024 * f + i) ∷ word_at m f i ∷ [])) h.are ∙ sym (changes_put a m f i ii other);
      places = places_more (length a) ws (1024 * f + i) (word_at m f i) h.places (omega (arith, fi, ii));
      mixed = subst (λ v. IsMixed a m (suc (1024 * f + i)) v) (sym is)
          (mixed_put a m (rewritten a ws) f i h.mixed fi ii);
    }

no_changes : (a m : Memory) → IsMemory a → AreChanges a m 0 []
unfolding changes_below
no_changes a m shape = record { are = refl; places = tt; mixed = mixed_start a m shape }

-- the changes at one place more
change_more : (a m : Memory) (k : ℕ) → k < 1024 * length a → AreChanges a m k (changes_below a m k)
    → AreChanges a m (suc k) (changes_below a m (suc k))
change_more a m k lt h =
    let f : ℕ = k / 1024 in
    let i : ℕ = k % 1024 in
    let fi : f < length a = omega (arith, lt) in
    let ii : i < 1024 = omega arith in
    let whole : k ≡ 1024 * f + i = omega arith in
    let P : List ℕ → Type 0 = λ v. AreChanges a m (suc k) v in
    elim (eqb_tells (word_at m f i) (word_at a f i)) [
      | inl e ↦
          let each : (g j : ℕ) → j < 1024 → k ≤ 1024 * g + j → 1024 * g + j < suc k → word_at m g j ≡ word_at a g j =
          λ g j ji large small.
          let at_g : g ≡ f = omega (arith, ji, large, small) in
          let at_j : j ≡ i = omega (arith, ji, large, small) in
          ap (λ v. word_at m v j) at_g ∙ (ap (λ v. word_at m f v) at_j ∙ (e.1 ∙
          (ap (λ v. word_at a f v) (sym at_j) ∙ ap (λ v. word_at a v j) (sym at_g)))) in
          let is : changes_below a m (suc k) ≡ changes_below a m k = changes_same a m k (suc k) (omega arith) each in
          subst P (sym is) (record {
            are = sym is;
            places = h.places;
            mixed = mixed_same a m (rewritten a (changes_below a m k)) k (suc k) h.mixed (omega arith) each;
          })
      | inr n ↦
          let here : AreChanges a m (1024 * f + i) (changes_below a m k) =
          subst (λ v. AreChanges a m v (changes_below a m k)) whole h in
          let after : AreChanges a m (suc (1024 * f + i))
          (changes_below a m k ++ ((1024 * f + i) ∷ word_at m f i ∷ [])) =
          put_change a m f i (changes_below a m k) here fi ii n.1 in
          let at : AreChanges a m (suc k) (changes_below a m k ++ ((1024 * f + i) ∷ word_at m f i ∷ [])) =
          subst (λ v. AreChanges a m (suc v) (changes_below a m k ++ ((1024 * f + i) ∷ word_at m f i ∷ []))) (sym whole)
          after in
          subst P at.are at
    ]

changes_to : (a m : Memory) (k : ℕ) → IsMemory a → k ≤ 1024 * length a → AreChanges a m k (changes_below a m k)
unfolding changes_below
changes_to a m zero shape le = no_changes a m shape
changes_to a m (suc k) shape le = change_more a m k (omega (arith, le)) (changes_to a m k shape (omega (arith, le)))

-- the changes are places, and written over the first words they make the others
pub changes_written : (a m : Memory) → IsMemory a → IsMemory m → length m ≡ length a
    → ArePlaces (length a) (changes a m) × (rewritten a (changes a m) ≡ m)
changes_written a m shape other count =
    let h : AreChanges a m (1024 * length a) (changes a m) = changes_to a m (1024 * length a) shape (omega arith) in
    (h.places, mixed_end a m (rewritten a (changes a m)) h.mixed other count)
