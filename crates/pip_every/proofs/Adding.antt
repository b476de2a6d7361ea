-- Changes are added place by place, and part by part.
use Rattle.std.proofs.Common.{◌≡◌, ℕ, ◌+◌, ◌*◌, ◌-◌, ◌/◌, ◌%◌, ◌<◌, ◌≤◌, List, [], ◌∷◌, ◌++◌}
use Rattle.std.proofs.Common.{refl, sym, ap, ap₂, ◌∙◌, arith, get_or, append_assoc}
use Rattle.std.proofs.lemmas.List.{append-nil}
use Rattle.pip_base.specs.Memory.{Memory, frame_at, word_at}
use Rattle.pip_every.specs.Changes.{changes_at, changes_from, word_at_place}
use Rattle.pip_every.specs.Tracks.{SameWords}
use Rattle.pip_every.proofs.From.{from_join, from_one, from_same}
use Rattle.pip_every.proofs.Mixed.{no_change, one_change}

frame_word : (m : Memory) (f j : ℕ) (xs : List ℕ) → frame_at m f ≡ xs → word_at m f j ≡ get_or xs j 0
unfolding frame_at word_at
frame_word m f j xs e = ap (λ v. get_or v j 0) e

-- a word of a frame, by its place
place_word : (m : Memory) (f j p : ℕ) (xs : List ℕ) → frame_at m f ≡ xs → j < 1024 → p ≡ 1024 * f + j
    → word_at_place m p ≡ get_or xs j 0
place_word m f j p xs e ji at =
    let div : p / 1024 ≡ f = omega (arith, ji, at) in
    let index : p % 1024 ≡ j = omega (arith, ji, at) in
    ap₂ (word_at m) div index ∙ frame_word m f j xs e

-- one place more
one_more : (a m : Memory) (k n l p : ℕ) (old new more : List ℕ) → l ≡ n + 1 → p ≡ k + n
    → new ≡ old ++ changes_from a m k n → more ≡ new ++ changes_at a m p → more ≡ old ++ changes_from a m k l
one_more a m k n l p old new more is at h step =
    step ∙ (ap (λ v. v ++ changes_at a m p) h ∙ (append_assoc old (changes_from a m k n) (changes_at a m p)
    ∙ ap (λ v. old ++ v) (ap (λ v. changes_from a m k n ++ v) (sym (from_one a m p))
    ∙ sym (from_join a m k n 1 l p is at))))

-- a word was passed
pub same_step : (a m : Memory) (f s i : ℕ) (xs ys old new more : List ℕ) → frame_at a f ≡ xs → frame_at m f ≡ ys
    → s ≤ i → i < 1024 → get_or ys i 0 ≡ get_or xs i 0 → more ≡ new
    → new ≡ old ++ changes_from a m (1024 * f + s) (i - s)
    → more ≡ old ++ changes_from a m (1024 * f + s) (i + 1 - s)
same_step a m f s i xs ys old new more at_a at_m si ii same is h =
    let p : ℕ = 1024 * f + i in
    let none : changes_at a m p ≡ [] = no_change a m p
    (place_word m f i p ys at_m ii refl ∙ (same ∙ sym (place_word a f i p xs at_a ii refl))) in
    one_more a m (1024 * f + s) (i - s) (i + 1 - s) p old new more (omega (arith, si)) (omega (arith, si)) h
    (is ∙ (sym (append-nil new) ∙ ap (λ v. new ++ v) (sym none)))

-- a word was added
pub put_step : (a m : Memory) (f s i place word : ℕ) (xs ys old new mid more : List ℕ) → frame_at a f ≡ xs
    → frame_at m f ≡ ys → s ≤ i → i < 1024 → (get_or ys i 0 ≡ get_or xs i 0 → ⊥)
    → place ≡ 1024 * f + i → word ≡ get_or ys i 0 → mid ≡ new ++ (place ∷ []) → more ≡ mid ++ (word ∷ [])
    → new ≡ old ++ changes_from a m (1024 * f + s) (i - s)
    → more ≡ old ++ changes_from a m (1024 * f + s) (i + 1 - s)
put_step a m f s i place word xs ys old new mid more at_a at_m si ii other place_is word_is one two h =
    let p : ℕ = 1024 * f + i in
    let there : word_at_place m p ≡ get_or ys i 0 = place_word m f i p ys at_m ii refl in
    let some : changes_at a m p ≡ p ∷ word_at_place m p ∷ [] = one_change a m p
    (λ e. other (sym there ∙ (e ∙ place_word a f i p xs at_a ii refl))) in
    one_more a m (1024 * f + s) (i - s) (i + 1 - s) p old new more (omega (arith, si)) (omega (arith, si)) h
    (two ∙ (ap (λ v. v ++ (word ∷ [])) one ∙ (append_assoc new (place ∷ []) (word ∷ [])
    ∙ ap (λ v. new ++ v) (ap₂ (λ u v. u ∷ v ∷ []) place_is (word_is ∙ sym there) ∙ sym some))))

-- parts with the same words have the same changes
pub parts_same : (a b m : Memory) (f p q k n : ℕ) (xs ys : List ℕ) → k ≡ 1024 * f + 32 * p → n ≡ 32 * q - 32 * p
    → frame_at b f ≡ xs → frame_at m f ≡ ys → p ≤ q → q ≤ 32 → SameWords xs ys p q
    → changes_from a b k n ≡ changes_from a m k n
parts_same a b m f p q k n xs ys k_is n_is at_b at_m le end same = from_same a b m k n (λ g low high.
    let j : ℕ = g - 1024 * f in
    let ji : j < 1024 = omega (arith, low, high, le, end, k_is, n_is) in
    let at : g ≡ 1024 * f + j = omega (arith, low, k_is) in
    place_word b f j g xs at_b ji at
    ∙ (sym (same j (omega (arith, low, k_is)) (omega (arith, low, high, le, k_is, n_is)))
    ∙ sym (place_word m f j g ys at_m ji at)))

-- a list that grew by some changes, and then by those after them
pub grew : (a m : Memory) (k n p l at : ℕ) (old mid new : List ℕ) → l ≡ n + p → at ≡ k + n
    → mid ≡ old ++ changes_from a m k n → new ≡ mid ++ changes_from a m at p → new ≡ old ++ changes_from a m k l
grew a m k n p l at old mid new is at_is first then =
    then ∙ (ap (λ v. v ++ changes_from a m at p) first
    ∙ (append_assoc old (changes_from a m k n) (changes_from a m at p)
    ∙ ap (λ v. old ++ v) (sym (from_join a m k n p l at is at_is))))

-- and by changes at places where a memory has another's words
pub added : (a b m : Memory) (s n p r k l at o place : ℕ) (old mid new words rest : List ℕ) → k ≡ s + n → l ≡ n + p
    → at ≡ k + p → place ≡ k + p → o ≡ p + r → changes_from a b k p ≡ changes_from a m k p
    → mid ≡ old ++ changes_from a m s n → words ≡ changes_from a b k o
    → ((a b : Memory) (k n r : ℕ) → words ≡ changes_from a b k (n + r) → place ≡ k + n
    → (new ≡ mid ++ changes_from a b k n) × (rest ≡ changes_from a b (k + n) r))
    → (new ≡ old ++ changes_from a m s l) × (rest ≡ changes_from a b at r)
added a b m s n p r k l at o place old mid new words rest k_is l_is at_is place_is o_is same before own adds =
    let h = adds a b k p r (own ∙ ap (changes_from a b k) o_is) place_is in (
      grew a m s n p l k old mid new l_is k_is before (h.0 ∙ ap (λ v. mid ++ v) same),
      h.1 ∙ ap (λ v. changes_from a b v r) (sym at_is),
    )

-- frames with the same words have the same changes
pub frames_same : (a b m : Memory) (f g k n : ℕ) → k ≡ 1024 * f → n ≡ 1024 * g - 1024 * f → f ≤ g
    → ((h : ℕ) → f ≤ h → h < g → frame_at m h ≡ frame_at b h) → changes_from a b k n ≡ changes_from a m k n
frames_same a b m f g k n k_is n_is le same = from_same a b m k n (λ q low high.
    frame_word b (q / 1024) (q % 1024) (frame_at b (q / 1024)) refl
    ∙ (ap (λ v. get_or v (q % 1024) 0)
    (sym (same (q / 1024) (omega (arith, low, k_is)) (omega (arith, high, le, k_is, n_is))))
    ∙ sym (frame_word m (q / 1024) (q % 1024) (frame_at m (q / 1024)) refl)))

-- at first no place was passed
pub none_yet : (a m : Memory) (k n : ℕ) (old : List ℕ) → n ≡ 0 → old ≡ old ++ changes_from a m k n
unfolding changes_from
none_yet a m k n old is = sym (ap (λ v. old ++ changes_from a m k v) is ∙ append-nil old)
