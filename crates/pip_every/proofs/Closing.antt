-- Frames that are taken back.
use Rattle.std.proofs.Common.{◌≡◌, ℕ, zero, suc, ◌+◌, ◌/◌, ◌<◌, ◌≤◌, Bool, true, false, List, [], length, take, sym, ap}
use Rattle.std.proofs.Common.{get_or, ◌∙◌, arith, inl, inr, refl, subst}
use Rattle.std.proofs.Math.ListN.{replicate, set}
use Rattle.std.proofs.lemmas.Bool.{cases_eq, cases_lt}
use Rattle.std.proofs.lemmas.List.{ext_get_or, get_or_default, get_or_past, get_or-set_other, get_or-set_same}
use Rattle.std.proofs.lemmas.List.{get_or-take, length-take}
use Rattle.std.proofs.Math.Logic.{∥∥₁_elim}
use Rattle.std.proofs.Math.Nat.{ℕ_set}
use Rattle.std.specs.Prelude.{slice_index_or}
use Rattle.std.specs.Coded.{coded_list, coded_ℕ}
use base.Stored.{Coded-set}
use Rattle.pip_base.specs.Memory.{Memory, frame_at}
use Rattle.pip_every.specs.Opening.{all_opened, all_true}
use Rattle.pip_every.specs.Tracks.{StaysFrom, Tracks, TracksParts, TracksWords}

-- a frame that was not opened is as it was
pub tracked : (a m : Memory) (os : List Bool) (f : ℕ) → ∥ Tracks a m os ∥₁ → slice_index_or os f true ≡ false
    → frame_at m f ≡ frame_at a f
tracked a m os f t h = ∥∥₁_elim t (Coded-set (coded_list coded_ℕ) (frame_at m f) (frame_at a f)) (λ x. x f h)

tracked_parts : (a m : Memory) (ps : List (List Bool)) (f : ℕ) → ∥ TracksParts a m ps ∥₁
    → TracksWords (frame_at a f) (frame_at m f) (slice_index_or ps f [])
tracked_parts a m ps f t j ji h = ∥∥₁_elim t (ℕ_set (slice_index_or (frame_at m f) j 0)
    (slice_index_or (frame_at a f) j 0)) (λ x. x f j ji h)

-- nor are the words of a part that was not opened
pub tracked_words : (a m : Memory) (ps : List (List Bool)) (f k : ℕ) (row : List Bool) (xs ys : List ℕ)
    → row ≡ get_or ps k row → k ≡ f → f < length ps → xs ≡ frame_at a f → ys ≡ frame_at m f → ∥ TracksParts a m ps ∥₁
    → TracksWords xs ys row
tracked_words a m ps f k row xs ys is same fi xs_are ys_are t =
    let here : row ≡ slice_index_or ps f [] = is ∙ (ap (λ v. get_or ps v row) same ∙ get_or_default ps f row [] fi) in
    subst (λ v. TracksWords v ys row) (sym xs_are)
    (subst (λ v. TracksWords (frame_at a f) v row) (sym ys_are)
    (subst (λ v. TracksWords (frame_at a f) (frame_at m f) v) (sym here) (tracked_parts a m ps f t)))

-- at first nothing is closed
pub none_shut : (a m : Memory) (os : List Bool) (n : ℕ) → os ≡ replicate n true → Tracks a m os
none_shut a m os n is f h =
    let at : slice_index_or (replicate n true) f true ≡ false = ap (λ v. slice_index_or v f true) (sym is) ∙ h in
    absurd (cc (all_true n f, at))

rows_true : (n f k : ℕ) → slice_index_or (slice_index_or (replicate n all_opened) f []) k true ≡ true
rows_true zero f k = refl
rows_true (suc n) zero k = all_true 32 k
rows_true (suc n) (suc f) k = rows_true n f k

-- nor is any part
pub no_part_shut : (a m : Memory) (ps : List (List Bool)) (n : ℕ) → ps ≡ replicate n all_opened → TracksParts a m ps
no_part_shut a m ps n is f j ji h =
    let at : slice_index_or (slice_index_or (replicate n all_opened) f []) (j / 32) true ≡ false =
    ap (λ v. slice_index_or (slice_index_or v f []) (j / 32) true) (sym is) ∙ h in
    absurd (cc (rows_true n f (j / 32), at))

pub closed_more : (a m n : Memory) (f : ℕ) → n ≡ set m f (frame_at a f) → f < length m
    → ((k : ℕ) → k < f → frame_at m k ≡ frame_at a k) → (k : ℕ) → k < f + 1 → frame_at n k ≡ frame_at a k
unfolding frame_at
closed_more a m n f is fi before k lt = elim (cases_eq k f) [
  | inl e ↦ ap (λ v. slice_index_or v k [])
      is ∙ (ap (λ j. slice_index_or (set m f (slice_index_or a f [])) j [])
      e ∙ (get_or-set_same m f (slice_index_or a f []) [] fi ∙ ap (λ j. slice_index_or a j []) (sym e)))
  | inr n ↦ ap (λ v. slice_index_or v k [])
      is ∙ (get_or-set_other m f k (slice_index_or a f []) [] n ∙ before k (omega (arith, lt, n)))
]

pub all_closed : (a first m : Memory) → first ≡ a → length m ≡ length first
    → ((k : ℕ) → k < length m → frame_at m k ≡ frame_at a k) → m ≡ a
unfolding frame_at
all_closed a first m is count same = ext_get_or [] m a (count ∙ ap length is) same

-- the frame was opened, and got its first words
pub closed_at_next : (a m n : Memory) (f k : ℕ) → k ≡ f → n ≡ set m k (frame_at a k) → f < length m
    → ((j : ℕ) → j < f → frame_at m j ≡ frame_at a j) → (j : ℕ) → j < f + 1 → frame_at n j ≡ frame_at a j
closed_at_next a m n f k same is fi before = closed_more a m n f (subst (λ j. n ≡ set m j (frame_at a j)) same is) fi
    before

-- places that are shut in the first of a list are shut in the list
pub shut_in : (os some : List Bool) (n p q : ℕ) → some ≡ os → q ≤ n
    → ((k : ℕ) → p ≤ k → k < q → slice_index_or (take n some) k true ≡ false)
    → (k : ℕ) → p ≤ k → k < q → slice_index_or os k true ≡ false
shut_in os some n p q is le h k low high =
    ap (λ v. slice_index_or v k true) (sym is)
    ∙ (sym (get_or-take n some k true (omega (arith, le, high))) ∙ h k low high)

-- as many are the first of a list, at most
pub end_in : (some : List Bool) (n q : ℕ) → q ≤ length (take n some) → q ≤ n
end_in some n q le = omega (arith, le, length-take n some)

-- frames that were not opened are as at first
pub shut_frames : (a first m : Memory) (os : List Bool) (p q : ℕ) → first ≡ a → ∥ Tracks first m os ∥₁
    → ((k : ℕ) → p ≤ k → k < q → slice_index_or os k true ≡ false) → (k : ℕ) → p ≤ k → k < q
    → frame_at m k ≡ frame_at a k
shut_frames a first m os p q is t shut k low high = tracked first m os k t (shut k low high) ∙
    ap (λ v. frame_at v k) is

-- and so are those before the next one that was opened
pub closed_to : (a first m : Memory) (os : List Bool) (p q : ℕ) → first ≡ a → ∥ Tracks first m os ∥₁
    → ((k : ℕ) → p ≤ k → k < q → slice_index_or os k true ≡ false)
    → ((k : ℕ) → k < p → frame_at m k ≡ frame_at a k) → (k : ℕ) → k < q → frame_at m k ≡ frame_at a k
closed_to a first m os p q is t shut before k lt = elim (cases_lt k p) [
  | inl small ↦ before k small
  | inr large ↦ shut_frames a first m os p q is t shut k large lt
]

-- frames that are the same are tracked by any flags
pub same_tracked : (a m : Memory) (os : List Bool) → m ≡ a → Tracks a m os
same_tracked a m os is f h = ap (λ v. frame_at v f) is

pub same_parts_tracked : (a m : Memory) (ps : List (List Bool)) → m ≡ a → TracksParts a m ps
same_parts_tracked a m ps is f j ji h = ap (λ v. slice_index_or (frame_at v f) j 0) is

pub same_below : (a m : Memory) (top : ℕ) → m ≡ a → StaysFrom a m top
same_below a m top is f le = ap (λ v. frame_at v f) is

-- after the last frame there is none
pub none_above : (a m : Memory) (top : ℕ) → length a ≡ top → length m ≡ top → StaysFrom a m top
unfolding frame_at
none_above a m top a_is m_is f le = get_or_past m f [] (omega (arith, m_is, le))
    ∙ sym (get_or_past a f [] (omega (arith, a_is, le)))

-- the frames from one on that was not opened
pub below_at : (a m : Memory) (top f : ℕ) → ∥ StaysFrom a m top ∥₁ → top ≤ f → frame_at m f ≡ frame_at a f
below_at a m top f h le =
    ∥∥₁_elim h (Coded-set (coded_list coded_ℕ) (frame_at m f) (frame_at a f)) (λ x. x f le)

-- all frames are as they were, those from one on since none of them was opened
pub all_back : (a base m : Memory) (f top : ℕ) → base ≡ a → length m ≡ length base
    → ((k : ℕ) → k < f → frame_at m k ≡ frame_at a k) → ∥ StaysFrom base m top ∥₁
    → ((k : ℕ) → f ≤ k → k < length m → top ≤ k) → m ≡ base
all_back a base m f top is count before below above = all_closed base base m refl count (λ k lt. elim (cases_lt k f) [
  | inl small ↦ before k small ∙ ap (λ v. frame_at v k) (sym is)
  | inr large ↦ below_at base m top k below (above k large lt)
])
