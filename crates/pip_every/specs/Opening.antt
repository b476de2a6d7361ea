-- A frame or a part that is opened may be written, and the others are tracked as before.
use Rattle.std.proofs.Common.{◌≡◌, ℕ, suc, zero, ◌/◌, ◌+◌, ◌≤◌, max, arith, Bool, false, true}
use Rattle.std.proofs.Common.{List, [], ◌∷◌, length, refl, sym, ap, subst, ◌∙◌, ◌<◌, slice_index_or, inl, inr}
use Rattle.std.proofs.Math.ListN.{replicate, set}
use Rattle.std.proofs.Math.Logic.{∥∥₁_map}
use Rattle.std.proofs.lemmas.List.{length-set, get_or-set_other, get_or-set_same}
use Rattle.std.proofs.lemmas.Bool.{cases_eq}
use Rattle.pip_base.specs.Memory.{Memory, frame_at, put_word}
use Rattle.pip_every.specs.Tracks.{StaysFrom, IsRewound, Tracks, TracksParts}

-- a list has as many elements after a write
pub length_set : {A : Type 0} (xs : List A) (k : ℕ) (x : A) (n : ℕ) → length xs ≡ n → length (set xs k x) ≡ n
length_set xs k x n e = length-set xs k x ∙ e

set_true : (os : List Bool) (f : ℕ) → slice_index_or (set os f true) f true ≡ true
set_true [] f = refl
set_true (o ∷ os) zero = refl
set_true (o ∷ os) (suc f) = set_true os f

tracks_open : (a m : Memory) (os : List Bool) (f : ℕ) (ws : List ℕ) → Tracks a m os
    → Tracks a (set m f ws) (set os f true)
unfolding frame_at
tracks_open a m os f ws t g h = elim (cases_eq g f) [
  | inl e ↦ let at_f : slice_index_or (set os f true) f true ≡ false = ap (λ k. slice_index_or (set os f true) k true)
      (sym e) ∙ h in absurd (cc (set_true os f))
  | inr n ↦ get_or-set_other m f g ws [] n ∙ t g (sym (get_or-set_other os f g true true n) ∙ h)
]

-- a frame that is written is opened, also by a number that is the same
pub opened_at : (a m n : Memory) (os : List Bool) (f k : ℕ) (ws : List ℕ) → k ≡ f → n ≡ set m f ws
    → ∥ Tracks a m os ∥₁ → ∥ Tracks a n (set os k true) ∥₁
opened_at a m n os f k ws same is t = subst (λ v. ∥ Tracks a v (set os k true) ∥₁) (sym is)
    (subst (λ j. ∥ Tracks a (set m f ws) (set os j true) ∥₁) (sym same) (∥∥₁_map t (λ h. tracks_open a m os f ws h)))

-- a frame that is written is opened
pub opens_frame : (a m : Memory) (os : List Bool) (f : ℕ) (ws : List ℕ) → ∥ Tracks a m os ∥₁
    → ∥ Tracks a (set m f ws) (set os f true) ∥₁
opens_frame a m os f ws t = ∥∥₁_map t (λ h. tracks_open a m os f ws h)

-- a frame may be opened though it is not written
pub stays_open : (a m : Memory) (os : List Bool) (k : ℕ) → ∥ Tracks a m os ∥₁ → ∥ Tracks a m (set os k true) ∥₁
stays_open a m os k t =
    ∥∥₁_map t (λ h g shut. elim (cases_eq g k) [
      | inl e ↦ let at_k : slice_index_or (set os k true) k true ≡ false =
          ap (λ j. slice_index_or (set os k true) j true) (sym e) ∙ shut in absurd (cc (set_true os k))
      | inr n ↦ h g (sym (get_or-set_other os k g true true n) ∙ shut)
    ])

tracks_close : (a m : Memory) (os : List Bool) (f : ℕ) → f < length m → Tracks a m os
    → Tracks a (set m f (frame_at a f)) (set os f false)
unfolding frame_at
tracks_close a m os f fi t g h = elim (cases_eq g f) [
  | inl e ↦ ap (λ k. slice_index_or (set m f (slice_index_or a f [])) k [])
      e ∙ (get_or-set_same m f (slice_index_or a f []) [] fi ∙ ap (λ k. slice_index_or a k []) (sym e))
  | inr n ↦ get_or-set_other m f g (slice_index_or a f []) [] n ∙ t g (sym (get_or-set_other os f g false true n) ∙ h)
]

-- a frame that has its first words is closed
pub closed_at : (a m n : Memory) (os : List Bool) (f k : ℕ) → k ≡ f → n ≡ set m f (frame_at a f) → f < length m
    → ∥ Tracks a m os ∥₁ → ∥ Tracks a n (set os k false) ∥₁
closed_at a m n os f k same is fi t = subst (λ v. ∥ Tracks a v (set os k false) ∥₁) (sym is)
    (subst (λ j. ∥ Tracks a (set m f (frame_at a f)) (set os j false) ∥₁) (sym same)
    (∥∥₁_map t (λ h. tracks_close a m os f fi h)))

-- all parts of a frame were opened
abbrev pub all_opened : List Bool
all_opened = replicate 32 true

-- each of n flags that are set is set, and so is what lies beyond them
pub all_true : (n k : ℕ) → slice_index_or (replicate n true) k true ≡ true
all_true zero k = refl
all_true (suc n) zero = refl
all_true (suc n) (suc k) = all_true n k

row_true : (ps : List (List Bool)) (f k : ℕ) (row : List Bool) → slice_index_or row k true ≡ true
    → slice_index_or (slice_index_or (set ps f row) f []) k true ≡ true
row_true [] f k row h = refl
row_true (p ∷ ps) zero k row h = h
row_true (p ∷ ps) (suc f) k row h = row_true ps f k row h

parts_open : (a m : Memory) (ps : List (List Bool)) (f : ℕ) (ws : List ℕ) → TracksParts a m ps
    → TracksParts a (set m f ws) (set ps f all_opened)
unfolding frame_at
parts_open a m ps f ws t g j ji h = elim (cases_eq g f) [
  | inl e ↦ let at_f : slice_index_or (slice_index_or (set ps f all_opened) f []) (j / 32) true ≡ false =
      ap (λ k. slice_index_or (slice_index_or (set ps f all_opened) k []) (j / 32) true) (sym e) ∙ h in
      absurd (cc (row_true ps f (j / 32) all_opened (all_true 32 (j / 32)), at_f))
  | inr n ↦ ap (λ v. slice_index_or v j 0) (get_or-set_other m f g ws [] n) ∙
      t g j ji (ap (λ v. slice_index_or v (j / 32) true) (sym (get_or-set_other ps f g all_opened [] n)) ∙ h)
]

-- a frame that is written has all its parts opened
pub opens_parts : (a m : Memory) (ps : List (List Bool)) (f : ℕ) (ws : List ℕ) → ∥ TracksParts a m ps ∥₁
    → ∥ TracksParts a (set m f ws) (set ps f all_opened) ∥₁
opens_parts a m ps f ws t = ∥∥₁_map t (λ h. parts_open a m ps f ws h)

-- also by a number that is the same
pub parts_opened_at : (a m n : Memory) (ps : List (List Bool)) (f k : ℕ) (ws : List ℕ) (row : List Bool) → k ≡ f
    → row ≡ all_opened → n ≡ set m f ws → ∥ TracksParts a m ps ∥₁ → ∥ TracksParts a n (set ps k row) ∥₁
parts_opened_at a m n ps f k ws row same all is t = subst (λ v. ∥ TracksParts a v (set ps k row) ∥₁) (sym is)
    (subst (λ j. ∥ TracksParts a (set m f ws) (set ps j row) ∥₁) (sym same)
    (subst (λ r. ∥ TracksParts a (set m f ws) (set ps f r) ∥₁) (sym all) (opens_parts a m ps f ws t)))

parts_stay : (a m : Memory) (ps : List (List Bool)) (f : ℕ) → TracksParts a m ps → TracksParts a m (set ps f all_opened)
parts_stay a m ps f t g j ji h = elim (cases_eq g f) [
  | inl e ↦ let at_f : slice_index_or (slice_index_or (set ps f all_opened) f []) (j / 32) true ≡ false =
      ap (λ k. slice_index_or (slice_index_or (set ps f all_opened) k []) (j / 32) true) (sym e) ∙ h in
      absurd (cc (row_true ps f (j / 32) all_opened (all_true 32 (j / 32)), at_f))
  | inr n ↦ t g j ji (ap (λ v. slice_index_or v (j / 32) true) (sym (get_or-set_other ps f g all_opened [] n)) ∙ h)
]

-- all parts of a frame may be opened though it is not written
pub parts_stay_open : (a m : Memory) (ps : List (List Bool)) (k : ℕ) (row : List Bool) → row ≡ all_opened
    → ∥ TracksParts a m ps ∥₁ → ∥ TracksParts a m (set ps k row) ∥₁
parts_stay_open a m ps k row all t = subst (λ r. ∥ TracksParts a m (set ps k r) ∥₁) (sym all)
    (∥∥₁_map t (λ h. parts_stay a m ps k h))

-- a word that is written has its part opened
part_open : (a m : Memory) (ps : List (List Bool)) (f i w : ℕ) (row : List Bool) → f < length m → f < length ps
    → row ≡ set (slice_index_or ps f []) (i / 32) true → TracksParts a m ps
    → TracksParts a (put_word m f i w) (set ps f row)
unfolding frame_at put_word
part_open a m ps f i w row fm fp is t g j ji h = elim (cases_eq g f) [
  | inl e ↦
      let at_f : slice_index_or row (j / 32) true ≡ false =
      ap (λ r. slice_index_or r (j / 32) true) (sym (get_or-set_same ps f row [] fp)) ∙
      (ap (λ k. slice_index_or (slice_index_or (set ps f row) k []) (j / 32) true) (sym e) ∙ h) in
      let there : slice_index_or (set (slice_index_or ps f []) (i / 32) true) (j / 32) true ≡ false =
      ap (λ r. slice_index_or r (j / 32) true) (sym is) ∙ at_f in
      elim (cases_eq (j / 32) (i / 32)) [
        | inl same ↦ let at_i : slice_index_or (set (slice_index_or ps f []) (i / 32) true) (i / 32) true ≡ false =
            ap (λ k. slice_index_or (set (slice_index_or ps f []) (i / 32) true) k true) (sym same) ∙ there in
            absurd (cc (set_true (slice_index_or ps f []) (i / 32), at_i))
        | inr other ↦
            let shut : slice_index_or (slice_index_or ps f []) (j / 32) true ≡ false =
            sym (get_or-set_other (slice_index_or ps f []) (i / 32) (j / 32) true true other) ∙ there in
            let apart : j ≡ i → ⊥ = λ same. other (ap (λ k. k / 32) same) in
            ap (λ k. slice_index_or (slice_index_or (set m f (set (slice_index_or m f []) i w)) k []) j 0) e ∙
            (ap (λ v. slice_index_or v j 0) (get_or-set_same m f (set (slice_index_or m f []) i w) [] fm) ∙
            (get_or-set_other (slice_index_or m f []) i j w 0 apart ∙
            (t f j ji shut ∙ ap (λ k. slice_index_or (slice_index_or a k []) j 0) (sym e))))
      ]
  | inr n ↦ ap (λ v. slice_index_or v j 0) (get_or-set_other m f g (set (slice_index_or m f []) i w) [] n) ∙
      t g j ji (ap (λ v. slice_index_or v (j / 32) true) (sym (get_or-set_other ps f g row [] n)) ∙ h)
]

-- also by a number that is the same
pub part_opened_at : (a m n : Memory) (ps : List (List Bool)) (f k i p w : ℕ) (row : List Bool) → k ≡ f → p ≡ i / 32
    → n ≡ put_word m f i w → f < length m → f < length ps → row ≡ set (slice_index_or ps k []) p true
    → ∥ TracksParts a m ps ∥₁ → ∥ TracksParts a n (set ps k row) ∥₁
part_opened_at a m n ps f k i p w row same at is fm fp row_is t =
    let row_at : row ≡ set (slice_index_or ps f []) (i / 32) true = row_is ∙
    (ap (λ v. set (slice_index_or ps v []) p true) same ∙ ap (λ v. set (slice_index_or ps f []) v true) at) in
    subst (λ v. ∥ TracksParts a v (set ps k row) ∥₁) (sym is)
    (subst (λ v. ∥ TracksParts a (put_word m f i w) (set ps v row) ∥₁) (sym same)
    (∥∥₁_map t (λ h. part_open a m ps f i w row fm fp row_at h)))

parts_close : (a m : Memory) (ps : List (List Bool)) (f : ℕ) (row : List Bool) → f < length m → TracksParts a m ps
    → TracksParts a (set m f (frame_at a f)) (set ps f row)
unfolding frame_at
parts_close a m ps f row fi t g j ji h = elim (cases_eq g f) [
  | inl e ↦ ap (λ k. slice_index_or (slice_index_or (set m f (slice_index_or a f [])) k []) j 0) e ∙
      (ap (λ v. slice_index_or v j 0) (get_or-set_same m f (slice_index_or a f []) [] fi) ∙
      ap (λ k. slice_index_or (slice_index_or a k []) j 0) (sym e))
  | inr n ↦ ap (λ v. slice_index_or v j 0) (get_or-set_other m f g (slice_index_or a f []) [] n) ∙
      t g j ji (ap (λ v. slice_index_or v (j / 32) true) (sym (get_or-set_other ps f g row [] n)) ∙ h)
]

-- a frame that has its first words may have its parts closed
pub parts_closed_at : (a m n : Memory) (ps : List (List Bool)) (f k : ℕ) (row : List Bool) → k ≡ f
    → n ≡ set m f (frame_at a f) → f < length m → ∥ TracksParts a m ps ∥₁ → ∥ TracksParts a n (set ps k row) ∥₁
parts_closed_at a m n ps f k row same is fi t = subst (λ v. ∥ TracksParts a v (set ps k row) ∥₁) (sym is)
    (subst (λ j. ∥ TracksParts a (set m f (frame_at a f)) (set ps j row) ∥₁) (sym same)
    (∥∥₁_map t (λ h. parts_close a m ps f row fi h)))

below_more : (a m : Memory) (f top : ℕ) (ws : List ℕ) → StaysFrom a m top → StaysFrom a (set m f ws) (max top (f + 1))
unfolding frame_at
below_more a m f top ws h g le =
    let other : g ≡ f → ⊥ = λ e. omega (arith, le, e) in
    get_or-set_other m f g ws [] other ∙ h g (omega (arith, le))

-- the frames after one that is written stay as they were, also by a number that is the same
pub opens_below : (a m n : Memory) (f k top next : ℕ) (ws : List ℕ) → k ≡ f → next ≡ max top (k + 1) → n ≡ set m f ws
    → ∥ StaysFrom a m top ∥₁ → ∥ StaysFrom a n next ∥₁
opens_below a m n f k top next ws same at is h = subst (λ v. ∥ StaysFrom a v next ∥₁) (sym is)
    (subst (λ t. ∥ StaysFrom a (set m f ws) t ∥₁) (sym (at ∙ ap (λ j. max top (j + 1)) same))
    (∥∥₁_map h (λ t. below_more a m f top ws t)))

-- also though it isn't written
pub stays_below : (a m : Memory) (k top next : ℕ) → next ≡ max top (k + 1) → ∥ StaysFrom a m top ∥₁
    → ∥ StaysFrom a m next ∥₁
stays_below a m k top next at h = ∥∥₁_map h (λ t g le. t g (omega (arith, le, at)))

below_close : (a m : Memory) (f top : ℕ) → f < length m → StaysFrom a m top → StaysFrom a (set m f (frame_at a f)) top
unfolding frame_at
below_close a m f top fi h g le = elim (cases_eq g f) [
  | inl e ↦ ap (λ k. slice_index_or (set m f (slice_index_or a f [])) k [])
      e ∙ (get_or-set_same m f (slice_index_or a f []) [] fi ∙ ap (λ k. slice_index_or a k []) (sym e))
  | inr n ↦ get_or-set_other m f g (slice_index_or a f []) [] n ∙ h g le
]

-- and where one is as it was
pub closes_below : (a m n : Memory) (f top : ℕ) → n ≡ set m f (frame_at a f) → f < length m → ∥ StaysFrom a m top ∥₁
    → ∥ StaysFrom a n top ∥₁
closes_below a m n f top is fi h = subst (λ v. ∥ StaysFrom a v top ∥₁) (sym is)
    (∥∥₁_map h (λ t. below_close a m f top fi t))

-- frames that were written aren't as they were taken back
pub not_rewound : (a m : Memory) → ∥ IsRewound a m false ∥₁
not_rewound a m = ∣ (λ e. absurd (cc)) ∣₁
