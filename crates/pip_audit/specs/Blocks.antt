-- What is known of the words of frames, by blocks of 32.
use Rattle.std.specs.Prelude.{◌≡◌, ◌≢◌, ℕ, ◌+◌, ◌*◌, ◌%◌, ◌<◌, List, [], length, Option, Some, None, bit_and}
use Rattle.std.specs.Prelude.{slice_index_or}
use Rattle.std.specs.Int.{bit_at}
use Rattle.pip_base.specs.Memory.{Memory, word_at}
use Rattle.pip_base.specs.Words.{as_descriptor}
use Rattle.pip_audit.specs.declared.blocks.Blocks.{Blocks}
use Rattle.pip_audit.specs.declared.blocks.Kind.{Kind}
use Rattle.pip_audit.specs.declared.blocks.Kind.TheVariants as K
use Rattle.pip_audit.specs.declared.blocks.Masks.{Masks}
use Rattle.pip_audit.specs.declared.tables.SoughtRows.{SoughtRows}
use Rattle.pip_audit.specs.declared.tables.SoughtRows.TheVariants as S
use Rattle.pip_audit.specs.declared.tables.Triple.{Triple}

-- a word is not of a kind
abbrev pub IsNone : Kind → ℕ → Type 0
IsNone K.Filled w = w ≡ 0
IsNone K.Descriptor w = w % 4096 ≢ as_descriptor

-- the place of a frame among those that were read
abbrev pub place_in : Masks → ℕ → Option ℕ
place_in s f = slice_index_or s.place.items f None

-- what is held at a place of block b
abbrev pub mask_at : Masks → Option ℕ → ℕ → ℕ
mask_at s None b = 4294967295
mask_at s (Some k) b = slice_index_or (slice_index_or s.masks.items k []) b 4294967295

-- what is held of block b of a frame
abbrev pub mask_in : Masks → ℕ → ℕ → ℕ
mask_in s f b = mask_at s (place_in s f) b

-- a place that was told is that of the frame's masks
abbrev pub IsPlaceIn : Masks → ℕ → Option ℕ → Type 0
IsPlaceIn s f o = (k : ℕ) → o ≡ Some k → (place_in s f ≡ Some k) × (k < length s.masks.items)

-- each word of a frame whose bit is 0 in these masks is not of the kind
abbrev pub AreMasksOf : Kind → Memory → ℕ → List ℕ → Type 0
AreMasksOf kind m f masks = (b i : ℕ) → b < 32 → i < 32 → bit_at (slice_index_or masks b 4294967295) i ≡ 0
    → IsNone kind (word_at m f (32 * b + i))

-- a frame that was read has its masks
abbrev pub AreMasks : Kind → Memory → Masks → Type 0
AreMasks kind m s = (f k : ℕ) → place_in s f ≡ Some k
    → (k < length s.masks.items) × AreMasksOf kind m f (slice_index_or s.masks.items k [])

-- what is known holds
abbrev pub AreKnown : Memory → Blocks → Type 0
AreKnown m s = AreMasks K.Filled m s.rows × AreMasks K.Descriptor m s.descriptors

-- a block of the tables of a directory index has none of the rows that are sought, by what is held
abbrev pub LacksSought : SoughtRows → Blocks → Triple → ℕ → Type 0
LacksSought S.Any s t b = mask_in s.rows t.mmu b ≡ 0
LacksSought S.Child s t b = bit_and (mask_in s.rows t.mmu b) (mask_in s.descriptors t.shadow1 b) ≡ 0
