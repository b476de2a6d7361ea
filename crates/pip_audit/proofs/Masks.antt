-- Masks of words, bit by bit.
use Rattle.std.proofs.Common.{◌≡◌, ℕ, ◌+◌, ◌*◌, ◌<◌, ◌⊎◌, inl, inr, Option, Some, None, refl, sym, ap, ◌∙◌, arith}
use Rattle.std.specs.Prelude.{List, [], bit_and, length, min, slice_index, slice_index_or}
use Rattle.std.proofs.lemmas.List.{get_or_default}
use Rattle.std.specs.Int.{bit_at}
use Rattle.std.proofs.lemmas.Bool.{cases_eq}
use Rattle.pip_base.specs.Memory.{Memory, word_at}
use Rattle.pip_audit.specs.declared.blocks.Kind.{Kind}
use Rattle.pip_audit.specs.declared.blocks.Masks.{Masks}
use Rattle.pip_audit.specs.Blocks.{AreMasks, IsNone, mask_at, mask_in, place_in}
use Rattle.std.proofs.lemmas.Nat.Bits.{bit_at-zero, bit_at_and, bit_at_ones}

-- no bit is 1 in both
pub apart : (a b i : ℕ) → bit_and a b ≡ 0 → (bit_at a i ≡ 0) ⊎ (bit_at b i ≡ 0)
apart a b i e =
    let x = bit_at a i in
    let y = bit_at b i in
    let least : min x y ≡ 0 = sym (bit_at_and a b i) ∙ ap (λ n. bit_at n i) e ∙ bit_at-zero i in
    go x y least
  where
    go : (x y : ℕ) → min x y ≡ 0 → (x ≡ 0) ⊎ (y ≡ 0)
    go x y q = elim (cases_eq x 0) [
      | inl z ↦ inl z
      | inr nz ↦ elim (cases_eq y 0) [
        | inl z ↦ inr z
        | inr ny ↦ absurd (omega (arith, q, nz, ny))
      ]
    ]

-- each bit of the mask of an unread block is 1
pub unset : (i : ℕ) → i < 32 → bit_at 4294967295 i ≡ 0 → ⊥
unset i h e = let one : bit_at 4294967295 i ≡ 1 = bit_at_ones 32 i h in absurd (omega (arith, one, e))

-- a word of the masks of a frame that was read
pub mask_is : (s : Masks) (f k b : ℕ) (ws : List ℕ) → place_in s f ≡ Some k → k < length s.masks.items
    → ws ≡ slice_index_or s.masks.items k ws → length ws ≡ 32 → b < 32 → mask_in s f b ≡ slice_index ws b
mask_is s f k b ws at less is long h =
    ap (λ o. mask_at s o b) at
    ∙ ap (λ xs. slice_index_or xs b 4294967295) (sym (is ∙ get_or_default s.masks.items k ws [] less))
    ∙ get_or_default ws b 4294967295 0 (omega (arith, long, h))

-- a word whose bit is 0 in what is held is not of the kind
pub is_none : (kind : Kind) (m : Memory) (s : Masks) (f b i : ℕ) → AreMasks kind m s → b < 32 → i < 32
    → bit_at (mask_in s f b) i ≡ 0 → IsNone kind (word_at m f (32 * b + i))
is_none kind m s f b i known lo hi e = go (place_in s f) refl e
  where
    go : (o : Option ℕ) → place_in s f ≡ o → bit_at (mask_at s o b) i ≡ 0 → IsNone kind (word_at m f (32 * b + i))
    go None q e = absurd (unset i hi e)
    go (Some k) q e = (known f k q).1 b i lo hi e
