-- Each packed row has its words, and each of them is read back.
use Rattle.std.proofs.Common.{◌≡◌, ℕ, ◌/◌, ◌%◌, inl, inr, Option, Some, None, refl, sym, arith}
use Rattle.std.proofs.lemmas.Bool.{cases_eq}
use Rattle.pip_entry.specs.Leaf.{packed_leaf, IsLeaf}
use Rattle.pip_entry.specs.Sh1.{packed_sh1, IsSh1}
use Rattle.pip_entry.specs.Sh2.{packed_sh2, IsSh2}
use Rattle.pip_entry.specs.declared.leaf.Leaf.{Leaf}
use Rattle.pip_entry.specs.declared.leaf.Leaf.TheVariants.{Empty, Page}
use Rattle.pip_entry.specs.declared.shadows.Sh1.{Sh1}
use Rattle.pip_entry.specs.declared.shadows.Sh1.TheVariants.{Free, Descriptor, Config, Lent}
use Rattle.pip_entry.specs.declared.shadows.Sh2.{Sh2}
use Rattle.pip_entry.specs.declared.shadows.Sh2.TheVariants.{Empty as NoPage, Of}
use Rattle.pip_model.specs.FullRows.{FullRow, row_word}
use Rattle.pip_model.specs.declared.level.Level.TheVariants.{Mmu, Shadow1, Shadow2}
use Rattle.pip_model.specs.NodeIn.{IsSecondShadowWord, IsFirstShadowWord}
use Rattle.pip_space.specs.Rows.{IsPacked}

-- ---- from a row to what its words unpack to

pub leaf_of : (r : Option FullRow) → IsPacked r → (l : Leaf) × IsLeaf l × (packed_leaf l ≡ row_word Mmu r)
leaf_of None p = (Empty, tt, refl)
leaf_of (Some r) p = (Page r.frame r.user (record { 0 = r.rights }), (p.frame, p.low, p.read), refl)

given_at : (w : ℕ) → IsFirstShadowWord w → (s : Sh1) × IsSh1 s × (packed_sh1 s ≡ w)
given_at w (inl z) = (Free, tt, sym z)
given_at w (inr h) = elim (cases_eq (w % 4096) 1) [
  | inl one ↦ (Descriptor (w / 4096), (omega arith, λ z. omega arith), omega arith)
  | inr not_one ↦ elim (cases_eq (w % 4096) 2) [
    | inl two ↦ (Config (w / 4096), (omega arith, λ z. omega arith), omega arith)
    | inr not_two ↦ (
      Lent (w / 4096),
      (omega arith, λ z. omega arith),
      omega arith,
    )
  ]
]

pub given_of : (r : Option FullRow) → IsPacked r → (s : Sh1) × IsSh1 s × (packed_sh1 s ≡ row_word Shadow1 r)
given_of None p = (Free, tt, refl)
given_of (Some r) p = given_at r.given p.given

from_at : (w : ℕ) → IsSecondShadowWord w → (s : Sh2) × IsSh2 s × (packed_sh2 s ≡ w)
from_at w (inl z) = (NoPage, tt, sym z)
from_at w (inr h) = (Of (w / 4096), (omega arith), omega arith)

pub from_of : (r : Option FullRow) → IsPacked r → (s : Sh2) × IsSh2 s × (packed_sh2 s ≡ row_word Shadow2 r)
from_of None p = (NoPage, tt, refl)
from_of (Some r) p = from_at r.from p.from

-- ---- from words to a row

-- what unpacks is the row's
pub not_both : {X : Type 0} (o : Option X) (x : X) → o ≡ None → o ≡ Some x → ⊥
not_both o x a b = cc

-- a packed word is one of a first shadow
pub given_packed : (s : Sh1) → IsSh1 s → IsFirstShadowWord (packed_sh1 s)
given_packed Free h = inl refl
given_packed (Descriptor p) h = let a = h.0 in let b = h.1 in inr (omega arith, omega arith, omega arith, omega arith)
given_packed (Config p) h = let a = h.0 in let b = h.1 in inr (omega arith, omega arith, omega arith, omega arith)
given_packed (Lent p) h = let a = h.0 in let b = h.1 in inr (omega arith, omega arith, omega arith, omega arith)

-- the word of a row isn't 0
pub leaf_not_zero : (r : FullRow) → row_word Mmu (Some r) ≡ 0 → ⊥
leaf_not_zero r z = omega arith
