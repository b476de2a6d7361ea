-- Rights that may be granted: from tests of bits to the model's condition.
use Rattle.std.proofs.Common.{◌≡◌, ℕ, ◌==◌, ◌||◌, ◌⊎◌, inl, inr, Bool, true, false, not, refl, sym, ap, ◌∙◌, eq-eqb}
use Rattle.std.proofs.Common.{ne_eqb}
use Rattle.std.specs.Prelude.{bit_and}
use Rattle.std.proofs.lemmas.Nat.{and_comm}
use Rattle.pip_model.specs.AddVAddr.{exceeds}

-- READ is there, there is no other bit, and one's own has each: otherwise they exceed it
abbrev pub lacks : Bool → Bool → Bool → Bool
lacks read known within = not read || (not known || not within)

exceeds_is : (rights own : ℕ)
    → exceeds rights own ≡ lacks (bit_and rights 1 == 1) (bit_and rights 7 == rights) (bit_and own rights == rights)
exceeds_is rights own =
    ap (λ k. lacks (k == 1) (bit_and rights 7 == rights) (bit_and rights own == rights)) (and_comm 1 rights)
    ∙ ap (λ k. lacks (bit_and rights 1 == 1) (bit_and rights 7 == rights) (k == rights)) (and_comm rights own)

or_true : (b : Bool) → (b || true) ≡ true
or_true true = refl
or_true false = refl

-- a number with another bit is no set of rights
pub rights_unknown : (rights own : ℕ) → (bit_and rights 7 ≡ rights → ⊥) → exceeds rights own ≡ true
unfolding exceeds_is
rights_unknown rights own ne =
    exceeds_is rights own
    ∙ (ap (λ k. lacks (bit_and rights 1 == 1) k (bit_and own rights == rights)) (ne_eqb (bit_and rights 7) rights ne)
    ∙ or_true (not (bit_and rights 1 == 1)))

module _ (rights own r : ℕ) (same : r ≡ rights) (known : bit_and rights 7 ≡ rights) (read within : Bool) (read_is : read
    ≡ (bit_and r 1 == 1)) (within_is : within ≡ (bit_and own r == r)) where
  by_tests : exceeds rights own ≡ lacks read true within
  unfolding exceeds_is
  by_tests =
      exceeds_is rights own
      ∙ (ap (λ k.
      lacks (bit_and rights 1 == 1) k (bit_and own rights == rights)) (eq-eqb (bit_and rights 7) rights known)
      ∙ (ap (λ k. lacks (bit_and k 1 == 1) true (bit_and own k == k)) (sym same)
      ∙ (ap (λ k. lacks k true (bit_and own r == r)) (sym read_is) ∙ ap (lacks read true) (sym within_is))))

  -- where both tests are passed, the rights don't exceed one's own
  pub rights_within : read ≡ true → within ≡ true → exceeds rights own ≡ false
  unfolding by_tests
  rights_within a b = by_tests ∙ (ap (λ k. lacks k true within) a ∙ ap (lacks true true) b)

  -- and where one isn't, they do
  pub rights_without : (read ≡ false) ⊎ ((read ≡ true) × (within ≡ false)) → exceeds rights own ≡ true
  unfolding by_tests
  rights_without (inl a) = by_tests ∙ ap (λ k. lacks k true within) a
  rights_without (inr b) = by_tests ∙ (ap (λ k. lacks k true within) b.0 ∙ ap (lacks true true) b.1)
