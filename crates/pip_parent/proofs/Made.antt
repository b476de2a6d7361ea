-- The child is made of the first five pages of the pool.
use Rattle.std.proofs.Common.{◌≡◌, ◌≢◌, ℕ, ◌≤◌, ◌<◌, ◌==◌, ◌||◌, Bool, false, not, List, [], ◌∷◌, refl, ap, ap₂, ◌∙◌}
use Rattle.std.proofs.Common.{arith, length, None}
use Rattle.std.specs.List.{list_any}
use Rattle.std.proofs.lemmas.Bool.{ne_eqb}
use Rattle.pip_base.specs.declared.outcome.Status.TheVariants as S
use Rattle.pip_model.specs.Answers.{accept, answer_unless, first_met, list_of, is_mapped, writable}
use Rattle.pip_model.specs.CreatePartition.{create_partition, create_refusals}
use Rattle.pip_model.specs.Lists.{repeats}
use Rattle.pip_model.specs.Sound.{IsSound}
use Rattle.pip_model.specs.Tree.{Tree, free, is_place, vpage}
use Rattle.pip_model.proofs.Trees.Free.{IsName}
use Rattle.pip_parent.specs.declared.wants.Want.{Want}
use Rattle.pip_parent.specs.Wants.{need}
use Rattle.pip_parent.specs.Pool.{HasPool, first_five, pool_at}
use Rattle.pip_parent.specs.Built.{built_before}
use Rattle.pip_parent.proofs.Lent.{has_five, nonzero_at, pass}

make_met : (a b c d e f : Bool) → a ≡ false → b ≡ false → c ≡ false → d ≡ false → e ≡ false → f ≡ false → first_met ((
  a,
  S.NotAligned,
) ∷ (b, S.NullPage) ∷ (c, S.Repeated) ∷ (d, S.NotMapped) ∷ (e, S.NotFree) ∷ (f, S.NoRight) ∷ []) ≡ None
make_met a b c d e f ea eb ec ed ee ef =
    pass (
      a,
      S.NotAligned,
    ) ((b, S.NullPage) ∷ (c, S.Repeated) ∷ (d, S.NotMapped) ∷ (e, S.NotFree) ∷ (f, S.NoRight) ∷ []) ea
    ∙ pass (b, S.NullPage) ((c, S.Repeated) ∷ (d, S.NotMapped) ∷ (e, S.NotFree) ∷ (f, S.NoRight) ∷ []) eb
    ∙ pass (c, S.Repeated) ((d, S.NotMapped) ∷ (e, S.NotFree) ∷ (f, S.NoRight) ∷ []) ec
    ∙ pass (d, S.NotMapped) ((e, S.NotFree) ∷ (f, S.NoRight) ∷ []) ed
    ∙ pass (e, S.NotFree) ((f, S.NoRight) ∷ []) ee
    ∙ pass (f, S.NoRight) [] ef

or_none : (a b : Bool) → a ≡ false → b ≡ false → (a || b) ≡ false
or_none a b e g = ap₂ (λ x y. x || y) e g

module _ (t : Tree) (p : ℕ) (pool : List ℕ) (ws : List Want) (s : IsSound t) (n : IsName t p) (h : HasPool t p pool)
    (room : need ws ≤ length pool) where
  below : (k : ℕ) → k < 5 → k < length pool
  below k l = let f = has_five t p pool ws s n h room in omega arith

  each : (f : ℕ → Bool) → ((k : ℕ) → k < length pool → f (pool_at pool k) ≡ false)
      → list_any f (list_of (first_five pool)) ≡ false
  each f g =
      or_none (f (pool_at pool 0)) _ (g 0 (below 0 (omega arith)))
      (or_none (f (pool_at pool 1)) _ (g 1 (below 1 (omega arith)))
      (or_none (f (pool_at pool 2)) _ (g 2 (below 2 (omega arith)))
      (or_none (f (pool_at pool 3)) _ (g 3 (below 3 (omega arith)))
      (or_none (f (pool_at pool 4)) false (g 4 (below 4 (omega arith))) refl))))

  unlike : (j k : ℕ) → j < 5 → k < 5 → j ≢ k → (pool_at pool j == pool_at pool k) ≡ false
  unlike j k a b d = ne_eqb (pool_at pool j) (pool_at pool k) (λ e. d (h.differ j k (below j a) (below k b) e))

  differ : repeats (list_of (first_five pool)) ≡ false
  differ =
      let d : (j k : ℕ) → k < j → j < 5 → (pool_at pool j == pool_at pool k) ≡ false =
      λ j k l m. unlike j k m (omega arith) (omega arith) in
      or_none _ _ (or_none _ _ (d 1 0 (omega arith) (omega arith)) (or_none _ _ (d 2 0 (omega arith) (omega arith))
      (or_none _ _ (d 3 0 (omega arith) (omega arith)) (or_none _ false (d 4 0 (omega arith) (omega arith)) refl))))
      (or_none _ _ (or_none _ _ (d 2 1 (omega arith) (omega arith))
      (or_none _ _ (d 3 1 (omega arith) (omega arith)) (or_none _ false (d 4 1 (omega arith) (omega arith)) refl)))
      (or_none _ _
      (or_none _ _ (d 3 2 (omega arith) (omega arith)) (or_none _ false (d 4 2 (omega arith) (omega arith)) refl))
      (or_none _ _ (or_none _ false (d 4 3 (omega arith) (omega arith)) refl) refl)))

  no_refusal : first_met (create_refusals t p (first_five pool)) ≡ None
  no_refusal = make_met _ _ _ _ _ _
      (each (λ x. not (is_place x)) (λ k l. ap not (h.places k l)))
      (each (λ x. x == 0) (λ k l. ne_eqb (pool_at pool k) 0 (nonzero_at t p pool ws s n h room k l)))
      differ
      (each (λ x. not (is_mapped t p (vpage x))) (λ k l. ap not (h.mapped k l)))
      (each (λ x. not (free t p (vpage x))) (λ k l. ap not (h.free k l)))
      (each (λ x. not (writable t p (vpage x))) (λ k l. ap not (h.writable k l)))

  -- createPartition of the first five
  pub makes : create_partition t p (first_five pool) ≡ accept 0 (built_before t p pool ws 0)
  makes = ap (λ o. answer_unless t o (accept 0 (built_before t p pool ws 0))) no_refusal
