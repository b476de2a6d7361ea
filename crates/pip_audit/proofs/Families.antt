-- The children of the nodes that were read, found from the last node to the first, and gone through.
use Rattle.std.proofs.Common.{◌≡◌, ◌≢◌, ℕ, ◌+◌, ◌<◌, ◌≤◌, inl, inr}
use Rattle.std.proofs.Common.{List, Option, Some, None, false, length, refl, sym, arith}
use Rattle.std.specs.Prelude.{is_some}
use Rattle.std.proofs.lemmas.Bool.{cases_eq, cases_lt}
use Rattle.pip_base.specs.Memory.{Memory}
use Rattle.pip_audit.specs.declared.family.Family.{Family}
use Rattle.pip_audit.specs.Families.{HasChildren, IsNextOf, TakesChild, end_of, first_held, up_at}

module _ (m : Memory) (names : List ℕ) (count : ℕ) where
  -- nothing is taken
  pub none_found : (s : Family) → ((f : ℕ) → first_held s f ≡ None) → HasChildren m names count s count
  none_found s none = record {
    first = λ f l. rw (none f) (record {
      child = λ k e. cc;
      none = λ k lo hi. absurd (omega (arith, lo, hi));
      later = omega arith;
      most = omega arith;
    });
    next = λ k lo hi l. absurd (omega (arith, lo, hi));
  }

  -- a node that isn't the parent's is passed
  earlier : (parent k : ℕ) (o : Option ℕ) → up_at m names k ≢ parent → IsNextOf m names count parent (k + 1) o
      → IsNextOf m names count parent k o
  earlier parent k o ne n = record {
    child = n.child;
    none = λ j lo hi. elim (cases_eq j k) [
      | inl q ↦ rw q ne
      | inr far ↦ n.none j (omega (arith, lo, far)) hi
    ];
    later = let later = n.later in omega (arith, later);
    most = n.most;
  }

  -- one node more is taken
  pub one_found : (s t : Family) (k : ℕ) → 1 ≤ k → k < count → length s.first.items ≡ length m
      → HasChildren m names count s (k + 1) → TakesChild k (up_at m names k) s t → HasChildren m names count t k
  one_found s t k some less room h e = record {
    first = λ f l. elim (cases_eq f (up_at m names k)) [
      | inl q ↦ rw (q, e.first (rw (room, ← q) l)) (record {
        child = λ j same. let is : k ≡ j = cc same in rw (← is) (some, less, refl);
        none = λ j lo hi. absurd (omega (arith, lo, hi));
        later = omega arith;
        most = omega arith;
      })
      | inr ne ↦ rw (e.firsts f ne) (earlier f k (first_held s f) (λ q. ne (sym q)) (h.first f l))
    ];
    next = λ j lo hi l. elim (cases_eq j k) [
      | inl q ↦
          let inside : up_at m names k < length m = rw q at l in
          rw (q, e.next (rw room inside)) (h.first (up_at m names k) inside)
      | inr ne ↦ rw (e.nexts j ne) (h.next j (omega (arith, lo, ne)) hi l)
    ];
  }

  -- ---- from one child to the next

  -- each child of a parent below a place is so
  abbrev pub SoFarEach : ℕ → (ℕ → Type 0) → ℕ → Type 0
  SoFarEach parent p end = (k : ℕ) → 1 ≤ k → k < end → up_at m names k ≡ parent → p k

  module _ (parent : ℕ) (p : ℕ → Type 0) (o : Option ℕ) where
    pub each_first : IsNextOf m names count parent 1 o → SoFarEach parent p (end_of count o)
    each_first n k lo hi up = absurd (n.none k lo hi up)

    -- it has none
    pub each_none : IsNextOf m names count parent 1 o → is_some o ≡ false → SoFarEach parent p count
    each_none n e = rw (whole o e) at (each_first n)
      where
        whole : (o : Option ℕ) → is_some o ≡ false → end_of count o ≡ count
        whole None e = refl
        whole (Some k) e = cc

    pub each_next : (x : ℕ) → SoFarEach parent p x → p x → IsNextOf m names count parent (x + 1) o
        → SoFarEach parent p (end_of count o)
    each_next x before here n k lo hi up = elim (cases_lt k x) [
      | inl less ↦ before k lo less up
      | inr more ↦ elim (cases_eq k x) [
        | inl q ↦ rw q here
        | inr far ↦ absurd (n.none k (omega (arith, more, far)) hi up)
      ]
    ]
