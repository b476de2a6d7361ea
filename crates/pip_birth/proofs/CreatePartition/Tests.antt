-- The tests of createPartition: from what the code answers to the conditions of the model.
use Rattle.std.proofs.Common.{◌≡◌, ℕ, zero, suc, ◌<◌, ◌||◌, cond, inl, inr, Bool, true, false, not, List, [], ◌∷◌, ◌++◌}
use Rattle.std.proofs.Common.{map, length, refl, sym, ap, ◌∙◌, subst, arith, Option, Some, None}
use Rattle.std.specs.Prelude.{is_none, is_some, slice_index_or}
use Rattle.std.specs.List.{list_any}
use Rattle.pip_base.specs.declared.outcome.Status.{Status}
use Rattle.pip_base.specs.declared.outcome.Status.TheVariants as S
use Rattle.pip_model.specs.Answers.{first_met, list_of, is_mapped, pair_at, writable, five_of}
use Rattle.pip_model.specs.CreatePartition.{create_refusals, newborn}
use Rattle.pip_model.specs.FullRows.{FullRow, full_rows}
use Rattle.pip_model.specs.Lists.{In}
use Rattle.pip_model.specs.Sound.{IsSound}
use Rattle.pip_model.specs.Tree.{Node, Tree, base_pairs, find_node, free, vpage}
use Rattle.pip_model.proofs.OnLists.Members.{any_some}
use Rattle.pip_space.specs.Rows.{full_of}
use Rattle.pip_space.specs.declared.row.Row.{Row as SpaceRow}
use Rattle.pip_kern.specs.Tested.{is_ungiven, is_writable}
use Rattle.pip_birth.specs.FivePages.{AreRows, RowsAnswer, five_address_tests, five_page_tests, pairs_of}
use Rattle.pip_birth.specs.FivePages.{five_row_tests, some_unmapped}
use Rattle.pip_kern.proofs.Tested.{first_met-pass, first_met-stop, free-row, mapped-row, page_of-row, writable-row}

-- ---- five addresses

-- five numbers are the list of them
pub five_list : (xs : List ℕ) → length xs ≡ 5 → list_of (five_of xs) ≡ xs
five_list [] h = absurd (omega arith)
five_list (a ∷ []) h = absurd (omega arith)
five_list (a ∷ b ∷ []) h = absurd (omega arith)
five_list (a ∷ b ∷ c ∷ []) h = absurd (omega arith)
five_list (a ∷ b ∷ c ∷ d ∷ []) h = absurd (omega arith)
five_list (a ∷ b ∷ c ∷ d ∷ e ∷ []) h = refl
five_list (a ∷ b ∷ c ∷ d ∷ e ∷ f ∷ xs) h = absurd (omega arith)

-- the conditions of the call in three parts
pub tests_are : (t : Tree) (p : ℕ) (xs : List ℕ) → length xs ≡ 5
    → create_refusals t p (five_of xs) ≡ five_address_tests xs ++ (some_unmapped t p xs ∷ five_page_tests t p xs)
tests_are t p xs h = cc (five_list xs h)

-- ---- rows

get_in : (xs : List ℕ) (k : ℕ) → k < length xs → In (slice_index_or xs k 0) xs
get_in [] k h = absurd (omega arith)
get_in (x ∷ xs) zero h = inl refl
get_in (x ∷ xs) (suc k) h = inr (get_in xs k (omega arith))

-- where an address has no row, there is no answer of rows
pub row_missing : (rows : ℕ → Option FullRow) (xs : List ℕ) (k : ℕ) → k < length xs
    → None ≡ rows (vpage (slice_index_or xs k 0)) → (o : Option (List SpaceRow)) → o ≡ None → RowsAnswer rows xs o
row_missing rows xs k low none o is =
    rw is (any_some (λ a. is_none (rows (vpage a))) (slice_index_or xs k 0) xs (get_in xs k low)
    (ap is_none (sym none)))

-- five rows are an answer
pub five_rows : (rows : ℕ → Option FullRow) (xs : List ℕ) → length xs ≡ 5 → (a b c d e : SpaceRow)
    → Some (full_of a) ≡ rows (vpage (slice_index_or xs 0 0)) → Some (full_of b) ≡ rows (vpage (slice_index_or xs 1 0))
    → Some (full_of c) ≡ rows (vpage (slice_index_or xs 2 0))
    → Some (full_of d) ≡ rows (vpage (slice_index_or xs 3 0)) → Some (full_of e) ≡ rows (vpage (slice_index_or xs 4 0))
    → AreRows rows xs (a ∷ b ∷ c ∷ d ∷ e ∷ [])
five_rows rows [] h a b c d e p q r s t = absurd (omega arith)
five_rows rows (v ∷ []) h a b c d e p q r s t = absurd (omega arith)
five_rows rows (v ∷ w ∷ []) h a b c d e p q r s t = absurd (omega arith)
five_rows rows (v ∷ w ∷ x ∷ []) h a b c d e p q r s t = absurd (omega arith)
five_rows rows (v ∷ w ∷ x ∷ y ∷ []) h a b c d e p q r s t = absurd (omega arith)
five_rows rows (v ∷ w ∷ x ∷ y ∷ z ∷ []) h a b c d e p q r s t = (sym p, (sym q, (sym r, (sym s, (sym t, tt)))))
five_rows rows (v ∷ w ∷ x ∷ y ∷ z ∷ u ∷ xs) h a b c d e p q r s t = absurd (omega arith)

-- two tests that agree on each address
any_same : (f h : ℕ → Bool) → ((a : ℕ) → f a ≡ h a) → (xs : List ℕ) → list_any f xs ≡ list_any h xs
any_same f h same [] = refl
any_same f h same (a ∷ xs) = rw (same a, any_same f h same xs)

-- a test of addresses that is one of their rows
any_rows : (rows : ℕ → Option FullRow) (f : ℕ → Bool) (h : FullRow → Bool)
    → ((v : ℕ) (r : FullRow) → rows v ≡ Some r → f v ≡ h r) → (xs : List ℕ) (rs : List SpaceRow) → AreRows rows xs rs
    → list_any (λ a. not (f (vpage a))) xs ≡ list_any (λ r. not (h (full_of r))) rs
any_rows rows f h same [] [] k = refl
any_rows rows f h same (a ∷ xs) (r ∷ rs) k =
    rw (same (vpage a) (full_of r) k.0, any_rows rows f h same xs rs k.1)
any_rows rows f h same [] (r ∷ rs) k = absurd k
any_rows rows f h same (a ∷ xs) [] k = absurd k

module _ (t : Tree) (s : IsSound t) (p : ℕ) (x : Node) (found : find_node t p ≡ Some x) where
  none_mapped : (o : Option FullRow) → is_none o ≡ not (is_some o)
  none_mapped None = refl
  none_mapped (Some r) = refl

  -- where one of them has no row
  any_unmapped : (xs : List ℕ)
      → list_any (λ a. is_none (full_rows t x (vpage a))) xs ≡ list_any (λ a. not (is_mapped t p (vpage a))) xs
  any_unmapped xs = any_same (λ a. is_none (full_rows t x (vpage a))) (λ a. not (is_mapped t p (vpage a)))
      (λ a. rw (none_mapped (full_rows t x (vpage a)), ← mapped-row t s p x found (vpage a))) xs

  -- and where each has one
  all_mapped : (xs : List ℕ) (rs : List SpaceRow) → AreRows (full_rows t x) xs rs
      → list_any (λ a. is_none (full_rows t x (vpage a))) xs ≡ false
  all_mapped [] [] k = refl
  all_mapped (a ∷ xs) (r ∷ rs) k =
      rw (k.0, all_mapped xs rs k.1)
  all_mapped [] (r ∷ rs) k = absurd k
  all_mapped (a ∷ xs) [] k = absurd k

  -- the conditions on the rows are those of the code
  pub page_tests_are : (xs : List ℕ) (rs : List SpaceRow) → AreRows (full_rows t x) xs rs
      → five_page_tests t p xs ≡ five_row_tests rs
  page_tests_are xs rs k =
      rw (
        any_rows (full_rows t x) (free t p) is_ungiven (free-row t s p x found) xs rs k,
        any_rows (full_rows t x) (writable t p) is_writable (writable-row t s p x found) xs rs k,
      )

  -- the pages are those of the new node
  pairs_are : (xs : List ℕ) (rs : List SpaceRow) → AreRows (full_rows t x) xs rs → pairs_of xs rs ≡ map (pair_at t p) xs
  pairs_are [] [] k = refl
  pairs_are (a ∷ xs) (r ∷ rs) k =
      rw (← page_of-row t s p x found a (full_of r) k.0, pairs_are xs rs k.1)
  pairs_are [] (r ∷ rs) k = absurd k
  pairs_are (a ∷ xs) [] k = absurd k

  -- ---- the answer of all tests

  module _ (xs : List ℕ) (five : length xs ≡ 5) where
    -- a test of the addresses decides
    pub addresses_met : (q : Status) → first_met (five_address_tests xs) ≡ Some q
        → first_met (create_refusals t p (five_of xs)) ≡ Some q
    addresses_met q e = ap first_met (tests_are t p xs five)
        ∙ first_met-stop (five_address_tests xs) (some_unmapped t p xs ∷ five_page_tests t p xs) q e

    module _ (passed : first_met (five_address_tests xs) ≡ None) where
      after_addresses : first_met (create_refusals t p (five_of xs))
          ≡ first_met (some_unmapped t p xs ∷ five_page_tests t p xs)
      after_addresses = ap first_met (tests_are t p xs five)
          ∙ first_met-pass (five_address_tests xs) (some_unmapped t p xs ∷ five_page_tests t p xs) passed

      -- an address without a row decides
      pub unmapped_met : (o : Option (List SpaceRow)) → RowsAnswer (full_rows t x) xs o → o ≡ None
          → first_met (create_refusals t p (five_of xs)) ≡ Some S.NotMapped
      unfolding after_addresses any_unmapped
      unmapped_met o answer none =
          let missing : list_any (λ a. is_none (full_rows t x (vpage a))) xs ≡ true =
          rw none at answer in
          rw (after_addresses, ← any_unmapped xs, missing)

      module _ (o : Option (List SpaceRow)) (answer : RowsAnswer (full_rows t x) xs o) (rs : List SpaceRow)
          (are_rows : o ≡ Some rs) where
        are : AreRows (full_rows t x) xs rs
        are = rw are_rows at answer

        after_rows : first_met (create_refusals t p (five_of xs)) ≡ first_met (five_row_tests rs)
        unfolding after_addresses any_unmapped all_mapped page_tests_are are
        after_rows =
            after_addresses
            ∙ (cc (any_unmapped xs, all_mapped xs rs are, page_tests_are xs rs are))

        -- a test of the rows decides
        pub rows_met : (q : Status) → first_met (five_row_tests rs) ≡ Some q
            → first_met (create_refusals t p (five_of xs)) ≡ Some q
        unfolding after_rows
        rows_met q e = after_rows ∙ e

        -- all tests are passed
        pub all_passed : first_met (five_row_tests rs) ≡ None → (first_met (create_refusals t p (five_of xs)) ≡ None)
            × (pairs_of xs rs ≡ base_pairs (newborn t p (five_of xs)).base)
        unfolding after_rows pairs_are are
        all_passed e = (after_rows ∙ e, rw (pairs_are xs rs are, ← five_list xs five))
