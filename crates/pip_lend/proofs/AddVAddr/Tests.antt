-- The tests of addVAddr: from what the code answers to the conditions of the model.
use Rattle.std.proofs.Common.{◌≡◌, ℕ, cond, Bool, true, false, not, List, [], ◌∷◌, ◌++◌, refl, sym, ap, ◌∙◌, Option}
use Rattle.std.proofs.Common.{Some, None}
use Rattle.std.specs.Prelude.{is_some, option_map, unwrap_or}
use Rattle.pip_base.specs.declared.outcome.Status.{Status}
use Rattle.pip_base.specs.declared.outcome.Status.TheVariants as S
use Rattle.pip_base.specs.Rights.{rights_number}
use Rattle.pip_kern.specs.Tested.{is_ungiven}
use Rattle.pip_kern.proofs.Calls.{child_name_is, child_of_is}
use Rattle.pip_kern.proofs.Tested.{first_met-pass, first_met-stop, free-row, mapped-row, page_of-row}
use Rattle.pip_model.specs.AddVAddr.{add_refusals, exceeds}
use Rattle.pip_model.specs.Answers.{child_name, child_of, first_met, is_mapped, rights_at}
use Rattle.pip_model.specs.FullRows.{FullRow, full_rows}
use Rattle.pip_model.specs.Sound.{IsSound}
use Rattle.pip_model.specs.Tree.{Node, Row, Tree, child_at, find_node, free, has_table, row_at, vpage}
use Rattle.pip_model.proofs.Frames.Laid.{full_back}
use Rattle.pip_model.proofs.Trees.Lookup.{node_is}
use Rattle.pip_space.specs.declared.row.Row.{Row as SpaceRow}
use Rattle.pip_lend.specs.declared.loan.Loan.{Loan}
use Rattle.pip_kern.specs.Tested.{child_tests}
use Rattle.pip_lend.specs.Lending.{loan_of, page_tests, room_tests}

-- ---- the place in the child

some_mapped : (f : SpaceRow → FullRow) (o : Option SpaceRow) → is_some (option_map f o) ≡ is_some o
some_mapped f None = refl
some_mapped f (Some r) = refl

module _ (t : Tree) (s : IsSound t) (a : ℕ) (y : Node) (found : find_node t a ≡ Some y) (v : ℕ) (table : has_table y v
    ≡ true) (f : SpaceRow → FullRow) (o : Option SpaceRow) (read : option_map f o ≡ full_rows t y v) where
  row_there : is_some (row_at y.rows v) ≡ is_some o
  row_there = sym (ap (λ z. is_some (row_at z.rows v)) (node_is t a y found))
      ∙ (mapped-row t s a y found v ∙ (sym (ap is_some read) ∙ some_mapped f o))

  by_row : (b : Bool) → is_some o ≡ b → first_met (room_tests y v) ≡ cond b (Some S.Taken) None
  unfolding row_there
  by_row b e =
      ap (λ k. cond (not k) (Some S.NoTable) (cond (is_some (row_at y.rows v)) (Some S.Taken) None)) table
      ∙ ap (λ k. cond k (Some S.Taken) None) (row_there ∙ e)

  -- a row there is Taken
  pub room_taken : is_some o ≡ true → first_met (room_tests y v) ≡ Some S.Taken
  unfolding by_row
  room_taken e = by_row true e

  -- and without one there is room
  pub room_free : is_some o ≡ false → first_met (room_tests y v) ≡ None
  unfolding by_row
  room_free e = by_row false e

-- ---- all tests, one part after the other

-- those of the caller's page and of the place in the child c, which come after those of the addresses and the child
abbrev after_child : Tree → ℕ → ℕ → ℕ → ℕ → Node → List (Bool × Status)
after_child t p v cv rights c =
    (not (is_mapped t p (vpage v)), S.NotMapped)
    ∷ (not (free t p (vpage v)), S.NotFree)
    ∷ (exceeds rights (rights_at t p (vpage v)), S.NoRight)
    ∷ room_tests c (vpage cv)

-- a test of the addresses or the child that isn't passed is the first
pub add_misnamed : (t : Tree) (p v d cv rights : ℕ) (q : Status)
    → first_met (child_tests t p (v ∷ d ∷ cv ∷ []) d) ≡ Some q → first_met (add_refusals t p v d cv rights) ≡ Some q
add_misnamed t p v d cv rights q e =
    first_met-stop (child_tests t p (v ∷ d ∷ cv ∷ []) d) (after_child t p v cv rights (child_of t p d)) q e

module _ (t : Tree) (s : IsSound t) (p : ℕ) (x : Node) (found : find_node t p ≡ Some x)
    (v d cv rights : ℕ) (passed : first_met (child_tests t p (v ∷ d ∷ cv ∷ []) d) ≡ None) where
  module _ (c : Node) (child : child_at t p d ≡ Some c) where
    by_child : first_met (add_refusals t p v d cv rights) ≡ first_met (after_child t p v cv rights c)
    by_child =
        first_met-pass (child_tests t p (v ∷ d ∷ cv ∷ []) d) (after_child t p v cv rights (child_of t p d)) passed
        ∙ ap (λ y. first_met (after_child t p v cv rights y)) (child_of_is t p d c child)

    -- no row is NotMapped
    pub row_missing : full_rows t x (vpage v) ≡ None → first_met (add_refusals t p v d cv rights) ≡ Some S.NotMapped
    unfolding by_child
    row_missing none = by_child ∙ ap (λ b. cond (not b) (Some S.NotMapped) (first_met ((
      not (free t p (vpage v)),
      S.NotFree,
    ) ∷ (exceeds rights (rights_at t p (vpage v)), S.NoRight) ∷ room_tests c (vpage cv))))
        (mapped-row t s p x found (vpage v) ∙ ap is_some none)

    module _ (r : FullRow) (row : full_rows t x (vpage v) ≡ Some r) where
      rights_row : rights_at t p (vpage v) ≡ r.rights
      rights_row =
          let (q, at, same) = full_back t x (vpage v) r row in
          ap (λ z. unwrap_or (option_map (λ (w : Row). w.rights) (row_at z.rows (vpage v))) 0) (node_is t p x found)
          ∙ (ap (λ o. unwrap_or (option_map (λ (w : Row). w.rights) o) 0) at ∙ ap (λ z. z.rights) (sym same))

      by_page : first_met (add_refusals t p v d cv rights) ≡ first_met (page_tests r rights ++ room_tests c (vpage cv))
      unfolding by_child rights_row
      by_page =
          by_child
          ∙ (ap (λ b. cond (not b) (Some S.NotMapped) (first_met ((not (free t p (vpage v)), S.NotFree)
          ∷ (exceeds rights (rights_at t p (vpage v)), S.NoRight) ∷ room_tests c (vpage cv))))
          (mapped-row t s p x found (vpage v) ∙ ap is_some row)
          ∙ (ap (λ b. first_met ((not b, S.NotFree) ∷ (exceeds rights (rights_at t p (vpage v)), S.NoRight)
          ∷ room_tests c (vpage cv))) (free-row t s p x found (vpage v) r row)
          ∙ ap (λ k. first_met ((not (is_ungiven r), S.NotFree) ∷ (exceeds rights k, S.NoRight)
          ∷ room_tests c (vpage cv))) rights_row))

      -- a test of the row decides
      pub page_met : (q : Status) → first_met (page_tests r rights) ≡ Some q
          → first_met (add_refusals t p v d cv rights) ≡ Some q
      unfolding by_page
      page_met q e = by_page ∙ first_met-stop (page_tests r rights) (room_tests c (vpage cv)) q e

      module _ (granted : first_met (page_tests r rights) ≡ None) where
        -- then those of the place in the child
        pub room_decides : first_met (add_refusals t p v d cv rights) ≡ first_met (room_tests c (vpage cv))
        unfolding by_page
        room_decides = by_page ∙ first_met-pass (page_tests r rights) (room_tests c (vpage cv)) granted

      -- the loan is the model's
      pub loan_is : (k : Loan) → k.v ≡ vpage v → k.frame ≡ r.frame → k.born ≡ vpage d → k.child ≡ c.name
          → k.at ≡ vpage cv → rights_number k.rights ≡ rights → k ≡ loan_of t p v d cv rights
      loan_is k v_is frame born name at rights_are =
          let page : k.frame ≡ (loan_of t p v d cv rights).frame = frame ∙ sym (page_of-row t s p x found v r row) in
          let child_is : k.child ≡ child_name t p d = name ∙ sym (child_name_is t p d c child) in
          λ i. record {
            v = v_is i;
            frame = page i;
            born = born i;
            child = child_is i;
            at = at i;
            rights = record { 0 = rights_are i };
          }
