-- Conditions one after another, and those of a page by its row.
use Rattle.std.proofs.Common.{not, ◌%◌, eqb-true, ◌≡◌, ℕ, ◌==◌, cond, inl, inr, Bool, true, false, List, [], ◌∷◌, ◌++◌}
use Rattle.std.proofs.Common.{refl, sym, ap, ◌∙◌, eq-eqb, ne_eqb, Option, Some, None}
use Rattle.std.specs.Prelude.{bit_and, is_none, is_some, option_map, unwrap_or}
use Rattle.std.proofs.lemmas.Nat.{and_comm}
use Rattle.std.specs.List.{list_any}
use Rattle.pip_base.specs.declared.outcome.Status.{Status}
use Rattle.pip_base.specs.declared.outcome.Status.TheVariants as S
use Rattle.pip_model.specs.Lists.{In}
use Rattle.pip_model.proofs.Trees.Free.{not_false}
use Rattle.pip_model.proofs.OnLists.Members.{any_none}
use Rattle.pip_model.specs.Answers.{first_met, some_null, is_mapped, page_of, writable}
use Rattle.pip_model.specs.FullRows.{FullRow, full_row, full_rows, given_word}
use Rattle.pip_model.specs.Sound.{IsSound}
use Rattle.pip_model.specs.Tree.{Node, Row, Tree, find_node, free, holder, is_free_row, is_place, row_at, vpage}
use Rattle.pip_model.proofs.Frames.Laid.{full_back}
use Rattle.pip_model.proofs.Trees.Lookup.{cases_option, found_name, node_is}
use Rattle.pip_model.proofs.Frames.ReadBack.{full-at}
use Rattle.pip_model.proofs.Frames.Shadows.{given_free, given_none}
use Rattle.pip_kern.specs.Tested.{is_ungiven, is_writable, place_tests}

-- ---- conditions one after another

-- the first that is met stays the first where more follow
pub first_met-stop : (cs ds : List (Bool × Status)) (s : Status) → first_met cs ≡ Some s → first_met (cs ++ ds) ≡ Some s
first_met-stop [] ds s e = cc
first_met-stop (c ∷ cs) ds s e = go c.0 (first_met-stop cs ds s) e
  where
    go : (b : Bool) → (first_met cs ≡ Some s → first_met (cs ++ ds) ≡ Some s)
        → cond b (Some c.1) (first_met cs) ≡ Some s → cond b (Some c.1) (first_met (cs ++ ds)) ≡ Some s
    go true k h = h
    go false k h = k h

-- where none is met, those that follow decide
pub first_met-pass : (cs ds : List (Bool × Status)) → first_met cs ≡ None → first_met (cs ++ ds) ≡ first_met ds
first_met-pass [] ds e = refl
first_met-pass (c ∷ cs) ds e = go c.0 (first_met-pass cs ds) e
  where
    go : (b : Bool) → (first_met cs ≡ None → first_met (cs ++ ds) ≡ first_met ds)
        → cond b (Some c.1) (first_met cs) ≡ None → cond b (Some c.1) (first_met (cs ++ ds)) ≡ first_met ds
    go true k h = cc
    go false k h = k h

-- an address that passes is a place
pub place_passed : (xs : List ℕ) (d : ℕ) → In d xs → first_met (place_tests xs) ≡ None → d % 4096 ≡ 0
place_passed xs d on e =
    let aligned : list_any (λ a. not (is_place a)) xs ≡ false = go (list_any (λ a. not (is_place a)) xs) e in
    eqb-true (d % 4096) 0 (not_false (is_place d) (any_none (λ a. not (is_place a)) d xs aligned on))
  where
    go : (b : Bool) → cond b (Some S.NotAligned) (first_met (some_null xs ∷ [])) ≡ None → b ≡ false
    go true k = cc
    go false k = refl

-- ---- the row of a page

module _ (t : Tree) (s : IsSound t) (p : ℕ) (x : Node) (found : find_node t p ≡ Some x) where
  some_full : (o : Option Row) → is_some o ≡ is_some (full_row t x o)
  some_full None = refl
  some_full (Some q) = refl

  -- a page is mapped where there is a row
  pub mapped-row : (v : ℕ) → is_mapped t p v ≡ is_some (full_rows t x v)
  mapped-row v =
      rw (node_is t p x found, some_full (row_at x.rows v), ← full-at t x v (row_at x.rows v) refl)

  none_given : (g : ℕ) → is_none (holder t p g) ≡ (given_word t p g == 0)
  none_given g = elim (cases_option (holder t p g)) [
    | inl none ↦ rw (none, ← eq-eqb (given_word t p g) 0 (given_none t p g none))
    | inr y ↦ ap is_none y.1 ∙ sym (ne_eqb (given_word t p g) 0 (λ z. let none = given_free t s p g z in
        let bad : None ≡ Some y.0 = sym none ∙ y.1 in cc))
  ]

  -- it is free where the row says that it is given to nobody
  pub free-row : (v : ℕ) (r : FullRow) → full_rows t x v ≡ Some r → free t p v ≡ is_ungiven r
  unfolding none_given
  free-row v r e =
      let (q, at, same) = full_back t x v r e in
      ap (λ z. is_free_row t p (row_at z.rows v)) (node_is t p x found)
      ∙ (ap (is_free_row t p) at ∙ (cc (none_given q.frame, found_name t p x found)))

  -- its rights are those of the row
  pub writable-row : (v : ℕ) (r : FullRow) → full_rows t x v ≡ Some r → writable t p v ≡ is_writable r
  writable-row v r e =
      let (q, at, same) = full_back t x v r e in
      ap (λ z. bit_and 3 (unwrap_or (option_map (λ (w : Row). w.rights) (row_at z.rows v)) 0)
      == 3) (node_is t p x found)
      ∙ (ap (λ o. bit_and 3 (unwrap_or (option_map (λ (w : Row). w.rights) o) 0) == 3) at
      ∙ (cc (and_comm 3 r.rights)))

  -- and its page is the row's
  pub page_of-row : (a : ℕ) (r : FullRow) → full_rows t x (vpage a) ≡ Some r → page_of t p a ≡ r.frame
  page_of-row a r e =
      let (q, at, same) = full_back t x (vpage a) r e in
      cc (node_is t p x found)
