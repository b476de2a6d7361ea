-- The parts of soundness, by the tests of the nodes that were read, and the least part that a tree breaks.
use Rattle.std.proofs.Common.{◌≡◌, ℕ, zero, suc, ◌+◌, ◌-◌, ◌<◌, ◌≤◌, ◌==◌, ◌&&◌, List, [], ◌∷◌, length, refl, sym, ap}
use Rattle.std.proofs.Common.{◌∙◌, arith, inl, inr, Option, Some, None, Bool, true, false, eq-eqb, ne_eqb}
use Rattle.std.specs.Prelude.{slice_index_or}
use Rattle.std.proofs.lemmas.Bool.{cases_eq}
use Rattle.pip_base.specs.Memory.{Memory, word_at}
use Rattle.pip_model.specs.Parts.{broken_part, each_child, each_node, each_other, gives_no_more, has_no_lines}
use Rattle.pip_model.specs.Parts.{has_tables, is_lent_by, is_named_by_base, keeps_pages_apart, part_parents_come_first}
use Rattle.pip_model.specs.Parts.{part_pages_apart, part_lent, part_siblings_apart, part_rights, part_tables_of_rows}
use Rattle.pip_model.specs.Parts.{part_no_lines_but_the_root, unless_broken}
use Rattle.pip_model.specs.Tree.{Tree}
use Rattle.pip_audit.specs.declared.auditor.Auditor.{Auditor}
use Rattle.pip_audit.specs.Comparing.{tree_in}
use Rattle.pip_audit.specs.Judging.{IsReadLater, KeepsBefore, TellsApart, TellsChildren, TellsEach, keeps_to, parts}
use Rattle.pip_audit.specs.Reading.{IsRead, tree_read}
use Rattle.pip_audit.proofs.Children.{children_told}
use Rattle.pip_audit.proofs.EachNode.{is_early, is_later, node_at, nodes_told, not_first, others_told, unrooted_top}
use Rattle.pip_audit.proofs.Narrowing.{all_can_read}
use Rattle.pip_audit.proofs.Siblings.{part_siblings_apart_breaks, part_siblings_apart_holds}
use Rattle.pip_audit.proofs.TreeIn.{read_in}

-- ---- each part

module _ (m : Memory) (a : Auditor) (r : IsRead m a) (z : Bool) where
  -- a part that is told of the tree that was read
  told : (part : Tree → Bool) → part (tree_read m r.others) ≡ z → z ≡ part (tree_in m)
  told part e = sym e ∙ ap part (sym (read_in m a r))

  pub part_pages_apart_told : TellsEach (λ k b. b ≡ keeps_pages_apart (node_at m a.names.items k)) 0 a.count z
      → z ≡ part_pages_apart (tree_in m)
  unfolding part_pages_apart
  part_pages_apart_told t =
      told (each_node keeps_pages_apart) (nodes_told m a r.others r.has_read keeps_pages_apart z t)

  pub named_told : TellsEach (λ k b. b ≡ is_named_by_base (node_at m a.names.items k)) 1 a.count z
      → z ≡ each_other is_named_by_base (tree_in m)
  named_told t = told (each_other is_named_by_base) (others_told m a r.others r.has_read is_named_by_base z t)

  pub lent_told : part_parents_come_first (tree_in m) ≡ true
      → TellsEach (TellsChildren is_lent_by m a.names.items a.count) 0 a.count z
      → z ≡ each_child is_lent_by (tree_in m)
  lent_told one t = told (each_child is_lent_by) (children_told is_lent_by m a r one z t)

  pub part_rights_told : part_parents_come_first (tree_in m) ≡ true
      → TellsEach (TellsChildren gives_no_more m a.names.items a.count) 0 a.count z → z ≡ part_rights (tree_in m)
  unfolding part_rights
  part_rights_told one t = told part_rights
      (ap (λ b. b && each_child gives_no_more (tree_read m r.others)) (all_can_read m a r)
      ∙ children_told gives_no_more m a r one z t)

  pub part_tables_of_rows_told : TellsEach (λ k b. b ≡ has_tables (node_at m a.names.items k)) 0 a.count z
      → z ≡ part_tables_of_rows (tree_in m)
  unfolding part_tables_of_rows
  part_tables_of_rows_told t = told (each_node has_tables) (nodes_told m a r.others r.has_read has_tables z t)

  pub part_no_lines_but_the_root_told : TellsEach (λ k b. b ≡ has_no_lines (node_at m a.names.items k)) 1 a.count z
      → z ≡ part_no_lines_but_the_root (tree_in m)
  unfolding part_no_lines_but_the_root
  part_no_lines_but_the_root_told t =
      told (each_other has_no_lines) (others_told m a r.others r.has_read has_no_lines z t)

pub part_lent_both : (t : Tree) (z : Bool) → true ≡ each_child is_lent_by t → z ≡ each_other is_named_by_base t
    → z ≡ part_lent t
unfolding part_lent
part_lent_both t z p q = q ∙ ap (λ b. b && each_other is_named_by_base t) p

pub part_lent_not : (t : Tree) → false ≡ each_child is_lent_by t → false ≡ part_lent t
unfolding part_lent
part_lent_not t p = sym (not_first (each_other is_named_by_base t) (sym p))

pub part_siblings_apart_told : (m : Memory) (a : Auditor) (r : IsRead m a) (z : Bool)
    → part_parents_come_first (tree_in m) ≡ true → part_pages_apart (tree_in m) ≡ true
    → TellsEach (TellsApart m a.names.items a.count) 0 a.count z → z ≡ part_siblings_apart (tree_in m)
part_siblings_apart_told m a r z one three = go z
  where
    as_read : (part : Tree → Bool) → part (tree_in m) ≡ true → part (tree_read m r.others) ≡ true
    as_read part e = ap part (sym (read_in m a r)) ∙ e

    go : (z : Bool) → TellsEach (TellsApart m a.names.items a.count) 0 a.count z → z ≡ part_siblings_apart (tree_in m)
    go true t = told m a r true part_siblings_apart
        (part_siblings_apart_holds m a r (as_read part_parents_come_first one) (λ y hi. t y (omega arith) hi))
    go false t = told m a r false part_siblings_apart
        (part_siblings_apart_breaks m a r (as_read part_pages_apart three) t.0 t.3)

-- each other node was read later than its parent, and the root is its own
pub part_parents_come_first_told : (m : Memory) (a : Auditor) (r : IsRead m a) (z : Bool)
    → TellsEach (IsReadLater m a.names.items) 1 a.count z
    → (z && word_at m 1 11 == 1) ≡ part_parents_come_first (tree_in m)
unfolding part_parents_come_first
part_parents_come_first_told m a r true t = elim (cases_eq (word_at m 1 11) 1) [
  | inl e ↦ told m a r (word_at m 1 11 == 1) part_parents_come_first
      (is_later m a r.others r.has_read t e ∙ sym (eq-eqb (word_at m 1 11) 1 e))
  | inr ne ↦ told m a r (word_at m 1 11 == 1) part_parents_come_first
      (unrooted_top m a.names.items a.count r.others r.has_read.names ne ∙ sym (ne_eqb (word_at m 1 11) 1 ne))
]
part_parents_come_first_told m a r false t =
    told m a r false part_parents_come_first (is_early m a r.others r.has_read t.0 t.1 t.2 t.3)

-- ---- the least part that breaks

-- the first of these parts that a tree breaks, where they are numbered from here on
chain : List (Tree → Bool) → ℕ → Tree → Option ℕ
chain [] n t = None
chain (p ∷ ps) n t = unless_broken (p t) n (chain ps (suc n) t)

abbrev holds : List (Tree → Bool) → ℕ → Tree → Bool
holds ps k t = slice_index_or ps k (λ u. true) t

chain_at : (ps : List (Tree → Bool)) (n k : ℕ) (t : Tree) → k < length ps → ((j : ℕ) → j < k → holds ps j t ≡ true)
    → holds ps k t ≡ false → chain ps n t ≡ Some (n + k)
unfolding chain
chain_at [] n k t lo before e = absurd (omega (arith, lo))
chain_at (p ∷ ps) n zero t lo before e =
    ap (λ b. unless_broken b n (chain ps (suc n) t)) e ∙ ap Some (omega arith)
chain_at (p ∷ ps) n (suc k) t lo before e =
    ap (λ b. unless_broken b n (chain ps (suc n) t)) (before 0 (omega arith))
    ∙ chain_at ps (suc n) k t (omega (arith, lo)) (λ j h. before (suc j) (omega (arith, h))) e
    ∙ ap Some (omega arith)

chain_none : (ps : List (Tree → Bool)) (n : ℕ) (t : Tree) → ((j : ℕ) → j < length ps → holds ps j t ≡ true)
    → chain ps n t ≡ None
unfolding chain
chain_none [] n t all = refl
chain_none (p ∷ ps) n t all =
    ap (λ b. unless_broken b n (chain ps (suc n) t)) (all 0 (omega arith))
    ∙ chain_none ps (suc n) t (λ j h. all (suc j) (omega (arith, h)))

chained : (t : Tree) → chain parts 1 t ≡ broken_part t
unfolding broken_part chain
chained t = refl

before : (t : Tree) (part : ℕ) → KeepsBefore part t → (j : ℕ) → j < part - 1 → holds parts j t ≡ true
before t part h j lo =
    ap (λ k. holds parts k t) (omega arith) ∙ h (suc j) (omega arith) (omega (arith, lo))

pub breaks_at : (t : Tree) (part : ℕ) → 1 ≤ part → part ≤ 8 → KeepsBefore part t → keeps_to part t ≡ false
    → Some part ≡ broken_part t
breaks_at t part lo hi h e =
    ap Some (omega (arith, lo))
    ∙ sym (chain_at parts 1 (part - 1) t (omega (arith, lo, hi)) (before t part h) e) ∙ chained t

pub breaks_none : (t : Tree) → KeepsBefore 9 t → None ≡ broken_part t
breaks_none t h = sym (chain_none parts 1 t (λ j lo. before t 9 h j (omega (arith, lo)))) ∙ chained t
