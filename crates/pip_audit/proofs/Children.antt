-- Tests of each parent and its children, by their places among the names.
use Rattle.std.proofs.Common.{◌≡◌, ℕ, ◌<◌, ◌≤◌, ◌==◌, inl, inr, ◌∷◌, refl, sym, ap, ap₂, ◌∙◌, arith, Bool, true}
use Rattle.std.proofs.Common.{false, eq-eqb, ne_eqb}
use Rattle.std.specs.Prelude.{slice_index}
use Rattle.std.specs.List.{list_all}
use Rattle.std.proofs.lemmas.Bool.{cases_eq}
use Rattle.pip_base.specs.Memory.{Memory, word_at}
use Rattle.pip_model.specs.Parts.{implies, part_parents_come_first}
use Rattle.pip_model.specs.ReadOff.{node_read}
use Rattle.pip_model.specs.Tree.{Node}
use Rattle.pip_model.proofs.Audit.PartTests.{tests_parents_come_first}
use Rattle.pip_audit.specs.declared.auditor.Auditor.{Auditor}
use Rattle.pip_audit.specs.Comparing.{tree_in}
use Rattle.pip_audit.specs.Judging.{TellsChildren, TellsEach, parent_test}
use Rattle.pip_audit.specs.Reading.{IsRead, tree_read}
use Rattle.pip_audit.proofs.EachNode.{name_is, node_at, nodes_are, nodes_told, others_told, up_is}
use Rattle.pip_audit.proofs.Siblings.{node_in, parent_at}
use Rattle.pip_audit.proofs.TreeIn.{read_in}

-- ---- the parent of a node

-- it is a node that was read
pub parent_place : (m : Memory) (a : Auditor) → IsRead m a → part_parents_come_first (tree_in m) ≡ true
    → (x : ℕ) → 1 ≤ x → x < a.count
    → (k : ℕ) × (k < a.count) × (slice_index a.names.items k ≡ word_at m (slice_index a.names.items x) 11)
parent_place m a r one x lo hi =
    let h = r.has_read in
    let names = a.names.items in
    let rooted = (tests_parents_come_first (tree_read m r.others)).to
    (ap part_parents_come_first (sym (read_in m a r)) ∙ one) in
    let p = parent_at m names a.count r.others h.names rooted (node_at m names x)
    (node_in m names a.count r.others h.names (nodes_are m a r.others h) x lo hi) in
    (p.0, p.1, p.2 ∙ up_is m (slice_index names x))

-- ---- each child and its parent

module _ (r : Node → Node → Bool) (m : Memory) (y x : ℕ) where
  -- the test of two nodes, at two frames, as the tree has it
  abbrev child_test : Bool
  child_test = implies ((node_read m x).up == (node_read m y).name) (r (node_read m y) (node_read m x))

  test_is : implies (word_at m x 11 == y) (r (node_read m y) (node_read m x)) ≡ child_test
  test_is = ap₂ (λ u n. implies (u == n) (r (node_read m y) (node_read m x))) (sym (up_is m x)) (sym (name_is m y))

  holds_by_parent : r (node_read m (word_at m x 11)) (node_read m x) ≡ true → child_test ≡ true
  holds_by_parent e = sym test_is ∙ elim (cases_eq (word_at m x 11) y) [
    | inl q ↦ whatever (word_at m x 11 == y) (ap (λ p. r (node_read m p) (node_read m x)) (sym q) ∙ e)
    | inr ne ↦ ap (λ c. implies c (r (node_read m y) (node_read m x))) (ne_eqb (word_at m x 11) y ne)
  ]
    where
      whatever : (c : Bool) {b : Bool} → b ≡ true → implies c b ≡ true
      whatever true e = e
      whatever false e = refl

  breaks_by_parent : y ≡ word_at m x 11 → r (node_read m (word_at m x 11)) (node_read m x) ≡ false → child_test ≡ false
  breaks_by_parent q e =
      sym test_is
      ∙ ap (λ c. implies c (r (node_read m y) (node_read m x))) (eq-eqb (word_at m x 11) y (sym q))
      ∙ ap (λ p. r (node_read m p) (node_read m x)) q
      ∙ e

module _ (r : Node → Node → Bool) (m : Memory) (a : Auditor) where
  abbrev with_child : IsRead m a → Node → Node → Bool
  with_child read x y = implies (x.up == y.name) (r y x)

  abbrev of_child : IsRead m a → Node → Bool
  of_child read x = list_all (with_child read x) (node_read m 1 ∷ read.others)

  each_told : (read : IsRead m a) → part_parents_come_first (tree_in m) ≡ true → (z : Bool)
      → TellsEach (λ x b. b ≡ parent_test r m a.names.items x) 1 a.count z → list_all (of_child read) read.others ≡ z
  each_told read one true t = others_told m a read.others read.has_read (of_child read) true (λ x lo hi.
      sym (nodes_told m a read.others read.has_read (with_child read (node_at m a.names.items x)) true (λ y low high.
      sym (holds_by_parent r m (slice_index a.names.items y) (slice_index a.names.items x) (sym (t x lo hi))))))
  each_told read one false t =
      let x = t.0 in
      let up = parent_place m a read one x t.1 t.2 in
      let names = a.names.items in
      others_told m a read.others read.has_read (of_child read) false (
        x,
        t.1,
        t.2,
        sym (nodes_told m a read.others
            read.has_read (with_child read (node_at m names x)) false (
              up.0,
              omega arith,
              up.1,
              sym (breaks_by_parent r m (slice_index names up.0) (slice_index names x) up.2 (sym t.3)),
            )),
      )

  pub children_told : (read : IsRead m a) → part_parents_come_first (tree_in m) ≡ true → (z : Bool)
      → TellsEach (TellsChildren r m a.names.items a.count) 0 a.count z → list_all (of_child read) read.others ≡ z
  children_told read one z t = each_told read one z (by_child z t)
    where
      by_child : (z : Bool) → TellsEach (TellsChildren r m a.names.items a.count) 0 a.count z
          → TellsEach (λ x b. b ≡ parent_test r m a.names.items x) 1 a.count z
      by_child true t = λ x lo hi. let p = parent_place m a read one x lo hi in
          sym (t p.0 (omega arith) p.1 x lo hi (sym p.2))
      by_child false t = let (k, lo, hi, e) = t.3 in (k, lo, hi, sym e)
