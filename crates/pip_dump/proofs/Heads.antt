-- What a partition's descriptor says of it.
use Rattle.std.proofs.Common.{◌≡◌, ℕ, inl, inr, sym, ap, ◌∙◌, subst, arith, Some, length}
use Rattle.pip_base.specs.Memory.{Memory, word_at}
use Rattle.pip_model.specs.Dump.{depth_of, head_text, part_line}
use Rattle.pip_model.specs.Layout.{LaysOut}
use Rattle.pip_model.specs.FullRows.{cells_of, full_rows}
use Rattle.pip_model.specs.Sound.{IsSound}
use Rattle.pip_model.specs.Tree.{Node, Tree, find_node}
use Rattle.pip_model.proofs.Frames.Laid.{laid_space}
use Rattle.pip_model.proofs.Trees.Lookup.{found_name, other_in, root_or_other}
use Rattle.pip_model.proofs.Nodes.Reads.{read_descriptor}

module _ (t : Tree) (s : IsSound t) (m : Memory) (lays : LaysOut t m)
    (p : ℕ) (x : Node) (found : find_node t p ≡ Some x) where
  named : (i : ℕ) (w : ℕ) → word_at m x.name i ≡ w → word_at m p i ≡ w
  named i w e = subst (λ k. word_at m k i ≡ w) (found_name t p x found) e

  born_is : x.base.descriptor.va ≡ x.born
  born_is = elim (root_or_other t p x found) [
    | inl e ↦ ap (λ z. z.base.descriptor.va) e ∙ (ap (λ z. z.base.descriptor.va) s.boot_root.same
        ∙ (sym (ap (λ z. z.born) s.boot_root.same) ∙ sym (ap (λ z. z.born) e)))
    | inr o ↦ sym (s.named_by_descriptor x (other_in t p x o)).born
  ]

  pub born_word : word_at m p 0 ≡ x.born
  born_word = named 0 x.born
      (read_descriptor m x (cells_of (full_rows t x)) (laid_space t s m lays p x found).node 0 (omega arith) ∙ born_is)

  pub tables_word : word_at m p 12 ≡ length x.tables
  tables_word = named 12 (length x.tables)
      (read_descriptor m x (cells_of (full_rows t x)) (laid_space t s m lays p x found).node 12 (omega arith))

  -- the numbers of the head's line
  pub head_is : (name depth up born tables rows : ℕ) → name ≡ p → depth ≡ depth_of t x → up ≡ x.up → born ≡ word_at m p
      0 → tables ≡ word_at m p 12 → rows ≡ length x.rows → part_line name depth up born tables rows ≡ head_text t x
  unfolding born_word tables_word
  head_is name depth up born tables rows n d u b k r = λ i. part_line
      ((n ∙ sym (found_name t p x found)) i)
      (d i)
      (u i)
      ((b ∙ born_word) i)
      ((k ∙ tables_word) i)
      (r i)
