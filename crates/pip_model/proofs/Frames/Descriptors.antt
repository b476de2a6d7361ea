-- What the descriptor of a partition says, where the frames lay its tree out.
use Rattle.std.proofs.Common.{◌≡◌, ℕ, ◌<◌, ◌^◌, inl, inr, length, sym, ap, ◌∙◌, subst, arith, Some}
use Rattle.pip_base.specs.Memory.{Memory, word_at}
use Rattle.pip_model.specs.Layout.{LaysOut}
use Rattle.pip_model.specs.FullRows.{cells_of, full_rows}
use Rattle.pip_model.specs.NodeIn.{HasNode}
use Rattle.pip_model.specs.Partitions.{HasPartition}
use Rattle.pip_model.specs.Sound.{IsSound}
use Rattle.pip_model.specs.Tree.{Node, Tree, find_node}
use Rattle.pip_model.proofs.Frames.Laid.{laid_space}
use Rattle.pip_model.proofs.Trees.Lookup.{found_name, other_in, root_or_other}
use Rattle.pip_model.proofs.Nodes.Reads.{name_inside, read_descriptor}

-- a partition of the tree is a node in the frames
pub part_node : (m : Memory) (a : ℕ) → HasPartition m a → HasNode m a
part_node m a s = record {
  node = s.node;
  cells = cells_of (full_rows s.tree s.node);
  is_in = (laid_space s.tree s.sound m s.laid a s.node s.found).node;
  name = found_name s.tree a s.node s.found;
}

-- and is named by one of them
pub part_frame : (m : Memory) (a : ℕ) → HasPartition m a → a < length m
part_frame m a s =
    let x = laid_space s.tree s.sound m s.laid a s.node s.found in
    rw (← found_name s.tree a s.node s.found) (name_inside m s.node (cells_of (full_rows s.tree s.node)) x.node)

pub part_small : (m : Memory) (a : ℕ) → HasPartition m a → a < 2 ^ 20
part_small m a s =
    let x = laid_space s.tree s.sound m s.laid a s.node s.found in
    omega (arith, part_frame m a s)

-- word 0 is where its parent has it
pub born_word : (t : Tree) → IsSound t → (m : Memory) → LaysOut t m → (a : ℕ) (x : Node) → find_node t a ≡ Some x
    → word_at m a 0 ≡ x.born
born_word t s m laid a x found =
    let k = laid_space t s m laid a x found in
    subst (λ p. word_at m p 0 ≡ x.base.descriptor.va) (found_name t a x found)
    (read_descriptor m x (cells_of (full_rows t x)) k.node 0 (omega arith))
    ∙ elim (root_or_other t a x found) [
      | inl e ↦ rw e (ap (λ z. z.base.descriptor.va) s.boot_root.same ∙ sym (ap (λ z. z.born) s.boot_root.same))
      | inr o ↦ sym (s.named_by_descriptor x (other_in t a x o)).born
    ]
