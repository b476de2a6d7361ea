-- The control of a partition in the frames of a tree: what its descriptor says, and what a write of it makes of the
-- tree.
use Rattle.std.proofs.Common.{◌≡◌, ℕ, ◌^◌, ◌==◌, Bool, List, sym, ap, ◌∙◌, Some}
use Rattle.std.specs.Prelude.{sum_by}
use Rattle.pip_base.specs.Memory.{Memory, put_word, word_at}
use Rattle.pip_model.specs.Layout.{LaysOut}
use Rattle.pip_model.specs.FullRows.{cells_of, full_rows}
use Rattle.pip_model.specs.NodeWords.{flag}
use Rattle.pip_model.specs.NodeIn.{NodeIn}
use Rattle.pip_model.specs.Partitions.{IsHeld}
use Rattle.pip_model.specs.Sound.{AreLines, IsSound}
use Rattle.pip_model.specs.Tree.{Node, Tree, find_node}
use Rattle.pip_model.specs.Worlds.{with_masked, with_pending}
use Rattle.pip_model.proofs.Trees.Ancestry.{root_is_one}
use Rattle.pip_model.proofs.Trees.Control.{pending-sound}
use Rattle.pip_model.proofs.Frames.ControlLays.{laid_cells, masked_lays, pending_lays, root_there}
use Rattle.pip_model.proofs.Trees.Lookup.{found_name}
use Rattle.pip_space.proofs.ControlWords.{flags_masked, masked_put, pending_put, read_flags, read_lines}

module _ (m : Memory) (part : ℕ) (t : Tree) (x : Node) (s : IsSound t) (laid : LaysOut t m)
    (found : find_node t part ≡ Some x) where
  here : NodeIn m x (cells_of (full_rows t x))
  here = laid_cells t part x s found m m laid

  name : x.name ≡ part
  name = found_name t part x found

  pub masked_told : (w : ℕ) → w ≡ word_at m part 14 → (w == 1) ≡ x.masked
  masked_told w is =
      rw (is, read_flags m x (cells_of (full_rows t x)) here part name, flags_masked x.masked)

  -- masked or not
  pub masked_held : (b : Bool) (w : ℕ) (n : Memory) → n ≡ put_word m part 14 w → w ≡ flag b 1
      → IsHeld (with_masked part b t) n
  masked_held b w n is value =
      masked_lays t part x s found m n laid b (masked_put m x (cells_of (full_rows t x)) here part name b w n is value)

module _ (m : Memory) (t : Tree) (s : IsSound t) (laid : LaysOut t m) where
  root_here : NodeIn m t.root (cells_of (full_rows t t.root))
  root_here = laid_cells t 1 t.root s (root_there t s) m m laid

  -- the lines of the root
  pub pending_told : (w : ℕ) → w ≡ word_at m 1 15 → w ≡ sum_by (λ j. 2 ^ j) t.root.pending
  pending_told w is = is ∙ read_lines m t.root (cells_of (full_rows t t.root)) root_here 1 (root_is_one t s)

  pub pending_held : (js : List ℕ) → AreLines 0 js → (w : ℕ) (n : Memory) → n ≡ put_word m 1 15 w
      → w ≡ sum_by (λ j. 2 ^ j) js → IsHeld (with_pending js t) n
  pending_held js rise w n is value = (
    pending-sound js t rise s,
    pending_lays t 1 t.root s (root_there t s) m n laid (sym (root_is_one t s)) js rise
        (pending_put m t.root (cells_of (full_rows t t.root)) root_here 1 (root_is_one t s) js w n is value),
  )
