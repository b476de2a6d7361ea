-- The caller after a call that changed one node.
use Rattle.std.proofs.Common.{◌≡◌, ℕ, Option, Some, None}
use Rattle.pip_base.specs.declared.outcome.Status.{Status}
use Rattle.pip_base.specs.Memory.{Memory}
use Rattle.pip_model.specs.Answers.{accept, answer_unless}
use Rattle.pip_model.specs.Partitions.{HasPartition, IsHeld}
use Rattle.pip_model.specs.Tree.{Node, Tree, change_at, change_node, find_node}
use Rattle.pip_model.proofs.Frames.ChangeRows.{found-changed}

-- the caller is a node still
caller_there : (t : Tree) (c : ℕ) (f : Node → Node) → ((x : Node) → (f x).name ≡ x.name) → (v p : ℕ) (x : Node)
    → find_node t p ≡ Some x → (o : Option Status)
    → (y : Node) × (find_node (answer_unless t o (accept v (change_node c f t))).tree p ≡ Some y)
caller_there t c f names v p x found None = (change_at c f x, found-changed c f t names p x found)
caller_there t c f names v p x found (Some q) = (x, found)

-- so it can call again
pub caller_stands : (m n : Memory) (p : ℕ) (s : HasPartition m p) (c : ℕ) (f : Node → Node)
    → ((x : Node) → (f x).name ≡ x.name) → (v : ℕ) (o : Option Status)
    → IsHeld (answer_unless s.tree o (accept v (change_node c f s.tree))).tree n → HasPartition n p
unfolding caller_there
caller_stands m n p s c f names v o after =
    let (y, found) = caller_there s.tree c f names v p s.node s.found o in
    record {
      tree = (answer_unless s.tree o (accept v (change_node c f s.tree))).tree;
      node = y;
      sound = after.0;
      laid = after.1;
      found = found;
    }
