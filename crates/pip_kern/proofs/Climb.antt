-- A partition by its parent: what its descriptor says, and a climb up the chain of parents.
use Rattle.std.proofs.Common.{◌≡◌, ℕ, ◌+◌, ◌≤◌, inl, inr, length, sym, ap, ◌∙◌, subst, arith, Some}
use Rattle.pip_base.specs.Memory.{Memory, word_at}
use Rattle.pip_model.specs.Layout.{LaysOut}
use Rattle.pip_model.specs.FullRows.{cells_of, full_rows}
use Rattle.pip_model.specs.Midway.{OnChain, here}
use Rattle.pip_model.specs.Partitions.{HasPartition}
use Rattle.pip_model.specs.Sound.{IsSound}
use Rattle.pip_model.specs.Tree.{Node, Tree, chain, find_node}
use Rattle.pip_model.proofs.Trees.Chains.{chain-trans, chain_parent, chain_up, root_chain}
use Rattle.pip_model.proofs.Trees.Depth.{depth, depth_few, depth_some, depth_up, few_nodes, own_parent}
use Rattle.pip_model.proofs.Frames.Laid.{laid_space}
use Rattle.pip_model.proofs.Trees.Lookup.{found_name, root_or_other, root_up, up_found}
use Rattle.pip_model.proofs.Nodes.Reads.{read_descriptor}
use Rattle.pip_space.specs.Rows.{HasRows}
pub use Rattle.pip_model.proofs.Frames.Descriptors.{part_frame, part_node, part_small}

-- ---- one partition

-- a partition of the tree has rows
pub part_rows : (m : Memory) (a : ℕ) → HasPartition m a → HasRows m a
part_rows m a s = record {
  node = s.node;
  rows = full_rows s.tree s.node;
  is_in = laid_space s.tree s.sound m s.laid a s.node s.found;
  name = found_name s.tree a s.node s.found;
}

-- its descriptor names its parent
pub up_word : (t : Tree) → IsSound t → (m : Memory) → LaysOut t m → (a : ℕ) (p : Node) → find_node t a ≡ Some p
    → word_at m a 11 ≡ p.up
up_word t s m lays a p is =
    let x = laid_space t s m lays a p is in
    rw (← found_name t a p is) (read_descriptor m p (cells_of (full_rows t p)) x.node 11 (omega arith))

-- which is there, too
pub parent_stands : (m : Memory) (a : ℕ) → HasPartition m a → HasPartition m (word_at m a 11)
parent_stands m a s =
    let q = up_found s.tree s.sound a s.node s.found in
    record {
      tree = s.tree;
      node = q.0;
      sound = s.sound;
      laid = s.laid;
      found = cc (up_word s.tree s.sound m s.laid a s.node s.found, q.1);
    }

-- ---- the climb

-- a number of steps up from a partition without meeting top
pub record Climb (t : Tree) (part top at steps : ℕ) : Type 0 where
  pub x : Node
  pub x_is : find_node t at ≡ Some x
  pub from_part : OnChain t at part
  pub long : steps + depth t at ≡ depth t part
  pub passed : OnChain t top part → OnChain t top at

pub climb_start : (t : Tree) (part top : ℕ) (p : Node) → find_node t part ≡ Some p → Climb t part top part 0
climb_start t part top p is =
    record { x = p; x_is = is; from_part = here; long = omega arith; passed = λ r. r }

pub climb_on : (t : Tree) → IsSound t → (part top at up steps : ℕ) (c : Climb t part top at steps) → (at ≡ top → ⊥)
    → up ≡ c.x.up → (up ≡ at → ⊥) → Climb t part top up (steps + 1)
climb_on t s part top at up steps c not_top up_is moved = elim (root_or_other t at c.x c.x_is) [
  | inl root ↦ absurd (moved (rw (up_is, root, root_up t s, ← root, found_name t at c.x c.x_is)))
  | inr o ↦
      let q = up_found t s at c.x c.x_is in
      let low = depth_up t s at c.x o in
      let long = c.long in
      let same : depth t up ≡ depth t c.x.up = rw up_is in
      record {
        x = q.0;
        x_is = cc (q.1);
        from_part = rw up_is (chain-trans t c.x.up at part (chain_parent t at c.x o) c.from_part);
        long = omega arith;
        passed = λ r. rw up_is (elim (chain_up t top at c.x o (c.passed r))
            [ inl e ↦ absurd (not_top (sym e)) | inr u ↦ u ]);
      }
]

-- no climb takes as many steps as there are frames
pub climb_full : (t : Tree) → IsSound t → (part top at steps : ℕ) → Climb t part top at steps → steps ≡ t.frames → ⊥
climb_full t s part top at steps c e = omega (arith, few_nodes t s, depth_few t part, depth_some t s at c.x c.x_is)

-- nor more than there are partitions from here up to the root
pub climb_chain : (t : Tree) → IsSound t → (part top at steps : ℕ) → Climb t part top at steps
    → steps + 1 ≤ length (chain t part)
unfolding depth
climb_chain t s part top at steps c = omega (arith, depth_some t s at c.x c.x_is)

-- where the root is passed, it isn't
pub climb_past : (t : Tree) → IsSound t → (part top at steps : ℕ) (c : Climb t part top at steps) → (at ≡ top → ⊥)
    → c.x.up ≡ at → OnChain t top part → ⊥
climb_past t s part top at steps c not_top up_is r =
    let root = own_parent t s at c.x c.x_is up_is in
    let at_root : at ≡ t.root.name = rw (← found_name t at c.x c.x_is, root) in
    not_top (cc (root_chain t s top (subst (OnChain t top) at_root (c.passed r))))
