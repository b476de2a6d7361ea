-- The climb from a partition to the child of the root above it.
use Rattle.std.proofs.Common.{◌≡◌, ◌≢◌, ℕ, ◌+◌, inl, inr, refl, sym, ap, ◌∙◌, Some, None}
use Rattle.pip_model.specs.Lists.{In}
use Rattle.pip_model.specs.Sound.{IsSound}
use Rattle.pip_model.specs.Tree.{Node, Tree, find_node}
use Rattle.pip_model.proofs.Trees.Ancestry.{not_own_parent, root_is_one}
use Rattle.pip_model.proofs.Trees.Lookup.{found_name, other_in, root_or_other}
use Rattle.pip_kern.proofs.Climb.{Climb, climb_on, climb_start}
use Rattle.pip_apart.specs.Tops.{top_of}
use Rattle.pip_apart.proofs.Children.{child_top, other_top, root_top}

-- the root has none above it
pub at_root : (t : Tree) → IsSound t → (part n : ℕ) → n ≡ part → n ≡ 1 → None ≡ top_of t part
at_root t s part n same one =
    rw (← root_top t s, root_is_one t s, ← one, same)

-- a number of steps up from a partition that isn't the root, and none of them was the root
pub record Climbs (t : Tree) (part at steps : ℕ) : Type 0 where
  pub climb : Climb t part 1 at steps
  pub below : at ≢ 1
  pub same : top_of t at ≡ top_of t part

pub climbs_start : (t : Tree) (part n : ℕ) (x : Node) → find_node t part ≡ Some x → n ≡ part → n ≢ 1
    → Climbs t part part 0
climbs_start t part n x is same differs =
    record { climb = climb_start t part 1 x is; below = λ e. differs (cc); same = refl }

-- the node is no root
others : (t : Tree) (s : IsSound t) (part at steps : ℕ) (c : Climbs t part at steps) → In c.climb.x t.others
others t s part at steps c = elim (root_or_other t at c.climb.x c.climb.x_is) [
  | inl root ↦ absurd (c.below (rw (← found_name t at c.climb.x c.climb.x_is, root, root_is_one t s)))
  | inr o ↦ other_in t at c.climb.x o
]

-- where its parent is the root, it is the one
pub climbs_met : (t : Tree) (s : IsSound t) (part at steps up n : ℕ) (c : Climbs t part at steps) → up ≡ c.climb.x.up
    → n ≡ up → n ≡ 1 → Some at ≡ top_of t part
climbs_met t s part at steps up n c is same one =
    let x = c.climb.x in
    let name = found_name t at x c.climb.x_is in
    let parent : x.up ≡ t.root.name = rw (← is, ← same, one, ← root_is_one t s) in
    rw (← name, ← child_top t s x (others t s part at steps c) parent, name, c.same)

-- where it isn't, the climb goes on
pub climbs_on : (t : Tree) (s : IsSound t) (part at steps up n : ℕ) (c : Climbs t part at steps) → up ≡ c.climb.x.up
    → n ≡ up → n ≢ 1 → Climbs t part up (steps + 1)
climbs_on t s part at steps up n c is same differs =
    let x = c.climb.x in
    let name = found_name t at x c.climb.x_is in
    let i = others t s part at steps c in
    let up_differs : up ≢ 1 = λ e. differs (cc) in
    let parent : x.up ≢ t.root.name = λ e. up_differs (cc (root_is_one t s)) in
    record {
      climb = climb_on t s part 1 at up steps c.climb c.below is
          (λ e. not_own_parent t s x i (rw (← is, e, ← name)));
      below = up_differs;
      same = rw (is, ← other_top t s x i parent, name, c.same);
    }
