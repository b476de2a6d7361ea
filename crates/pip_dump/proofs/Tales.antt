-- The text of the tree, partition by partition.
use Rattle.std.proofs.Common.{◌≡◌, ℕ, ◌+◌, ◌≤◌, List, [], ◌∷◌, length, refl, sym, ap, subst, arith, Option, Some}
use Rattle.std.specs.Prelude.{flat_map}
use Rattle.pip_io.specs.Taken.{Taken, Appends, AppendsPart}
use Rattle.pip_model.specs.Dump.{depth_of, part_text, tree_text, nodes_depth_first}
use Rattle.pip_model.specs.Sound.{IsSound}
use Rattle.pip_model.specs.Tree.{Node, Tree, find_node}
use Rattle.pip_model.proofs.Trees.Walks.{walk_short}
use Rattle.pip_dump.specs.Walk.{IsAt, IsNextPlace, IsWalkedTo}
use Rattle.pip_dump.specs.declared.place.WalkPlace.{WalkPlace}
use Rattle.pip_dump.proofs.Moves.{at_depth, at_first}
use Rattle.pip_dump.proofs.Pieces.{left_more, left_none, left_part, left_same, left_start}

module _ (t : Tree) (s : IsSound t) where
  -- the walk begins at the root
  pub first_next : (p : WalkPlace) → p.part ≡ 1 → p.depth ≡ 0 → IsNextPlace t (nodes_depth_first t) (Some p)
  first_next p one root = let (rest, all, found, place) = at_first t s p.part p.depth one root in
      (t.root, rest, all, found, place)

  pub told_first : (p : WalkPlace) (old : Taken) → p.part ≡ 1 → p.depth ≡ 0 → IsWalkedTo t 0 (Some p) old old
  unfolding first_next
  told_first p old one root = record {
    rest = nodes_depth_first t;
    place = first_next p one root;
    seen_are = omega arith;
    left = left_start old (tree_text t);
  }

  -- where the walk stands
  pub told_place : (seen : ℕ) (p : WalkPlace) (old now : Taken) → IsWalkedTo t seen (Some p) old now
      → (rest : List Node) × IsAt t p.part p.depth 0 rest
  told_place seen p old now h = let (y, further, rest, found, place) = h.place in (further, place)

  -- its text is written
  pub told_more : (seen : ℕ) (p : WalkPlace) (next : Option WalkPlace) (old now new : Taken)
      → IsWalkedTo t seen (Some p) old
      now
      → ((y : Node) → find_node t p.part ≡ Some y → p.depth ≡ depth_of t y → Appends now new (part_text t y))
      → ((rest : List Node) → IsAt t p.part p.depth 0 rest → IsNextPlace t rest next) → IsWalkedTo t (seen + 1) next
      old new
  told_more seen p next old now new h writes goes =
      let (y, further, rest, found, place) = h.place in
      let long = ap (λ (l : List Node). length l) rest in
      let seen_are = h.seen_are in
      record {
        rest = further;
        place = goes further place;
        seen_are = omega (arith, seen_are, long);
        left = left_more old now new (part_text t y) (flat_map (part_text t) further) (tree_text t)
            (left_same old now _ _ (tree_text t) (ap (flat_map (part_text t)) rest) h.left)
            (writes y found (at_depth t s p.part p.depth 0 further y place found));
      }

  -- or a prefix of it
  pub told_part : (seen : ℕ) (p : WalkPlace) (old now new : Taken) → IsWalkedTo t seen (Some p) old now
      → ((y : Node) → find_node t p.part ≡ Some y → p.depth ≡ depth_of t y → AppendsPart now new (part_text t y))
      → AppendsPart old new (tree_text t)
  told_part seen p old now new h writes =
      let (y, further, rest, found, place) = h.place in
      left_part old now new (part_text t y) (flat_map (part_text t) further) (tree_text t)
      (left_same old now _ _ (tree_text t) (ap (flat_map (part_text t)) rest) h.left)
      (writes y found (at_depth t s p.part p.depth 0 further y place found))

  -- after as many steps as there are frames it is over
  pub told_end : (seen : ℕ) (next : Option WalkPlace) (old now : Taken) → IsWalkedTo t seen next old now
      → t.frames ≤ seen
      → Appends old now (tree_text t)
  told_end seen next old now h full =
      let seen_are = h.seen_are in
      let short = walk_short t s in
      left_none old now (tree_text t) (left_same old now _ _ (tree_text t)
      (ap (flat_map (part_text t)) (none h.rest (omega (arith, seen_are, short, full)))) h.left)
    where
      none : (rest : List Node) → length rest ≤ 0 → rest ≡ []
      none [] e = refl
      none (y ∷ ys) e = absurd (omega (arith, e))

-- and so, said otherwise
pub told_same : (t : Tree) (seen : ℕ) (a b : Option WalkPlace) (old m n : Taken) → b ≡ a → n ≡ m
    → IsWalkedTo t seen a old m
    → IsWalkedTo t seen b old n
told_same t seen a b old m n e f h =
    subst (λ o. IsWalkedTo t seen o old n) (sym e) (subst (λ k. IsWalkedTo t seen a old k) (sym f) h)
