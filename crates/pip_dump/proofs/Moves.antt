-- The walk from place to place.
use Rattle.std.proofs.Common.{◌≡◌, ◌≢◌, ℕ, zero, suc, ◌+◌, ◌-◌, ◌≤◌, inl, inr, List, [], ◌∷◌, ◌++◌, length, refl, sym}
use Rattle.std.proofs.Common.{ap, ◌∙◌, subst, append_assoc, arith, Some, None}
use Rattle.std.specs.Prelude.{filter_map, flat_map}
use Rattle.std.proofs.lemmas.List.{append-nil}
use Rattle.pip_model.specs.Dump.{child_of_row, depth_of, nodes_depth_first, walk_from}
use Rattle.pip_model.specs.Sound.{IsSound}
use Rattle.pip_model.specs.Tree.{Node, Tree, chain, find_node, vpage}
use Rattle.pip_model.proofs.Trees.Ancestors.{chain-node}
use Rattle.pip_model.proofs.Trees.Ancestry.{root_is_one}
use Rattle.pip_model.proofs.Trees.Depth.{depth, depth_few, few_nodes}
use Rattle.pip_model.proofs.Trees.Lookup.{found_name, other_found, other_in, other_name, root_found, root_or_other}
use Rattle.pip_model.proofs.Trees.Lookup.{up_found}
use Rattle.pip_model.proofs.Trees.Walks.{root_line}
use Rattle.pip_dump.specs.Walk.{IsAt, IsNextChild, IsNextPlace, children_above, left_of, under, vpage_after}
use Rattle.pip_dump.specs.declared.place.WalkPlace.{WalkPlace}
use Rattle.pip_dump.proofs.Nexts.{all_rows}

pub chain_short : (t : Tree) (p : ℕ) → length (chain t p) ≤ suc (length t.others)
unfolding depth
chain_short t p = depth_few t p

module _ (t : Tree) (s : IsSound t) where
  -- the chain of a partition begins with it
  pub own_line : (p : ℕ) (x : Node) → find_node t p ≡ Some x → (ys : List Node) × (chain t p ≡ x ∷ ys)
  own_line p x found = elim (root_or_other t p x found) [
    | inl e ↦ let n : t.root.name ≡ p = ap (λ z. z.name) (sym e) ∙ found_name t p x found in
        ([], subst (λ k. chain t k ≡ x ∷ []) n (root_line t s ∙ ap (λ z. z ∷ []) (sym e)))
    | inr o ↦ (
      chain t x.up,
      subst (λ k. chain t k ≡ x ∷ chain t x.up) (other_name t p x o) (chain-node t s x (other_in t p x o)),
    )
  ]

  -- a node and what is under it
  pub walk_under : (k p : ℕ) (x : Node) → find_node t p ≡ Some x → walk_from k t x ≡ x ∷ under k t x 0
  walk_under zero p x found = refl
  walk_under (suc k) p x found =
      ap (λ rows. x ∷ flat_map (walk_from k t) (filter_map (child_of_row t x) rows)) (sym (all_rows t s p x found))

  -- one level down
  pub down_left : (k low c : ℕ) (x y : Node) (ys : List Node) → find_node t c ≡ Some y → children_above t x low
      ≡ y ∷ children_above t x (vpage_after y) → left_of (suc k) t (x ∷ ys) low ≡ y ∷ left_of k t (y ∷ x ∷ ys) 0
  down_left k low c x y ys found e =
      ap (λ l. flat_map (walk_from k t) l ++ left_of (suc (suc k)) t ys (vpage_after x)) e
      ∙ (ap (λ l. (l ++ flat_map (walk_from k t) (children_above t x (vpage_after y)))
      ++ left_of (suc (suc k)) t ys (vpage_after x)) (walk_under k c y found)
      ∙ ap (λ l. y ∷ l) (append_assoc (under k t y 0) (flat_map (walk_from k t) (children_above t x (vpage_after y)))
      (left_of (suc (suc k)) t ys (vpage_after x))))

  -- and back up
  pub up_left : (k low : ℕ) (x : Node) (ys : List Node) → children_above t x low ≡ []
      → left_of k t (x ∷ ys) low ≡ left_of (suc k) t ys (vpage_after x)
  up_left zero low x ys e = refl
  up_left (suc k) low x ys e = ap (λ l. flat_map (walk_from k t) l ++ left_of (suc (suc k)) t ys (vpage_after x)) e

  -- the walk begins at the root
  pub at_first : (part depth : ℕ) → part ≡ 1 → depth ≡ 0 → (rest : List Node) × (nodes_depth_first t ≡ t.root ∷ rest)
      × (find_node t part ≡ Some t.root) × IsAt t part depth 0 rest
  unfolding walk_under
  at_first part deep one root =
      let n : t.root.name ≡ part = root_is_one t s ∙ sym one in
      let k = length t.others in
      let line : chain t part ≡ t.root ∷ [] = subst (λ p. chain t p ≡ t.root ∷ []) n (root_line t s) in
      let all : nodes_depth_first t ≡ t.root ∷ left_of k t (chain t part) 0 =
      walk_under k t.root.name t.root (root_found t) ∙ (ap (λ l. t.root ∷ l) (sym (append-nil (under k t t.root 0)))
      ∙ ap (λ l. t.root ∷ left_of k t l 0) (sym line)) in
      let found = subst (λ p. find_node t p ≡ Some t.root) n (root_found t) in (
        left_of k t (chain t part) 0,
        all,
        found,
        record {
          node = t.root;
          found = found;
          levels = k;
          level = omega (arith, root);
          deep = ap (λ (l : List Node). length l) line ∙ sym (ap suc root);
          is = refl;
        },
      )

  -- from a node to its next child
  pub at_child : (part depth low : ℕ) (child : WalkPlace) (rest : List Node) (h : IsAt t part depth low rest)
      → IsNextChild t h.node low (Some child.part) → child.depth ≡ depth + 1 → IsNextPlace t rest (Some child)
  unfolding own_line down_left
  at_child part deep low child rest h (y, other, up, next) lower =
      let c = child.part in
      let found = other_found t s c y other in
      let (ys, line) = own_line part h.node h.found in
      let name : h.node.name ≡ part = found_name t part h.node h.found in
      let long : chain t c ≡ y ∷ h.node ∷ ys = subst (λ k. chain t k ≡ y ∷ chain t y.up) (other_name t c y other)
      (chain-node t s y (other_in t c y other)) ∙ (ap (λ k. y ∷ chain t k) (up ∙ name) ∙ ap (λ l. y ∷ l) line) in
      let before : suc (length ys) ≡ suc deep = sym (ap (λ (l : List Node). length l) line) ∙ h.deep in
      let count : length (chain t c) ≡ suc (suc (length ys)) = ap (λ (l : List Node). length l) long in
      let few : length (chain t c) ≤ suc (length t.others) = chain_short t c in
      go h.levels h.level h.is found ys line long before count few
    where
      go : (k : ℕ) → k + deep ≡ length t.others → left_of k t (chain t part) low ≡ rest
          → find_node t child.part ≡ Some y → (ys : List Node) → chain t part ≡ h.node ∷ ys → chain t child.part
          ≡ y ∷ h.node ∷ ys → suc (length ys) ≡ suc deep → length (chain t child.part) ≡ suc (suc (length ys))
          → length (chain t child.part) ≤ suc (length t.others) → IsNextPlace t rest (Some child)
      go zero level left found ys line long before count short = absurd (omega (arith, level, before, count, short))
      go (suc k) level left found ys line long before count short =
          let all : left_of (suc k) t (chain t part) low ≡ y ∷ left_of k t (chain t child.part) 0 =
          ap (λ l. left_of (suc k) t l low) line
          ∙ (down_left k low child.part h.node y ys found next ∙ ap (λ l. y ∷ left_of k t l 0) (sym long)) in (
            y,
            left_of k t (chain t child.part) 0,
            sym left ∙ all,
            found,
            record {
              node = y;
              found = found;
              levels = k;
              level = omega (arith, level, lower);
              deep = omega (arith, count, before, lower);
              is = refl;
            },
          )

  -- from a node without a further child to its parent
  pub at_up : (part depth low up v : ℕ) (rest : List Node) (h : IsAt t part depth low rest) → IsNextChild t h.node low
      None → depth ≢ 0 → v ≡ vpage h.node.born → up ≡ h.node.up → IsAt t up (depth - 1) (v + 1) rest
  unfolding up_left
  at_up part deep low up v rest h none some born parent = elim (root_or_other t part h.node h.found) [
    | inl e ↦
        let n : part ≡ t.root.name = sym (found_name t part h.node h.found) ∙ ap (λ z. z.name) e in
        let count : length (chain t part) ≡ 1 =
        ap (λ k. length (chain t k)) n ∙ ap (λ (l : List Node). length l) (root_line t s) in
        absurd (some (omega (arith, count, h.deep)))
    | inr o ↦
        let line : chain t part ≡ h.node ∷ chain t up =
        subst (λ k. chain t k ≡ h.node ∷ chain t h.node.up) (other_name t part h.node o)
        (chain-node t s h.node (other_in t part h.node o)) ∙ ap (λ k. h.node ∷ chain t k) (sym parent) in
        let (y, found) = up_found t s part h.node h.found in
        let all : left_of h.levels t (chain t part) low ≡ left_of (suc h.levels) t (chain t up) (v + 1) =
        ap (λ l. left_of h.levels t l low) line ∙ (up_left h.levels low h.node (chain t up) none
        ∙ ap (λ k. left_of (suc h.levels) t (chain t up) (k + 1)) (sym born)) in
        let count : length (chain t part) ≡ suc (length (chain t up)) = ap (λ (l : List Node). length l) line in
        let before = h.deep in
        let level = h.level in
        let above : 1 ≤ deep = one_at_least deep some in
        record {
          node = y;
          found = ap (find_node t) parent ∙ found;
          levels = suc h.levels;
          level = omega (arith, level, above);
          deep = omega (arith, count, before, above);
          is = sym all ∙ h.is;
        }
  ]
    where
      one_at_least : (n : ℕ) → n ≢ 0 → 1 ≤ n
      one_at_least zero ne = absurd (ne refl)
      one_at_least (suc n) ne = omega arith

  -- at the root without a further child the walk is over
  pub at_end : (part depth low : ℕ) (rest : List Node) (h : IsAt t part depth low rest) → depth ≡ 0
      → IsNextChild t h.node low None → rest ≡ []
  unfolding own_line up_left
  at_end part deep low rest h root none =
      let (ys, line) = own_line part h.node h.found in
      let count : suc (length ys) ≡ suc deep = sym (ap (λ (l : List Node). length l) line) ∙ h.deep in
      sym h.is ∙ (ap (λ l. left_of h.levels t l low) line ∙ (up_left h.levels low h.node ys none
      ∙ ap (λ l. left_of (suc h.levels) t l (vpage_after h.node)) (no_more ys (omega (arith, count, root)))))
    where
      no_more : (ys : List Node) → length ys ≡ 0 → ys ≡ []
      no_more [] e = refl
      no_more (y ∷ ys) e = absurd (omega (arith, e))

  -- no place is deep
  pub at_small : (part depth low : ℕ) (rest : List Node) → IsAt t part depth low rest → depth ≤ 4096
  at_small part depth low rest h =
      let level = h.level in
      let few = few_nodes t s in
      let large = s.boot_root.large in
      omega (arith, level, few, large)

  -- its depth is that of its partition
  pub at_depth : (part depth low : ℕ) (rest : List Node) (x : Node) → IsAt t part depth low rest
      → find_node t part ≡ Some x → depth ≡ depth_of t x
  at_depth part depth low rest x h found =
      let deep = h.deep in
      let name = ap (λ p. length (chain t p)) (found_name t part x found) in
      omega (arith, deep, name)
