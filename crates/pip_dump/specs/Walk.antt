-- The walk through a tree: which child comes next, what the walk still comes to, and where it stands.
use Rattle.std.specs.Prelude.{◌≡◌, ℕ, zero, suc, ◌+◌, ◌/◌, nat_le, List, [], ◌∷◌, ◌++◌, length, filter, filter_map}
use Rattle.std.specs.Prelude.{flat_map, sum_by, Option, Some, None}
use Rattle.pip_model.specs.Dump.{child_of_row, part_text, tree_text, nodes_depth_first, walk_from}
use Rattle.pip_model.specs.Midway.{find_other}
use Rattle.pip_model.specs.Tree.{Node, Row, Tree, chain, config, find_node}
use Rattle.pip_dump.specs.Written.{IsLeft}
use Rattle.pip_dump.specs.declared.place.WalkPlace.{WalkPlace}
use Rattle.pip_io.specs.Taken.{Taken}

-- ---- children

-- the rows at the vpages from low on
abbrev pub rows_above : ℕ → List Row → List Row
rows_above low rows = filter (λ r. nat_le low r.at) rows

-- the children whose descriptors stand in these rows
abbrev pub children_above : Tree → Node → ℕ → List Node
children_above t x low = filter_map (child_of_row t x) (rows_above low x.rows)

-- the first vpage after that of a node's descriptor in its parent
abbrev pub vpage_after : Node → ℕ
vpage_after x = x.born / 4096 + 1

-- this is the first child from a vpage on
abbrev pub IsNextChild : Tree → Node → ℕ → Option ℕ → Type 0
IsNextChild t x low None = children_above t x low ≡ []
IsNextChild t x low (Some c) = (y : Node) × (find_other t c ≡ Some y) × (y.up ≡ x.name)
    × (children_above t x low ≡ y ∷ children_above t x (vpage_after y))

-- ---- the walk

-- what the walk still comes to below a node, from a vpage on, that many levels down
abbrev pub under : ℕ → Tree → Node → ℕ → List Node
under zero t x low = []
under (suc k) t x low = flat_map (walk_from k t) (children_above t x low)

-- what it still comes to at the first of a chain of nodes: below it, and then below those above it, each from after
-- the node on that it comes back from
abbrev pub left_of : ℕ → Tree → List Node → ℕ → List Node
left_of k t [] low = []
left_of k t (x ∷ ys) low = under k t x low ++ left_of (suc k) t ys (vpage_after x)

-- the walk stands at a partition so deep, has seen its children below the vpage low, and still comes to these nodes
pub record IsAt (t : Tree) (part depth low : ℕ) (rest : List Node) : Type 0 where
  pub node : Node
  pub found : find_node t part ≡ Some node
  pub levels : ℕ
  pub level : levels + depth ≡ length t.others
  pub deep : length (chain t part) ≡ suc depth
  pub is : left_of levels t (chain t part) low ≡ rest

-- the place is where the walk comes next; it is None where the walk is over
abbrev pub IsNextPlace : Tree → List Node → Option WalkPlace → Type 0
IsNextPlace t rest None = rest ≡ []
IsNextPlace t rest (Some p) = (y : Node) × (further : List Node) × (rest ≡ y ∷ further) × (find_node t p.part ≡ Some y)
    × IsAt t p.part p.depth 0 further

-- ---- what is done on the way

-- after that many partitions the walk comes next to this place, and the texts of the nodes that are left are what is
-- left of the tree's
pub record IsWalkedTo (t : Tree) (seen : ℕ) (next : Option WalkPlace) (old now : Taken) : Type 0 where
  pub rest : List Node
  pub place : IsNextPlace t rest next
  pub seen_are : seen + length rest ≡ length (nodes_depth_first t)
  pub left : IsLeft old now (flat_map (part_text t) rest) (tree_text t)

-- that many partitions, rows and pages of configuration were counted, and those of the nodes that are left are still to
-- come
pub record IsCounted (t : Tree) (next : Option WalkPlace) (parts rows hidden : ℕ) : Type 0 where
  pub rest : List Node
  pub place : IsNextPlace t rest next
  pub parts_are : parts + length rest ≡ length (nodes_depth_first t)
  pub rows_are : rows + sum_by (λ x. length x.rows) rest ≡ sum_by (λ x. length x.rows) (nodes_depth_first t)
  pub hidden_are : hidden + sum_by (λ x. length (config x)) rest ≡ sum_by (λ x. length (config x)) (nodes_depth_first t)
