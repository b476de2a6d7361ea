-- Partitions and the tree of them: the values of which everything else speaks.
use Rattle.std.specs.Prelude.{ℕ, ◌+◌, ◌/◌, ◌%◌, ◌==◌, max, Bool, false, if◌then◌else◌, List, [], ◌∷◌, ◌++◌, map, filter}
use Rattle.std.specs.Prelude.{find, flat_map, Option, Some, None, is_none, unwrap_or, option_map}
use Rattle.std.specs.List.{list_any}
use Rattle.pip_base.specs.declared.types.Pair.{Pair}
use Rattle.pip_model.specs.Lists.{has}

-- An address has a directory index (10 bits), an index in the table (10 bits) and an offset (12 bits).
-- A virtual page, vpage for short, is an address without its offset
abbrev pub vpage : ℕ → ℕ
vpage a = a / 4096

-- the directory index of a vpage
abbrev pub dir : ℕ → ℕ
dir v = v / 1024

-- an address is a place where a page begins at it
abbrev pub is_place : ℕ → Bool
is_place a = a % 4096 == 0

-- A page is named by its frame. A Pair is a page that a parent gave: the address at which the
-- parent maps it, and its frame.
-- The five pages that every partition has
pub record Base : Type 0 where
  pub descriptor : Pair
  pub mmu : Pair
  pub shadow1 : Pair
  pub shadow2 : Pair
  pub list : Pair

-- the three tables of a directory index: of the MMU, of the first shadow (to whom a page is given)
-- and of the second shadow (where the parent maps a page)
pub record Table : Type 0 where
  pub index : ℕ
  pub mmu : Pair
  pub shadow1 : Pair
  pub shadow2 : Pair

-- the page that is at a vpage, and what may be done with it: READ 1, WRITE 2, EXEC 4
pub record Row : Type 0 where
  pub at : ℕ
  pub frame : ℕ
  pub rights : ℕ

-- One partition. It is named by the page of its descriptor; up names its parent; born is the address
-- at which the parent has the descriptor, 0 for the root. more are its list pages but the first.
-- The rows rise by their vpages, so that the same map is the same list
pub record Node : Type 0 where
  pub name : ℕ
  pub up : ℕ
  pub born : ℕ
  pub base : Base
  pub tables : List Table
  pub more : List Pair
  pub rows : List Row
  pub masked : Bool
  pub pending : List ℕ

-- A machine's partitions and words. The nodes but the root are listed the newest first, so a parent comes
-- after its children. words has the pages that can be read, each as its words by their index below 1024
pub record Tree : Type 0 where
  pub frames : ℕ
  pub root : Node
  pub others : List Node
  pub words : ℕ → Option (ℕ → ℕ)

-- all nodes of a tree, the root first
abbrev pub nodes : Tree → List Node
nodes t = t.root ∷ t.others

-- the names of these nodes
abbrev pub names_of : List Node → List ℕ
names_of xs = map (λ x. x.name) xs

-- the tree with a change made to each node
abbrev pub on_nodes : (Node → Node) → Tree → Tree
on_nodes f t = record t { root = f t.root; others = map f t.others }

-- the tree with a change made to the node of this name
abbrev pub change_at : ℕ → (Node → Node) → Node → Node
change_at c f x = if x.name == c then f x else x

-- the tree with a change made to the node of this name
abbrev pub change_node : ℕ → (Node → Node) → Tree → Tree
change_node c f t = on_nodes (change_at c f) t

-- the node of this name, if there is one
abbrev pub find_node : Tree → ℕ → Option Node
find_node t p = find (λ x. x.name == p) (nodes t)

-- the node of this name; p is a name of the tree wherever this is said, and else it is the root
abbrev pub node : Tree → ℕ → Node
node t p = unwrap_or (find_node t p) t.root

-- a word of a page; 0 where the page can't be read
abbrev pub word_of : Option (ℕ → ℕ) → ℕ → ℕ
word_of None i = 0
word_of (Some w) i = w i

-- the five pairs of a base
abbrev pub base_pairs : Base → List Pair
base_pairs b = b.descriptor ∷ b.mmu ∷ b.shadow1 ∷ b.shadow2 ∷ b.list ∷ []

-- the three pairs of a table
abbrev pub table_pairs : Table → List Pair
table_pairs t = t.mmu ∷ t.shadow1 ∷ t.shadow2 ∷ []

-- all that a node's parent gave it as configuration
abbrev pub pairs : Node → List Pair
pairs x = base_pairs x.base ++ (flat_map table_pairs x.tables ++ x.more)

-- the pages of a node's configuration
abbrev pub config : Node → List ℕ
config x = map (λ g. g.frame) (pairs x)

-- the pages of a node's rows
abbrev pub row_pages : Node → List ℕ
row_pages x = map (λ r. r.frame) x.rows

-- the pages that a node holds: in its configuration or in a row
abbrev pub held_pages : Node → List ℕ
held_pages x = config x ++ row_pages x

-- node x holds page g
abbrev pub holds : Node → ℕ → Bool
holds x g = has (held_pages x) g

-- a page is hidden where it is configuration of any partition
abbrev pub hidden : Tree → ℕ → Bool
hidden t g = list_any (λ x. has (config x) g) (nodes t)

-- the row at a vpage
abbrev pub row_at : List Row → ℕ → Option Row
row_at rows v = find (λ r. r.at == v) rows

-- the page of x's row at a vpage
abbrev pub page_at : Node → ℕ → Option ℕ
page_at x v = option_map (λ r. r.frame) (row_at x.rows v)

-- the table of a directory index
abbrev pub table_at : List Table → ℕ → Option Table
table_at ts i = find (λ t. t.index == i) ts

-- node x has a table for a vpage
abbrev pub has_table : Node → ℕ → Bool
has_table x v = list_any (λ t. t.index == dir v) x.tables

-- how many list pages the slots of m tables take: 170 in each, and one page at least
abbrev pub lists : ℕ → ℕ
lists m = max 1 ((m + 169) / 170)

-- the children of a partition
abbrev pub children : Tree → ℕ → List Node
children t p = filter (λ x. x.up == p) t.others

-- the child whose descriptor p has at an address
abbrev pub child_at : Tree → ℕ → ℕ → Option Node
child_at t p d = find (λ x. x.born == d) (children t p)

-- the child of p that holds a page
abbrev pub holder : Tree → ℕ → ℕ → Option Node
holder t p g = find (λ x. holds x g) (children t p)

-- a node and its ancestors, the nearest first
abbrev pub chain_in : Node → List Node → ℕ → List Node
chain_in root [] p = if root.name == p then root ∷ [] else []
chain_in root (x ∷ xs) p = if x.name == p then x ∷ chain_in root xs x.up else chain_in root xs p

-- a node and its ancestors in the tree, the nearest first
abbrev pub chain : Tree → ℕ → List Node
chain t p = chain_in t.root t.others p

-- the names of a node and its ancestors
abbrev pub ancestry : Tree → ℕ → List ℕ
ancestry t p = names_of (chain t p)

-- the subtree of a: the nodes whose ancestry has a, so a itself too
abbrev pub below : Tree → ℕ → List Node
below t a = filter (λ x. has (ancestry t x.name) a) (nodes t)

-- p's page at v is free: p has a row there, and no child of p holds its page
abbrev pub is_free_row : Tree → ℕ → Option Row → Bool
is_free_row t p None = false
is_free_row t p (Some r) = is_none (holder t p r.frame)

-- p's page at vpage v is free
abbrev pub free : Tree → ℕ → ℕ → Bool
free t p v = is_free_row t p (row_at (node t p).rows v)
