-- The text of a tree, of a frame and of all frames, and the totals of a tree.
use Rattle.std.specs.Prelude.{ℕ, zero, suc, ◌+◌, ◌-◌, ◌*◌, ◌/◌, ◌%◌, ◌==◌, not, if◌then◌else◌, List, [], ◌∷◌, ◌++◌}
use Rattle.std.specs.Prelude.{length, map, filter_map, flat_map, Option, Some, None, codes, decimal, sum_by, bit_and}
use Rattle.std.specs.List.{list_any}
use Rattle.pip_model.specs.Lists.{In, Distinct, Rising, has}
use Rattle.pip_model.specs.Tree.{Row, Node, Tree, nodes, names_of, config, hidden, holder, children, child_at, chain}
use Rattle.pip_model.specs.Layout.{layout}
use Rattle.pip_model.specs.Text.{word_digits, word_text, line_text}

-- ---- the order of the nodes

-- the child whose descriptor is in a row of x
abbrev pub child_of_row : Tree → Node → Row → Option Node
child_of_row t x r = child_at t x.name (4096 * r.at)

-- the children of x in the order of its rows: their descriptors' addresses rise
abbrev pub children_by_rows : Tree → Node → List Node
children_by_rows t x = filter_map (child_of_row t x) x.rows

-- x and the nodes below it to a number of levels, depth first
abbrev pub walk_from : ℕ → Tree → Node → List Node
walk_from zero t x = x ∷ []
walk_from (suc k) t x = x ∷ flat_map (walk_from k t) (children_by_rows t x)

-- all nodes, depth first. There are no more levels below the root than there are other nodes
abbrev pub nodes_depth_first : Tree → List Node
nodes_depth_first t = walk_from (length t.others) t t.root

-- how many ancestors a node has
abbrev pub depth_of : Tree → Node → ℕ
depth_of t x = length (chain t x.name) - 1

-- At each node the walk meets all its children and no others, in the rising order of their descriptors' addresses
pub record MeetsChildren (t : Tree) (x : Node) : Type 0 where
  pub rising : Rising 0 (map (λ y. y.born) (children_by_rows t x))
  pub all : (y : Node) → In y (children t x.name) → In y (children_by_rows t x)
  pub no_others : (y : Node) → In y (children_by_rows t x) → In y (children t x.name)

-- It meets every node of the tree and no others, and none twice
pub record MeetsAll (t : Tree) : Type 0 where
  pub once : Distinct (names_of (nodes_depth_first t))
  pub all : (x : Node) → In x (nodes t) → In x (nodes_depth_first t)
  pub no_others : (x : Node) → In x (nodes_depth_first t) → In x (nodes t)

-- ---- the text of a tree

-- `r`, then `w` or `-`, then `x` or `-`: every row can be read
abbrev pub rights_text : ℕ → List ℕ
rights_text rights =
    114 ∷ (if bit_and rights 2 == 2 then 119 else 45) ∷ (if bit_and rights 4 == 4 then 120 else 45) ∷ []

-- whether a page is some partition's configuration
abbrev pub view_text : Tree → ℕ → List ℕ
view_text t g = if hidden t g then codes "hidden" else codes "user"

-- what child y holds page g for: as its descriptor, as other configuration, or in a row
abbrev pub kind_text : Node → ℕ → List ℕ
kind_text y g = if y.name == g then codes "desc " else if has (config y) g then codes "conf " else codes "lent "

-- to which child page g is given: the child is named by its descriptor's address
abbrev pub use_text : Option Node → ℕ → List ℕ
use_text None g = codes "free"
use_text (Some y) g = kind_text y g ++ word_text y.born

-- the line of a row, by its address, its page and its three words
abbrev pub row_line : ℕ → ℕ → List ℕ → List ℕ → List ℕ → List ℕ
row_line va frame rights view use_ =
    line_text (codes "row " ++ word_text va ++ codes " " ++ decimal frame ++ codes " " ++ rights ++ codes " " ++ view
    ++ codes " " ++ use_)

-- the line of one row of a partition
abbrev pub row_text : Tree → Node → Row → List ℕ
row_text t x r = row_line (4096 * r.at) r.frame (rights_text r.rights) (view_text t r.frame)
    (use_text (holder t x.name r.frame) r.frame)

-- the line of a partition, by its numbers: born is written as a word
abbrev pub part_line : ℕ → ℕ → ℕ → ℕ → ℕ → ℕ → List ℕ
part_line name depth up born tables rows =
    line_text (codes "part " ++ decimal name ++ codes " depth " ++ decimal depth ++ codes " up " ++ decimal up
    ++ codes " born " ++ word_text born
    ++ codes " tables " ++ decimal tables ++ codes " rows " ++ decimal rows)

-- the line of a partition itself, before its rows
abbrev pub head_text : Tree → Node → List ℕ
head_text t x = part_line x.name (depth_of t x) x.up x.born (length x.tables) (length x.rows)

-- the line of a partition, and then one for each row
abbrev pub part_text : Tree → Node → List ℕ
part_text t x = head_text t x ++ flat_map (row_text t x) x.rows

-- the text of `tree`: all partitions of the tree with their rows
abbrev pub tree_text : Tree → List ℕ
tree_text t = flat_map (part_text t) (nodes_depth_first t)

-- ---- the text of frames

-- a number of numbers, from i on
abbrev pub numbers_from : ℕ → ℕ → List ℕ
numbers_from i zero = []
numbers_from i (suc k) = i ∷ numbers_from (i + 1) k

-- an index below 1024 in four decimal digits
abbrev pub index_text : ℕ → List ℕ
index_text i = (48 + i / 1000) ∷ (48 + i / 100 % 10) ∷ (48 + i / 10 % 10) ∷ (48 + i % 10) ∷ []

-- group k is the eight words from 8 * k on
abbrev pub group_line : (ℕ → ℕ) → ℕ → List ℕ
group_line word k = line_text (index_text (8 * k) ++ codes ":"
    ++ flat_map (λ i. codes " " ++ word_digits (word i)) (numbers_from (8 * k) 8))

-- it has a line where one of its words isn't 0
abbrev pub group_text : (ℕ → ℕ) → ℕ → List ℕ
group_text word k = if list_any (λ i. not (word i == 0)) (numbers_from (8 * k) 8) then group_line word k else []

-- the lines of a frame's groups under its own line; where there are none, nothing
abbrev pub with_frame_line : ℕ → List ℕ → List ℕ
with_frame_line f [] = []
with_frame_line f (b ∷ bs) = line_text (codes "frame " ++ decimal f) ++ b ∷ bs

-- the lines of frame f with these words
abbrev pub words_text : ℕ → (ℕ → ℕ) → List ℕ
words_text f word = with_frame_line f (flat_map (group_text word) (numbers_from 0 128))

-- the lines of frame f, as the tree lays it out
abbrev pub frame_text : Tree → ℕ → List ℕ
frame_text t f = words_text f (layout t f)

-- the text of `core`: the lines of all frames, as the tree lays them out
abbrev pub frames_text : Tree → List ℕ
frames_text t = flat_map (frame_text t) (numbers_from 0 t.frames)

-- ---- totals

-- how many partitions a tree has
abbrev pub parts_of : Tree → ℕ
parts_of t = length (nodes t)

-- how many rows all partitions have together
abbrev pub rows_of : Tree → ℕ
rows_of t = sum_by (λ x. length x.rows) (nodes t)

-- how many pages are hidden: those of all configurations
abbrev pub hidden_of : Tree → ℕ
hidden_of t = sum_by (λ x. length (config x)) (nodes t)
