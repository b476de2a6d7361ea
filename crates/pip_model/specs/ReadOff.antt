-- A tree read off a memory: from frame 1 on, node by node, or the place where the reading stops.
use Rattle.std.specs.Prelude.{ℕ, zero, suc, ◌+◌, ◌-◌, ◌*◌, ◌/◌, ◌%◌, Bool, not, if◌then◌else◌, ◌==◌, ◌&&◌, nat_lt}
use Rattle.std.specs.Prelude.{nat_le, List, [], ◌∷◌, ◌++◌, filter_map, flat_map, length, Option, Some, None, is_some}
use Rattle.std.specs.Prelude.{unwrap_or}
use Rattle.pip_base.specs.declared.types.Pair.{Pair}
use Rattle.pip_base.specs.Memory.{word_at}
use Rattle.pip_base.specs.Words.{directory_word, as_descriptor}
use Rattle.pip_model.specs.NodeWords.{table_page, slots, next_list_page}
use Rattle.pip_model.specs.declared.level.Level.{Level}
use Rattle.pip_model.specs.declared.level.Level.TheVariants.{Mmu}
use Rattle.pip_model.specs.declared.reading.Stop.{Stop}
use Rattle.pip_model.specs.Lists.{has}
use Rattle.pip_model.specs.Tree.{Base, Table, Row, Node, Tree, dir, hidden, lists, names_of, row_pages, table_at}

-- ---- over a number of numbers, from one on

-- the first of two values, where there is one, else the second
abbrev pub or_first : {A : Type 0} → Option A → Option A → Option A
or_first None b = b
or_first (Some a) b = Some a

-- a list with one more member in front, where there is one
abbrev pub with_first : {A : Type 0} → Option A → List A → List A
with_first None xs = xs
with_first (Some a) xs = a ∷ xs

-- the first value that a function has
unfoldable pub first : {A : Type 0} → (ℕ → Option A) → ℕ → ℕ → Option A
first f from zero = None
first f from (suc n) = or_first (f from) (first f (from + 1) n)

-- all its values
unfoldable pub gather : {A : Type 0} → (ℕ → Option A) → ℕ → ℕ → List A
gather f from zero = []
gather f from (suc n) = with_first (f from) (gather f (from + 1) n)

-- the values of a function at a number of numbers, from one on
unfoldable pub values_from : {A : Type 0} → (ℕ → A) → ℕ → ℕ → List A
values_from f from zero = []
values_from f from (suc n) = f from ∷ values_from f (from + 1) n

-- ---- where reading stops

-- a frame that is named there has to be one
abbrev pub stop_unless : Bool → ℕ → ℕ → Option Stop
stop_unless b f i = if b then None else Some (record { frame = f; index = i })

-- reading stops where word i of frame f names no frame of the memory
abbrev pub stop_at_frame : List (List ℕ) → ℕ → ℕ → Option Stop
stop_at_frame m f i = stop_unless (nat_lt (word_at m f i) (length m)) f i

-- ---- one node: what its frames say, whatever they hold

-- the pair in words i and i + 1 of frame f
abbrev pub pair_read : List (List ℕ) → ℕ → ℕ → Pair
pair_read m f i = record { va = word_at m f i; frame = word_at m f (i + 1) }

-- the base in the first ten words of a descriptor
abbrev pub base_read : List (List ℕ) → ℕ → Base
base_read m f = record {
  descriptor = pair_read m f 0;
  mmu = pair_read m f 2;
  shadow1 = pair_read m f 4;
  shadow2 = pair_read m f 6;
  list = pair_read m f 8;
}

-- a number of list pages after a list page
unfoldable pub more_read : List (List ℕ) → ℕ → ℕ → List Pair
more_read m f zero = []
more_read m f (suc k) = record { va = word_at m f 1; frame = word_at m f 0 } ∷ more_read m (word_at m f 0) k

-- the least place in a directory that has a table
unfoldable pub place_of_table : List (List ℕ) → ℕ → ℕ → Option ℕ
place_of_table m f g = first (λ i. if word_at m f i == directory_word g then Some i else None) 0 1024

-- the list page of slot j, and where it begins
abbrev pub slot_page : Pair → List Pair → ℕ → ℕ
slot_page list more j = (next_list_page (list ∷ more) (j / 170)).frame

-- the index at which slot j begins within its list page
abbrev pub slot_start : ℕ → ℕ
slot_start j = 2 + 6 * (j % 170)

-- the table in the six words from index i on of list page f
abbrev pub table_from : List (List ℕ) → ℕ → ℕ → ℕ → Table
table_from m directory f i = record {
  index = unwrap_or (place_of_table m directory (word_at m f (i + 1))) 0;
  mmu = pair_read m f i;
  shadow1 = pair_read m f (i + 2);
  shadow2 = pair_read m f (i + 4);
}

-- the table in slot j of a configuration list
unfoldable pub table_read : List (List ℕ) → Base → List Pair → ℕ → Table
table_read m base more j = table_from m base.mmu.frame (slot_page base.list more j) (slot_start j)

-- the tables in the first slots of a configuration list
abbrev pub tables_read : List (List ℕ) → Base → List Pair → ℕ → List Table
tables_read m base more count = values_from (table_read m base more) 0 count

-- the word of a vpage in the tables of a level; 0 where it has no table
abbrev pub cell_in : List (List ℕ) → Level → ℕ → Option Table → ℕ
cell_in m level v None = 0
cell_in m level v (Some b) = word_at m (table_page level b).frame (v % 1024)

-- the word of vpage v in the tables of a level
unfoldable pub cell_read : List (List ℕ) → List Table → Level → ℕ → ℕ
cell_read m ts level v = cell_in m level v (table_at ts (dir v))

-- the row at vpage v that a page table's word is; none where the word is 0
abbrev pub row_of_word : ℕ → ℕ → Option Row
row_of_word v w = if w == 0 then None else Some (record { at = v; frame = w / 4096; rights = w / 4 % 8 })

-- the row at vpage v that the page tables have
unfoldable pub row_read : List (List ℕ) → List Table → ℕ → Option Row
row_read m ts v = row_of_word v (cell_read m ts Mmu v)

-- the rows of a directory index, by the first table that has it
unfoldable pub table_rows : List (List ℕ) → ℕ → Option Table → List Row
table_rows m d None = []
table_rows m d (Some b) = gather (λ v. row_of_word v (word_at m b.mmu.frame (v % 1024))) (1024 * d) 1024

-- all rows that the page tables have, in the order of their vpages
unfoldable pub rows_read : List (List ℕ) → List Table → List Row
rows_read m ts = flat_map (λ d. table_rows m d (table_at ts d)) (values_from (λ d. d) 0 1024)

-- the lines of the low bits of a word, from a line on
unfoldable pub lines_read : ℕ → ℕ → ℕ → List ℕ
lines_read zero low w = []
lines_read (suc k) low w = if w % 2 == 1 then low ∷ lines_read k (low + 1) (w / 2) else lines_read k (low + 1) (w / 2)

-- the node of the descriptor in frame f, once its pages are known
abbrev pub node_from : List (List ℕ) → ℕ → Base → List Pair → List Table → Node
node_from m f base more tables = record {
  name = f;
  up = word_at m f 11;
  born = base.descriptor.va;
  base = base;
  tables = tables;
  more = more;
  rows = rows_read m tables;
  masked = word_at m f 14 % 2 == 1;
  pending = lines_read 16 0 (word_at m f 15);
}

-- the node of a descriptor, once its list pages are known
abbrev pub node_with_lists : List (List ℕ) → ℕ → Base → List Pair → ℕ → Node
node_with_lists m f base more count = node_from m f base more (tables_read m base more count)

-- the node of a descriptor, once its base is known
abbrev pub node_with_base : List (List ℕ) → ℕ → Base → ℕ → Node
node_with_base m f base count = node_with_lists m f base (more_read m base.list.frame (lists count - 1)) count

-- the node of the descriptor in frame f
unfoldable pub node_read : List (List ℕ) → ℕ → Node
node_read m f = node_with_base m f (base_read m f) (word_at m f 12)

-- ---- and where the reading of a node stops

-- where the reading of a descriptor's base stops
abbrev pub base_stop : List (List ℕ) → ℕ → Option Stop
base_stop m f = or_first (stop_at_frame m f 1) (or_first (stop_at_frame m f 3)
    (or_first (stop_at_frame m f 5) (or_first (stop_at_frame m f 7) (stop_at_frame m f 9))))

-- reading stops where a descriptor counts more than 1024 tables
abbrev pub count_stop : List (List ℕ) → ℕ → Option Stop
count_stop m f = stop_unless (nat_le (word_at m f 12) 1024) f 12

-- where the reading of a number of further list pages stops
unfoldable pub more_stop : List (List ℕ) → ℕ → ℕ → Option Stop
more_stop m f zero = None
more_stop m f (suc k) = or_first (stop_at_frame m f 0) (more_stop m (word_at m f 0) k)

-- within a slot: its first page is one and the directory has it, and the other two are pages
abbrev pub slot_stop_at : List (List ℕ) → ℕ → ℕ → ℕ → Option Stop
slot_stop_at m directory f i =
    or_first (stop_at_frame m f (i + 1))
    (or_first (stop_unless (is_some (place_of_table m directory (word_at m f (i + 1)))) f (i + 1))
    (or_first (stop_at_frame m f (i + 3)) (stop_at_frame m f (i + 5))))

-- where the reading of slot j stops
unfoldable pub slot_stop : List (List ℕ) → Base → List Pair → ℕ → Option Stop
slot_stop m base more j = slot_stop_at m base.mmu.frame (slot_page base.list more j) (slot_start j)

-- a word of a table is 0 or packs a page with READ
abbrev pub is_leaf : ℕ → Bool
is_leaf w = nat_lt (w % 4096) 32 && (w % 2 == 1 && w / 4 % 2 == 1)

-- a page table's word is 0, or packs a page of a memory of n frames with the right to read
abbrev pub leaf_is_read : ℕ → ℕ → Bool
leaf_is_read n w = if w == 0 then nat_le 0 0 else (is_leaf w && nat_lt (w / 4096) n)

-- reading stops at a page table's word that is neither 0 nor a page that can be read
unfoldable pub leaf_stop : List (List ℕ) → ℕ → ℕ → Option Stop
leaf_stop m f i = stop_unless (leaf_is_read (length m) (word_at m f i)) f i

-- where the reading of table j stops
unfoldable pub table_stop : List (List ℕ) → List Table → ℕ → Option Stop
table_stop m ts j = first (leaf_stop m (slots ts j).mmu.frame) 0 1024

-- where the reading of a node's page tables stops
abbrev pub stop_with_tables : List (List ℕ) → List Table → Option Stop
stop_with_tables m ts = first (table_stop m ts) 0 (length ts)

-- where the reading of a node stops, once its list pages are known
abbrev pub stop_with_lists : List (List ℕ) → Base → List Pair → ℕ → Option Stop
stop_with_lists m base more count =
    or_first (first (slot_stop m base more) 0 count) (stop_with_tables m (tables_read m base more count))

-- where the reading of a node stops, once its base is known
abbrev pub stop_with_base : List (List ℕ) → Base → ℕ → Option Stop
stop_with_base m base count = or_first (more_stop m base.list.frame (lists count - 1)) (stop_with_lists m base
    (more_read m base.list.frame (lists count - 1)) count)

-- where the reading of the node of the descriptor in frame f stops
unfoldable pub node_stop : List (List ℕ) → ℕ → Option Stop
node_stop m f = or_first (base_stop m f) (or_first (count_stop m f) (stop_with_base m (base_read m f) (word_at m f 12)))

-- ---- the tree

-- a page to be read as a node, and the word of a first shadow that says so
pub record Visit : Type 0 where
  pub page : ℕ
  pub told : Stop

-- the visit of a row's page, where the first shadow says that it is a child's descriptor
abbrev pub visit_in : List (List ℕ) → Row → Option Table → Option Visit
visit_in m r None = None
visit_in m r (Some b) = if word_at m b.shadow1.frame (r.at % 1024) % 4096 == as_descriptor
    then Some (record { page = r.frame; told = record { frame = b.shadow1.frame; index = r.at % 1024 } }) else None

-- the visit of a row's page, if it is a child's descriptor
unfoldable pub visit_of : List (List ℕ) → List Table → Row → Option Visit
visit_of m ts r = visit_in m r (table_at ts (dir r.at))

-- the children of a node that was read, in the order of its rows
unfoldable pub visits : List (List ℕ) → Node → List Visit
visits m x = filter_map (visit_of m x.tables) x.rows

-- nodes that were read, the newest first, or the place where the reading stopped
pub data Reading : Type 0 where
  Stopped : (stop : Stop) → Reading
  Complete : (others : List Node) → Reading

-- a reading, unless it stops before
abbrev pub reading_unless : Option Stop → Reading → Reading
reading_unless None r = r
reading_unless (Some s) r = Stopped s

-- the nodes below the root: a number of steps at most, these visits are left, these nodes were read. Each page is
-- read once at most, so as many steps as there are frames are enough (a lemma says so)
unfoldable pub walk : List (List ℕ) → Node → ℕ → List Visit → List Node → Reading
walk m root steps [] others = Complete others
walk m root zero (v ∷ vs) others = Stopped v.told
walk m root (suc n) (v ∷ vs) others =
    if has (names_of (root ∷ others)) v.page then Stopped v.told
    else reading_unless (node_stop m v.page)
    (walk m root n (visits m (node_read m v.page) ++ vs) (node_read m v.page ∷ others))

-- the words of the root's rows that are hidden in no node
abbrev pub words_read : List (List ℕ) → Tree → ℕ → Option (ℕ → ℕ)
words_read m t g = if has (row_pages t.root) g && not (hidden t g) then Some (word_at m g) else None

-- the tree of the nodes that were read, without words
abbrev pub bare_tree : List (List ℕ) → Node → List Node → Tree
bare_tree m root others = record { frames = length m; root = root; others = others; words = λ g. None }

-- the tree of the nodes that were read
abbrev pub tree_of_nodes : List (List ℕ) → Node → List Node → Tree
tree_of_nodes m root others = record (bare_tree m root others) { words = words_read m (bare_tree m root others) }

-- a tree, or the place where the reading stops
pub data TreeRead : Type 0 where
  Halts : (stop : Stop) → TreeRead
  IsTree : (tree : Tree) → TreeRead

-- what is read of a memory, by the reading of the nodes below the root
abbrev pub tree_of_reading : List (List ℕ) → Node → Reading → TreeRead
tree_of_reading m root (Stopped s) = Halts s
tree_of_reading m root (Complete others) = IsTree (tree_of_nodes m root others)

-- a tree that was read, unless the reading stops before
abbrev pub tree_unless : Option Stop → TreeRead → TreeRead
tree_unless None r = r
tree_unless (Some s) r = Halts s

-- the tree that the words of a memory describe, or where reading it stops
unfoldable pub tree_of : List (List ℕ) → TreeRead
tree_of m = tree_unless (node_stop m 1)
    (tree_of_reading m (node_read m 1) (walk m (node_read m 1) (length m) (visits m (node_read m 1)) []))
