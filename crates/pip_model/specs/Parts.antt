-- Soundness as tests: eight of its nine parts, each of one tree. The ninth, which pages have words, is no test: a tree
-- has its words as a function.
use Rattle.std.specs.Prelude.{ℕ, ◌+◌, ◌-◌, ◌%◌, Bool, true, false, not, ◌==◌, ◌&&◌, ◌||◌, if◌then◌else◌, nat_lt, nat_le}
use Rattle.std.specs.Prelude.{List, [], ◌∷◌, map, length, Option, Some, None, bit_and}
use Rattle.std.specs.List.{list_all}
use Rattle.pip_base.specs.declared.types.Pair.{Pair}
use Rattle.pip_model.specs.Boot.{boot_root}
use Rattle.pip_model.specs.Lists.{has, repeats}
use Rattle.pip_model.specs.Tree.{Base, Node, Row, Table, Tree, dir, held_pages, lists, names_of, nodes, page_at, pairs}
use Rattle.pip_model.specs.Tree.{row_pages, vpage}

-- if a then b
abbrev pub implies : Bool → Bool → Bool
implies a b = not a || b

-- ---- values compared

-- two pairs are equal
abbrev pub same_pair : Pair → Pair → Bool
same_pair a b = a.va == b.va && a.frame == b.frame

-- two bases are equal
abbrev pub same_base : Base → Base → Bool
same_base a b = same_pair a.descriptor b.descriptor && (same_pair a.mmu b.mmu
    && (same_pair a.shadow1 b.shadow1 && (same_pair a.shadow2 b.shadow2 && same_pair a.list b.list)))

-- two tables are equal
abbrev pub same_table : Table → Table → Bool
same_table a b =
    a.index == b.index && (same_pair a.mmu b.mmu && (same_pair a.shadow1 b.shadow1 && same_pair a.shadow2 b.shadow2))

-- two rows are equal
abbrev pub same_row : Row → Row → Bool
same_row a b = a.at == b.at && (a.frame == b.frame && a.rights == b.rights)

-- two lists have the same length, and their members are the same in turn
abbrev pub same_all : {A : Type 0} → (A → A → Bool) → List A → List A → Bool
same_all same [] [] = true
same_all same [] (y ∷ ys) = false
same_all same (x ∷ xs) [] = false
same_all same (x ∷ xs) (y ∷ ys) = same x y && same_all same xs ys

-- but for the mask and the lines
abbrev pub same_node : Node → Node → Bool
same_node x y =
    x.name == y.name && (x.up == y.up && (x.born == y.born && (same_base x.base y.base
    && (same_all same_table x.tables y.tables
    && (same_all same_pair x.more y.more && same_all same_row x.rows y.rows)))))

-- ---- the parts

-- the names differ, the root is its own parent, and every other node's parent comes after it in the list
abbrev pub is_rooted : Node → List Node → Bool
is_rooted root [] = root.up == root.name
is_rooted root (x ∷ xs) =
    not (has (names_of (root ∷ xs)) x.name) && (has (names_of (root ∷ xs)) x.up && is_rooted root xs)

-- the root is that of the boot tree
abbrev pub has_boot_root : Tree → Bool
has_boot_root t = nat_le 16 t.frames && (nat_le t.frames 4096 && same_node t.root (boot_root t.frames))

-- a list of numbers rises, and begins at low or above
abbrev pub is_rising : ℕ → List ℕ → Bool
is_rising low [] = true
is_rising low (x ∷ xs) = nat_le low x && is_rising (x + 1) xs

-- a node uses no page twice, and its rows rise by their vpages
abbrev pub keeps_pages_apart : Node → Bool
keeps_pages_apart x = not (repeats (held_pages x)) && is_rising 0 (map (λ r. r.at) x.rows)

-- g is the page, if there is one
abbrev pub is_page : Option ℕ → ℕ → Bool
is_page None g = false
is_page (Some f) g = f == g

-- all pages that node x holds come from rows of its parent y
abbrev pub is_lent_by : Node → Node → Bool
is_lent_by y x =
    list_all (λ g. has (row_pages y) g) (held_pages x)
    && list_all (λ (g : Pair). g.va % 4096 == 0 && is_page (page_at y (vpage g.va)) g.frame) (pairs x)

-- a node's name and birthplace are those of its descriptor
abbrev pub is_named_by_base : Node → Bool
is_named_by_base x = x.name == x.base.descriptor.frame && x.born == x.base.descriptor.va

-- two nodes hold no page in common
abbrev pub are_apart : Node → Node → Bool
are_apart x y = list_all (λ g. not (has (held_pages y) g)) (held_pages x)

-- these rights are all among others
abbrev pub are_among : ℕ → ℕ → Bool
are_among rights others = bit_and rights others == rights

-- every row of a node can be read
abbrev pub can_read : Node → Bool
can_read x = list_all (λ (r : Row). are_among 1 r.rights) x.rows

-- no row of node x gives a right that the row of its parent y for the page lacks
abbrev pub gives_no_more : Node → Node → Bool
gives_no_more y x = list_all (λ (r : Row).
    list_all (λ (s : Row). implies (r.frame == s.frame) (are_among r.rights s.rights)) y.rows) x.rows

-- the directory indexes of a node's tables
abbrev pub indexes : Node → List ℕ
indexes x = map (λ (t : Table). t.index) x.tables

-- a node has one table for each directory index of its rows, and as many list pages as its tables need
abbrev pub has_tables : Node → Bool
has_tables x =
    list_all (λ (r : Row). not (r.at == 0)) x.rows
    && (not (repeats (indexes x))
    && (list_all (λ (r : Row). has (indexes x) (dir r.at)) x.rows
    && (list_all (λ (t : Table). nat_lt t.index 1024) x.tables
    && length x.more == lists (length x.tables) - 1)))

-- no interrupt line is pending in a node
abbrev pub has_no_lines : Node → Bool
has_no_lines x = length x.pending == 0

-- every node of a tree passes a test
abbrev pub each_node : (Node → Bool) → Tree → Bool
each_node p t = list_all p (nodes t)

-- every node but the root passes a test
abbrev pub each_other : (Node → Bool) → Tree → Bool
each_other p t = list_all p t.others

-- every child passes a test with its parent, where the parent comes first
abbrev pub each_child : (Node → Node → Bool) → Tree → Bool
each_child r t = list_all (λ (x : Node). list_all (λ (y : Node). implies (x.up == y.name) (r y x)) (nodes t)) t.others

-- every two children of one parent pass a test
abbrev pub each_siblings : (Node → Node → Bool) → Tree → Bool
each_siblings r t = list_all (λ (x : Node).
    list_all (λ (y : Node). implies (x.up == y.up) (implies (not (x.name == y.name)) (r x y))) t.others) t.others

-- part 1 of soundness: it is a tree
unfoldable pub part_parents_come_first : Tree → Bool
part_parents_come_first t = is_rooted t.root t.others

-- part 2 of soundness: the root is that of the boot
unfoldable pub part_boot_root : Tree → Bool
part_boot_root t = has_boot_root t

-- part 3 of soundness: no partition uses a page twice
unfoldable pub part_pages_apart : Tree → Bool
part_pages_apart t = each_node keeps_pages_apart t

-- part 4 of soundness: everything comes from the parent
unfoldable pub part_lent : Tree → Bool
part_lent t = each_child is_lent_by t && each_other is_named_by_base t

-- part 5 of soundness: siblings are apart
unfoldable pub part_siblings_apart : Tree → Bool
part_siblings_apart t = each_siblings are_apart t

-- part 6 of soundness: rights only shrink
unfoldable pub part_rights : Tree → Bool
part_rights t = each_node can_read t && each_child gives_no_more t

-- part 7 of soundness: every row has its table
unfoldable pub part_tables_of_rows : Tree → Bool
part_tables_of_rows t = each_node has_tables t

-- part 8 of soundness: only the root has pending lines
unfoldable pub part_no_lines_but_the_root : Tree → Bool
part_no_lines_but_the_root t = each_other has_no_lines t

-- the least part that a tree breaks
abbrev pub unless_broken : Bool → ℕ → Option ℕ → Option ℕ
unless_broken holds part rest = if holds then rest else Some part

-- the first part of soundness that a tree breaks, if it breaks one
unfoldable pub broken_part : Tree → Option ℕ
broken_part t =
    unless_broken (part_parents_come_first t) 1
    (unless_broken (part_boot_root t) 2
    (unless_broken (part_pages_apart t) 3
    (unless_broken (part_lent t) 4
    (unless_broken (part_siblings_apart t) 5
    (unless_broken (part_rights t) 6
    (unless_broken (part_tables_of_rows t) 7
    (unless_broken (part_no_lines_but_the_root t) 8 None)))))))
