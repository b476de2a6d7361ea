-- collect: the tables of a child of p for an address come back to p, where no row is in them.
use Rattle.std.specs.Prelude.{ℕ, ◌-◌, Bool, if◌then◌else◌, ◌==◌, nat_lt, List, [], ◌∷◌, ◌++◌, length, Option, Some}
use Rattle.std.specs.Prelude.{None, is_none}
use Rattle.std.specs.List.{list_any}
use Rattle.pip_base.specs.declared.types.Pair.{Pair}
use Rattle.pip_base.specs.declared.outcome.Status.{Status}
use Rattle.pip_base.specs.declared.outcome.Status.TheVariants as S
use Rattle.pip_model.specs.Tree.{Table, Node, Tree, change_node, table_pairs, table_at, lists, dir, vpage}
use Rattle.pip_model.specs.Answers.{Answer, accept, first_met, answer_unless, some_unaligned, some_null, no_child}
use Rattle.pip_model.specs.Answers.{child_of, child_name}

-- x's table for a vpage
abbrev pub table_for : Node → ℕ → Option Table
table_for x v = table_at x.tables (dir v)

-- x has a row at a vpage of directory index i
abbrev pub has_row_in : Node → ℕ → Bool
has_row_in x i = list_any (λ r. dir r.at == i) x.rows

-- why collect refuses to take back the table for address cv of the child at d, in the order of the tests
abbrev pub collect_refusals : Tree → ℕ → ℕ → ℕ → List (Bool × Status)
collect_refusals t p d cv =
    some_unaligned (d ∷ cv ∷ [])
    ∷ some_null (d ∷ cv ∷ [])
    ∷ no_child t p d
    ∷ (is_none (table_for (child_of t p d) (vpage cv)), S.NoTable)
    ∷ (has_row_in (child_of t p d) (dir (vpage cv)), S.NotEmpty)
    ∷ []

-- the last of the tables t and ts
abbrev pub last_of : Table → List Table → Table
last_of t [] = t
last_of t (u ∷ us) = last_of u us

-- a list without its last member
abbrev pub front_of : {A : Type 0} → List A → List A
front_of [] = []
front_of (x ∷ []) = []
front_of (x ∷ y ∷ ys) = x ∷ front_of (y ∷ ys)

-- a list with its last member moved to the front
abbrev pub last_first : List Table → List Table
last_first [] = []
last_first (t ∷ ts) = last_of t ts ∷ front_of (t ∷ ts)

-- the tables without that of index i, the last in its place
abbrev pub swap_out : ℕ → List Table → List Table
swap_out i [] = []
swap_out i (t ∷ ts) = if t.index == i then last_first ts else t ∷ swap_out i ts

-- with one table less, x needs a list page less
abbrev pub falls : Node → Bool
falls x = nat_lt (lists (length x.tables - 1)) (lists (length x.tables))

-- the last of these pairs, alone in a list
abbrev pub last_pair : List Pair → List Pair
last_pair [] = []
last_pair (g ∷ []) = g ∷ []
last_pair (g ∷ h ∷ gs) = last_pair (h ∷ gs)

-- the pages that come back with a table, in their order
abbrev pub returned_pages : Node → Option Table → List Pair
returned_pages x None = []
returned_pages x (Some t) = table_pairs t ++ (if falls x then last_pair x.more else [])

-- a node without its table of index i, and with a list page less where it needs one less
abbrev pub without_table : ℕ → Node → Node
without_table i x = record x { tables = swap_out i x.tables; more = if falls x then front_of x.more else x.more }

-- the address of the first pair, 0 where there is none
abbrev pub first_va : List Pair → ℕ
first_va [] = 0
first_va (g ∷ gs) = g.va

-- the pages that come back are chained by their first words, up to a 0, and empty beside
abbrev pub chain_word : ℕ → ℕ → ℕ
chain_word next i = if i == 0 then next else 0

-- the words of memory once these pages can be read, each with the address of the next
abbrev pub words_with_chain : List Pair → (ℕ → Option (ℕ → ℕ)) → ℕ → Option (ℕ → ℕ)
words_with_chain [] words h = words h
words_with_chain (g ∷ gs) words h = if g.frame == h then Some (chain_word (first_va gs))
    else words_with_chain gs words h

-- the tree in which c has lost its table of index i, and the pages of the table are chained
abbrev pub tree_without_table : Tree → ℕ → ℕ → List Pair → Tree
tree_without_table t c i gs = record (change_node c (without_table i) t) { words = words_with_chain gs t.words }

-- collect: the child at d loses its empty table for address cv, and p gets the table's pages back as a chain
abbrev pub collect : Tree → ℕ → ℕ → ℕ → Answer
collect t p d cv =
    let x = child_of t p d in
    let gs = returned_pages x (table_for x (vpage cv)) in
    answer_unless t (first_met (collect_refusals t p d cv))
    (accept (first_va gs) (tree_without_table t (child_name t p d) (dir (vpage cv)) gs))
