-- addVAddr: p lends a free page to a child, with rights among its own.
use Rattle.std.specs.Prelude.{ℕ, Bool, not, ◌==◌, ◌||◌, nat_lt, if◌then◌else◌, List, [], ◌∷◌, is_some, bit_and}
use Rattle.pip_base.specs.declared.outcome.Status.{Status}
use Rattle.pip_base.specs.declared.outcome.Status.TheVariants as S
use Rattle.pip_model.specs.Tree.{Row, Node, Tree, change_node, row_at, free, has_table, vpage}
use Rattle.pip_model.specs.Answers.{Answer, accept, first_met, answer_unless, some_unaligned, some_null, no_child}
use Rattle.pip_model.specs.Answers.{child_of, child_name, is_mapped, rights_at, page_of}

-- the rights lack READ, have a bit above 2, or have one that p's row lacks
abbrev pub exceeds : ℕ → ℕ → Bool
exceeds rights own =
    not (bit_and 1 rights == 1) || (not (bit_and rights 7 == rights) || not (bit_and rights own == rights))

-- why addVAddr refuses to lend p's page at v to the child at d, for its address cv, in the order of the tests
abbrev pub add_refusals : Tree → ℕ → ℕ → ℕ → ℕ → ℕ → List (Bool × Status)
add_refusals t p v d cv rights =
    some_unaligned (v ∷ d ∷ cv ∷ [])
    ∷ some_null (v ∷ d ∷ cv ∷ [])
    ∷ no_child t p d
    ∷ (not (is_mapped t p (vpage v)), S.NotMapped)
    ∷ (not (free t p (vpage v)), S.NotFree)
    ∷ (exceeds rights (rights_at t p (vpage v)), S.NoRight)
    ∷ (not (has_table (child_of t p d) (vpage cv)), S.NoTable)
    ∷ (is_some (row_at (child_of t p d).rows (vpage cv)), S.Taken)
    ∷ []

-- the rows with one more, which comes to its place by its vpage
abbrev pub insert_row : Row → List Row → List Row
insert_row r [] = r ∷ []
insert_row r (s ∷ ss) = if nat_lt r.at s.at then r ∷ s ∷ ss else s ∷ insert_row r ss

-- a node with one row more
abbrev pub with_row : Row → Node → Node
with_row r x = record x { rows = insert_row r x.rows }

-- the tree in which the partition c has one more row
abbrev pub tree_with_row : Tree → ℕ → Row → Tree
tree_with_row t c r = change_node c (with_row r) t

-- addVAddr: the child at d gets a row for p's page at v, at its address cv, with these rights
abbrev pub add_vaddr : Tree → ℕ → ℕ → ℕ → ℕ → ℕ → Answer
add_vaddr t p v d cv rights =
    answer_unless t (first_met (add_refusals t p v d cv rights))
    (accept 0 (tree_with_row t (child_name t p d) (record { at = vpage cv; frame = page_of t p v; rights = rights })))
