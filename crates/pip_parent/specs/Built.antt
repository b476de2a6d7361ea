-- The tree with a child that is built of a pool: of the pages from 0 on, each want in its order takes those of its
-- table, if it is the first in its directory, and then its own.
use Rattle.std.specs.Prelude.{ℕ, zero, suc, ◌+◌, ◌-◌, ◌==◌, Bool, not, bit_and, if◌then◌else◌, List, [], ◌∷◌, ◌++◌}
use Rattle.std.specs.Prelude.{length}
use Rattle.pip_base.specs.declared.types.Pair.{Pair}
use Rattle.pip_model.specs.AddVAddr.{insert_row}
use Rattle.pip_model.specs.Answers.{page_of, pair_at, rights_at, words_cleared, words_without}
use Rattle.pip_model.specs.CreatePartition.{newborn}
use Rattle.pip_model.specs.Tree.{Row, Table, Node, Tree, config, lists, vpage}
use Rattle.pip_parent.specs.declared.wants.Want.{Want}
use Rattle.pip_parent.specs.Wants.{want_at, dir_of, opens, opened_before, pages_used, place}
use Rattle.pip_parent.specs.Pool.{pool_at, first_five}

-- the pairs of a number of addresses from place k on
abbrev pub pairs_from : Tree → ℕ → List ℕ → ℕ → ℕ → List Pair
pairs_from t p pool k zero = []
pairs_from t p pool k (suc n) = pair_at t p (pool_at pool k) ∷ pairs_from t p pool (suc k) n

-- a table in the three pages from place k on
abbrev pub pool_table : Tree → ℕ → List ℕ → ℕ → ℕ → Table
pool_table t p pool k i = record {
  index = i;
  mmu = pair_at t p (pool_at pool k);
  shadow1 = pair_at t p (pool_at pool (suc k));
  shadow2 = pair_at t p (pool_at pool (suc (suc k)));
}

-- the list pages that table d + 1 adds
abbrev pub lists_more : ℕ → ℕ
lists_more d = lists (d + 1) - lists d

-- the tables of the wants before i: a want that is the first of its directory index has its table
abbrev pub tables_of : Tree → ℕ → List ℕ → List Want → ℕ → List Table
tables_of t p pool ws zero = []
tables_of t p pool ws (suc i) = if opens ws i then tables_of t p pool ws i
    ++ pool_table t p pool (pages_used ws i) (dir_of (want_at ws i)) ∷ [] else tables_of t p pool ws i

-- the further list pages of the wants before i: each directly after the table that needs it
abbrev pub more_of : Tree → ℕ → List ℕ → List Want → ℕ → List Pair
more_of t p pool ws zero = []
more_of t p pool ws (suc i) = if opens ws i
    then more_of t p pool ws i
    ++ pairs_from t p pool (suc (suc (suc (pages_used ws i)))) (lists_more (opened_before ws i))
    else more_of t p pool ws i

-- the row of want i in the child
abbrev pub want_row : Tree → ℕ → List ℕ → List Want → ℕ → Row
want_row t p pool ws i = record {
  at = vpage (want_at ws i).va;
  frame = page_of t p (pool_at pool (place ws i));
  rights = (want_at ws i).rights;
}

-- the rows of the wants before i, in the order of their vpages
abbrev pub want_rows : Tree → ℕ → List ℕ → List Want → ℕ → List Row
want_rows t p pool ws zero = []
want_rows t p pool ws (suc i) = insert_row (want_row t p pool ws i) (want_rows t p pool ws i)

-- the child with the tables of the wants before i and the rows of those before j
abbrev pub child_with : Tree → ℕ → List ℕ → List Want → ℕ → ℕ → Node
child_with t p pool ws i j = record (newborn t p (first_five pool)) {
  tables = tables_of t p pool ws i;
  more = more_of t p pool ws i;
  rows = want_rows t p pool ws j;
}

-- t with one node more, whose pages can't be read any more
abbrev pub tree_with_child : Tree → Node → Tree
tree_with_child t x = record t { others = x ∷ t.others; words = words_without (config x) t.words }

-- the tree after the wants before i
abbrev pub built_before : Tree → ℕ → List ℕ → List Want → ℕ → Tree
built_before t p pool ws i = tree_with_child t (child_with t p pool ws i i)

-- the tree after all wants
abbrev pub built : Tree → ℕ → List ℕ → List Want → Tree
built t p pool ws = built_before t p pool ws (length ws)

-- the tree after the wants before i, where want i has its table, too, but not its page
abbrev pub built_with_table : Tree → ℕ → List ℕ → List Want → ℕ → Tree
built_with_table t p pool ws i = tree_with_child t (child_with t p pool ws (suc i) i)

-- the rights of want i exceed those of p's row at its place
abbrev pub lacks_right : Tree → ℕ → List ℕ → List Want → ℕ → Bool
lacks_right t p pool ws i =
    not (bit_and (want_at ws i).rights (rights_at t p (vpage (pool_at pool (place ws i)))) == (want_at ws i).rights)

-- the tree where the child was deleted that has the table of want i, but not its row: the pages that it had are zero
abbrev pub tree_without_child : Tree → ℕ → List ℕ → List Want → ℕ → Tree
tree_without_child t p pool ws i =
    record t { words = words_cleared (config (child_with t p pool ws (suc i) i)) t.words }
