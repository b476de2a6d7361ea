-- What is so of a tree where none of the conditions of a call is met.
use Rattle.std.specs.Prelude.{◌≡◌, ◌≢◌, ℕ, ◌<◌, ◌+◌, ◌-◌, ◌%◌, false, List, ◌++◌, length, map, Some, None}
use Rattle.pip_base.specs.declared.types.Pair.{Pair}
use Rattle.pip_model.specs.Answers.{Five, list_of, page_of, pair_at}
use Rattle.pip_model.specs.Lists.{Distinct, In, repeats}
use Rattle.pip_model.specs.Sound.{AreAmong}
use Rattle.pip_model.specs.Tree.{Node, Row, Table, Tree, dir, held_pages, lists, node, page_at, row_at, row_pages}
use Rattle.pip_model.specs.Tree.{table_pairs, vpage}

-- no child of p holds the page
abbrev pub IsUnheld : Tree → ℕ → ℕ → Type 0
IsUnheld t p g = (c : Node) → In c t.others → c.up ≡ p → In g (held_pages c) → ⊥

-- what p has at an address that it may give away
pub record CanBeGiven (t : Tree) (p a : ℕ) : Type 0 where
  pub aligned : a % 4096 ≡ 0
  pub placed : page_at (node t p) (vpage a) ≡ Some (page_of t p a)
  pub row : In (page_of t p a) (row_pages (node t p))
  pub unheld : IsUnheld t p (page_of t p a)

-- createPartition: the five pages may be given away, and differ
pub record MayCreate (t : Tree) (p : ℕ) (a : Five) : Type 0 where
  pub usable : (x : ℕ) → In x (list_of a) → CanBeGiven t p x
  pub differ : repeats (list_of a) ≡ false

-- prepare: the child c may be given the table b and the list page, if one more is wanted
pub record MayPrepare (t : Tree) (p : ℕ) (c : Node) (b : Table) (rest : List Pair) : Type 0 where
  pub child : In c t.others
  pub up : c.up ≡ p
  pub each : (g : Pair) → In g (table_pairs b ++ rest) → (g ≡ pair_at t p g.va) × CanBeGiven t p g.va
  pub pages : Distinct (map (λ g. g.frame) (table_pairs b ++ rest))
  pub new : In b.index (map (λ t. t.index) c.tables) → ⊥
  pub small : b.index < 1024
  pub listed : length rest ≡ lists (length c.tables + 1) - lists (length c.tables)

-- addVAddr: p may lend the page of r to its child c
pub record MayAdd (t : Tree) (p : ℕ) (c : Node) (r : Row) : Type 0 where
  pub child : In c t.others
  pub up : c.up ≡ p
  pub row : In r.frame (row_pages (node t p))
  pub unheld : IsUnheld t p r.frame
  pub among : (s : Row) → In s (node t p).rows → s.frame ≡ r.frame → AreAmong r.rights s.rights
  pub readable : AreAmong 1 r.rights
  pub table : In (dir r.at) (map (λ t. t.index) c.tables)
  pub absent : row_at c.rows r.at ≡ None
  pub nonzero : r.at ≢ 0

-- removeVAddr: no child of c uses its row r
pub record MayRemove (t : Tree) (c : Node) (r : Row) : Type 0 where
  pub child : In c t.others
  pub row : In r c.rows
  pub unheld : IsUnheld t c.name r.frame
