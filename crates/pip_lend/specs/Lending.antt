-- What the calls of this crate test and answer.
use Rattle.std.specs.Prelude.{◌≡◌, ℕ, Bool, true, false, not, List, [], ◌∷◌, Option, Some, is_some, MatchOption}
use Rattle.pip_model.specs.Accepted.{MayAdd, MayRemove}
use Rattle.pip_base.specs.declared.outcome.Status.{Status}
use Rattle.pip_base.specs.declared.outcome.Status.TheVariants as S
use Rattle.pip_base.specs.declared.rights.Rights.{Rights}
use Rattle.pip_base.specs.Rights.{rights_number}
use Rattle.pip_base.specs.Words.{shadow2_word}
use Rattle.pip_base.specs.Memory.{Memory}
use Rattle.pip_kern.specs.Tested.{is_ungiven}
use Rattle.pip_lend.specs.declared.loan.Loan.{Loan}
use Rattle.pip_lend.specs.declared.recall.Recall.{Recall}
use Rattle.pip_model.specs.AddVAddr.{exceeds}
use Rattle.pip_model.specs.Answers.{child_name, child_of, page_of}
use Rattle.pip_model.specs.Layout.{LaysOut}
use Rattle.pip_model.specs.FullRows.{FullRow, from_word, full_rows}
use Rattle.pip_model.specs.Sound.{IsSound}
use Rattle.pip_model.specs.Tree.{Node, Row, Tree, find_node, has_table, row_at, vpage}

-- ---- conditions

-- of the caller's row of a page that it lends with these rights
abbrev pub page_tests : FullRow → ℕ → List (Bool × Status)
page_tests r rights = (not (is_ungiven r), S.NotFree) ∷ (exceeds rights r.rights, S.NoRight) ∷ []

-- of the vpage at which a child gets a page
abbrev pub room_tests : Node → ℕ → List (Bool × Status)
room_tests y v = (not (has_table y v), S.NoTable) ∷ (is_some (row_at y.rows v), S.Taken) ∷ []

-- ---- loans

-- the rights of this number, or none where they exceed one's own
abbrev pub IsGranted : ℕ → ℕ → Option Rights → Type 0
IsGranted rights own o =
    MatchOption o (exceeds rights own ≡ true) (λ r. (exceeds rights own ≡ false) × (rights_number r ≡ rights))

-- the loan for which addVAddr is called
abbrev pub loan_of : Tree → ℕ → ℕ → ℕ → ℕ → ℕ → Loan
loan_of t p v d cv rights = record {
  v = vpage v;
  frame = page_of t p v;
  born = vpage d;
  child = child_name t p d;
  at = vpage cv;
  rights = record { 0 = rights };
}

-- the row that the child gets
abbrev pub loan_row : Loan → Row
loan_row l = record { at = l.at; frame = l.frame; rights = rights_number l.rights }

-- the caller can make the loan
pub record CanLend (t : Tree) (caller : ℕ) (l : Loan) : Type 0 where
  pub sound : IsSound t
  pub node : Node
  pub found : find_node t caller ≡ Some node
  pub row : Row
  pub at : row_at node.rows l.v ≡ Some row
  pub page : row.frame ≡ l.frame
  pub child : Node
  pub named : child.name ≡ l.child
  pub born : vpage child.born ≡ l.born
  pub may : MayAdd t caller child (loan_row l)

-- the memory lays out a tree in which the caller can make the loan
pub record HasLoan (m : Memory) (caller : ℕ) (l : Loan) : Type 0 where
  pub tree : Tree
  pub laid : LaysOut tree m
  pub can : CanLend tree caller l

-- ---- pages that are taken back

-- this is for what removeVAddr is called: the child's second shadow says where the caller has the page
pub record IsRecall (t : Tree) (p d cv : ℕ) (k : Recall) : Type 0 where
  pub child : k.child ≡ child_name t p d
  pub at : k.at ≡ vpage cv
  pub from : (r : FullRow) → full_rows t (child_of t p d) (vpage cv) ≡ Some r → r.from ≡ shadow2_word k.v

-- the caller can take the page back
pub record CanRecall (t : Tree) (caller : ℕ) (k : Recall) : Type 0 where
  pub sound : IsSound t
  pub node : Node
  pub found : find_node t caller ≡ Some node
  pub child : Node
  pub named : child.name ≡ k.child
  pub up : child.up ≡ caller
  pub row : Row
  pub at : row.at ≡ k.at
  pub may : MayRemove t child row
  pub from : from_word t child row.frame ≡ shadow2_word k.v

-- the memory lays out a tree in which the caller can take the page back
pub record HasRecall (m : Memory) (caller : ℕ) (k : Recall) : Type 0 where
  pub tree : Tree
  pub laid : LaysOut tree m
  pub can : CanRecall tree caller k
