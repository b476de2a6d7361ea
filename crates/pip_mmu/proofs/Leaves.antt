-- What the MMU's tables say, and what is reached by it.
use Rattle.std.proofs.Common.{◌≡◌, ℕ, ◌/◌, ◌%◌, ◌==◌, Bool, true, false, not, cond, refl, sym, ap, ◌∙◌, Option, Some}
use Rattle.std.proofs.Common.{None}
use Rattle.std.specs.Prelude.{bit_and}
use Rattle.std.proofs.lemmas.Nat.{and_comm}
use Rattle.pip_base.specs.Rights.{rights_number}
use Rattle.pip_base.specs.declared.rights.Rights.{Rights}
use Rattle.pip_base.specs.declared.types.Access.{Access}
use Rattle.pip_base.specs.declared.types.Size.TheVariants.{Byte}
use Rattle.pip_base.specs.Memory.{Memory}
use Rattle.pip_entry.specs.Leaf.{IsLeaf, packed_leaf}
use Rattle.pip_entry.specs.declared.leaf.Leaf.{Leaf}
use Rattle.pip_entry.specs.declared.leaf.Leaf.TheVariants.{Page}
use Rattle.pip_model.specs.FullRows.{FullRow, cells_of, full_row, full_rows, row_word}
use Rattle.pip_model.specs.declared.level.Level.TheVariants.{Mmu}
use Rattle.pip_model.specs.Partitions.{HasPartition}
use Rattle.pip_model.specs.NodeIn.{HasNode, Space}
use Rattle.pip_model.specs.Reach.{Faulted, Hidden, Place, Reached, Right, reach, right, reach_by_row}
use Rattle.pip_model.specs.Tree.{Node, Row, Tree, find_node, hidden, row_at, vpage}
use Rattle.pip_model.proofs.Frames.Laid.{laid_space}
use Rattle.pip_model.proofs.Trees.Lookup.{found_name, node_is}
use Rattle.pip_model.proofs.Frames.ReadBack.{full-at}
use Rattle.pip_space.specs.Rows.{IsPacked}
use Rattle.pip_space.proofs.Tables.{packed_row}
use Rattle.pip_mmu.specs.Leaves.{leaf_of, through_leaf}

module _ (m : Memory) (part : ℕ) (s : HasPartition m part) where
  -- the rows of the partition are in the memory
  pub stands_space : Space m s.node (full_rows s.tree s.node)
  stands_space = laid_space s.tree s.sound m s.laid part s.node s.found

  -- and it has its name
  pub stands_name : s.node.name ≡ part
  stands_name = found_name s.tree part s.node s.found

  -- so it is a node of this name
  pub stands_node : HasNode m part
  unfolding stands_space stands_name
  stands_node = record {
    node = s.node;
    cells = cells_of (full_rows s.tree s.node);
    is_in = stands_space.node;
    name = stands_name;
  }

-- ---- the word of a row

-- the word of a row is that of what the tables say of it
leaf_packed : (r : Option FullRow) → IsPacked r → IsLeaf (leaf_of r) × (packed_leaf (leaf_of r) ≡ row_word Mmu r)
leaf_packed None p = (tt, refl)
leaf_packed (Some r) p = ((p.frame, p.low, p.read), refl)

-- so it unpacks to this
pub leaf_unpacked : (m : Memory) (x : Node) (rows : ℕ → Option FullRow) → Space m x rows → (v w : ℕ)
    → w ≡ row_word Mmu (rows v) → (o : Option Leaf) → ((l : Leaf) → IsLeaf l → packed_leaf l ≡ w → o ≡ Some l)
    → o ≡ Some (leaf_of (rows v))
leaf_unpacked m x rows space v w word o each = let l = leaf_packed (rows v) (packed_row m x rows space v) in
    each (leaf_of (rows v)) l.0 (l.1 ∙ sym word)

-- two values of one result are one
pub same_some : {A : Type 0} (o : Option A) (a b : A) → o ≡ Some a → o ≡ Some b → a ≡ b
same_some o a b e f = cc

-- none is no value
pub not_none : {A : Type 0} (o : Option A) (a : A) → o ≡ None → o ≡ Some a → ⊥
not_none o a e f = cc

-- ---- through a row

-- a page is hidden where its user bit is off
at_row : (i frame rights : ℕ) (a : Access) (h : Bool)
    → cond (not (not h)) (Faulted Hidden)
    (cond (not (bit_and (right a) rights == right a)) (Faulted Right) (Place frame i))
    ≡ cond h (Faulted Hidden) (cond (not (bit_and (right a) rights == right a)) (Faulted Right) (Place frame i))
at_row i frame rights a true = refl
at_row i frame rights a false = refl

-- by the tables as by the row
through_row : (t : Tree) (x : Node) (va : ℕ) (a : Access) (o : Option Row)
    → through_leaf va a (leaf_of (full_row t x o)) ≡ reach_by_row t va a o
through_row t x va a None = refl
through_row t x va a (Some r) = at_row (va % 4096 / 4) r.frame r.rights a (hidden t r.frame)

-- an access of a byte reaches what it reaches by the tables
pub reach_by_leaf : (t : Tree) (part va v : ℕ) (x : Node) (a : Access) (l : Leaf) (q : Reached) → find_node t part
    ≡ Some x → v ≡ va / 4096 → l ≡ leaf_of (full_rows t x v) → q ≡ through_leaf va a l → q ≡ reach t part va a Byte
reach_by_leaf t part va v x a l q found page e is =
    is
    ∙ (ap (through_leaf va a) (e ∙ (ap (λ k. leaf_of (full_rows t x k)) page
    ∙ ap leaf_of (full-at t x (vpage va) (row_at x.rows (vpage va)) refl)))
    ∙ (through_row t x va a (row_at x.rows (vpage va))
    ∙ ap (λ y. reach_by_row t va a (row_at y.rows (vpage va))) (sym (node_is t part x found))))

-- ---- the rights, as the code tests them

module _ (va frame : ℕ) (a : Access) (rights : Rights) (need : ℕ) (l : Leaf) (leaf_is : l ≡ Page frame true rights)
    (need_is : need ≡ right a) (b : Bool) (test : b ≡ (bit_and (rights_number rights) need == need)) where
  tested : (bit_and (right a) (rights_number rights) == right a) ≡ b
  tested = sym (test ∙ (ap (λ n. bit_and (rights_number rights) n == n) need_is
      ∙ ap (λ n. n == right a) (and_comm (rights_number rights) (right a))))

  passes : through_leaf va a l ≡ cond (not b) (Faulted Right) (Place frame (va % 4096 / 4))
  unfolding tested
  passes = ap (through_leaf va a) leaf_is ∙ ap (λ c. cond (not c) (Faulted Right) (Place frame (va % 4096 / 4))) tested

  -- where the row lacks the right
  pub lacks_right : b ≡ false → Faulted Right ≡ through_leaf va a l
  unfolding passes
  lacks_right e = sym (passes ∙ ap (λ c. cond (not c) (Faulted Right) (Place frame (va % 4096 / 4))) e)

  -- and where it has it
  pub has_right : b ≡ true → Place frame (va % 4096 / 4) ≡ through_leaf va a l
  unfolding passes
  has_right e = sym (passes ∙ ap (λ c. cond (not c) (Faulted Right) (Place frame (va % 4096 / 4))) e)
