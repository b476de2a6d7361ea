-- The children of the nodes that were read, by their places among the names.
use Rattle.std.specs.Prelude.{◌≡◌, ◌≢◌, ℕ, ◌+◌, ◌<◌, ◌≤◌, List, Option, None, Some, length, slice_index, slice_index_or}
use Rattle.pip_base.specs.Memory.{Memory, word_at}
use Rattle.pip_audit.specs.declared.family.Family.{Family}

-- the parent that the node at place k names
abbrev pub up_at : Memory → List ℕ → ℕ → ℕ
up_at m names k = word_at m (slice_index names k) 11

-- what is held as the first child of a frame
abbrev pub first_held : Family → ℕ → Option ℕ
first_held s f = slice_index_or s.first.items f None

-- what is held as the node after node k with the same parent
abbrev pub next_held : Family → ℕ → Option ℕ
next_held s k = slice_index_or s.next.items k None

-- a frame and a node for each of a memory of n frames
pub record HasFamilyRoom (n : ℕ) (s : Family) : Type 0 where
  pub first : length s.first.items ≡ n
  pub next : length s.next.items ≡ n + 1

-- the place where a walk goes on, or where it ends
abbrev pub end_of : ℕ → Option ℕ → ℕ
end_of count None = count
end_of count (Some k) = k

-- a node there names this parent
abbrev pub NamesParent : Memory → List ℕ → ℕ → ℕ → Option ℕ → Type 0
NamesParent m names count parent o = (k : ℕ) → o ≡ Some k → (1 ≤ k) × (k < count) × (up_at m names k ≡ parent)

-- it is the first node from a place on that names this parent
pub record IsNextOf (m : Memory) (names : List ℕ) (count parent from : ℕ) (o : Option ℕ) : Type 0 where
  pub child : NamesParent m names count parent o
  pub none : (k : ℕ) → from ≤ k → k < end_of count o → up_at m names k ≢ parent
  pub later : from ≤ end_of count o
  pub most : end_of count o ≤ count

-- node k is the first child of a frame now, if there is such a frame, and the one that was follows it
pub record TakesChild (k parent : ℕ) (old new : Family) : Type 0 where
  pub first : parent < length old.first.items → first_held new parent ≡ Some k
  pub next : parent < length old.first.items → next_held new k ≡ first_held old parent
  pub firsts : (f : ℕ) → f ≢ parent → first_held new f ≡ first_held old f
  pub nexts : (j : ℕ) → j ≢ k → next_held new j ≡ next_held old j

-- the children from a place on are found
pub record HasChildren (m : Memory) (names : List ℕ) (count : ℕ) (s : Family) (from : ℕ) : Type 0 where
  pub first : (f : ℕ) → f < length m → IsNextOf m names count f from (first_held s f)
  pub next : (k : ℕ) → from ≤ k → k < count → up_at m names k < length m
      → IsNextOf m names count (up_at m names k) (k + 1) (next_held s k)
