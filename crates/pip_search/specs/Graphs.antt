-- A graph with as many edges from each place: edge c of place j has the number j * width + c, and leads to a place.
-- Some places are marked.
use Rattle.std.specs.Prelude.{◌≡◌, ℕ, suc, ◌+◌, ◌*◌, ◌/◌, ◌%◌, ◌<◌, ◌≤◌, Bool, true, if◌then◌else◌, List, [], ◌∷◌}
use Rattle.std.specs.Prelude.{length, Some, slice_get, slice_index}
use Rattle.std.specs.List.{AllByRecursion}
use Rattle.pip_search.specs.declared.index.Index.{Index}

-- a place is marked
abbrev pub IsMarked : List Bool → ℕ → Type 0
IsMarked marks j = slice_get marks j ≡ Some true

-- the place to which edges lead from j, the first of which stands first
abbrev pub place_after : List ℕ → ℕ → ℕ → List ℕ → ℕ
place_after targets width j [] = j
place_after targets width j (c ∷ cs) = place_after targets width (slice_index targets (j * width + c)) cs

-- edges lead from j to a marked place
pub record LeadsToMarked (targets : List ℕ) (width : ℕ) (marks : List Bool) (j : ℕ) : Type 0 where
  pub edges : List ℕ
  pub are : AllByRecursion (λ c. c < width) edges
  pub marked : IsMarked marks (place_after targets width j edges)

-- each place with an edge to k is marked
abbrev pub AreFollowed : List ℕ → ℕ → List Bool → ℕ → Type 0
AreFollowed targets width marks k = (e : ℕ) → slice_get targets e ≡ Some k → IsMarked marks (e / width)

-- how many places aren't marked
unfoldable pub marks_left : List Bool → ℕ
marks_left [] = 0
marks_left (b ∷ bs) = if b then marks_left bs else suc (marks_left bs)

-- a place is in a list
pub record IsListed (places : List ℕ) (j : ℕ) : Type 0 where
  pub number : ℕ
  pub at : slice_get places number ≡ Some j

-- marks are spread against the edges: all marked places are in a queue, and the first i of it were followed. Each leads
-- to one of those that were marked first
pub record IsSpreading (targets : List ℕ) (width : ℕ) (first marks : List Bool) (queue : List ℕ) (i : ℕ) : Type 0 where
  pub within : i ≤ length queue
  pub queued : (j : ℕ) → IsMarked marks j → IsListed queue j
  pub marked : (p j : ℕ) → slice_get queue p ≡ Some j → IsMarked marks j
  pub done : (p k : ℕ) → p < i → slice_get queue p ≡ Some k → AreFollowed targets width marks k
  pub sound : (j : ℕ) → IsMarked marks j → LeadsToMarked targets width first j
  pub keeps : (j : ℕ) → IsMarked first j → IsMarked marks j

-- a walk along a chain of edges, to those with the number `at`, less one, and before it: the edges to k after it were
-- followed
pub record IsFollowedTo (x : Index) (width : ℕ) (marks : List Bool) (k at : ℕ) : Type 0 where
  pub within : at ≤ length x.hashes.items
  pub rest : (p : ℕ) → at ≡ p + 1 → slice_index x.hashes.items p % length x.heads.items ≡ k % length x.heads.items
  pub walked : (e : ℕ) → at ≤ e → slice_get x.hashes.items e ≡ Some k → IsMarked marks (e / width)
