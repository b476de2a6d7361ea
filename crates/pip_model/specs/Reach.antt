-- What an access of a partition reaches.
use Rattle.std.specs.Prelude.{ℕ, ◌/◌, ◌%◌, Bool, false, not, ◌==◌, if◌then◌else◌, Option, Some, None, bit_and}
use Rattle.pip_base.specs.declared.types.Access.{Access}
use Rattle.pip_base.specs.declared.types.Access.TheVariants.{Load, Store, Fetch}
use Rattle.pip_base.specs.declared.types.Size.{Size}
use Rattle.pip_base.specs.declared.types.Size.TheVariants.{Byte, Word}
use Rattle.pip_model.specs.Tree.{Row, Tree, node, row_at, hidden, vpage, word_of}

-- why an access faults, in the order in which the reasons are looked for
pub data Fault : Type 0 where
  Alignment : Fault
  Unmapped : Fault
  Hidden : Fault
  Right : Fault

-- a page and the index of a word in it, or a fault
pub data Reached : Type 0 where
  Place : ℕ → ℕ → Reached
  Faulted : Fault → Reached

-- a word is accessed at an address that isn't a multiple of 4
abbrev pub is_misaligned : ℕ → Size → Bool
is_misaligned va Byte = false
is_misaligned va Word = not (va % 4 == 0)

-- the right that an access needs: READ, WRITE or EXEC
abbrev pub right : Access → ℕ
right Load = 1
right Store = 2
right Fetch = 4

-- an access by the row at its vpage
abbrev pub reach_by_row : Tree → ℕ → Access → Option Row → Reached
reach_by_row t va access None = Faulted Unmapped
reach_by_row t va access (Some r) =
    if hidden t r.frame then Faulted Hidden
    else if not (bit_and (right access) r.rights == right access) then Faulted Right
    else Place r.frame (va % 4096 / 4)

-- the page and the word in it that an access of partition p at an address reaches, or its fault
abbrev pub reach : Tree → ℕ → ℕ → Access → Size → Reached
reach t p va access size =
    if is_misaligned va size then Faulted Alignment
    else reach_by_row t va access (row_at (node t p).rows (vpage va))

-- the word at what was reached
abbrev pub word_reached : Tree → Reached → Option ℕ
word_reached t (Faulted f) = None
word_reached t (Place g i) = Some (word_of (t.words g) i)
