-- An access by what the MMU's tables say of its virtual page.
use Rattle.std.specs.Prelude.{ℕ, ◌/◌, ◌%◌, ◌==◌, Option, Some, None, bit_and, not, if◌then◌else◌}
use Rattle.pip_base.specs.Rights.{rights_number}
use Rattle.pip_base.specs.declared.types.Access.{Access}
use Rattle.pip_entry.specs.declared.leaf.Leaf.{Leaf}
use Rattle.pip_entry.specs.declared.leaf.Leaf.TheVariants.{Empty, Page}
use Rattle.pip_model.specs.FullRows.{FullRow}
use Rattle.pip_model.specs.Reach.{Faulted, Hidden, Place, Reached, Right, Unmapped, right}

-- what the MMU's tables say of a row
abbrev pub leaf_of : Option FullRow → Leaf
leaf_of None = Empty
leaf_of (Some r) = Page r.frame r.user (record { 0 = r.rights })

-- what is reached by that
abbrev pub through_leaf : ℕ → Access → Leaf → Reached
through_leaf va access Empty = Faulted Unmapped
through_leaf va access (Page frame user rights) =
    if not user then Faulted Hidden
    else if not (bit_and (right access) (rights_number rights) == right access) then Faulted Right
    else Place frame (va % 4096 / 4)
