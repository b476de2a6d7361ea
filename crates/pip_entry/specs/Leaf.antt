-- Words of MMU tables.
use Rattle.std.specs.Prelude.{◌≡◌, ℕ, ◌<◌, ◌%◌, ◌^◌}
use Rattle.pip_base.specs.Rights.{rights_number}
use Rattle.pip_base.specs.Words.{leaf_word}
use Rattle.pip_entry.specs.declared.leaf.Leaf.{Leaf}
use Rattle.pip_entry.specs.declared.leaf.Leaf.TheVariants.{Empty, Page}

-- the word that stands for it
abbrev pub packed_leaf : Leaf → ℕ
packed_leaf Empty = 0
packed_leaf (Page frame user rights) = leaf_word frame user (rights_number rights)

-- READ is among the rights of a page, and none is but READ, WRITE and EXEC
abbrev pub IsLeaf : Leaf → Type 0
IsLeaf Empty = Unit {0}
IsLeaf (Page frame user rights) = (frame < 2 ^ 20) × (rights_number rights < 8) × (rights_number rights % 2 ≡ 1)
