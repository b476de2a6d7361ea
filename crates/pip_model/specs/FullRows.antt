-- What a node's tables hold: a row with what the tables and the shadows say of it. It comes from the tree.
use Rattle.std.specs.Prelude.{ℕ, Bool, not, if◌then◌else◌, ◌==◌, find, Option, Some, None, option_map}
use Rattle.pip_base.specs.Words.{leaf_word, shadow1_word, shadow2_word, as_descriptor, as_configuration, as_lent}
use Rattle.pip_model.specs.Lists.{has}
use Rattle.pip_model.specs.Tree.{Row, Node, Tree, find_node, config, row_at, holder, hidden, vpage}
use Rattle.pip_model.specs.declared.level.Level.{Level}
use Rattle.pip_model.specs.declared.level.Level.TheVariants.{Mmu, Shadow1, Shadow2}

-- a row with what the tables and the shadows say of it: given and from are words of the shadows
pub record FullRow : Type 0 where
  pub frame : ℕ
  pub rights : ℕ
  pub user : Bool
  pub given : ℕ
  pub from : ℕ

-- the word of a row in the tables of a level; 0 where there is no row
abbrev pub row_word : Level → Option FullRow → ℕ
row_word level None = 0
row_word Mmu (Some r) = leaf_word r.frame r.user r.rights
row_word Shadow1 (Some r) = r.given
row_word Shadow2 (Some r) = r.from

-- the words of the tables of a level, vpage by vpage
abbrev pub cells_of : (ℕ → Option FullRow) → Level → ℕ → ℕ
cells_of rows level v = row_word level (rows v)

-- what a child uses a page for: as its descriptor, as other configuration, or in a row
abbrev pub use_of : Node → ℕ → ℕ
use_of y g = if y.name == g then as_descriptor else if has (config y) g then as_configuration else as_lent

-- to whom a page is given, for the first shadow: to the child that holds it, 0 where it is free
abbrev pub given_by : Option Node → ℕ → ℕ
given_by None g = 0
given_by (Some y) g = shadow1_word (use_of y g) (vpage y.born)

-- the first shadow's word for page g of partition p
unfoldable pub given_word : Tree → ℕ → ℕ → ℕ
given_word t p g = given_by (holder t p g) g

-- the vpage at which parent y maps page g
abbrev pub vpage_of_page : Node → ℕ → Option ℕ
vpage_of_page y g = option_map (λ r. r.at) (find (λ r. r.frame == g) y.rows)

-- the vpage at which a parent maps page g, if there is a parent
abbrev pub vpage_in_parent : Option Node → ℕ → Option ℕ
vpage_in_parent None g = None
vpage_in_parent (Some y) g = vpage_of_page y g

-- the second shadow's word for a page that the parent maps at a vpage; 0 where it maps it nowhere
abbrev pub place_word : Option ℕ → ℕ
place_word None = 0
place_word (Some v) = shadow2_word v

-- the second shadow's word for page g of node x: where the parent maps it; 0 in the root
unfoldable pub from_word : Tree → Node → ℕ → ℕ
from_word t x g = if x.name == t.root.name then 0 else place_word (vpage_in_parent (find_node t x.up) g)

-- a page is open to the user where it is configuration of no partition
abbrev pub full_row : Tree → Node → Option Row → Option FullRow
full_row t x None = None
full_row t x (Some r) = Some (record {
  frame = r.frame;
  rights = r.rights;
  user = not (hidden t r.frame);
  given = given_word t x.name r.frame;
  from = from_word t x r.frame;
})

-- the rows of node x with what the tables and the shadows say of them, by their vpages
unfoldable pub full_rows : Tree → Node → ℕ → Option FullRow
full_rows t x v = full_row t x (row_at x.rows v)
