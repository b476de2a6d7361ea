-- A memory compared with the layout of the tree that is read off it.
use Rattle.std.specs.Prelude.{◌≡◌, ℕ, ◌+◌, ◌<◌, ◌≤◌, ◌⊎◌, Bool, true, false, [], length, not, Option, Some, None}
use Rattle.std.specs.Prelude.{nat_lt, if◌then◌else◌, option_map, slice_index}
use Rattle.pip_base.specs.Memory.{Memory, word_at}
use Rattle.pip_base.specs.Words.{directory_word}
use Rattle.pip_model.specs.declared.reading.Difference.{Difference}
use Rattle.pip_model.specs.Audit.{difference_between, frame_difference}
use Rattle.pip_model.specs.FullRows.{FullRow, cells_of, from_word, given_word}
use Rattle.pip_model.specs.Layout.{layout}
use Rattle.pip_model.specs.NodeWords.{DescriptorPage, DirectoryPage, ListPage, Role as PageRole, TablePage, role}
use Rattle.pip_model.specs.NodeWords.{role_word}
use Rattle.pip_model.specs.declared.level.Level.{Level}
use Rattle.pip_model.specs.declared.level.Level.TheVariants.{Mmu, Shadow1, Shadow2}
use Rattle.pip_model.specs.ReadOff.{Halts, IsTree, TreeRead, bare_tree, node_read, row_read, tree_of}
use Rattle.pip_model.specs.Lists.{In}
use Rattle.pip_model.specs.Sound.{IsSound}
use Rattle.pip_model.specs.Tree.{Row, Tree, hidden, lists, nodes}
use Rattle.pip_audit.specs.declared.auditor.Auditor.{Auditor}
use Rattle.pip_audit.specs.declared.tables.Triple.{Triple}
use Rattle.pip_audit.specs.declared.wanted.Role.{Role}
use Rattle.pip_audit.specs.declared.wanted.Role.TheVariants as R
use Rattle.pip_audit.specs.Families.{up_at}
use Rattle.pip_audit.specs.FrameWords.{AreFrameWords, word_held}
use Rattle.pip_audit.specs.FrameSets.{AreSets, contains}
use Rattle.pip_audit.specs.Tables.{IsOf, tables_in}

-- ---- the words that are wanted

-- what a page is meant to be; nothing where it is no configuration
abbrev pub role_of : Role → Option PageRole
role_of R.Nothing = None
role_of R.Descriptor = Some DescriptorPage
role_of (R.Directory level) = Some (DirectoryPage level)
role_of (R.Table level d) = Some (TablePage level d)
role_of (R.List k) = Some (ListPage k)

-- the table of a level
abbrev pub page_in : Level → Triple → ℕ
page_in Mmu b = b.mmu
page_in Shadow1 b = b.shadow1
page_in Shadow2 b = b.shadow2

-- the word of a directory, by what is held of an index
abbrev pub entry_held : Level → Option Triple → ℕ
entry_held level None = 0
entry_held level (Some b) = directory_word (page_in level b)

-- a row with what is held for its page
abbrev pub row_held : Auditor → Row → FullRow
row_held a r = record {
  frame = r.frame;
  rights = r.rights;
  user = not (contains a.sets.hidden r.frame);
  given = word_held a.words.given r.frame;
  from = word_held a.words.above r.frame;
}

-- the rows of the node whose tables are held, with that
abbrev pub rows_held : Memory → Auditor → ℕ → Option FullRow
rows_held m a v = option_map (row_held a) (row_read m (tables_in m a.node.part) v)

-- the word of a page of this node by its role, with these rows; 0 where the page has none
abbrev pub wanted_word : Memory → Auditor → Option PageRole → ℕ → ℕ
wanted_word m a None i = 0
wanted_word m a (Some r) i = role_word (node_read m a.node.part) (cells_of (rows_held m a)) r i

-- how a word of a frame differs from the one that is wanted of this role
abbrev pub differs_at : Memory → Auditor → ℕ → Option PageRole → ℕ → Option Difference
differs_at m a f o i = difference_between f i (word_at m f i) (wanted_word m a o i)

-- the first word of a frame that differs from the one that is wanted of this role
abbrev pub differs_from : Memory → Auditor → ℕ → Option PageRole → Option Difference
differs_from m a f o = frame_difference m (λ _ i. wanted_word m a o i) f

-- the first difference among the 32 words from one on, which tells where none of them differs
abbrev pub IsFirstIn : (ℕ → Option Difference) → ℕ → Option Difference → Type 0
IsFirstIn at from None = (i : ℕ) → from ≤ i → i < from + 32 → at i ≡ None
IsFirstIn at from (Some d) =
    (i : ℕ) × (from ≤ i) × (i < from + 32) × (Some d ≡ at i) × ((k : ℕ) → from ≤ k → k < i → at k ≡ None)

-- there are tables of this index, or list pages up to this one
abbrev pub FitsRole : Memory → ℕ → Option PageRole → Type 0
FitsRole m part (Some (TablePage level d)) = d < 1024
FitsRole m part (Some (ListPage k)) = k < lists (word_at m part 12)
FitsRole m part r = Unit {0}

-- a node's tables are held, and something for each page
pub record HoldsNode (m : Memory) (a : Auditor) : Type 0 where
  pub of : IsOf m a.node
  pub sets : AreSets (length m) a.sets
  pub words : AreFrameWords (length m) a.words

-- ---- what was found

-- the tree of a reading; where it stops, a tree of the root alone
abbrev pub tree_found : Memory → TreeRead → Tree
tree_found m (Halts s) = bare_tree m (node_read m 1) []
tree_found m (IsTree t) = t

-- the tree that is read off a memory
abbrev pub tree_in : Memory → Tree
tree_in m = tree_found m (tree_of m)

-- the first word of a frame that isn't the layout's
abbrev pub differs_in : Memory → ℕ → Option Difference
differs_in m f = frame_difference m (layout (tree_in m)) f

-- what was found is the first difference of its frame
abbrev pub IsDifference : Memory → Option Difference → Type 0
IsDifference m found =
    (d : Difference) → found ≡ Some d → (d.frame < length m) × (differs_in m d.frame ≡ Some d)

-- a frame is as the layout has it, or something was found in it or before it
abbrev pub Covers : Memory → Option Difference → ℕ → Type 0
Covers m found f = (differs_in m f ≡ None) ⊎ ((d : Difference) × (found ≡ Some d) × (d.frame ≤ f))

-- what was found is right, and each frame that was covered still is
pub record GoesOn (m : Memory) (old new : Option Difference) : Type 0 where
  pub is : IsDifference m new
  pub stays : (f : ℕ) → Covers m old f → Covers m new f

-- the one in the lower frame
abbrev pub earlier_of : Option Difference → Option Difference → Option Difference
earlier_of None b = b
earlier_of (Some a) None = Some a
earlier_of (Some a) (Some b) = if nat_lt b.frame a.frame then Some b else Some a

-- ---- what is judged

-- the node is one of a sound tree
pub record CanJudge (m : Memory) (a : Auditor) : Type 0 where
  pub sound : IsSound (tree_in m)
  pub holds : HoldsNode m a
  pub node : In (node_read m a.node.part) (nodes (tree_in m))

-- what is held for each page is what the node's tables of a level tell of it
abbrev pub HoldsLevel : Memory → Auditor → Level → Type 0
HoldsLevel m a Mmu = (g : ℕ) → g < length m → contains a.sets.hidden g ≡ hidden (tree_in m) g
HoldsLevel m a Shadow1 = (g : ℕ) → g < length m → word_held a.words.given g ≡ given_word (tree_in m) a.node.part g
HoldsLevel m a Shadow2 =
    (g : ℕ) → g < length m → word_held a.words.above g ≡ from_word (tree_in m) (node_read m a.node.part) g

-- the same where the role is that of a table
abbrev pub HoldsRole : Memory → Auditor → Option PageRole → Type 0
HoldsRole m a (Some (TablePage level d)) = HoldsLevel m a level
HoldsRole m a r = Unit {0}

-- a frame has this role in a node
abbrev pub Plays : Memory → ℕ → ℕ → Option PageRole → Type 0
Plays m part f None = ⊥
Plays m part f (Some r) = role (node_read m part) f ≡ Some r

-- the frame that has a role in a node is covered
abbrev pub CoversRole : Memory → Option Difference → ℕ → PageRole → Type 0
CoversRole m found part r = (f : ℕ) → role (node_read m part) f ≡ Some r → Covers m found f

-- the frames of its tables of a level are
abbrev pub CoversTables : Memory → Option Difference → ℕ → Level → Type 0
CoversTables m found part level = (d : ℕ) → CoversRole m found part (TablePage level d)

-- all that tells of its own node alone, and of what is hidden: no table of a shadow
abbrev pub is_plain : PageRole → Bool
is_plain (TablePage Shadow1 d) = false
is_plain (TablePage Shadow2 d) = false
is_plain r = true

-- the frames that have such a role in a node are covered
abbrev pub CoversPlain : Memory → Option Difference → ℕ → Type 0
CoversPlain m found part = (r : PageRole) → is_plain r ≡ true → CoversRole m found part r

-- ---- node by node

-- all that changed are the tables and the words that are held
abbrev pub LoadsOnly : Auditor → Auditor → Type 0
LoadsOnly old new = new ≡ record old { node = new.node; child = new.child; words = new.words }

-- all of the node at a frame is covered but its second shadows
pub record CoversNode (m : Memory) (found : Option Difference) (part : ℕ) : Type 0 where
  pub plain : CoversPlain m found part
  pub given : CoversTables m found part Shadow1

-- the second shadows of those nodes below a place that name this parent are
abbrev pub CoversChildren : Memory → Auditor → Option Difference → ℕ → ℕ → Type 0
CoversChildren m a found parent end = (k : ℕ) → 1 ≤ k → k < end → up_at m a.names.items k ≡ parent
    → CoversTables m found (slice_index a.names.items k) Shadow2
