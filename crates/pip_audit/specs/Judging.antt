-- What an auditor says of the tree that it has read.
use Rattle.std.specs.Prelude.{◌≡◌, ◌≢◌, ℕ, ◌-◌, ◌<◌, ◌≤◌, ◌%◌, ◌⊎◌, ◌==◌, ◌&&◌, if◌then◌else◌, List, [], ◌∷◌}
use Rattle.std.specs.Prelude.{Bool, true, false, slice_index, slice_index_or}
use Rattle.std.specs.List.{list_all}
use Rattle.pip_base.specs.declared.types.Pair.{Pair}
use Rattle.pip_base.specs.Memory.{Memory, word_at}
use Rattle.pip_model.specs.Lists.{In, has, repeats}
use Rattle.pip_model.specs.Parts.{are_among, implies, is_page, part_parents_come_first, part_boot_root}
use Rattle.pip_model.specs.Parts.{part_pages_apart, part_lent, part_siblings_apart, part_rights, part_tables_of_rows}
use Rattle.pip_model.specs.Parts.{part_no_lines_but_the_root}
use Rattle.pip_model.specs.ReadOff.{node_read}
use Rattle.pip_model.specs.Tree.{Node, Row, Tree, held_pages, page_at, row_pages, vpage}
use Rattle.pip_audit.specs.declared.auditor.Auditor.{Auditor}
use Rattle.pip_audit.specs.Families.{up_at}
use Rattle.pip_audit.specs.FrameSets.{contains}
use Rattle.pip_audit.specs.FrameWords.{rights_held}
use Rattle.pip_audit.specs.Tables.{IsOf}

-- a test says whether a statement holds
abbrev pub Says : Bool → Type 0 → Type 0
Says true P = P
Says false P = P → ⊥

-- the parts of soundness that are tested, in turn
abbrev pub parts : List (Tree → Bool)
parts =
    part_parents_come_first ∷ part_boot_root ∷ part_pages_apart ∷ part_lent ∷ part_siblings_apart ∷ part_rights
    ∷ part_tables_of_rows ∷ part_no_lines_but_the_root ∷ []

-- whether a tree keeps to one of them, by its number from 1 on
abbrev pub keeps_to : ℕ → Tree → Bool
keeps_to part t = slice_index_or parts (part - 1) (λ u. true) t

-- it keeps to all parts before one
abbrev pub KeepsBefore : ℕ → Tree → Type 0
KeepsBefore part t = (k : ℕ) → 1 ≤ k → k < part → keeps_to k t ≡ true

-- a test of each place from one on and below another: all pass, or one fails
abbrev pub TellsEach : (ℕ → Bool → Type 0) → ℕ → ℕ → Bool → Type 0
TellsEach says from end true = (k : ℕ) → from ≤ k → k < end → says k true
TellsEach says from end false = (k : ℕ) × (from ≤ k) × (k < end) × says k false

-- a relation of a parent and its child, tested of the node at place x and the parent that it names
abbrev pub parent_test : (Node → Node → Bool) → Memory → List ℕ → ℕ → Bool
parent_test r m names x = r (node_read m (up_at m names x)) (node_read m (slice_index names x))

-- the same relation, tested of the node at place y and its children: all pass, or one fails
abbrev pub TellsChildren : (Node → Node → Bool) → Memory → List ℕ → ℕ → ℕ → Bool → Type 0
TellsChildren r m names count y true = (k : ℕ) → 1 ≤ k → k < count → up_at m names k ≡ slice_index names y
    → parent_test r m names k ≡ true
TellsChildren r m names count y false = (k : ℕ) × (1 ≤ k) × (k < count) × (parent_test r m names k ≡ false)

-- the nodes that were read stay
pub record KeepsNodes (old new : Auditor) : Type 0 where
  pub count : new.count ≡ old.count
  pub names : new.names.items ≡ old.names.items

-- whether a node was read later than the one that it names as its parent
abbrev pub IsReadLater : Memory → List ℕ → ℕ → Bool → Type 0
IsReadLater m names x true = (k : ℕ) × (k < x) × (slice_index names k ≡ word_at m (slice_index names x) 11)
IsReadLater m names x false = (k : ℕ) → k < x → slice_index names k ≢ word_at m (slice_index names x) 11

-- whether a page of configuration stands in a row of the parent, at the address that it names
abbrev pub is_placed : Node → Pair → Bool
is_placed y g = g.va % 4096 == 0 && is_page (page_at y (vpage g.va)) g.frame

-- what is held for each page are the rights that all of these rows give it
abbrev pub AreRights : (ℕ → ℕ) → List Row → Type 0
AreRights held rows = (r g : ℕ) → r < 8
    → are_among r (held g) ≡ list_all (λ (s : Row). implies (g == s.frame) (are_among r s.rights)) rows

-- a node is loaded, the set of the pages of its rows, and the rights that these give to each page
pub record Lends (m : Memory) (a : Auditor) : Type 0 where
  pub of : IsOf m a.node
  pub rows : (f : ℕ) → contains a.sets.lent f ≡ has (row_pages (node_read m a.node.part)) f
  pub rights : AreRights (rights_held a.words.rights) (node_read m a.node.part).rows

-- whether a row's rights are among those that are held for its page
abbrev pub is_given : (ℕ → ℕ) → Row → Bool
is_given held r = are_among r.rights (held r.frame)

-- what a node holds, where it is a child of this parent
abbrev pub held_by : Memory → ℕ → ℕ → List ℕ
held_by m parent f = if word_at m f 11 == parent then held_pages (node_read m f) else []

-- what the node at place k holds, where it is a child of the node at place y
abbrev pub held_at_place : Memory → List ℕ → ℕ → ℕ → List ℕ
held_at_place m names y k = held_by m (slice_index names y) (slice_index names k)

-- whether the children of the node at place y hold no common page, and none a page twice
abbrev pub TellsApart : Memory → List ℕ → ℕ → ℕ → Bool → Type 0
TellsApart m names count y true = (j k : ℕ) → 1 ≤ j → j < k → k < count → (g : ℕ) → In g (held_at_place m names y j)
    → In g (held_at_place m names y k) → ⊥
TellsApart m names count y false =
    (k : ℕ) × (1 ≤ k) × (k < count)
    × (((j : ℕ) × (g : ℕ) × (1 ≤ j) × (j < k) × In g (held_at_place m names y j) × In g (held_at_place m names y k))
    ⊎ (repeats (held_at_place m names y k) ≡ true))
