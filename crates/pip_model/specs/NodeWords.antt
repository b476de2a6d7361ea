-- One node's frames: what each page of its configuration is, and the words in it. They follow from the node, from
-- what its tables hold and by nothing else.
use Rattle.std.specs.Prelude.{ℕ, ◌+◌, ◌-◌, ◌*◌, ◌/◌, ◌%◌, ◌^◌, Bool, if◌then◌else◌, ◌==◌, nat_lt, List, [], ◌∷◌, ◌++◌}
use Rattle.std.specs.Prelude.{flat_map, find, length, Option, Some, None, option_map, slice_index, slice_index_or}
use Rattle.std.specs.Prelude.{sum_by}
use Rattle.pip_base.specs.declared.types.Pair.{Pair}
use Rattle.pip_base.specs.Words.{directory_word}
use Rattle.pip_model.specs.Tree.{Table, Node, table_at}
use Rattle.pip_model.specs.Boot.{own}
use Rattle.pip_model.specs.declared.level.Level.{Level}
use Rattle.pip_model.specs.declared.level.Level.TheVariants.{Mmu, Shadow1, Shadow2}

-- what a page of a node's configuration is: its descriptor, a directory, the table of a directory
-- index, or list page k
pub data Role : Type 0 where
  DescriptorPage : Role
  DirectoryPage : (level : Level) → Role
  TablePage : (level : Level) → (index : ℕ) → Role
  ListPage : (k : ℕ) → Role

-- a page of a node's configuration, and what the node uses it for
pub record RolePage : Type 0 where
  pub frame : ℕ
  pub role : Role

-- the page of a table at a level
abbrev pub table_page : Level → Table → Pair
table_page Mmu b = b.mmu
table_page Shadow1 b = b.shadow1
table_page Shadow2 b = b.shadow2

-- the three pages of a table, and what each is
abbrev pub table_roles : Table → List RolePage
table_roles b =
    record { frame = b.mmu.frame; role = TablePage Mmu b.index }
    ∷ record { frame = b.shadow1.frame; role = TablePage Shadow1 b.index }
    ∷ record { frame = b.shadow2.frame; role = TablePage Shadow2 b.index }
    ∷ []

-- list pages, from number k on, and what each is
abbrev pub list_roles : ℕ → List Pair → List RolePage
list_roles k [] = []
list_roles k (g ∷ gs) = record { frame = g.frame; role = ListPage k } ∷ list_roles (k + 1) gs

-- the pages of a node's configuration, in its order, and what each is
abbrev pub roles : Node → List RolePage
roles x =
    record { frame = x.base.descriptor.frame; role = DescriptorPage }
    ∷ record { frame = x.base.mmu.frame; role = DirectoryPage Mmu }
    ∷ record { frame = x.base.shadow1.frame; role = DirectoryPage Shadow1 }
    ∷ record { frame = x.base.shadow2.frame; role = DirectoryPage Shadow2 }
    ∷ record { frame = x.base.list.frame; role = ListPage 0 }
    ∷ (flat_map table_roles x.tables ++ list_roles 1 x.more)

-- what frame f is among these pages
abbrev pub role_among : ℕ → List RolePage → Option Role
role_among f qs = option_map (λ q. q.role) (find (λ q. q.frame == f) qs)

-- what frame f is in node x, if it is configuration of x
unfoldable pub role : Node → ℕ → Option Role
role x f = role_among f (roles x)

-- a number that counts only where a condition holds
abbrev pub flag : Bool → ℕ → ℕ
flag b n = if b then n else 0

-- the ten words of a base: the address and the frame of each of its five pairs
abbrev pub base_words : Node → List ℕ
base_words x =
    x.base.descriptor.va ∷ x.base.descriptor.frame
    ∷ x.base.mmu.va ∷ x.base.mmu.frame
    ∷ x.base.shadow1.va ∷ x.base.shadow1.frame
    ∷ x.base.shadow2.va ∷ x.base.shadow2.frame
    ∷ x.base.list.va ∷ x.base.list.frame
    ∷ []

-- words 0 to 9 are the base, word 11 is the parent and word 12 counts the tables; the mask is bit 0 of word 14, and
-- word 15 has a bit for each pending line
abbrev pub descriptor_word : Node → ℕ → ℕ
descriptor_word x i =
    if nat_lt i 10 then slice_index (base_words x) i
    else if i == 11 then x.up
    else if i == 12 then length x.tables
    else if i == 14 then flag x.masked 1
    else if i == 15 then sum_by (λ j. 2 ^ j) x.pending
    else 0

-- a directory's word, by the table of its index
abbrev pub directory_entry : Level → Option Table → ℕ
directory_entry level None = 0
directory_entry level (Some b) = directory_word (table_page level b).frame

-- the six words of a slot, which stand for a table; a slot of zeros where there is none
abbrev pub slot_words : Table → List ℕ
slot_words b = b.mmu.va ∷ b.mmu.frame ∷ b.shadow1.va ∷ b.shadow1.frame ∷ b.shadow2.va ∷ b.shadow2.frame ∷ []

-- a table of zeros, which stands for an empty slot
abbrev pub no_table : Table
no_table = record { index = 0; mmu = own 0; shadow1 = own 0; shadow2 = own 0 }

-- slot j of the configuration list, by the tables in their order
unfoldable pub slots : List Table → ℕ → Table
slots bs j = slice_index_or bs j no_table

-- the page after list page k; a pair of zeros after the last
abbrev pub next_list_page : List Pair → ℕ → Pair
next_list_page more k = slice_index_or more k (own 0)

-- word i of list page k, where slot j of the list is s j: the next page, and 170 slots
unfoldable pub page_word : List Pair → (ℕ → Table) → ℕ → ℕ → ℕ
page_word more s k i =
    if i == 0 then (next_list_page more k).frame
    else if i == 1 then (next_list_page more k).va
    else if nat_lt i 1022 then slice_index (slot_words (s (170 * k + (i - 2) / 6))) ((i - 2) % 6)
    else 0

-- word i of list page k of node x
abbrev pub list_word : Node → ℕ → ℕ → ℕ
list_word x k i = page_word x.more (slots x.tables) k i

-- word i of a page of x by its role, where word v of the tables of a level is cells level v
unfoldable pub role_word : Node → (Level → ℕ → ℕ) → Role → ℕ → ℕ
role_word x cells DescriptorPage i = descriptor_word x i
role_word x cells (DirectoryPage level) i = directory_entry level (table_at x.tables i)
role_word x cells (TablePage level d) i = cells level (1024 * d + i)
role_word x cells (ListPage k) i = list_word x k i
