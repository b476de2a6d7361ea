-- Lists of tables in list pages. A list begins in a frame, goes on in further pages, and notes each table in a slot.
use Rattle.std.specs.Prelude.{◌≡◌, ◌≢◌, ℕ, ◌<◌, ◌≤◌, ◌+◌, ◌^◌, ◌==◌, if◌then◌else◌, List, [], ◌∷◌, All, length}
use Rattle.std.specs.Prelude.{slice_index_or, position, Some}
use Rattle.pip_base.specs.declared.types.Pair.{Pair}
use Rattle.pip_base.specs.Memory.{IsMemory, Memory, word_at}
use Rattle.pip_model.specs.Boot.{own}
use Rattle.pip_model.specs.Tree.{Table, lists}
use Rattle.pip_model.specs.NodeWords.{page_word, slots}

-- the words of pairs, one pair after another
abbrev pub pair_words : List Pair → List ℕ
pair_words [] = []
pair_words (p ∷ ps) = p.va ∷ p.frame ∷ pair_words ps

-- the frame of list page k, where the list begins in a frame and goes on in more
abbrev pub list_frame : ℕ → List Pair → ℕ → ℕ
list_frame first more k = (slice_index_or (own first ∷ more) k (own 0)).frame

-- different frames of the memory hold list pages in which slot j is for the table slot j
pub record PagesIn (m : Memory) (first : ℕ) (more : List Pair) (slot : ℕ → Table) : Type 0 where
  pub shape : IsMemory m
  pub inside : (k : ℕ) → k ≤ length more → list_frame first more k < length m
  pub apart : (j k : ℕ) → j ≤ length more → k ≤ length more → list_frame first more j ≡ list_frame first more k → j ≡ k
  pub each : (k i : ℕ) → k ≤ length more → i < 1024 → word_at m (list_frame first more k) i ≡ page_word more slot k i

-- the frames of a table have numbers below 2^20
pub record HasSmallFrames (t : Table) : Type 0 where
  pub mmu : t.mmu.frame < 2 ^ 20
  pub shadow1 : t.shadow1.frame < 2 ^ 20
  pub shadow2 : t.shadow2.frame < 2 ^ 20

-- the memory holds the list of the tables ts, and the pages have room for their slots
pub record ListIn (m : Memory) (first : ℕ) (more : List Pair) (ts : List Table) : Type 0 where
  pub pages : PagesIn m first more (slots ts)
  pub room : lists (length ts) ≤ length more + 1
  pub small : All HasSmallFrames ts

-- of two memories, the second differs from the first in pages of the list alone
pub record ListStays (first : ℕ) (more : List Pair) (m n : Memory) : Type 0 where
  pub count : length n ≡ length m
  pub words : (f i : ℕ) → ((k : ℕ) → k ≤ length more → f ≢ list_frame first more k) → word_at n f i ≡ word_at m f i

-- a further frame of the memory, with all words 0
pub record IsFresh (m : Memory) (first : ℕ) (more : List Pair) (f : ℕ) : Type 0 where
  pub inside : f < length m
  pub further : (k : ℕ) → k ≤ length more → f ≢ list_frame first more k
  pub zeros : (i : ℕ) → i < 1024 → word_at m f i ≡ 0

-- the memory holds a list of n slots
pub record HasList (m : Memory) (first n : ℕ) : Type 0 where
  pub more : List Pair
  pub tables : List Table
  pub is_in : ListIn m first more tables
  pub count : length tables ≡ n

-- and its pages have room for one more
pub record HasRoomInList (m : Memory) (first n : ℕ) : Type 0 where
  pub list : HasList m first n
  pub room : lists (n + 1) ≤ length list.more + 1

-- the memory holds a list of n pages
pub record HasPages (m : Memory) (first n : ℕ) : Type 0 where
  pub more : List Pair
  pub tables : List Table
  pub is_in : ListIn m first more tables
  pub count : length more + 1 ≡ n

-- the memory holds a list that has a page k
pub record HasPage (m : Memory) (first k : ℕ) : Type 0 where
  pub more : List Pair
  pub slot : ℕ → Table
  pub is_in : PagesIn m first more slot
  pub inside : k ≤ length more

-- the slots with table t in place p
abbrev pub put_slot : (ℕ → Table) → ℕ → Table → ℕ → Table
put_slot slot p t q = if q == p then t else slot q

-- the table with b's index and b's frame for the MMU is b alone, and find gives its place
pub record IsPlaceOfTable (ts : List Table) (b : Table) (k : ℕ) : Type 0 where
  pub is_first : position (λ (t : Table). t.mmu.frame == b.mmu.frame) ts ≡ Some k
  pub inside : k < length ts
  pub is_table : slots ts k ≡ b
  pub before : (j : ℕ) → j < k → (slots ts j).index ≢ b.index
