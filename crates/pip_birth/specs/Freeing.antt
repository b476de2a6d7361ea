-- Words of a table of the first shadow that become free: those that name a child, of pages that are open.
use Rattle.std.specs.Prelude.{◌≡◌, ◌⊎◌, ℕ, ◌/◌, ◌%◌, ◌<◌, ◌≤◌, List, length, slice_index, slice_set, Option, Some, None}
use Rattle.pip_base.specs.Memory.{Memory, frame_at}

-- the word of a first shadow names the child that was born at this vpage
abbrev pub NamesBirthplace : ℕ → ℕ → Type 0
NamesBirthplace born w = w / 4096 ≡ born

-- the page of an MMU table's word is open to the user
abbrev pub IsOpenLeaf : ℕ → Type 0
IsOpenLeaf w = w / 2 % 2 ≡ 1

-- the page of an MMU table's word is hidden from the user
abbrev pub IsHiddenLeaf : ℕ → Type 0
IsHiddenLeaf w = w / 2 % 2 ≡ 0

-- from index k on and below another, the words that named the child are 0 now, and their pages are open; all others are
-- what they were
pub record AreFreed (leaves : List ℕ) (born k : ℕ) (old : List ℕ) (end : ℕ) (new : List ℕ) : Type 0 where
  pub order : k ≤ end
  pub below : end ≤ 1024
  pub count : length new ≡ length old
  pub freed : (j : ℕ) → k ≤ j → j < end → NamesBirthplace born (slice_index old j)
      → (slice_index new j ≡ 0) × IsOpenLeaf (slice_index leaves j)
  pub kept : (j : ℕ) → k ≤ j → j < end → (NamesBirthplace born (slice_index old j) → ⊥)
      → slice_index new j ≡ slice_index old j
  pub outside : (j : ℕ) → (j < k) ⊎ (end ≤ j) → slice_index new j ≡ slice_index old j

-- at this index is a word that names the child, and its page is hidden
pub record IsTaken (leaves ws : List ℕ) (born j : ℕ) : Type 0 where
  pub below : j < 1024
  pub named : NamesBirthplace born (slice_index ws j)
  pub hidden : IsHiddenLeaf (slice_index leaves j)

-- freed up to the first page that is hidden, or up to the end where there is none
abbrev pub AreFreedTo : List ℕ → ℕ → ℕ → List ℕ → Option ℕ → List ℕ → Type 0
AreFreedTo leaves born k old None new = AreFreed leaves born k old 1024 new
AreFreedTo leaves born k old (Some j) new = IsTaken leaves new born j × AreFreed leaves born k old j new

-- a frame of a memory, which is a first shadow, is freed by another, which is the MMU table beside it
pub record AreFreedIn (m : Memory) (leaves shadow born k : ℕ) (to : Option ℕ) (n : Memory) : Type 0 where
  pub words : List ℕ
  pub freed : AreFreedTo (frame_at m leaves) born k (frame_at m shadow) to words
  pub written : n ≡ slice_set m shadow words
