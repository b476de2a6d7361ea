-- A table of two levels is a map from vpages to words. Its directory is the frame top. Vpage v has directory index
-- v / 1024, and its word is word v % 1024 of the table of this index.
use Rattle.std.specs.Prelude.{◌≡◌, ◌≢◌, ℕ, zero, suc, ◌+◌, ◌<◌, ◌/◌, ◌%◌, ◌==◌, if◌then◌else◌, length, Option, Some}
use Rattle.std.specs.Prelude.{None, unwrap_or}
use Rattle.pip_base.specs.Memory.{IsMemory, Memory, word_at}
use Rattle.pip_base.specs.Words.{directory_word}
use Rattle.pip_entry.specs.declared.dir_word.DirWord.{DirWord}
use Rattle.pip_entry.specs.declared.dir_word.DirWord.TheVariants.{Empty, Table}

-- directory index i has a table
abbrev pub HasTable : Memory → ℕ → ℕ → Type 0
HasTable m top i = word_at m top i ≢ 0

-- the frame of the table of directory index i
abbrev pub table_frame : Memory → ℕ → ℕ → ℕ
table_frame m top i = word_at m top i / 4096

-- all words of the directory are such words, and no frame serves twice as directory or table
pub record IsDirectory (m : Memory) (top : ℕ) : Type 0 where
  pub shape : IsMemory m
  pub inside : top < length m
  pub packed : (i : ℕ) → i < 1024 → HasTable m top i → word_at m top i ≡ directory_word (table_frame m top i)
  pub below : (i : ℕ) → i < 1024 → HasTable m top i → table_frame m top i < length m
  pub beside : (i : ℕ) → i < 1024 → HasTable m top i → table_frame m top i ≢ top
  pub apart : (i j : ℕ) → i < 1024 → j < 1024 → HasTable m top i → HasTable m top j
      → table_frame m top i ≡ table_frame m top j → i ≡ j

-- the map: the word at a vpage, or none where its directory index has no table
abbrev pub leaf_at : Memory → ℕ → ℕ → Option ℕ
leaf_at m top v = if word_at m top (v / 1024) == 0 then None
    else Some (word_at m (table_frame m top (v / 1024)) (v % 1024))

-- the word at a vpage, 0 where its directory index has no table
abbrev pub leaf_or_0 : Memory → ℕ → ℕ → ℕ
leaf_or_0 m top v = unwrap_or (leaf_at m top v) 0

-- each word of the table of directory index i is 0
abbrev pub IsEmptyTable : Memory → ℕ → ℕ → Type 0
IsEmptyTable m top i = (j : ℕ) → j < 1024 → word_at m (table_frame m top i) j ≡ 0

-- how many directory indexes below n have a table
unfoldable pub tables_below : Memory → ℕ → ℕ → ℕ
tables_below m top zero = 0
tables_below m top (suc n) = tables_below m top n + (if word_at m top n == 0 then 0 else 1)

-- a frame of the memory that is neither the directory nor a table of it
pub record IsFurther (m : Memory) (top f : ℕ) : Type 0 where
  pub below : f < length m
  pub beside : f ≢ top
  pub apart : (j : ℕ) → j < 1024 → HasTable m top j → table_frame m top j ≢ f

-- an entry that the directory can be given: its table is a further frame
abbrev pub IsFitting : Memory → ℕ → DirWord → Type 0
IsFitting m top Empty = Unit {0}
IsFitting m top (Table f) = IsFurther m top f

-- word j of an entry's table
abbrev pub word_under : Memory → DirWord → ℕ → Option ℕ
word_under m Empty j = None
word_under m (Table f) j = Some (word_at m f j)
