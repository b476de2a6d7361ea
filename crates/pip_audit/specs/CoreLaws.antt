-- Laws of the text of a raw memory.
use Rattle.std.specs.Prelude.{◌≡◌, ◌≢◌, ◌⊎◌, ℕ, ◌+◌, ◌*◌, ◌^◌, ◌≤◌, ◌<◌, List, ◌∷◌, ◌++◌, codes, decimal, flat_map}
use Rattle.std.specs.Prelude.{length, map, Some}
use Rattle.std.specs.List.{AllByRecursion}
use Rattle.pip_script.specs.Lines.{HasNoNewline}
use Rattle.pip_base.specs.Memory.{IsMemory, Memory, word_at}
use Rattle.pip_model.specs.Dump.{frames_text, index_text, numbers_from, words_text}
use Rattle.pip_model.specs.Layout.{LaysOut}
use Rattle.pip_model.specs.Run.{end_line}
use Rattle.pip_model.specs.Text.{line_text, word_digits}
use Rattle.pip_model.specs.Tree.{Tree}
use Rattle.pip_audit.specs.declared.core_text.line.CoreLine.{CoreLine}
use Rattle.pip_audit.specs.declared.core_text.line.CoreLine.TheVariants as L
use Rattle.pip_audit.specs.CoreTexts.{IsLine, line_of}
use Rattle.pip_audit.specs.Core.{BadAt, Whole, core_text}
use Rattle.pip_audit.specs.Lines.{core_line}

-- the lines that `core` writes, their newlines left off, say what they are written for
pub record SaysLines : Type 0 where
  pub frame : (f : ℕ) → f < 2 ^ 32 → core_line (codes "frame " ++ decimal f) ≡ Some (L.Frame f)
  pub group : (word : ℕ → ℕ) (k : ℕ) → k < 128 → ((i : ℕ) → i < 1024 → word i < 2 ^ 32)
      → core_line (index_text (8 * k) ++ codes ":" ++ flat_map (λ i. codes " " ++ word_digits (word i))
      (numbers_from (8 * k) 8)) ≡ Some (L.Group (8 * k) (map word (numbers_from (8 * k) 8)))
  pub last : (t : ℕ) → t < 2 ^ 32 → core_line (codes "end " ++ decimal t) ≡ Some (L.End t)

-- a line that says something is what is written for it, byte by byte
pub record IsWritten (line : List ℕ) (l : CoreLine) : Type 0 where
  pub is : line ≡ line_of l
  pub proper : IsLine l

-- each line of the grammar is written in one way
abbrev pub AreWritten : Type 0
AreWritten = (line : List ℕ) (l : CoreLine) → core_line line ≡ Some l → IsWritten line l

-- the words of a memory are below 2^32
abbrev pub IsOfWords : Memory → Type 0
IsOfWords m = (f i : ℕ) → f < length m → i < 1024 → word_at m f i < 2 ^ 32

-- the text of a memory's frames, and a last line that `core` may write, are read as this memory; so are those of a tree
-- of which the memory is the layout
pub record ReadsBack : Type 0 where
  pub memory : (m : Memory) (count : ℕ) → IsMemory m → IsOfWords m → length m ≤ 4096 → count ≤ 10000000
      → core_text (length m) (flat_map (λ f. words_text f (word_at m f)) (numbers_from 0 (length m)) ++ end_line count)
      ≡ Whole m
  pub tree : (t : Tree) (m : Memory) (count : ℕ) → LaysOut t m → IsOfWords m → t.frames ≤ 4096 → count ≤ 10000000
      → core_text t.frames (frames_text t ++ end_line count) ≡ Whole m

-- what is read as a memory is the text that `core` writes of it, byte by byte, with a last line
pub record IsTextOf (n : ℕ) (bytes : List ℕ) (m : Memory) : Type 0 where
  pub shape : IsMemory m
  pub count : length m ≡ n
  pub small : IsOfWords m
  pub last : ℕ
  pub few : last ≤ 10000000
  pub is : bytes ≡ flat_map (λ f. words_text f (word_at m f)) (numbers_from 0 n) ++ end_line last

-- each text that is accepted is one that `core` writes of its memory
abbrev pub AreTexts : Type 0
AreTexts = (n : ℕ) (bytes : List ℕ) (m : Memory) → core_text n bytes ≡ Whole m → IsTextOf n bytes m

-- what stands at the head of some bytes: a line that a newline ends, or all of them, and no newline
pub record BeginsWith (line back : List ℕ) : Type 0 where
  pub plain : HasNoNewline line
  pub is : (back ≡ line) ⊎ ((more : List ℕ) × (back ≡ line ++ 10 ∷ more))

-- line k is the first bad one: some text that is read begins with the lines before it, and none with these and it.
-- Where no newline ends it, nothing more is said of it: the bytes end too early
pub record IsFirstBad (n : ℕ) (bytes : List ℕ) (k : ℕ) : Type 0 where
  pub lines : List (List ℕ)
  pub back : List ℕ
  pub is : bytes ≡ flat_map line_text lines ++ back
  pub number : length lines + 1 ≡ k
  pub plain : AllByRecursion HasNoNewline lines
  pub good : (rest : List ℕ) × (m : Memory) × (core_text n (flat_map line_text lines ++ rest) ≡ Whole m)
  pub line : List ℕ
  pub begins : BeginsWith line back
  pub bad : (back ≡ line)
      ⊎ ((rest : List ℕ) (m : Memory) → core_text n ((flat_map line_text lines ++ line_text line) ++ rest) ≢ Whole m)

-- a line that is called bad is the first bad one
abbrev pub AreFirstBad : Type 0
AreFirstBad = (n : ℕ) (bytes : List ℕ) (k : ℕ) → core_text n bytes ≡ BadAt k → IsFirstBad n bytes k
