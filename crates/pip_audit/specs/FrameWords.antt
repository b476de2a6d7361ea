-- Words that are held for frames.
use Rattle.std.specs.Prelude.{◌≡◌, ℕ, length, slice_index_or}
use Rattle.pip_audit.specs.declared.frame_words.FrameWords.{FrameWords}
use Rattle.pip_audit.specs.declared.frame_words.Words.{Words}

-- the word that is held for a frame
abbrev pub word_held : FrameWords → ℕ → ℕ
word_held s f = slice_index_or s.words.items f 0

-- the rights that are held for a page
abbrev pub rights_held : FrameWords → ℕ → ℕ
rights_held s f = slice_index_or s.words.items f 7

-- a word for each frame of a memory of n frames
abbrev pub HasWordEach : ℕ → FrameWords → Type 0
HasWordEach n s = length s.words.items ≡ n

-- the words that an audit of such a memory needs
pub record AreFrameWords (n : ℕ) (s : Words) : Type 0 where
  pub quiet : HasWordEach n s.quiet
  pub rights : HasWordEach n s.rights
  pub given : HasWordEach n s.given
  pub above : HasWordEach n s.above
