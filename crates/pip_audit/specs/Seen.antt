-- What an auditor remembers of frames that it has read.
use Rattle.std.specs.Prelude.{◌≡◌, ◌≢◌, ℕ, ◌+◌, ◌%◌, ◌<◌, None, true}
use Rattle.pip_base.specs.Memory.{Memory, word_at}
use Rattle.pip_base.specs.Words.{as_descriptor}
use Rattle.pip_model.specs.ReadOff.{leaf_stop}
use Rattle.pip_audit.specs.declared.auditor.Auditor.{Auditor}
use Rattle.pip_audit.specs.FrameWords.{word_held}
use Rattle.pip_audit.specs.FrameSets.{contains}

-- no word of an MMU table that was read stops the reading
abbrev pub AreTables : Memory → Auditor → Type 0
AreTables m a = (f i : ℕ) → contains a.sets.read f ≡ true → i < 1024 → leaf_stop m f i ≡ None

-- a first shadow tells of no descriptor in a row of an MMU table
abbrev pub IsQuiet : Memory → ℕ → ℕ → Type 0
IsQuiet m table shadow = (i : ℕ) → i < 1024 → word_at m table i ≢ 0 → word_at m shadow i % 4096 ≢ as_descriptor

-- the word of each MMU table is 0, or names a first shadow that tells of none there
abbrev pub AreQuiet : Memory → Auditor → Type 0
AreQuiet m a = (table shadow : ℕ) → word_held a.words.quiet table ≡ shadow + 1 → IsQuiet m table shadow
