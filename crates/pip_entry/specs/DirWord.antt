-- Words of directories.
use Rattle.std.specs.Prelude.{ℕ, ◌<◌, ◌^◌}
use Rattle.pip_base.specs.Words.{directory_word}
use Rattle.pip_entry.specs.declared.dir_word.DirWord.{DirWord}
use Rattle.pip_entry.specs.declared.dir_word.DirWord.TheVariants.{Empty, Table}

-- the word that stands for it
abbrev pub packed_dir : DirWord → ℕ
packed_dir Empty = 0
packed_dir (Table frame) = directory_word frame

-- a table's frame is one
abbrev pub IsDirWord : DirWord → Type 0
IsDirWord Empty = Unit {0}
IsDirWord (Table frame) = frame < 2 ^ 20
