-- What a search for a newline answers.
use Rattle.std.specs.Prelude.{ℕ, List, Option}
use Rattle.memchr.specs.Find.{IsFirstByte, is_byte}

-- the place of the first newline of these bytes, or none where there is none
abbrev pub IsFirstNewline : List ℕ → Option ℕ → Type 0
IsFirstNewline bytes place = IsFirstByte (is_byte 10) bytes place
