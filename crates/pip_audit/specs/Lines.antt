-- The lines of the text of a raw memory.
use Rattle.std.specs.Prelude.{ℕ, zero, suc, ◌^◌, ◌==◌, ◌&&◌, nat_le, if◌then◌else◌, List, [], ◌∷◌, drop, take, length}
use Rattle.std.specs.Prelude.{slice_index, Option, Some, None, option_map, codes}
use Rattle.std.specs.Str.{all_ascii_digits, bytes_eq}
use Rattle.pip_audit.specs.declared.core_text.line.CoreLine.{CoreLine}
use Rattle.pip_audit.specs.declared.core_text.line.CoreLine.TheVariants as L
use Rattle.pip_model.specs.Grammar.{cons_number, decimal_from, hex_from, hex_value, number_of}

-- `0`, or decimal digits of which the first is not 0
abbrev pub decimal_of : List ℕ → Option ℕ
decimal_of ds = if all_ascii_digits ds then number_of ds else None

-- the value of a hexadecimal digit in lower case; of another byte more than any word
abbrev pub value_or_more : Option ℕ → ℕ
value_or_more (Some v) = v
value_or_more None = 2 ^ 32

-- the value of a hexadecimal digit; more than 15 for any other byte
abbrev pub digit_value : ℕ → ℕ
digit_value b = value_or_more (hex_value b)

-- a space and eight hexadecimal digits in lower case, at the head of a text
abbrev pub word_ahead : List ℕ → Option ℕ
word_ahead text = if nat_le 9 (length text) && slice_index text 0 == 32 then hex_from 0 (take 8 (drop 1 text)) else None

-- that many of them, and nothing after them
unfoldable pub words_ahead : ℕ → List ℕ → Option (List ℕ)
words_ahead zero [] = Some []
words_ahead zero (b ∷ bs) = None
words_ahead (suc k) text = cons_number (word_ahead text) (words_ahead k (drop 9 text))

-- a group, where both its number and its words could be read
abbrev pub group_of : Option ℕ → Option (List ℕ) → Option CoreLine
group_of (Some i) (Some ws) = Some (L.Group i ws)
group_of _ _ = None

-- four decimal digits, a colon and eight words
abbrev pub group_told : List ℕ → Option CoreLine
group_told line = if nat_le 5 (length line) && slice_index line 4 == 58
    then group_of (decimal_from 0 (take 4 line)) (words_ahead 8 (drop 5 line)) else None

-- a line of one of the three kinds, by how it begins
abbrev pub line_told : List ℕ → Option CoreLine
line_told line =
    if bytes_eq (take 6 line) (codes "frame ") then option_map L.Frame (decimal_of (drop 6 line))
    else if bytes_eq (take 4 line) (codes "end ") then option_map L.End (decimal_of (drop 4 line))
    else group_told line

-- what a line says, if it has at most 77 bytes and says anything
abbrev pub core_line : List ℕ → Option CoreLine
core_line line = if nat_le (length line) 77 then line_told line else None
