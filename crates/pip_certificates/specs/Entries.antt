-- The lines of the text of a part of a certificate, their newlines left off.
use Rattle.std.specs.Prelude.{ℕ, ◌-◌, ◌/◌, ◌%◌, Bool, ◌==◌, ◌&&◌, nat_le, nat_lt, if◌then◌else◌, List, [], ◌∷◌, ◌++◌}
use Rattle.std.specs.Prelude.{length}
use Rattle.std.specs.Prelude.{drop, take, flat_map, codes, Option, Some, None, option_map}
use Rattle.std.specs.List.{list_all}
use Rattle.std.specs.Str.{bytes_eq}
use Rattle.pip_audit.specs.CoreTexts.{core_words}
use Rattle.pip_audit.specs.Lines.{words_ahead}
use Rattle.pip_model.specs.Text.{hex_digit}
use Rattle.pip_search.specs.Packing.{packed_key}
use Rattle.pip_certificates.specs.Forms.{is_about, is_hex, is_label}
use Rattle.pip_certificates.specs.declared.parts.lines.PartNumbers.{PartNumbers}

-- what a line says
pub data Entry : Type 0 where
  -- a key of the part, by its digits, and its depth
  Own : List ℕ → ℕ → Entry
  -- a key that the part asks, and how deep it may be
  Asks : List ℕ → ℕ → Entry
  -- what a choice shows
  Shows : List ℕ → Entry
  -- the part: what it is of, and its numbers
  Tells : List ℕ → PartNumbers → Entry

-- the numbers of a part, in their order
abbrev pub number_list : PartNumbers → List ℕ
number_list n = n.way ∷ n.keys ∷ n.asked ∷ n.labels ∷ n.sum ∷ []

-- ---- texts

-- the two hexadecimal digits of a byte
abbrev pub byte_digits : ℕ → List ℕ
byte_digits b = hex_digit (b / 16 % 16) ∷ hex_digit (b % 16) ∷ []

-- a key: the digits of its bytes
abbrev pub key_digits : List ℕ → List ℕ
key_digits key = flat_map byte_digits (packed_key key)

-- the line that says this
abbrev pub entry_line : Entry → List ℕ
entry_line (Own key depth) = key ++ codes " +" ++ core_words (depth ∷ [])
entry_line (Asks key depth) = key ++ codes " ?" ++ core_words (depth ∷ [])
entry_line (Shows text) = codes "line" ++ text
entry_line (Tells about numbers) = codes "part " ++ about ++ core_words (number_list numbers)

-- ---- what a line says

-- a line's bytes but the last n
abbrev pub but_last : ℕ → List ℕ → List ℕ
but_last n line = take (length line - n) line

-- and its last n bytes
abbrev pub last_bytes : ℕ → List ℕ → List ℕ
last_bytes n line = drop (length line - n) line

-- hexadecimal digits in lower case, two for each byte
abbrev pub are_digits : List ℕ → Bool
are_digits text = list_all is_hex text && length text % 2 == 0

-- the number, if there is one alone
abbrev pub one_of : Option (List ℕ) → Option ℕ
one_of (Some (n ∷ [])) = Some n
one_of _ = None

-- the three numbers, if there are three
abbrev pub three_of : Option (List ℕ) → Option (ℕ × ℕ × ℕ)
three_of (Some (a ∷ b ∷ c ∷ [])) = Some (a, b, c)
three_of _ = None

-- the numbers of a part, if there are five
abbrev pub part_numbers_of : Option (List ℕ) → Option PartNumbers
part_numbers_of (Some (a ∷ b ∷ c ∷ d ∷ e ∷ [])) = Some (record { way = a; keys = b; asked = c; labels = d; sum = e })
part_numbers_of _ = None

-- a key before its kind and its depth
abbrev pub key_said : List ℕ → List ℕ → Option Entry
key_said key rest =
    if bytes_eq (take 2 rest) (codes " +") then option_map (Own key) (one_of (words_ahead 1 (drop 2 rest)))
    else if bytes_eq (take 2 rest) (codes " ?") then option_map (Asks key) (one_of (words_ahead 1 (drop 2 rest)))
    else None

-- a key of digits, and what comes after it
abbrev pub line_of_key : List ℕ → Option Entry
line_of_key line =
    if nat_le 11 (length line) && are_digits (but_last 11 line)
    then key_said (but_last 11 line) (last_bytes 11 line) else None

-- what a part is of, and its numbers
abbrev pub line_of_part : List ℕ → Option Entry
line_of_part text =
    if nat_le 45 (length text)
    then option_map (Tells (but_last 45 text)) (part_numbers_of (words_ahead 5 (last_bytes 45 text)))
    else None

-- what a line says by how it begins
abbrev pub begun_entry : List ℕ → Option Entry
begun_entry line =
    if bytes_eq (take 4 line) (codes "line") then Some (Shows (drop 4 line))
    else if bytes_eq (take 5 line) (codes "part ") then line_of_part (drop 5 line)
    else line_of_key line

-- what is said has its form: a key has a byte, a label is one of a trace, and a part says what it is of
abbrev pub has_form : Entry → Bool
has_form (Own key depth) = nat_lt 0 (length key)
has_form (Asks key depth) = nat_lt 0 (length key)
has_form (Shows text) = is_label text
has_form (Tells about numbers) = is_about about

-- what has its form
abbrev pub formed : Option Entry → Option Entry
formed None = None
formed (Some e) = if has_form e then Some e else None

-- what a line says, if it says anything
abbrev pub entry_of : List ℕ → Option Entry
entry_of line = formed (begun_entry line)
