-- The forms of what the lines of parts say: of a label, and of what a part is of. A reader of a form takes it from the
-- head of a text, and gives what comes after it.
use Rattle.std.specs.Prelude.{ℕ, Bool, true, false, ◌==◌, ◌&&◌, ◌||◌, is_some, nat_le, if◌then◌else◌}
use Rattle.std.specs.Prelude.{List, [], ◌∷◌, length, take, drop, codes, Option, Some, None, option_and_then}
use Rattle.std.specs.Char.{is_ascii_digit}
use Rattle.std.specs.List.{list_all}
use Rattle.std.specs.Str.{bytes_eq}
use Rattle.pip_model.specs.Grammar.{hex_value}

-- ---- readers

-- a text is read to its end
abbrev pub is_end : Option (List ℕ) → Bool
is_end (Some []) = true
is_end _ = false

-- what was read leaves a text of which this holds
abbrev pub leaves : (List ℕ → Bool) → Option (List ℕ) → Bool
leaves test (Some rest) = test rest
leaves test None = false

-- these bytes
abbrev pub after_text : List ℕ → List ℕ → Option (List ℕ)
after_text start text = if bytes_eq (take (length start) text) start then Some (drop (length start) text) else None

-- all decimal digits that there are
abbrev pub after_digits : List ℕ → List ℕ
after_digits [] = []
after_digits (d ∷ ds) = if is_ascii_digit d then after_digits ds else d ∷ ds

-- a number: `0`, or decimal digits of which the first isn't 0
abbrev pub after_number : List ℕ → Option (List ℕ)
after_number [] = None
after_number (d ∷ ds) =
    if d == 48 then Some ds else if is_ascii_digit d then Some (after_digits ds) else None

-- a number after a space
abbrev pub after_spaced : List ℕ → Option (List ℕ)
after_spaced text = option_and_then after_number (after_text (codes " ") text)

-- two of them
abbrev pub after_two : List ℕ → Option (List ℕ)
after_two text = option_and_then after_spaced (after_spaced text)

-- a hexadecimal digit in lower case
abbrev pub is_hex : ℕ → Bool
is_hex d = is_some (hex_value d)

-- n such digits
abbrev pub after_hex : ℕ → List ℕ → Option (List ℕ)
after_hex n text = if nat_le n (length text) && list_all is_hex (take n text) then Some (drop n text) else None

-- a word after a space: `0x` and eight hexadecimal digits
abbrev pub after_hex_word : List ℕ → Option (List ℕ)
after_hex_word text = option_and_then (after_hex 8) (after_text (codes " 0x") text)

-- ---- labels: ` CPU TEXT`, a line of a trace without its step

-- a space and the number of a processor, of which there are at most four
abbrev pub after_cpu : List ℕ → Option (List ℕ)
after_cpu (s ∷ d ∷ rest) = if s == 32 && (nat_le 48 d && nat_le d 51) then Some rest else None
after_cpu _ = None

-- ` switch FROM TO VECTOR`
abbrev pub after_switch : List ℕ → Option (List ℕ)
after_switch text =
    option_and_then after_two (option_and_then after_spaced (after_text (codes " switch") text))

-- ` park FROM VECTOR`
abbrev pub after_park : List ℕ → Option (List ℕ)
after_park text = option_and_then after_two (after_text (codes " park") text)

-- ` out W`
abbrev pub after_out : List ℕ → Option (List ℕ)
after_out text = option_and_then after_hex_word (after_text (codes " out") text)

-- ` reply STATUS V`
abbrev pub after_reply : List ℕ → Option (List ℕ)
after_reply text = option_and_then after_hex_word (option_and_then after_spaced (after_text (codes " reply") text))

-- ` call NUMBER`
abbrev pub after_call : List ℕ → Option (List ℕ)
after_call text = option_and_then after_spaced (after_text (codes " call") text)

-- how a call is answered
abbrev pub is_answer : List ℕ → Bool
is_answer text = is_end (after_reply text) || is_end (after_switch text)

-- what comes after the processor in a line of a trace
abbrev pub is_turn : List ℕ → Bool
is_turn text = is_end (after_switch text) || (is_end (after_park text) || (is_end (after_out text)
    || leaves is_answer (after_call text)))

-- a label
abbrev pub is_label : List ℕ → Bool
is_label text = leaves is_turn (after_cpu text)

-- ---- what a part is of: `FRAMES CPUS PLANS PAGES FROM SUM`

-- a space and sixteen hexadecimal digits
abbrev pub after_sum : List ℕ → Option (List ℕ)
after_sum text = option_and_then (after_hex 16) (after_text (codes " ") text)

-- five numbers, and the sum
abbrev pub after_about : List ℕ → Option (List ℕ)
after_about text =
    option_and_then after_sum (option_and_then after_two (option_and_then after_two (after_number text)))

-- what a part is of
abbrev pub is_about : List ℕ → Bool
is_about text = is_end (after_about text)
