-- Keys of two numbers, each of which stands there as often as its width says.
use Rattle.std.specs.Prelude.{◌≡◌, ℕ, ◌+◌, ◌==◌, nat_lt, if◌then◌else◌, List, [], ◌++◌, replicate, slice_index}
use Rattle.pip_search.specs.Systems.{Model}

-- one more, and 0 after the last
abbrev pub next_number : ℕ → ℕ → ℕ
next_number last k = if nat_lt k last then k + 1 else 0

-- a key of two numbers
abbrev pub key_of_two : ℕ → ℕ → ℕ → ℕ → List ℕ
key_of_two first second a b = replicate first a ++ replicate second b

-- choice 0 counts the first number up, and any other choice the second one
abbrev pub row_after : ℕ → ℕ → ℕ → List ℕ → ℕ → List ℕ
row_after last first second row c =
    let a = slice_index row 0 in
    let b = slice_index row first in
    if c == 0 then key_of_two first second (next_number last a) b else key_of_two first second a (next_number last b)

-- the rows as a system of states: a row is its own key
abbrev pub rows : ℕ × (ℕ × ℕ) → Model
rows x = record {
  State = List ℕ;
  choices = 2;
  act = row_after x.0 x.1.0 x.1.1;
  label = λ row c. [];
  stands = λ key row. key ≡ row;
}
