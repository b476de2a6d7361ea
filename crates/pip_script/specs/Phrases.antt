-- What the words of a line say, however many processors there are.
use Rattle.std.specs.Prelude.{◌≡◌, ℕ, ◌≤◌, List, None, length}
use Rattle.pip_model.specs.Grammar.{form, line_meaning, phrase, phrase_or_blank, words_of}

-- a line that isn't blank says what its words say, if it isn't too long
abbrev pub HasWords : List ℕ → Type 0
HasWords line = (cpus : ℕ) → length line ≤ 120 → phrase_or_blank cpus line ≡ phrase cpus (words_of line)

-- this first word and these numbers say what the line says
abbrev pub HasForm : List ℕ → List ℕ → List ℕ → Type 0
HasForm line name numbers = (cpus : ℕ) → form cpus name numbers ≡ line_meaning cpus line

-- the line isn't in the grammar
abbrev pub HasNoForm : List ℕ → Type 0
HasNoForm line = (cpus : ℕ) → None ≡ line_meaning cpus line
