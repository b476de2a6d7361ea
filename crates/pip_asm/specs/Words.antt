-- The words of a line after its first.
use Rattle.std.specs.Prelude.{ℕ, List, [], Option, Some, None}
use Rattle.pip_model.specs.Grammar.{words_of}
use denote.Ref.{Bor}

-- none where the line ends with the word
abbrev pub words_left : Option (Bor (List ℕ)) → List (List ℕ)
words_left None = []
words_left (Some text) = words_of text.now
