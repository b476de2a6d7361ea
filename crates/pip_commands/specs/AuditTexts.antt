-- What `audit` writes of what is found in a raw memory.
use Rattle.std.specs.Prelude.{ℕ, List, ◌++◌, Option, Some, None, codes, decimal}
use Rattle.pip_model.specs.Audit.{Differs, Finding, Lays, Unread, Unsound}
use Rattle.pip_model.specs.Text.{line_text, word_text}

-- a frame and an index
abbrev pub place_text : ℕ → ℕ → List ℕ
place_text frame index = decimal frame ++ codes " " ++ decimal index

-- the line that names the place of a word that can't be read
abbrev pub unread_line : ℕ → ℕ → List ℕ
unread_line frame index = line_text (codes "no unread " ++ place_text frame index)

-- the line that names the part of soundness that fails
abbrev pub unsound_line : ℕ → List ℕ
unsound_line part = line_text (codes "no unsound " ++ decimal part)

-- with the word that is there, and the one that the tree wants
abbrev pub differs_line : ℕ → ℕ → ℕ → ℕ → List ℕ
differs_line frame index found want =
    line_text
    (codes "no differs " ++ place_text frame index ++ codes " " ++ word_text found ++ codes " " ++ word_text want)

-- the line that says why a memory lays out no sound tree; none where it lays out one
abbrev pub no_line : Finding → Option (List ℕ)
no_line (Lays tree) = None
no_line (Unread stop) = Some (unread_line stop.frame stop.index)
no_line (Unsound part) = Some (unsound_line part)
no_line (Differs d) = Some (differs_line d.frame d.index d.found d.want)

-- the line of a memory that is sound and the text of its own tree
abbrev pub yes_line : List ℕ
yes_line = line_text (codes "yes")

-- the line that names a bad line of the text
abbrev pub bad_line : ℕ → List ℕ
bad_line number = line_text (codes "bad line " ++ decimal number)
