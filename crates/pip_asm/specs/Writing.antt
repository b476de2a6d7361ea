-- The text of parts.
use Rattle.std.specs.Prelude.{ℕ, List}
use Rattle.pip_model.specs.DisText.{parts_lines, text_of_lines}
use Rattle.pip_model.specs.Images.{Part}

-- the lines of each, one after the other
abbrev pub parts_text : List Part → List ℕ
parts_text parts = text_of_lines (parts_lines parts)
