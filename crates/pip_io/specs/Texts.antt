-- The text of a step.
use Rattle.std.specs.Prelude.{ℕ, List, take}
use Rattle.pip_io.specs.declared.text.Text.{Text}

-- its bytes
abbrev pub text_bytes : Text → List ℕ
text_bytes t = take t.len t.bytes
