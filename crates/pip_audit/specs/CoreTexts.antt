-- What `core` writes for a line, its newline left off.
use Rattle.std.specs.Prelude.{◌≡◌, ℕ, ◌^◌, ◌<◌, List, ◌++◌, codes, decimal, flat_map, length}
use Rattle.std.specs.List.{AllByRecursion}
use Rattle.pip_model.specs.Dump.{index_text}
use Rattle.pip_model.specs.Text.{word_digits}
use Rattle.pip_audit.specs.declared.core_text.line.CoreLine.{CoreLine}
use Rattle.pip_audit.specs.declared.core_text.line.CoreLine.TheVariants as L

-- words, each after a space
abbrev pub core_words : List ℕ → List ℕ
core_words ws = flat_map (λ w. codes " " ++ word_digits w) ws

-- the text of a line
abbrev pub line_of : CoreLine → List ℕ
line_of (L.Frame f) = codes "frame " ++ decimal f
line_of (L.Group i ws) = index_text i ++ codes ":" ++ core_words ws
line_of (L.End t) = codes "end " ++ decimal t

-- the numbers are below 2^32, an index has four digits, and there are eight words
abbrev pub IsLine : CoreLine → Type 0
IsLine (L.Frame f) = f < 2 ^ 32
IsLine (L.Group i ws) = (i < 10000) × (length ws ≡ 8) × AllByRecursion (λ w. w < 2 ^ 32) ws
IsLine (L.End t) = t < 2 ^ 32
