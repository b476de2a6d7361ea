-- Images as assembly texts: what was accepted of the bytes, line by line.
use Rattle.std.specs.Prelude.{ℕ, ◌*◌, if◌then◌else◌, ◌==◌, List, [], ◌∷◌, ◌++◌, map, codes, decimal}
use Rattle.pip_model.specs.Images.{Part, Head, Line, Holds, image_parts}
use Rattle.pip_model.specs.InstrText.{word_said}
use Rattle.pip_model.specs.Text.{word_text, line_text}

-- words up to the last that isn't 0
abbrev pub trim_on : ℕ → List ℕ → List ℕ
trim_on w [] = if w == 0 then [] else w ∷ []
trim_on w (v ∷ vs) = w ∷ v ∷ vs

-- a list of words without the zeros at its end
abbrev pub without_last_zeros : List ℕ → List ℕ
without_last_zeros [] = []
without_last_zeros (w ∷ ws) = trim_on w (without_last_zeros ws)

-- the lines of a part: of a page its address, and one line a word up to the last that isn't 0
abbrev pub part_lines : Part → List (List ℕ)
part_lines (Head f) = (codes ".frames " ++ decimal f.frames) ∷ (codes ".cpus " ++ decimal f.cpus) ∷ []
part_lines (Line p) = (codes ".line " ++ (decimal p.line ++ 32 ∷ (decimal p.first ++ 32 ∷ decimal p.period))) ∷ []
part_lines (Holds p) = (codes ".page " ++ word_text (p.vpage * 4096)) ∷ map word_said (without_last_zeros p.words)

-- the lines of several parts, one after the other
abbrev pub parts_lines : List Part → List (List ℕ)
parts_lines [] = []
parts_lines (p ∷ ps) = part_lines p ++ parts_lines ps

-- the text of several lines
abbrev pub text_of_lines : List (List ℕ) → List ℕ
text_of_lines [] = []
text_of_lines (l ∷ ls) = line_text l ++ text_of_lines ls

-- the text of what was accepted
abbrev pub dis_text : List ℕ → List ℕ
dis_text bs = text_of_lines (parts_lines (image_parts bs).parts)
