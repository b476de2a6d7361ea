-- Acts and texts that were cut.
use Rattle.std.proofs.Common.{◌++◌, ℕ, List, ◌∷◌, sym, ap, ◌∙◌, append_assoc}
use Rattle.pip_cpu.specs.Made.{Cut}
use Rattle.pip_io.specs.Taken.{Taken, Appends, AppendsPart}
use Rattle.pip_io.proofs.Pieces.{left_more}
use Rattle.pip_io.proofs.Taken.{Appends-trans}
use Rattle.pip_model.specs.Acts.{Act, Writes, text_of}
use Rattle.pip_model.specs.Worlds.{World}
use Rattle.pip_model.proofs.OnLists.Acts.{text-append}

-- acts that were cut have written a part of their text
pub cut_part : (S : World → Type 0) (old new : Taken) (w : World) (acts : List Act) → Cut S old new w acts
    → AppendsPart old new (text_of acts)
cut_part S old new w acts m = (
  text_of m.front ++ m.part,
  m.missing ++ text_of m.rest,
  m.text,
  append_assoc (text_of m.front) m.part (m.missing ++ text_of m.rest)
      ∙ ap (λ k. text_of m.front ++ k) (sym (append_assoc m.part m.missing (text_of m.rest))
      ∙ ap (λ l. l ++ text_of m.rest) m.split)
      ∙ sym (text-append m.front (Writes m.line ∷ m.rest))
      ∙ ap text_of m.whole,
  left_more m.missing (text_of m.rest) m.some,
)
