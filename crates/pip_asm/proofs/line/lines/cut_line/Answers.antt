use Rattle.std.proofs.Common.{ap, sym, subst, ◌∙◌, ◌∷◌, ◌+◌, length, take}
use Rattle.std.proofs.Math.Seq.{drop-length}
use Rattle.pip_io.specs.Newlines.{IsFirstNewline}
use Rattle.pip_io.proofs.Pieces.{take-drop_rest}
use Rattle.pip_model.specs.Grammar.{lines_of}
use Rattle.pip_asm.proofs.Cutting.{newline_at, no_newline}
use Rattle.pip_asm.proofs.line.lines.cut_line.Goals as goal

pub returns-in-Some-clause-cut : goal.returns-in-Some-clause-cut
returns-in-Some-clause-cut c =
    (newline_at c.args.text.now c.in-Some.at (subst (IsFirstNewline _) c.in-Some.is c.find_newline.ensures)).1
    ∙ ap (λ r. take c.in-Some.at c.args.text.now ∷ lines_of r) (sym (take-drop_rest (c.in-Some.at + 1) c.args.text.now))

pub returns-in-None-clause-cut : goal.returns-in-None-clause-cut
returns-in-None-clause-cut c =
    no_newline c.args.text.now c.requires (subst (IsFirstNewline _) c.in-None.is c.find_newline.ensures)
    ∙ ap (λ r. c.args.text.now ∷ lines_of r)
    (sym (take-drop_rest (length c.args.text.now) c.args.text.now ∙ drop-length c.args.text.now))
