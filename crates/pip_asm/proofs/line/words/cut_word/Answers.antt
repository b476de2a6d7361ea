use Rattle.std.proofs.Common.{rules, arith, ap, sym, ◌∙◌, ◌∷◌, ◌+◌, take}
use Rattle.pip_io.proofs.Pieces.{take-drop_rest}
use Rattle.pip_model.specs.Grammar.{words_of}
use Rattle.pip_asm.proofs.Cutting.{word_at, last_word}
use Rattle.pip_asm.proofs.line.words.cut_word.Goals as goal

pub returns-then-line-i-eq32 : goal.returns-then-line-i-eq32
returns-then-line-i-eq32 c =
    word_at c.args.line.now c.loop-i.i (search rules) c.loop-i.invariant (search rules)
    ∙ ap (λ r. take c.loop-i.i c.args.line.now ∷ words_of r) (sym (take-drop_rest (c.loop-i.i + 1) c.args.line.now))

pub returns : goal.returns
returns c = last_word c.args.line.now (λ k h. c.loop-i.invariant k (search (rules, arith, h)))
