use Rattle.std.proofs.Common.{subst}
use Rattle.pip_model.specs.Sound.{IsWord}
use Rattle.pip_audit.proofs.Shapes.{lent_word}
use Rattle.pip_audit.proofs.shape.see_frame.Goals as goal

pub returns-clause-words : goal.returns-clause-words
returns-clause-words g c = λ i h. subst IsWord (lent_word (g.M.Frames.memory c.args.mem.now) c.args.f i
    c.frame.result.now c.frame.ensures.words) (c.see_page.ensures.words i h)
