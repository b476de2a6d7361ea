use Rattle.std.proofs.Common.{arith}
use Rattle.pip_audit.proofs.shape.see_page.Goals as goal

pub returns-clause-words : goal.returns-clause-words
returns-clause-words c = λ i h. c.see_words.ensures i (omega (arith, h))
