use Rattle.std.proofs.Common.{arith}
use Rattle.pip_audit.proofs.shape.see_words.Goals as goal

pub returns : goal.returns
returns c = λ i h. let k = c.type_inv.words i in omega (arith, k)
