use Rattle.std.proofs.Common.{arith}
use Rattle.pip_isa.proofs.Laws.{no_row}
use Rattle.pip_isa.proofs.words.decode_word.Goals as goal

pub returns-in_default-clause-none : goal.returns-in_default-clause-none
returns-in_default-clause-none c = grind (arith, no_row, c.in_default)
