use Rattle.std.proofs.Common.{refl}
use Rattle.pip_asm.specs.Names.{home_of}
use Rattle.pip_asm.proofs.names.home_of.Goals as goal

pub returns-clause-home : goal.returns-clause-home
unfolding home_of
returns-clause-home c = refl
