use Rattle.std.proofs.Common.{refl}
use Rattle.pip_asm.specs.Names.{mark_of}
use Rattle.pip_asm.proofs.names.mark_of.Goals as goal

pub returns : goal.returns
unfolding mark_of
returns c = refl
