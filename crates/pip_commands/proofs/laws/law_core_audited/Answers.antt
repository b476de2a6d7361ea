use Rattle.pip_commands.proofs.CoreAudited.{core_audited}
use Rattle.pip_commands.proofs.laws.law_core_audited.Goals as goal

pub returns : goal.returns
returns c = core_audited
