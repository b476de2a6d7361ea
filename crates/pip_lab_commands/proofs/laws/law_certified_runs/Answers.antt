use Rattle.pip_lab_commands.proofs.CertifiedRuns.{certificates_name_runs}
use Rattle.pip_lab_commands.proofs.laws.law_certified_runs.Goals as goal

pub returns : goal.returns
returns c = certificates_name_runs
