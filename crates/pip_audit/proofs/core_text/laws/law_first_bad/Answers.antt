use Rattle.pip_audit.proofs.FirstBad.{first_bad}
use Rattle.pip_audit.proofs.core_text.laws.law_first_bad.Goals as goal

pub returns : goal.returns
returns c = first_bad
