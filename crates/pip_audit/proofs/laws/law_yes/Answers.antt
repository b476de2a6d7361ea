use Rattle.pip_audit.proofs.Yes.{says_yes, yes_lays}
use Rattle.pip_audit.proofs.laws.law_yes.Goals as goal

pub returns : goal.returns
returns c = record { layouts = says_yes; others = yes_lays }
