use Rattle.pip_model.proofs.Audit.AuditLaw.{found_layouts, layouts_found}
use Rattle.pip_model.proofs.laws.law_audit.Goals as goal

pub returns : goal.returns
returns c = record { layouts = layouts_found; found = found_layouts }
