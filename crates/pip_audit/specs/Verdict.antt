-- The verdict on a memory.
use Rattle.pip_audit.specs.declared.auditor.Verdict.{Verdict}
use Rattle.pip_audit.specs.declared.auditor.Verdict.TheVariants as V
use Rattle.pip_model.specs.Audit.{Differs, Finding, Lays, Unread, Unsound}

-- what is said of what is found
abbrev pub verdict_of : Finding → Verdict
verdict_of (Lays t) = V.Yes
verdict_of (Unread s) = V.Unread s.frame s.index
verdict_of (Unsound part) = V.Unsound part
verdict_of (Differs d) = V.Differs d.frame d.index d.found d.want
