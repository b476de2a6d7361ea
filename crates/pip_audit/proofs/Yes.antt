-- Yes is the verdict exactly on the layouts of sound trees.
use Rattle.std.proofs.Common.{◌≡◌, refl, ap}
use Rattle.pip_base.specs.Memory.{IsMemory, Memory}
use Rattle.pip_model.specs.Audit.{Differs, Finding, HasWordsOnly, Lays, Unread, Unsound, finding}
use Rattle.pip_model.proofs.Audit.AuditLaw.{found_layouts, layouts_found}
use Rattle.pip_audit.specs.declared.auditor.Verdict.TheVariants as V
use Rattle.pip_audit.specs.Law.{LaysSome}
use Rattle.pip_audit.specs.Verdict.{verdict_of}

pub says_yes : (m : Memory) → LaysSome m → verdict_of (finding m) ≡ V.Yes
says_yes m l = ap verdict_of (layouts_found l.tree m l.sound l.lays).is

pub yes_lays : (m : Memory) → IsMemory m → HasWordsOnly m → verdict_of (finding m) ≡ V.Yes → LaysSome m
yes_lays m shape words e = go (finding m) refl e
  where
    go : (f : Finding) → finding m ≡ f → verdict_of f ≡ V.Yes → LaysSome m
    go (Lays t) q e = let k = found_layouts t m shape words q in record { tree = t; sound = k.0; lays = k.1 }
    go (Unread s) q e = cc
    go (Unsound part) q e = cc
    go (Differs d) q e = cc
