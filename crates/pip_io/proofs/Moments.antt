-- Calls of which none failed, one after another.
use Rattle.std.specs.Prelude.{◌≡◌}
use Rattle.std.proofs.Common.{◌∙◌}
use Rattle.pip_io.specs.Moments.{NoneFailed, Streams}

pub calm_both : (a b c : Streams) → NoneFailed a b → NoneFailed b c → NoneFailed a c
calm_both a b c h k = record { reads = k.reads ∙ h.reads; writes = k.writes ∙ h.writes }
