-- Where a command on children waits: at first nothing was read.
use Rattle.std.specs.Prelude.{◌≡◌, refl, ℕ, []}
use Rattle.std.proofs.Common.{ap, sym, subst}
use Rattle.pip_command_contracts.specs.Pacing.{Waits}
use Rattle.pip_command_contracts.specs.Streams.{Streams}
use Rattle.pip_command_contracts.proofs.Waiting.{no_fault, nothing_told, waits_first}
use Rattle.pip_image.specs.Reading.{LacksHeader}
use Rattle.pip_children.specs.Children.{Schedule}
use Rattle.pip_children.specs.Dues.{schedule_due}
use Rattle.pip_children.proofs.Shortness.{unshort_lacking}

pub children_waits : (a : Streams) → a.written.buffered ≡ [] → (s : Schedule) (n : ℕ) → Waits (schedule_due s n) a a
children_waits a none s n = waits_first a none (schedule_due s n) (
  no_fault,
  unshort_lacking n [] (subst LacksHeader (sym (ap (λ t. t.parts) nothing_told)) tt),
  refl,
) tt
