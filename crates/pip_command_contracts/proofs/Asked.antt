-- What holds for the command that the words of the command line ask for.
use Rattle.std.specs.Prelude.{◌≡◌, Option, Some}
use Rattle.std.proofs.Common.{ap, subst, sym, ◌∙◌}
use Rattle.pip_command_contracts.specs.EndsBy.{Due}
use Rattle.pip_command_contracts.specs.Pacing.{IsPaced}
use Rattle.pip_command_contracts.specs.Streams.{Streams}
use Rattle.pip_command_contracts.proofs.Within.{AreWithin}

-- the words mean this command, and were read as `asked`, which is this one
module _ {C : Type 0} (read meant : Option C) (asked command : C) (said : read ≡ meant) (is : read ≡ Some asked)
    (same : asked ≡ command) where
  -- it may read what the words may
  pub paced_as_asked : (due_of : Option C → Due) (is_open : Type 0) (allows : Streams → Type 0) (now : Streams)
      → IsPaced (due_of meant) is_open allows now → IsPaced (due_of (Some command)) is_open allows now
  paced_as_asked due_of is_open allows now =
      subst (λ c. IsPaced (due_of c) is_open allows now) (sym said ∙ is ∙ ap Some same)

  -- its numbers are within their limits
  pub within_as_asked : (has : C → Type 0) → AreWithin has meant → has command
  within_as_asked has within = subst has same (subst (AreWithin has) (sym said ∙ is) within)
