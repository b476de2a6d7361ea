use Rattle.std.proofs.Common.{subst, sym}
use Rattle.pip_model.specs.Booted.{IsBooted}
use Rattle.pip_model.specs.Worlds.{boot_world_with}
use Rattle.pip_test_every.proofs.replies.ask_on.Goals as goal

pub search_on-requires-clause-stands : goal.search_on-requires-clause-stands
search_on-requires-clause-stands g c =
    let b = c.requires.booted in (
      boot_world_with b.words b.frames 1,
      c.new-machine.ensures.stands b.frames b.words (subst (λ v. IsBooted b.frames b.words v)
          (sym c.in_ok-journal.ensures) b.booted),
    )
