use Rattle.pip_model.specs.Boot.{zero_words}
use Rattle.pip_test_every.proofs.Events.{has_booted}
use Rattle.pip_test_every.proofs.Laws.{apart_met}
use Rattle.pip_test_every.proofs.met.apart.Goals as goal

pub boot_and_take-requires-clause-booted : goal.boot_and_take-requires-clause-booted
boot_and_take-requires-clause-booted g c = has_booted _ c.requires.booted

pub returns : goal.returns
returns g c =
    apart_met c.law_guests_of_machines.ensures.apart
    (c.boot_and_take.ensures 64 (λ g. zero_words) c.requires.booted)
