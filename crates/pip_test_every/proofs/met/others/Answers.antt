use Rattle.pip_model.specs.Boot.{zero_words}
use Rattle.pip_test_every.proofs.Events.{has_booted}
use Rattle.pip_test_every.proofs.Laws.{others_met}
use Rattle.pip_test_every.proofs.met.others.Goals as goal

pub boot_and_take-requires-clause-booted : goal.boot_and_take-requires-clause-booted
boot_and_take-requires-clause-booted g c = has_booted _ c.requires.booted

pub returns : goal.returns
returns g c =
    others_met c.law_guests_of_machines.ensures.others
    (c.boot_and_take.ensures 64 (λ g. zero_words) c.requires.booted)
