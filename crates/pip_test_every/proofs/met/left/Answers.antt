use Rattle.pip_model.specs.Boot.{zero_words}
use Rattle.pip_test_every.proofs.Events.{has_booted}
use Rattle.pip_test_every.proofs.Laws.{left_met}
use Rattle.pip_test_every.proofs.met.left.Goals as goal

pub boot_and_take-requires-clause-booted : goal.boot_and_take-requires-clause-booted
boot_and_take-requires-clause-booted g c = has_booted _ c.requires.one

pub boot_and_take-requires-2-clause-booted : goal.boot_and_take-requires-2-clause-booted
boot_and_take-requires-2-clause-booted g c = has_booted _ c.requires.two

pub returns : goal.returns
returns g c =
    left_met c.law_guests_of_machines.ensures.left
    (c.boot_and_take.ensures 64 (λ g. zero_words) c.requires.one)
    (c.boot_and_take-2.ensures 64 (λ g. zero_words) c.requires.two)
