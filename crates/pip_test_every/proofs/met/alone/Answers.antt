use Rattle.pip_model.specs.Boot.{zero_words}
use Rattle.pip_test_every.proofs.Events.{has_booted}
use Rattle.pip_test_every.proofs.Laws.{alone_met}
use Rattle.pip_test_every.proofs.met.alone.Goals as goal

pub boot_and_take-requires-clause-booted : goal.boot_and_take-requires-clause-booted
boot_and_take-requires-clause-booted g c = has_booted _ c.requires.one

pub boot_and_take-requires-2-clause-booted : goal.boot_and_take-requires-2-clause-booted
boot_and_take-requires-2-clause-booted g c = has_booted _ c.requires.two

pub boot_and_take-requires-3-clause-booted : goal.boot_and_take-requires-3-clause-booted
boot_and_take-requires-3-clause-booted g c = has_booted _ c.requires.three

pub returns : goal.returns
returns g c =
    alone_met c.law_guests_of_machines.ensures.alone
    (c.boot_and_take.ensures 64 (λ g. zero_words) c.requires.one)
    (c.boot_and_take-2.ensures 64 (λ g. zero_words) c.requires.two)
    (c.boot_and_take-3.ensures 64 (λ g. zero_words) c.requires.three)
