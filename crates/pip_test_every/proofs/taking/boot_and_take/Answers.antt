use Rattle.pip_test_every.proofs.Events.{taken_after, took_after}
use Rattle.pip_test_every.proofs.taking.boot_and_take.Goals as goal

pub returns : goal.returns
returns g c n words booted =
    let boot = c.new-machine.ensures.stands n words booted in
    took_after _ _ _ _ _ _ (taken_after _ _ _ _ boot c.take_all.ensures.takes) c.take_all-2.ensures.takes
    c.take_all-3.ensures.takes
