use Rattle.pip_test_every.proofs.Events.{booted_zeros}
use Rattle.pip_test_every.proofs.tests.booted.Goals as goal

pub returns : goal.returns
returns g c = record { booted = booted_zeros _ _ c.in_ok-mem.ensures c.boot_zeros.ensures.layout }
