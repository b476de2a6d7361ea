use Rattle.std.proofs.Common.{refl}
use Rattle.pip_switch.proofs.Blocking.{place_none, place_some}
use Rattle.pip_switch.proofs.handlers.find_by_load.Goals as goal

pub returns-in-None-clause-place : goal.returns-in-None-clause-place
returns-in-None-clause-place g c t x s laid found =
    place_none t c.args.part c.args.vector s (c.in-None.ensures.entry t x s laid found refl)

pub returns-in-Some-clause-place : goal.returns-in-Some-clause-place
returns-in-Some-clause-place g c t x s laid found = place_some t c.args.part c.args.vector c.in-Some.found.address s
    (c.in-Some.ensures.entry t x s laid found).0 c.place.result (c.place.ensures.place t x s laid found)
