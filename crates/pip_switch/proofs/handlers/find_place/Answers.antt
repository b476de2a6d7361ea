use Rattle.pip_switch.proofs.Blocking.{place_some}
use Rattle.pip_switch.proofs.handlers.find_place.Goals as goal

pub returns-in-Some-clause-place : goal.returns-in-Some-clause-place
returns-in-Some-clause-place g c t x s laid found =
    place_some t c.args.part c.args.vector c.in-Some.table.address s (c.in-Some.ensures.entry t x s laid found).0
    c.place_beside.result (c.place_beside.ensures.place t x s laid found)
