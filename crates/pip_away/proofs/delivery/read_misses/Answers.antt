use Rattle.std.proofs.Common.{◌∙◌, ap, sym}
use Rattle.pip_guests.specs.Sights as tests
use Rattle.pip_switch.specs.Plain.{plain_world}
use Rattle.pip_away.specs.Blind.{sight_of}
use Rattle.pip_away.proofs.Reading.{faulted_there, reached_there}
use Rattle.pip_away.proofs.delivery.read_misses.Goals as goal

pub returns-in-Ok : goal.returns-in-Ok
returns-in-Ok g c t x s laid found q is = c.sees.ensures ∙ sym (ap (tests.load_passes c.args.blind.now.own.items
    (sight_of c.args.blind.now) (plain_world t c.args.cpus.now) c.args.part)
    (reached_there q c.in-Ok.place (sym c.in-Ok.is ∙ is)))

pub returns-in-Err : goal.returns-in-Err
returns-in-Err g c t x s laid found q is = c.delivery_misses.ensures t x s laid found
    ∙ ap (tests.delivery_passes c.args.blind.now.own.items (sight_of c.args.blind.now)
    (plain_world t c.args.cpus.now) c.args.part) c.vector_of.ensures
    ∙ sym (ap (tests.load_passes c.args.blind.now.own.items (sight_of c.args.blind.now) (plain_world t c.args.cpus.now)
    c.args.part) (faulted_there q c.in-Err.fault (sym c.in-Err.is ∙ is)))
