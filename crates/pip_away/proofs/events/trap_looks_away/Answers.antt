use Rattle.std.proofs.Common.{◌≡◌, ◌∙◌, refl, sym}
use Rattle.pip_guests.specs.Sights as tests
use Rattle.pip_away.specs.Blind.{sight_of}
use Rattle.pip_switch.specs.Plain.{plain_world}
use Rattle.pip_away.proofs.OnMachines.{delivery_same, none_runs, part_here, test_here, told_here}
use Rattle.pip_away.proofs.events.trap_looks_away.Goals as goal

pub delivery_misses-requires : goal.delivery_misses-requires
delivery_misses-requires g c = let (w, s) = c.requires.stands in
    part_here c.args.machine.now w s _ c.mem.ensures c.args.cpu c.in-Some.part
    (sym (c.runs.ensures w s) ∙ c.in-Some.is)

pub returns-in-None : goal.returns-in-None
returns-in-None g c w a b s = none_runs _ (sym (c.runs.ensures w s) ∙ c.in-None.is) _

pub returns-in-Some : goal.returns-in-Some
returns-in-Some g c w a b s =
    test_here c.args.machine.now w s _ c.mem.ensures c.args.cpu c.in-Some.part
    (sym (c.runs.ensures w s) ∙ c.in-Some.is) _
    (λ p. tests.delivery_passes c.args.blind.now.own.items (sight_of c.args.blind.now) w p c.args.vector) (λ r.
    refl) c.delivery_misses.result
    (told_here c.args.machine.now w s _ c.mem.ensures c.args.cpu c.in-Some.part
    (sym (c.runs.ensures w s) ∙ c.in-Some.is)
    (λ t. c.delivery_misses.result ≡ tests.delivery_passes c.args.blind.now.own.items (sight_of c.args.blind.now)
    (plain_world t c.processors.result.now) c.in-Some.part
    c.args.vector) c.delivery_misses.ensures
    ∙ delivery_same c.args.blind.now.own.items (sight_of c.args.blind.now) w c.processors.result.now
    (c.processors.ensures ∙ sym s.bare.shows.cpus) c.in-Some.part
    c.args.vector)
