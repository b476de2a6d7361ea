use Rattle.std.proofs.Common.{◌≡◌, ◌∙◌, refl, sym}
use Rattle.pip_guests.specs.Sights as tests
use Rattle.pip_away.specs.Blind.{sight_of}
use Rattle.pip_base.specs.declared.types.Access.TheVariants.{Load}
use Rattle.pip_model.specs.Reach.{reach}
use Rattle.pip_switch.specs.Plain.{plain_world}
use Rattle.pip_away.proofs.OnMachines.{load_same, none_runs, part_here, test_here, told_here}
use Rattle.pip_away.proofs.events.load_looks_away.Goals as goal

pub locate-found-requires : goal.locate-found-requires
locate-found-requires g c = let (w, s) = c.requires.stands in
    part_here c.args.machine.now w s _ c.mem-mem.ensures c.args.cpu c.in-Some.part
    (sym (c.runs.ensures w s) ∙ c.in-Some.is)

pub read_misses-requires : goal.read_misses-requires
read_misses-requires g c = let (w, s) = c.requires.stands in
    part_here c.args.machine.now w s _ c.mem-mem.ensures c.args.cpu c.in-Some.part
    (sym (c.runs.ensures w s) ∙ c.in-Some.is)

pub returns-in-None : goal.returns-in-None
returns-in-None g c w s = none_runs _ (sym (c.runs.ensures w s) ∙ c.in-None.is) _

pub returns-in-Some : goal.returns-in-Some
returns-in-Some g c w s =
    let away = told_here c.args.machine.now w s _ c.mem-mem.ensures c.args.cpu c.in-Some.part
    (sym (c.runs.ensures w s) ∙ c.in-Some.is)
    (λ t. c.read_misses.result ≡ tests.load_passes c.args.blind.now.own.items (sight_of c.args.blind.now)
    (plain_world t c.processors.result.now) c.in-Some.part
    (reach t c.in-Some.part c.args.va Load c.args.size))
    (λ t x sound laid found. c.read_misses.ensures t x sound laid found _
    (c.locate-found.ensures.place t x sound laid found)) in
    test_here c.args.machine.now w s _ c.mem-mem.ensures c.args.cpu c.in-Some.part
    (sym (c.runs.ensures w s) ∙ c.in-Some.is) _
    (λ p. tests.load_passes c.args.blind.now.own.items (sight_of c.args.blind.now) w p (reach w.tree p c.args.va
    Load c.args.size)) (λ r. refl) c.read_misses.result
    (away ∙ load_same c.args.blind.now.own.items (sight_of c.args.blind.now) w c.processors.result.now
    (c.processors.ensures ∙ sym s.bare.shows.cpus) c.in-Some.part _)
