use Rattle.std.proofs.Common.{◌≡◌, ◌∙◌, ◌&&◌, not, sym}
use Rattle.pip_base.specs.declared.types.Access.TheVariants.{Fetch}
use Rattle.pip_base.specs.declared.types.Size.TheVariants.{Word}
use Rattle.pip_model.specs.Lists.{has}
use Rattle.pip_model.specs.Reach.{reach}
use Rattle.pip_guests.specs.Sights as tests
use Rattle.pip_switch.specs.Plain.{plain_world}
use Rattle.pip_away.specs.Blind.{sight_of}
use Rattle.pip_away.proofs.OnMachines.{fetched_by, part_here, run_here, told_here}
use Rattle.pip_away.proofs.events.fetch_looks_away.Goals as goal

pub locate-found-requires : goal.locate-found-requires
locate-found-requires g c = let (w, s) = c.requires.stands in
    part_here c.args.machine.now w s _ c.mem-mem.ensures c.args.cpu c.in-Some.part
    (sym (c.runs.ensures w s) ∙ c.in-Some.is)

pub read_misses-requires : goal.read_misses-requires
read_misses-requires g c = let (w, s) = c.requires.stands in
    part_here c.args.machine.now w s _ c.mem-mem.ensures c.args.cpu c.in-Some.part
    (sym (c.runs.ensures w s) ∙ c.in-Some.is)

pub returns : goal.returns
returns g c w s =
    let away = told_here c.args.machine.now w s _ c.mem-mem.ensures c.args.cpu c.in-Some.part
    (sym (c.runs.ensures w s) ∙ c.in-Some.is)
    (λ t. c.read_misses.result ≡ tests.load_passes c.args.blind.now.own.items (sight_of c.args.blind.now)
    (plain_world t c.processors.result.now) c.in-Some.part
    (reach t c.in-Some.part c.pc_on-pc.result Fetch Word))
    (λ t x sound laid found. c.read_misses.ensures t x sound laid found _
    (c.locate-found.ensures.place t x sound laid found)) in
    run_here c.args.machine.now w s _ c.mem-mem.ensures c.args.cpu c.in-Some.part
    (sym (c.runs.ensures w s) ∙ c.in-Some.is)
    (λ r. not (has c.args.blind.now.own.items r.name)
    && tests.load_passes c.args.blind.now.own.items (sight_of c.args.blind.now) w r.name (reach w.tree r.name
    r.ctx.pc Fetch Word)) c.read_misses.result
    (λ r on name. fetched_by c.args.blind.now.own.items (sight_of c.args.blind.now) w c.processors.result.now
    (c.processors.ensures ∙ sym s.bare.shows.cpus)
    c.in-Some.part c.pc_on-pc.result r name (c.pc_on-pc.ensures w r s on) (sym c.is_own.ensures ∙ c.if-is_own.false)
    c.read_misses.result away)
