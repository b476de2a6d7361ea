use Rattle.std.proofs.Common.{◌≡◌, ◌∙◌, ◌&&◌, ap, refl, sym}
use Rattle.pip_guests.specs.Sights as tests
use Rattle.pip_away.specs.Blind.{sight_of}
use Rattle.pip_model.specs.Worlds.{runs_on}
use Rattle.pip_away.proofs.OnMachines.{laid_here, none_runs, part_here, root_here, test_here, told_here}
use Rattle.pip_away.proofs.events.poll_looks_away.Goals as goal

pub lines_miss-requires : goal.lines_miss-requires
lines_miss-requires g c = let (w, s) = c.requires.stands in
    root_here c.args.machine.now w s _ c.mem.ensures

pub save_misses-requires-clause-stands : goal.save_misses-requires-clause-stands
save_misses-requires-clause-stands g c = let (w, s) = c.requires.stands in
    part_here c.args.machine.now w s _ c.mem-in-Some.ensures c.args.cpu c.in-Some.part
    (sym (c.runs.ensures w s) ∙ c.in-Some.is)

pub returns-then-not-lines_miss : goal.returns-then-not-lines_miss
returns-then-not-lines_miss g c w s = sym (ap (λ b. b
    && tests.if_runs (runs_on w c.args.cpu) (λ r. tests.save_passes c.args.blind.now.own.items (sight_of
    c.args.blind.now) w.tree r.name 63))
    (sym (c.lines_miss.ensures w.tree s.bare.sound.tree (laid_here c.args.machine.now w s _ c.mem.ensures))
    ∙ c.if-not-lines_miss.true))

pub returns-in-None : goal.returns-in-None
returns-in-None g c w s = none_runs _ (sym (c.runs.ensures w s) ∙ c.in-None.is)
    (λ r. tests.save_passes c.args.blind.now.own.items (sight_of c.args.blind.now) w.tree r.name 63) ∙ sym (ap (λ b. b
    && tests.if_runs (runs_on w c.args.cpu) (λ r. tests.save_passes c.args.blind.now.own.items (sight_of
    c.args.blind.now) w.tree r.name 63))
    (sym (c.lines_miss.ensures w.tree s.bare.sound.tree (laid_here c.args.machine.now w s _ c.mem.ensures))
    ∙ c.if-not-lines_miss.false))

pub returns-in-Some : goal.returns-in-Some
returns-in-Some g c w s =
    test_here c.args.machine.now w s _ c.mem-in-Some.ensures c.args.cpu c.in-Some.part
    (sym (c.runs.ensures w s) ∙ c.in-Some.is) (λ r. tests.save_passes c.args.blind.now.own.items (sight_of
    c.args.blind.now) w.tree r.name 63)
    (λ p. tests.save_passes c.args.blind.now.own.items (sight_of c.args.blind.now) w.tree p 63) (λ r. refl)
    c.save_misses.result
    (told_here c.args.machine.now w s _ c.mem-in-Some.ensures c.args.cpu c.in-Some.part
    (sym (c.runs.ensures w s) ∙ c.in-Some.is)
    (λ t. c.save_misses.result ≡ tests.save_passes c.args.blind.now.own.items (sight_of c.args.blind.now) t
    c.in-Some.part 63) c.save_misses.ensures)
    ∙ sym (ap (λ b. b
    && tests.if_runs (runs_on w c.args.cpu) (λ r. tests.save_passes c.args.blind.now.own.items (sight_of
    c.args.blind.now) w.tree r.name 63))
    (sym (c.lines_miss.ensures w.tree s.bare.sound.tree (laid_here c.args.machine.now w s _ c.mem.ensures))
    ∙ c.if-not-lines_miss.false))
