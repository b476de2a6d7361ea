use Rattle.std.proofs.Common.{◌≡◌, ◌∙◌, refl, sym}
use Rattle.pip_guests.specs.Sights as tests
use Rattle.pip_away.specs.Blind.{sight_of}
use Rattle.pip_model.specs.Answers.{five_of}
use Rattle.pip_model.specs.Happens.{call_named}
use Rattle.pip_away.proofs.OnMachines.{none_runs, part_here, test_here, told_here}
use Rattle.pip_away.proofs.events.call_looks_away.Goals as goal

pub call_misses-requires : goal.call_misses-requires
call_misses-requires g c = let (w, s) = c.requires.stands in
    part_here c.args.machine.now w s _ c.mem.ensures c.args.cpu c.in-Some.part
    (sym (c.runs.ensures w s) ∙ c.in-Some.is)

pub returns-in-None : goal.returns-in-None
returns-in-None g c w s = none_runs _ (sym (c.runs.ensures w s) ∙ c.in-None.is) _

pub returns-in-Some : goal.returns-in-Some
returns-in-Some g c w s =
    test_here c.args.machine.now w s _ c.mem.ensures c.args.cpu c.in-Some.part
    (sym (c.runs.ensures w s) ∙ c.in-Some.is) _
    (λ p. tests.call_passes c.args.blind.now.own.items (sight_of c.args.blind.now) w.tree p (five_of
    c.args.args.now) (call_named c.args.number)) (λ r. refl)
    c.call_misses.result (told_here c.args.machine.now w s _ c.mem.ensures c.args.cpu c.in-Some.part
    (sym (c.runs.ensures w s) ∙ c.in-Some.is)
    (λ t. c.call_misses.result ≡ tests.call_passes c.args.blind.now.own.items (sight_of c.args.blind.now) t
    c.in-Some.part (five_of c.args.args.now)
    (call_named c.args.number)) c.call_misses.ensures)
