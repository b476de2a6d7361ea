use Rattle.std.proofs.Common.{◌∙◌, ap}
use Rattle.pip_model.specs.Events as E
use Rattle.pip_model.specs.Happens.{event}
use Rattle.pip_guests.specs.Sights as tests
use Rattle.pip_away.specs.Blind.{sight_of}
use Rattle.pip_away.proofs.turns.interrupt_looks_away.Goals as goal

pub trap_looks_away-requires-clause-stands : goal.trap_looks_away-requires-clause-stands
trap_looks_away-requires-clause-stands g c = let (w, s) = c.requires.stands in (_, c.set_ctx.ensures.event w s)

pub returns-clause-away : goal.returns-clause-away
returns-clause-away g c w s = c.trap_looks_away.ensures _ 0 0 (c.set_ctx.ensures.event w s)
    ∙ ap (λ z. tests.event_passes c.args.blind.now.own.items (sight_of c.args.blind.now) (event w (E.SetContext
    c.args.cpu z)).world (E.Trap c.args.cpu c.args.vector 0 0))
    c.next_of.ensures
