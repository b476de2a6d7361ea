use Rattle.std.proofs.Common.{◌∙◌, ap}
use Rattle.pip_model.specs.Answers.{five_of}
use Rattle.pip_model.specs.Effects.{at_next}
use Rattle.pip_model.specs.Events as E
use Rattle.pip_model.specs.Happens.{event}
use Rattle.pip_guests.specs.Sights as tests
use Rattle.pip_away.specs.Blind.{sight_of}
use Rattle.pip_away.proofs.turns.called_looks_away.Goals as goal

pub call_looks_away-requires-clause-stands : goal.call_looks_away-requires-clause-stands
call_looks_away-requires-clause-stands g c = let (w, s) = c.requires.stands in (_, c.set_ctx.ensures.event w s)

pub returns-clause-away : goal.returns-clause-away
returns-clause-away g c w s = c.call_looks_away.ensures _ (c.set_ctx.ensures.event w s)
    ∙ ap (λ z. tests.event_passes c.args.blind.now.own.items (sight_of c.args.blind.now) (event w (E.SetContext
    c.args.cpu z)).world
    (E.Call c.args.cpu c.args.number (five_of c.arguments.result))) c.next_of.ensures
    ∙ ap (λ a. tests.event_passes c.args.blind.now.own.items (sight_of c.args.blind.now) (event w (E.SetContext
    c.args.cpu (at_next c.args.ctx.now))).world
    (E.Call c.args.cpu c.args.number a)) c.arguments.ensures
