use Rattle.std.proofs.Common.{◌∙◌}
use Rattle.pip_away.specs.Blind.{sight_of}
use Rattle.pip_away.proofs.Turning.{of_call, of_interrupt, of_load, of_store, of_trap}
use Rattle.pip_away.proofs.turns.effect_looks_away.Goals as goal

pub returns-in-Loads-clause-away : goal.returns-in-Loads-clause-away
returns-in-Loads-clause-away g c w s = c.load_looks_away.ensures w s ∙ of_load c.args.blind.now.own.items (sight_of
    c.args.blind.now) w c.args.cpu c.args.effect.now _ _ _ c.in-Loads.is

pub returns-in-Stores-clause-away : goal.returns-in-Stores-clause-away
returns-in-Stores-clause-away g c w s = c.store_looks_away.ensures w 0 s ∙ of_store c.args.blind.now.own.items
    (sight_of c.args.blind.now) w c.args.cpu c.args.effect.now _ _ _ c.in-Stores.is

pub returns-in-Traps-clause-away : goal.returns-in-Traps-clause-away
returns-in-Traps-clause-away g c w s = c.trap_looks_away.ensures w 0 0 s ∙ of_trap c.args.blind.now.own.items
    (sight_of c.args.blind.now) w c.args.cpu c.args.effect.now _ _ _ c.in-Traps.is

pub returns-in-Interrupts-clause-away : goal.returns-in-Interrupts-clause-away
returns-in-Interrupts-clause-away g c w s = c.interrupt_looks_away.ensures.away w s
    ∙ of_interrupt c.args.blind.now.own.items (sight_of c.args.blind.now) w c.args.cpu c.args.effect.now
    c.args.ctx.now (c.requires.ctx w s) _ c.in-Interrupts.is

pub returns-in-Calls-clause-away : goal.returns-in-Calls-clause-away
returns-in-Calls-clause-away g c w s = c.called_looks_away.ensures.away w s
    ∙ of_call c.args.blind.now.own.items (sight_of c.args.blind.now) w c.args.cpu c.args.effect.now c.args.ctx.now
    (c.requires.ctx w s) _ c.in-Calls.is
