use Rattle.std.proofs.Common.{◌∙◌, ap, sym}
use Rattle.pip_away.specs.Blind.{sight_of}
use Rattle.pip_every.specs.Away as tests
use Rattle.pip_every.proofs.OnStates.{hostile_here}
use Rattle.pip_every.proofs.looking.looks_away.Goals as goal

pub returns-then-is_hostile-clause-away : goal.returns-then-is_hostile-clause-away
returns-then-is_hostile-clause-away g c w m s same = c.hostile_looks_away.ensures.away w s
    ∙ ap (λ ds. tests.hostile_looks_away c.args.blind.now.own.items (sight_of c.args.blind.now) ds w c.args.cpu)
    (sym same)
    ∙ sym (rw (
      same,
      ← hostile_here c.args.machine.now w s c.args.cpu c.args.menu.now c.runs.result
          (c.runs.ensures w s) c.is_hostile.result c.is_hostile.ensures,
      c.if-is_hostile.true,
    ))

pub returns-clause-away : goal.returns-clause-away
returns-clause-away g c w m s same = c.turn_looks_away.ensures.away w s
    ∙ sym (rw (
      same,
      ← hostile_here c.args.machine.now w s c.args.cpu c.args.menu.now c.runs.result
          (c.runs.ensures w s) c.is_hostile.result c.is_hostile.ensures,
      c.if-is_hostile.false,
    ))
