use Rattle.std.proofs.Common.{◌∙◌, ap, not, sym}
use Rattle.pip_every.proofs.OnStates.{its_here}
use Rattle.pip_every.proofs.looking.may_looks_away.Goals as goal

pub returns-then-not-is_its : goal.returns-then-not-is_its
returns-then-not-is_its g c w s = ap not c.if-not-is_its.true ∙ sym
    (rw (
      ← its_here c.args.machine.now w s c.args.cpu c.args.may.now c.runs.result (c.runs.ensures w s) c.is_its.result
          c.is_its.ensures,
      c.if-not-is_its.true,
    ))

pub returns-else-not-is_its : goal.returns-else-not-is_its
returns-else-not-is_its g c w s = c.deed_looks_away.ensures w s ∙ sym
    (rw (
      ← its_here c.args.machine.now w s c.args.cpu c.args.may.now c.runs.result (c.runs.ensures w s) c.is_its.result
          c.is_its.ensures,
      c.if-not-is_its.false,
    ))
