use Rattle.pip_every.proofs.Words.{IsPassing}
use Rattle.pip_every.proofs.processors.name_at.Given as goal

-- the processors before this one were passed by
abbrev pub invariant-loop-i : goal.invariant-loop-i
invariant-loop-i l = IsPassing l.words l.count l._i l.rest
