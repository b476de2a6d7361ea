use Rattle.std.proofs.Common.{◌-◌}
use Rattle.pip_birth.specs.Freeing.{AreFreed}
use Rattle.pip_birth.proofs.ending.free_open.Given as goal

-- the words so far are freed
abbrev pub invariant-loop-j : goal.invariant-loop-j
invariant-loop-j l = AreFreed l.fn.leaves l.fn.born l.fn.k l.fn.given l.from l.given

abbrev pub decreases-loop-j : goal.decreases-loop-j
decreases-loop-j l = 1024 - l.from
