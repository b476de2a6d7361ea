use Rattle.std.proofs.Common.{◌≡◌, ◌≤◌, take}
use Rattle.pip_every.specs.Keys.{used}
use Rattle.pip_every.proofs.processors.used.Given as goal

-- those after the first `count` are 0
abbrev pub invariant-loop-count : goal.invariant-loop-count
invariant-loop-count l = record {
  most : l.count ≤ 16;
  used : used (take l.count l.regs) ≡ used l.regs;
}

abbrev pub decreases-loop-count : goal.decreases-loop-count
decreases-loop-count l = l.count
