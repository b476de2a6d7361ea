use Rattle.std.proofs.Common.{◌≤◌, ◌-◌}
use Rattle.pip_table.specs.NextWord.{AreZero}
use Rattle.pip_table.proofs.next.skip_zeros.Given as goal

-- the words so far are 0
abbrev pub invariant-loop-j : goal.invariant-loop-j
invariant-loop-j l = record { above : l.fn.k ≤ l.j; below : l.j ≤ 1024; zero : AreZero l.words l.fn.k l.j }

abbrev pub decreases-loop-j : goal.decreases-loop-j
decreases-loop-j l = 1024 - l.j
