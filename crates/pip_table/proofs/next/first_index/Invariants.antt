use Rattle.std.proofs.Common.{◌≤◌}
use Rattle.pip_table.specs.NextWord.{AreZero}
use Rattle.pip_table.proofs.next.first_index.Given as goal

-- the words so far are 0
abbrev pub invariant-loop-j : goal.invariant-loop-j
invariant-loop-j l = record { above : l.fn.k ≤ l.j; zero : AreZero l.words l.fn.k l.j }
