use Rattle.std.proofs.Common.{◌*◌}
use Rattle.pip_table.specs.NextWord.{AreZero}
use Rattle.pip_dump.proofs.frames.next_group.Given as goal

-- the words before are 0
abbrev pub invariant-loop-k : goal.invariant-loop-k
invariant-loop-k l = AreZero l.words (8 * l.from) (8 * l.k)
