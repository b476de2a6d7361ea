use Rattle.std.proofs.Common.{length, ◌-◌, ◌≤◌}
use Rattle.pip_io.proofs.Newlines.{NoneIn}
use Rattle.pip_io.proofs.newline.find_beyond.Given as goal

abbrev pub invariant-loop-from : goal.invariant-loop-from
invariant-loop-from l = record {
  inside : l.from ≤ length l.bytes;
  plain : NoneIn l.from l.bytes;
}

abbrev pub decreases-loop-from : goal.decreases-loop-from
decreases-loop-from l = length l.bytes - l.from
