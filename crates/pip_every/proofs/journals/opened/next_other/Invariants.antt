use Rattle.std.proofs.Common.{◌-◌, ◌≤◌}
use Rattle.pip_every.specs.Tracks.{SameWords}
use Rattle.pip_every.proofs.journals.opened.next_other.Given as goal

-- the parts before this one have the same words
abbrev pub invariant-loop-part : goal.invariant-loop-part
invariant-loop-part l = record {
  low : l.from ≤ l.part;
  high : l.part ≤ 32;
  same : SameWords l.base l.now l.from l.part;
}

abbrev pub decreases-loop-part : goal.decreases-loop-part
decreases-loop-part l = 32 - l.part
