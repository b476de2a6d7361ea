use Rattle.std.proofs.Common.{◌≡◌, ◌+◌, ◌-◌, ◌≤◌, drop, length}
use Rattle.pip_every.specs.Changes.{words_below}
use Rattle.pip_every.proofs.journals.changes.count_below.Given as goal

-- the words so far come before the place
abbrev pub invariant-loop-at : goal.invariant-loop-at
invariant-loop-at l = record {
  most : l.at ≤ length l.words;
  count : l.at + words_below l.place (drop l.at l.words) ≡ words_below l.place l.words;
}

abbrev pub decreases-loop-at : goal.decreases-loop-at
decreases-loop-at l = length l.words - l.at
