use Rattle.std.proofs.Common.{◌≡◌, ℕ, ◌-◌, ◌<◌, ◌≤◌, false, length, slice_index_or, true}
use Rattle.pip_every.proofs.journals.opened.pass_shut.Given as goal

-- none before this place was opened
abbrev pub invariant-loop-at : goal.invariant-loop-at
invariant-loop-at l = record {
  low : l.fn.from ≤ l.at;
  high : l.at ≤ length l.opened;
  shut : (k : ℕ) → l.fn.from ≤ k → k < l.at → slice_index_or l.opened k true ≡ false;
}

abbrev pub decreases-loop-at : goal.decreases-loop-at
decreases-loop-at l = length l.opened - l.at
