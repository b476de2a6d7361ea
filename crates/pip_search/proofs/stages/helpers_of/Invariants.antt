use Rattle.std.proofs.Common.{◌≡◌, ℕ, ◌+◌, ◌<◌, length, slice_index}
use Rattle.pip_search.proofs.stages.helpers_of.Given as goal

abbrev pub invariant-loop-place : goal.invariant-loop-place
invariant-loop-place l = record {
  count : length l.helpers.items ≡ l.place;
  are : (j s : ℕ) → j < l.place → slice_index l.stages j ≡ s + 1
      → slice_index l.helpers.items j ≡ slice_index l.goals s;
}
