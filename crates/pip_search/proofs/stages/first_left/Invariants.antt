use Rattle.std.proofs.Common.{ℕ, ◌<◌, slice_index}
use Rattle.pip_search.proofs.stages.first_left.Given as goal

abbrev pub invariant-loop-place : goal.invariant-loop-place
invariant-loop-place l = (j : ℕ) → j < l.place → 0 < slice_index l.stages j
