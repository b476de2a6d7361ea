use Rattle.std.proofs.Common.{◌≡◌, ℕ, ◌/◌, ◌%◌, ◌<◌, length, slice_index}
use Rattle.pip_search.specs.Stages.{stages_with}
use Rattle.pip_search.proofs.stages.ranks_of.Given as goal

abbrev pub invariant-loop-cell : goal.invariant-loop-cell
invariant-loop-cell l = record {
  count : length l.ranks.items ≡ l.cell;
  are : (e : ℕ) → e < l.cell → slice_index l.ranks.items e
      ≡ stages_with l.classes l.goals (e % l.columns) (slice_index l.stages (e / l.columns));
}
