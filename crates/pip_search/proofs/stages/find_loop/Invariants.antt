use Rattle.std.proofs.Common.{◌≡◌, ℕ, ◌+◌, ◌<◌, ◌≤◌, length, slice_index}
use Rattle.pip_search.specs.Stages.{IsBegun, HasNoStage, zeros_in}
use Rattle.pip_search.proofs.stages.find_loop.Given as goal

abbrev pub invariant-loop-turn : goal.invariant-loop-turn
invariant-loop-turn l = record {
  left : HasNoStage l.stages l.at;
  count : length l.begun.items ≡ length l.stages;
  falls : zeros_in l.begun.items + l._turn ≤ length l.stages;
  begun : (j : ℕ) → 0 < slice_index l.begun.items j
      → IsBegun l.targets l.classes l.width (slice_index l.begun.items j) j l.at l.choices.items;
}
