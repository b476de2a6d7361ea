use Rattle.std.proofs.Common.{◌≡◌, ◌+◌, ◌≤◌, length}
use Rattle.pip_search.specs.Stages.{AreStaged, zeros_in}
use Rattle.pip_search.proofs.stages.settle_from.Given as goal

abbrev pub invariant-loop-turn : goal.invariant-loop-turn
invariant-loop-turn l = record {
  count : length l.stages ≡ length l.fn.stages;
  staged : AreStaged l.targets l.classes l.stages l.goals.items l.width (length l.fn.stages);
  falls : zeros_in l.stages + l._turn ≤ length l.fn.stages;
}
