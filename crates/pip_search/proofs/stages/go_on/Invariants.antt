use Rattle.std.proofs.Common.{◌+◌, ◌<◌, ◌≤◌, slice_index}
use Rattle.pip_search.specs.Stages.{IsGoing, HasNoStage}
use Rattle.pip_search.proofs.stages.go_on.Given as goal

abbrev pub invariant-loop-turn : goal.invariant-loop-turn
invariant-loop-turn l = record {
  left : HasNoStage l.stages l.at;
  falls : slice_index l.orders l.at + l._turn ≤ slice_index l.orders l.place;
  going : IsGoing l.targets l.width l.place l.at l.fn.choices.items l.choices.items;
}
