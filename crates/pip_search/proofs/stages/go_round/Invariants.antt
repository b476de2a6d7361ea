use Rattle.pip_search.specs.Stages.{GoRound, HasNoStage}
use Rattle.pip_search.proofs.stages.go_round.Given as goal

abbrev pub invariant-loop-goal : goal.invariant-loop-goal
invariant-loop-goal l = record {
  left : HasNoStage l.stages l.at;
  round : GoRound l.targets l.classes l.width l.goal l.place l.at l.fn.choices.items l.choices.items;
}
