use Rattle.std.proofs.Common.{reverse, take}
use Rattle.pip_search.specs.Comes.{IsWalk}
use Rattle.pip_search.proofs.coming.walk.Given as goal

abbrev pub invariant-loop-choice : goal.invariant-loop-choice
invariant-loop-choice l = IsWalk l.targets l.width l.place (reverse (take l.choice-index l.choices)) l.at
