use Rattle.std.proofs.Common.{◌≡◌}
use Rattle.pip_search.specs.Stages.{stages_with}
use Rattle.pip_search.proofs.stages.rank_in.Given as goal

abbrev pub invariant-loop-number : goal.invariant-loop-number
invariant-loop-number l = l.rank ≡ stages_with l.classes l.goals l.column l.number
