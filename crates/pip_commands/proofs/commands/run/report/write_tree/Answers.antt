use Rattle.std.proofs.lemmas.Result.{MatchResult-from_err}
use Rattle.pip_io.proofs.Piecewise.{part_longer}
use Rattle.pip_commands.proofs.Reports.{ended_text}
use Rattle.pip_commands.proofs.commands.run.report.write_tree.Goals as goal

pub returns-clause-wrote : goal.returns-clause-wrote
returns-clause-wrote g c =
    λ t h. ended_text c.write_end.result _ _ _ _ _ (c.in_ok-tree_text.ensures.text t h) c.write_end.ensures.wrote

pub returns-in_err-tree_text-clause-wrote : goal.returns-in_err-tree_text-clause-wrote
returns-in_err-tree_text-clause-wrote g c = λ t h.
    MatchResult-from_err c.from_residual.result _ _ c.from_residual.ensures.0 (λ _.
    part_longer _ _ _ _ (c.in_err-tree_text.ensures.text t h))
