use Rattle.pip_example.proofs.let_run.Goals as goal

pub returns-clause-isolated : goal.returns-clause-isolated
returns-clause-isolated g c = λ w stands. c.law_reach.ensures.open_places w.tree
