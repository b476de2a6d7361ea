use Rattle.pip_search.proofs.ranks.Walk.bottom.Given as goal

abbrev pub decreases-loop-begin : goal.decreases-loop-begin
decreases-loop-begin l = l.begin
