use Rattle.pip_base.proofs.unreached.assert_unchecked.Given as goal

abbrev pub decreases-loop-past : goal.decreases-loop-past
decreases-loop-past l = 0
