use Rattle.pip_parent.proofs.Chains.{IsLeft}
use Rattle.pip_parent.proofs.addresses.WantsByAddress.has.Given as goal

abbrev pub invariant-loop-at : goal.invariant-loop-at
invariant-loop-at l = IsLeft l.wants l.i l.at

abbrev pub decreases-loop-at : goal.decreases-loop-at
decreases-loop-at l = l.at
