use Rattle.std.proofs.Common.{◌≡◌, ◌+◌, ◌≤◌, length}
use Rattle.pip_certificates.specs.PartExact.{runs_in}
use Rattle.pip_certificates.proofs.checking.runs_in.Given as goal

abbrev pub invariant-loop-rest : goal.invariant-loop-rest
invariant-loop-rest l = record {
  is : l.count + runs_in l.rest ≡ runs_in l.way;
  few : l.count + length l.rest ≤ length l.way;
}

abbrev pub decreases-loop-rest : goal.decreases-loop-rest
decreases-loop-rest l = length l.rest
