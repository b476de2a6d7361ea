use Rattle.pip_model.specs.Partitions.{HasPartition}
use Rattle.pip_test_kernel.proofs.lend.check_adds.Given as goal

-- the caller can call
abbrev pub invariant-loop-call : goal.invariant-loop-call
invariant-loop-call g l = HasPartition (g.M.Frames.memory l.mem) l.caller
