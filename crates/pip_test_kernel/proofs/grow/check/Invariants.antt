use Rattle.pip_model.specs.Partitions.{HasPartition}
use Rattle.pip_test_kernel.proofs.grow.check.Given as goal

-- the root can go on
abbrev pub invariant-loop-k : goal.invariant-loop-k
invariant-loop-k g l = HasPartition (g.M.Frames.memory l.mem) l.root
