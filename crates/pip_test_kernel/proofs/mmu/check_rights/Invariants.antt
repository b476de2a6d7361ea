use Rattle.pip_model.specs.Partitions.{HasPartition}
use Rattle.pip_test_kernel.proofs.mmu.check_rights.Given as goal

-- the root stands
abbrev pub invariant-loop-rights : goal.invariant-loop-rights
invariant-loop-rights g l = HasPartition (g.M.Frames.memory l.mem) l.root
