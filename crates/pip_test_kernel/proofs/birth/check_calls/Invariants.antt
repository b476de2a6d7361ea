use Rattle.pip_model.specs.Partitions.{HasPartition}
use Rattle.pip_test_kernel.proofs.birth.check_calls.Given as goal

-- the caller can call
abbrev pub invariant-loop-pages : goal.invariant-loop-pages
invariant-loop-pages g l = HasPartition (g.M.Frames.memory l.mem) l.caller
