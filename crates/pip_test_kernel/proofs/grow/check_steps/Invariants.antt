use Rattle.pip_model.specs.Partitions.{HasPartition}
use Rattle.pip_test_kernel.proofs.grow.check_steps.Given as goal

-- the caller can go on
abbrev pub invariant-loop-step : goal.invariant-loop-step
invariant-loop-step g l = HasPartition (g.M.Frames.memory l.mem) l.caller
