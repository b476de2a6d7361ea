use Rattle.pip_mmu.specs.Cached.{HasCached}
use Rattle.pip_test_kernel.proofs.mmu.check.Given as goal

-- the root can go on
abbrev pub invariant-loop-step : goal.invariant-loop-step
invariant-loop-step g l = HasCached (g.M.Frames.memory l.mem) l.root l.cache
