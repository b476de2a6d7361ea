use Rattle.std.proofs.Common.{◌≡◌, length}
use Rattle.pip_every.proofs.later.advance.Given as goal

-- there are as many processors
abbrev pub invariant-loop-cpu : goal.invariant-loop-cpu
invariant-loop-cpu g l = length l.machine.cpus ≡ length l.initial.machine.cpus
