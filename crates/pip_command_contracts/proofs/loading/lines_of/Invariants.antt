use Rattle.std.proofs.Common.{◌≡◌, take}
use Rattle.pip_command_contracts.proofs.loading.lines_of.Given as goal

abbrev pub invariant-loop-plan : goal.invariant-loop-plan
invariant-loop-plan g l = l.lines.items ≡ take l.plan-index l.fn.plans
