use Rattle.std.proofs.Common.{◌≡◌, length, take}
use Rattle.pip_command_contracts.specs.Planned.{lines_planned}
use Rattle.pip_command_contracts.proofs.planned.planned_lines.Given as goal

abbrev pub invariant-loop-plan : goal.invariant-loop-plan
invariant-loop-plan l = record {
  items : l.lines.items ≡ lines_planned (take l.plan-index l.fn.plans);
  count : length l.lines.items ≡ l.plan-index;
}
