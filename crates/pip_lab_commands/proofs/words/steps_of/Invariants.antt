use Rattle.std.proofs.Common.{◌≡◌, ◌≤◌, ◌+◌, ◌*◌, ◌^◌, drop}
use Rattle.pip_slots.specs.Images.{round_steps}
use Rattle.pip_lab_commands.proofs.words.steps_of.Given as goal

-- with the steps of the slots that are left they are all, and each slot adds few
abbrev pub invariant-loop-slot : goal.invariant-loop-slot
invariant-loop-slot l = record {
  steps : l.steps + round_steps (drop l.slot-index l.round) ≡ round_steps l.round;
  few : l.steps ≤ l.slot-index * (2 ^ 32 + 1);
}
