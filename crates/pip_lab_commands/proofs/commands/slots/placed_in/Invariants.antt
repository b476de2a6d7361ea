use Rattle.std.proofs.Common.{◌≡◌, ◌++◌, drop, length}
use Rattle.pip_slots.specs.Images.{placed}
use Rattle.pip_lab_commands.proofs.commands.slots.placed_in.Given as goal

-- with the slots of the round that are left they are all
abbrev pub invariant-loop-slot : goal.invariant-loop-slot
invariant-loop-slot l = record {
  len : length l.slots.items ≡ l.slot-index;
  items : l.slots.items ++ placed (drop l.slot-index l.round) l.children ≡ placed l.round l.children;
}
