use Rattle.std.proofs.Common.{◌≡◌, length}
use Rattle.pip_slots.specs.Images.{in_turn}
use Rattle.pip_slots.proofs.time_slot.in_turn.Given as goal

-- the children before this one have theirs
abbrev pub invariant-loop-child : goal.invariant-loop-child
invariant-loop-child l = record {
  len : length l.round.items ≡ l.child;
  items : l.round.items ≡ in_turn l.child l.turns;
}
