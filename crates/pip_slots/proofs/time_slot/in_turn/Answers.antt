use Rattle.std.proofs.Common.{◌≡◌, arith}
use Rattle.pip_slots.proofs.Rounds.{turn_children, turn_steps}
use Rattle.pip_slots.proofs.time_slot.in_turn.Goals as goal

pub returns-clause-steps : goal.returns-clause-steps
returns-clause-steps c =
    let end : c.loop-child.child ≡ c.args.children = omega arith in
    rw (c.loop-child.invariant.items, end, turn_steps c.args.children c.args.turns)

pub returns-clause-children : goal.returns-clause-children
returns-clause-children c =
    let end : c.loop-child.child ≡ c.args.children = omega arith in
    rw (c.loop-child.invariant.items, end) (turn_children c.args.children c.args.turns)
