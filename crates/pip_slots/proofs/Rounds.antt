-- The round in which children have their slots in turn.
use Rattle.std.proofs.Common.{◌≡◌, ℕ, zero, suc, ◌+◌, ◌*◌, ◌<◌, ◌≤◌, List, [], ◌∷◌, ◌++◌, arith}
use Rattle.std.specs.List.{AllByRecursion}
use Rattle.pip_slots.specs.Images.{in_turn, round_steps}
use Rattle.pip_slots.specs.declared.time_slot.RoundSlot.{RoundSlot}

one_more : (xs : List RoundSlot) (x : RoundSlot) → round_steps (xs ++ x ∷ []) ≡ round_steps xs + (x.turns + 2)
one_more [] x = omega arith
one_more (y ∷ xs) x = omega (arith, one_more xs x)

pub turn_steps : (n turns : ℕ) → round_steps (in_turn n turns) ≡ n * (turns + 2)
turn_steps zero turns = omega arith
turn_steps (suc n) turns =
    let h = one_more (in_turn n turns) (record { child = n; turns = turns }) in
    let k = turn_steps n turns in
    let m : suc n * (turns + 2) ≡ n * (turns + 2) + (turns + 2) = omega arith in
    omega arith

below_more : (m : ℕ) (xs : List RoundSlot) (x : RoundSlot) → AllByRecursion (λ y. y.child < m) xs → x.child < m
    → AllByRecursion (λ y. y.child < m) (xs ++ x ∷ [])
below_more m [] x h k = (k, tt)
below_more m (y ∷ xs) x h k = (h.0, below_more m xs x h.1 k)

below : (n turns m : ℕ) → n ≤ m → AllByRecursion (λ y. y.child < m) (in_turn n turns)
below zero turns m l = tt
below (suc n) turns m l = below_more m (in_turn n turns) (record { child = n; turns = turns })
    (below n turns m (omega arith)) (omega arith)

pub turn_children : (n turns : ℕ) → AllByRecursion (λ y. y.child < n) (in_turn n turns)
turn_children n turns = below n turns n (omega arith)
