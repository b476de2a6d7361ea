-- How many steps rounds of slots have.
use Rattle.std.proofs.Common.{◌≡◌, ◌<◌, ◌≤◌, ◌+◌, ◌*◌, ◌^◌, ℕ, List, [], ◌∷◌, ap, arith}
use Rattle.pip_slots.specs.Images.{placed, round_steps}
use Rattle.pip_slots.specs.Slots.{plan_steps}
use Rattle.pip_slots.specs.declared.time_slot.RoundSlot.{RoundSlot}

placed_steps : (xs : List RoundSlot) (ds : List ℕ) → plan_steps (placed xs ds) ≡ round_steps xs
placed_steps [] ds = omega arith
placed_steps (x ∷ xs) ds = ap (λ k. (x.turns + 2) + k) (placed_steps xs ds)

-- if it is a word, they are few enough to run them
pub rounds_few : (c : ℕ) (xs : List RoundSlot) (ds : List ℕ) → c * round_steps xs < 2 ^ 32
    → plan_steps (placed xs ds) * c ≤ 2 ^ 63
rounds_few c xs ds few =
    let h = ap (λ k. k * c) (placed_steps xs ds) in
    let same : round_steps xs * c ≡ c * round_steps xs = omega arith in
    omega (arith, few, h, same)
