-- The numbers that are drawn: of a state, the next one.
use Rattle.std.specs.Prelude.{ℕ, zero, suc, ◌*◌, ◌/◌, ◌%◌, ◌^◌}
use Rattle.std.specs.Int.Bits.{bit_xor}

-- the exclusive or of a word and itself, shifted left by k
abbrev pub mixed_left : ℕ → ℕ → ℕ
mixed_left k s = bit_xor s (s * 2 ^ k % 2 ^ 32)

-- the exclusive or of a word and itself, shifted right by k
abbrev pub mixed_right : ℕ → ℕ → ℕ
mixed_right k s = bit_xor s (s / 2 ^ k)

-- the state after a draw; a state is a word other than 0. What is drawn below n is its remainder by n
unfoldable pub next_state : ℕ → ℕ
next_state s = mixed_left 5 (mixed_right 17 (mixed_left 13 s))

-- the state after a number of draws
abbrev pub state_after : ℕ → ℕ → ℕ
state_after seed zero = seed
state_after seed (suc n) = next_state (state_after seed n)
