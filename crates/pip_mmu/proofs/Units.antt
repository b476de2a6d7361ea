-- The bytes of a word.
use Rattle.std.proofs.Common.{◌≡◌, ℕ, zero, suc, ◌+◌, ◌-◌, ◌*◌, ◌/◌, ◌%◌, ◌^◌, ◌<◌, arith}

-- the lowest bit of a byte is worth something
pub unit_some : (k u : ℕ) → k < 4 → u ≡ 256 ^ k → 0 < u
unit_some zero u h e = omega arith
unit_some (suc zero) u h e = omega arith
unit_some (suc (suc zero)) u h e = omega arith
unit_some (suc (suc (suc zero))) u h e = omega arith
unit_some (suc (suc (suc (suc k)))) u h e = absurd (omega arith)

-- a byte at its place in a word is a word
pub byte_fits : (k u x : ℕ) → k < 4 → x < 256 → u ≡ 256 ^ k → x * u < 2 ^ 32
byte_fits zero u x h a e = rw e (omega arith)
byte_fits (suc zero) u x h a e = rw e (omega arith)
byte_fits (suc (suc zero)) u x h a e = rw e (omega arith)
byte_fits (suc (suc (suc zero))) u x h a e = rw e (omega arith)
byte_fits (suc (suc (suc (suc k)))) u x h a e = absurd (omega arith)

-- so is a word in which it stands for another
pub word_fits : (k u x w : ℕ) → k < 4 → x < 256 → w < 2 ^ 32 → u ≡ 256 ^ k → w - w / u % 256 * u + x * u < 2 ^ 32
word_fits zero u x w h a b e = rw e (omega arith)
word_fits (suc zero) u x w h a b e = rw e (omega arith)
word_fits (suc (suc zero)) u x w h a b e = rw e (omega arith)
word_fits (suc (suc (suc zero))) u x w h a b e = rw e (omega arith)
word_fits (suc (suc (suc (suc k)))) u x w h a b e = absurd (omega arith)
