-- The sum of the labels of a part.
use Rattle.std.specs.Prelude.{ℕ, ◌+◌, ◌*◌, ◌%◌, ◌^◌, List, [], ◌∷◌, bit_xor}

-- a number and more bytes
abbrev pub sum_bytes : ℕ → List ℕ → ℕ
sum_bytes sum [] = sum
sum_bytes sum (b ∷ bs) = sum_bytes (bit_xor sum b * 0x1000193 % 2 ^ 32) bs

-- the number of a label
abbrev pub label_sum : List ℕ → ℕ
label_sum text = sum_bytes 0x811c9dc5 text

-- a sum and one number more
abbrev pub sum_and : ℕ → ℕ → ℕ
sum_and sum n = (sum + n) % 2 ^ 32

-- a sum and the numbers of labels: their order doesn't matter
abbrev pub sum_after : ℕ → List (List ℕ) → ℕ
sum_after sum [] = sum
sum_after sum (l ∷ ls) = sum_after (sum_and sum (label_sum l)) ls

-- the sum of labels
abbrev pub labels_sum : List (List ℕ) → ℕ
labels_sum ls = sum_after 0 ls
