-- Words as bytes: each word as its groups of seven bits, the highest first, without those that would be 0 before it.
-- 128 is added to each group but the last.
use Rattle.std.specs.Prelude.{ℕ, ◌+◌, ◌*◌, ◌/◌, ◌%◌, ◌^◌, List, [], ◌∷◌, ◌++◌, if◌then◌else◌, nat_lt}

-- the group of a word that counts units, with 128 more, where the word has a unit or more
unfoldable pub seven_bits : ℕ → ℕ → List ℕ
seven_bits unit w = if nat_lt w unit then [] else (w / unit % 128 + 128) ∷ []

-- a word as bytes, at most five
unfoldable pub packed_word : ℕ → List ℕ
packed_word w =
    seven_bits 0x10000000 w ++ (seven_bits 0x200000 w ++ (seven_bits 0x4000 w ++ (seven_bits 0x80 w ++ (w % 128) ∷ [])))

-- words as bytes
unfoldable pub packed_key : List ℕ → List ℕ
packed_key [] = []
packed_key (w ∷ ws) = packed_word w ++ packed_key ws

-- a word of which these are the bits so far, and one group more
unfoldable pub word_with : ℕ → ℕ → ℕ
word_with w b = (w * 128 % 2 ^ 32 + b % 128) % 2 ^ 32

-- the words of bytes, where these are the bits so far of the first one
unfoldable pub unpacked_after : ℕ → List ℕ → List ℕ
unpacked_after w [] = []
unpacked_after w (b ∷ bs) = if nat_lt b 128 then word_with w b ∷ unpacked_after 0 bs
    else unpacked_after (word_with w b) bs

-- the words of bytes
abbrev pub unpacked_key : List ℕ → List ℕ
unpacked_key bytes = unpacked_after 0 bytes
