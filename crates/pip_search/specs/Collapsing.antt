-- Keys that are kept as numbers of blocks.
use Rattle.std.specs.Prelude.{◌≡◌, ℕ, zero, suc, ◌-◌, ◌^◌, ◌<◌, ◌≤◌, List, [], ◌∷◌, ◌++◌, length, map, replicate, take}
use Rattle.std.specs.Prelude.{slice_get, slice_index_or, All, Some}
use Rattle.pip_search.specs.Naming.{AreNamed}
use Rattle.pip_search.specs.Packing.{packed_word, unpacked_key}
use Rattle.pip_search.specs.Storing.{IsStored, listed}
use Rattle.pip_search.specs.declared.blocks.BlockStore.{BlockStore}
use Rattle.pip_search.specs.declared.key_store.KeyStore.{KeyStore}

-- the blocks
abbrev pub blocks_of : BlockStore → List (List ℕ)
blocks_of x = x.blocks.items.items

-- bytes, and 0 up to a block
abbrev pub filled_up : List ℕ → List ℕ
filled_up bytes = bytes ++ replicate (24 - length bytes) 0

-- the bytes of blocks, by their numbers
unfoldable pub joined_blocks : List (List ℕ) → List ℕ → List ℕ
joined_blocks blocks [] = []
joined_blocks blocks (n ∷ ns) = slice_index_or blocks n [] ++ joined_blocks blocks ns

-- a key, by one more than its length and the numbers of its blocks
unfoldable pub key_of_words : List (List ℕ) → List ℕ → List ℕ
key_of_words blocks [] = []
key_of_words blocks (n ∷ ns) = take (n - 1) (joined_blocks blocks ns)

-- the key of an entry: what follows a 0, or a key by blocks
unfoldable pub key_of_entry : List (List ℕ) → List ℕ → List ℕ
key_of_entry blocks [] = []
key_of_entry blocks (zero ∷ bytes) = bytes
key_of_entry blocks (suc b ∷ bytes) = key_of_words blocks (unpacked_key (suc b ∷ bytes))

-- the keys that are kept
abbrev pub keys_in : KeyStore → List (List ℕ)
keys_in x = map (key_of_entry (blocks_of x.blocks)) (listed x.entries)

-- an entry is, packed, one more than a length and the numbers of blocks that have that many bytes
pub record IsByBlocks (blocks : List (List ℕ)) (entry : List ℕ) : Type 0 where
  pub most : ℕ
  pub numbers : List ℕ
  pub back : unpacked_key entry ≡ suc most ∷ numbers
  pub low : All (λ n. n < length blocks) numbers
  pub long : most ≤ length (joined_blocks blocks numbers)

-- an entry is of a whole key, of which nothing is said, or of one by blocks
abbrev pub IsKeyEntry : List (List ℕ) → List ℕ → Type 0
IsKeyEntry blocks [] = ⊥
IsKeyEntry blocks (zero ∷ bytes) = Unit {0}
IsKeyEntry blocks (suc b ∷ bytes) = IsByBlocks blocks (suc b ∷ bytes)

-- an entry is of a key by blocks
pub record IsKeyByBlocks (blocks : List (List ℕ)) (key entry : List ℕ) : Type 0 where
  pub by : IsByBlocks blocks entry
  pub is : key_of_words blocks (unpacked_key entry) ≡ key

-- an entry is of a key
pub record IsEntryOf (blocks : List (List ℕ)) (key entry : List ℕ) : Type 0 where
  pub made : IsKeyEntry blocks entry
  pub is : key_of_entry blocks entry ≡ key

-- there are these blocks, and maybe more after them
pub record IsExtended (blocks more : List (List ℕ)) : Type 0 where
  pub rest : List (List ℕ)
  pub whole : more ≡ blocks ++ rest

-- the number of a block was packed at the end of an entry
pub record AddsNumber (blocks : List (List ℕ)) (block entry more : List ℕ) : Type 0 where
  pub number : ℕ
  pub fits : number < 2 ^ 32
  pub at : slice_get blocks number ≡ Some block
  pub packed : more ≡ entry ++ packed_word number

-- entries are those of keys, by blocks that are there
pub record AreCollapsed (x : KeyStore) : Type 0 where
  pub stored : IsStored x.entries
  pub named : AreNamed (blocks_of x.blocks) x.blocks.table
  pub entries : All (IsKeyEntry (blocks_of x.blocks)) (listed x.entries)
