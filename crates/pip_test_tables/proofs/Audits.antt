-- Small memories, by computation.
use Rattle.std.proofs.Common.{◌≡◌, ℕ, List, [], ◌∷◌, ◌++◌, refl, Some, None}
use Rattle.std.specs.Prelude.{replicate}
use Rattle.pip_base.specs.Memory.{word_at}
use Rattle.pip_model.specs.Boot.{boot_root}
use Rattle.pip_model.specs.NodeWords.{slots}
use Rattle.pip_model.specs.ReadOff.{node_read, node_stop, first, gather, lines_read, more_stop, slot_stop, table_stop}
use Rattle.pip_model.specs.ReadOff.{place_of_table, leaf_stop, table_read, table_rows, rows_read, values_from}
use Rattle.pip_model.specs.ReadOff.{more_read}

-- a word 3 of frame 1 that is no frame
abbrev bad_memory : List (List ℕ)
bad_memory = replicate 1024 0 ∷ (0 ∷ 1 ∷ 0 ∷ 0x63 ∷ replicate 1020 0) ∷ replicate 14 (replicate 1024 0)

stops_there : node_stop bad_memory 1 ≡ Some (record { frame = 1; index = 3 })
unfolding node_stop first more_stop slot_stop table_stop place_of_table leaf_stop table_read values_from more_read
    word_at
stops_there = refl

-- the boot of 16 frames
abbrev padded : List ℕ → ℕ → List ℕ
padded ws n = ws ++ replicate n 0

abbrev boot_16 : List (List ℕ)
boot_16 =
    replicate 1024 0
    ∷ (padded (0 ∷ 1 ∷ 0 ∷ 2 ∷ 0 ∷ 3 ∷ 0 ∷ 4 ∷ 0 ∷ 5 ∷ 0 ∷ 1 ∷ 2 ∷ []) 1011)
    ∷ (padded (0 ∷ 24577 ∷ []) 1021 ++ (36865 ∷ []))
    ∷ (padded (0 ∷ 28673 ∷ []) 1021 ++ (40961 ∷ []))
    ∷ (padded (0 ∷ 32769 ∷ []) 1021 ++ (45057 ∷ []))
    ∷ (padded (0 ∷ 0 ∷ 0 ∷ 6 ∷ 0 ∷ 7 ∷ 0 ∷ 8 ∷ 0 ∷ 9 ∷ 0 ∷ 10 ∷ 0 ∷ 11 ∷ []) 1010)
    ∷ (padded (49183 ∷ 53279 ∷ 57375 ∷ []) 1021)
    ∷ replicate 1024 0
    ∷ replicate 1024 0
    ∷ (padded [] 1023 ++ (61471 ∷ []))
    ∷ replicate 6 (replicate 1024 0)

root_passes : node_stop boot_16 1 ≡ None
unfolding node_stop first more_stop slot_stop table_stop place_of_table leaf_stop table_read values_from more_read
    word_at slots
root_passes = refl

root_is_read : node_read boot_16 1 ≡ boot_root 16
unfolding node_read first gather lines_read place_of_table table_read table_rows rows_read values_from more_read word_at
    slots
root_is_read = refl
