-- How what runs on processors is read off words.
use Rattle.std.specs.Prelude.{◌≡◌, ℕ, ◌+◌, ◌-◌, ◌^◌, ◌<◌, ◌≤◌, List, ◌++◌, Option, Some, None, length, take, drop}
use Rattle.std.specs.Prelude.{replicate, slice_index}
use Rattle.std.specs.List.{AllByRecursion}
use Rattle.pip_model.specs.declared.processors.Occupant.{Occupant}
use Rattle.pip_every.specs.Keys.{processor_words, running_words}

-- a partition's name is a frame, and not that of number 0; a context has 16 registers
pub record IsRunnable (r : Occupant) : Type 0 where
  pub least : 1 ≤ r.name
  pub most : r.name < 2 ^ 20
  pub registers : length r.ctx.regs ≡ 16

-- and so of what runs, if anything does
abbrev pub MayRun : Option Occupant → Type 0
MayRun None = Unit {0}
MayRun (Some r) = IsRunnable r

-- some words are those of what runs on a processor, and others after them
pub record StartsWithOne (words : List ℕ) (o : Option Occupant) (rest : List ℕ) : Type 0 where
  pub runs : MayRun o
  pub whole : words ≡ running_words o ++ rest

-- some words are those of what runs on that many processors, and others after them
pub record StartsWithAll (words : List ℕ) (count : ℕ) (os : List (Option Occupant)) (rest : List ℕ) : Type 0 where
  pub run : AllByRecursion MayRun os
  pub count_is : length os ≡ count
  pub whole : words ≡ processor_words os ++ rest

-- a partition that runs, by words that begin with its own
abbrev pub read_occupant : List ℕ → Occupant
read_occupant ws = record {
  name = slice_index ws 0;
  ctx = record {
    pc = slice_index ws 1;
    regs = take (slice_index ws 2) (drop 3 ws) ++ replicate (16 - slice_index ws 2) 0;
  };
}

-- words hold as many registers as they say, and no more than there are
pub record HoldRegisters (ws : List ℕ) : Type 0 where
  pub some : 3 ≤ length ws
  pub few : slice_index ws 2 ≤ 16
  pub there : 3 + slice_index ws 2 ≤ length ws
