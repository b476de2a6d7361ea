-- What a step of a transducer does.
use Rattle.std.specs.Prelude.{◌≡◌, ◌+◌, ◌<◌, ◌≤◌, ◌⊎◌, ℕ, Bool, true, false, List, [], length, take}
use Rattle.pip_io.specs.Due.{DueOf, LeadsAfter}
use Rattle.pip_io.specs.declared.transducer.Step.{Step}
use Rattle.pip_io.specs.declared.transducer.Step.TheVariants.{Read, Say, Write, End}

module _ {M V : Type 0} (due : M → DueOf V) (room parts : M → ℕ) (is_loose : Bool) (old new : M) (front : List ℕ)
    (ended : Bool) (text : List ℕ) where
  -- it wants n bytes more: nothing was taken or said, and the front has no answer yet
  pub record Wants (n : ℕ) : Type 0 where
    pub unended : ended ≡ false
    pub some : 0 < n
    pub fits : length front + n ≤ room new
    pub most : length front + n ≤ 16384
    pub none : text ≡ []
    pub leads : LeadsAfter (due old) (due new) [] []
    pub waits : (due new).so_far front []
    -- what was said before may still be on its way
    pub pending : is_loose ≡ true → (due new).midway front [] []
    pub no_more : parts new ≤ parts old

  -- that many bytes were taken, and the text is due for them
  pub record Takes (count : ℕ) : Type 0 where
    pub few : count ≤ length front
    pub rest : length front ≤ count + room new
    pub leads : LeadsAfter (due old) (due new) (take count front) text
    pub midway : (due old).midway front [] text
    pub fewer : parts new < parts old

  pub record Says (count : ℕ) : Type 0 where
    pub loose : is_loose ≡ true
    pub takes : Takes count

  -- the front has its answer
  pub record Answers (v : V) : Type 0 where
    pub is : (due old).answer front [] text v
    pub decided : (due old).enough front v ⊎ (ended ≡ true)

  abbrev pub Steps : Step V → Type 0
  Steps (Read n) = Wants n
  Steps (Say count) = Says count
  Steps (Write count) = Takes count
  Steps (End v) = Answers v
