-- Keys of moments: how many turns were made, what runs on the processors, and the words that are others than at first.
use Rattle.std.specs.Prelude.{◌≡◌, ℕ, zero, suc, ◌+◌, List, [], ◌∷◌, ◌++◌, length, take}
use Rattle.std.specs.Prelude.{Option, Some, None}
use Rattle.pip_base.specs.Memory.{Memory}
use Rattle.pip_every.specs.Changes.{changes}
use Rattle.pip_model.specs.declared.processors.Occupant.{Occupant}
use Rattle.pip_search.specs.Systems.{Model}
use Rattle.pip_switch.specs.Rewinding.{rewritten}
use Rattle.pip_switch.specs.Standing.{StandsFor}
use Rattle.pip_every.specs.Moments.{Moment, Scope, moment_after, choice_label}

-- how many there are before the zeros at the end, of a number and others, of which there are k before them
abbrev pub used_with : ℕ → ℕ → ℕ
used_with zero zero = 0
used_with zero (suc k) = suc (suc k)
used_with (suc n) k = suc k

-- how many numbers there are before the zeros at the end
abbrev pub used : List ℕ → ℕ
used [] = 0
used (n ∷ ns) = used_with n (used ns)

-- what runs on a processor, in words: 0 where nothing does, else its name, its pc, and its registers up to the last one
-- that isn't 0, after how many these are
abbrev pub running_words : Option Occupant → List ℕ
running_words None = 0 ∷ []
running_words (Some r) = r.name ∷ r.ctx.pc ∷ used r.ctx.regs ∷ take (used r.ctx.regs) r.ctx.regs

-- and so on each processor
abbrev pub processor_words : List (Option Occupant) → List ℕ
processor_words [] = []
processor_words (o ∷ os) = running_words o ++ processor_words os

-- the key: the turns, the words of the processors, and the words of a memory that are others than at first
abbrev pub key_words : Memory → ℕ → List (Option Occupant) → Memory → List ℕ
key_words first turns cpus memory = turns ∷ (processor_words cpus ++ changes first memory)

-- words are those of a memory that are others than at first: with them over the first ones it is that memory
pub record AreChanged (first : Memory) (words : List ℕ) : Type 0 where
  pub memory : Memory
  pub frames : length memory ≡ length first
  pub are : words ≡ changes first memory
  pub whole : rewritten first words ≡ memory

-- a moment has this key, whatever its caches hold: some memory lays out its tree, and the key is of that memory
pub record IsKeyOf (first : Memory) (g : Scope) (key : List ℕ) (m : Moment) : Type 0 where
  pub memory : Memory
  pub stands : StandsFor memory m.world.cpus m.world
  pub frames : length memory ≡ length first
  pub cpus : length m.world.cpus ≡ g.cpus
  pub whole : key ≡ key_words first m.turns m.world.cpus memory

-- the system of states that is searched: its states are moments
abbrev pub model_of : Memory → Scope → Model
model_of first g = record {
  State = Moment;
  choices = g.cpus + length g.lines;
  act = moment_after g;
  label = choice_label g;
  stands = IsKeyOf first g;
}
