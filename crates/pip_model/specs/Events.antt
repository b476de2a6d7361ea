-- The events of a machine. Cited as E.Load and so on where an access's kind is beside them.
use Rattle.std.specs.Prelude.{ℕ, ◌^◌, ◌<◌}
use Rattle.std.specs.List.{AllByRecursion}
use Rattle.pip_base.specs.declared.types.Ctx.{Ctx}
use Rattle.pip_base.specs.declared.types.Size.{Size}
use Rattle.pip_base.specs.declared.types.Size.TheVariants.{Byte, Word}
use Rattle.pip_model.specs.Answers.{Five, list_of}
use Rattle.pip_model.specs.Sound.{IsWord, IsContext}

-- each on a processor, but for Raise: a line becomes pending in the root. SetContext gives what runs
-- there another context
pub data Event : Type 0 where
  Load : (cpu va : ℕ) → Size → Event
  Store : (cpu va : ℕ) → Size → (word : ℕ) → Event
  Fetch : (cpu : ℕ) → Event
  Trap : (cpu k a b : ℕ) → Event
  Call : (cpu number : ℕ) → Five → Event
  Raise : (j : ℕ) → Event
  Poll : (cpu : ℕ) → Event
  SetContext : (cpu : ℕ) → Ctx → Event

-- what a store may write
abbrev pub below_of : Size → ℕ
below_of Byte = 256
below_of Word = 2 ^ 32

-- The numbers of an event are words: a vector is below 256, a line below 16
abbrev pub IsEvent : Event → Type 0
IsEvent (Load cpu va size) = IsWord va
IsEvent (Store cpu va size word) = IsWord va × (word < below_of size)
IsEvent (Fetch cpu) = Unit {0}
IsEvent (Trap cpu k a b) = (k < 256) × IsWord a × IsWord b
IsEvent (Call cpu number a) = IsWord number × AllByRecursion IsWord (list_of a)
IsEvent (Raise j) = j < 16
IsEvent (Poll cpu) = Unit {0}
IsEvent (SetContext cpu c) = IsContext c
