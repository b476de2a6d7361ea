-- That every input of a program is answered, whatever is due of it.
use Rattle.std.specs.Prelude.{◌≡◌, ℕ, ◌⊎◌, Option}
use Rattle.std.specs.Option.{IsSomeAnd}
use Rattle.pip_io.specs.Causes.{RoseByOne}
use Rattle.pip_switch.specs.Standing.{State}
use Rattle.pip_command_contracts.specs.EndsBy.{Due, EndsBy, IsOfAnswer, IsWithin}
use Rattle.pip_command_contracts.specs.Streams.{Streams}

-- an input that is told and within the limit is answered, or there was no memory, where no read and no write failed
abbrev pub AreInputsAnswered : {C : Type 0} → (C → Due) → Type 0
AreInputsAnswered {C} due_of = (c : C) (code : ℕ) (p : Option State) (a b : Streams) → EndsBy (due_of c) code p a b
    → IsSomeAnd a.left (IsWithin (due_of c).limit) → (RoseByOne a.reads b.reads → ⊥) → (RoseByOne a.writes b.writes → ⊥)
    → IsOfAnswer code ⊎ (code ≡ 5)
