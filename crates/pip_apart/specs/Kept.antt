-- A test of a turn by what runs on its processor before and after it.
use Rattle.std.specs.Prelude.{◌≡◌, ◌≢◌, ℕ, ◌==◌, ◌&&◌, Bool, true, false, not, Option, Some, None, slice_index}
use Rattle.pip_base.specs.declared.outcome.Outcome.{Outcome}
use Rattle.pip_base.specs.declared.outcome.Outcome.TheVariants as O
use Rattle.pip_model.specs.Acts.{after_acts}
use Rattle.pip_model.specs.Effects.{word_effect}
use Rattle.pip_model.specs.Events as E
use Rattle.pip_model.specs.Happens.{call_named}
use Rattle.pip_model.specs.InstrRead.{instr_of}
use Rattle.pip_model.specs.Turn.{outcome_of, turn}
use Rattle.pip_model.specs.Worlds.{IsSoundWorld, World, runs_on}
use Rattle.pip_model.specs.declared.call_name.CallName.{CallName}
use Rattle.pip_model.specs.declared.call_name.CallName.TheVariants.{Masks, OnMemory, Unknown, Yields}
use Rattle.pip_model.specs.declared.effect.Effect.{Effect}
use Rattle.pip_model.specs.declared.effect.Effect.TheVariants as F
use Rattle.pip_model.specs.declared.processors.Occupant.{Occupant}
use Rattle.pip_guests.specs.Guests.{PollsInVain}
use Rattle.pip_guests.specs.Programs.{IsInsideTurn}
use Rattle.pip_apart.specs.Company.{runs_below}

-- the call is a yield
abbrev pub is_yield : CallName → Bool
is_yield (OnMemory c) = false
is_yield Yields = true
is_yield (Masks b) = false
is_yield Unknown = false

-- an instruction yields
abbrev pub yields_by : Effect → Bool
yields_by (F.Sets a v) = false
yields_by (F.Goes pc) = false
yields_by (F.Links a pc) = false
yields_by (F.Loads a va z) = false
yields_by (F.Stores va v z) = false
yields_by (F.Traps k a b) = false
yields_by (F.Interrupts k) = false
yields_by (F.Calls n) = is_yield (call_named n)
yields_by (F.Shows v) = false

-- what runs is p, with 0 in r1, and the word that it fetches is a yield: one to its parent
abbrev pub asks_by : ℕ → Option Occupant → Outcome → Bool
asks_by p (Some r) (O.Word v) =
    (r.name == p && slice_index r.ctx.regs 1 == 0) && yields_by (word_effect r.ctx v (instr_of v))
asks_by p (Some r) O.Done = false
asks_by p (Some r) (O.Reply s v) = false
asks_by p (Some r) (O.Switched from to k) = false
asks_by p (Some r) (O.Parked from k) = false
asks_by p (Some r) O.Idle = false
asks_by p None o = false

-- in its next turn p would yield to its parent
abbrev pub asks_next : ℕ → World → ℕ → Bool
asks_next p w cpu = asks_by p (runs_on w cpu) (outcome_of w (E.Fetch cpu))

-- the guest runs on the processor before its turn and after it, and does not yield to p's parent
abbrev pub is_kept : ℕ → World → ℕ → Bool
is_kept p w cpu = runs_below w p cpu
    && (not (asks_next p w cpu) && runs_below (after_acts w (turn w cpu 0)) p cpu)

-- such a turn stays inside, if its poll is in vain
abbrev pub KeptTurnsStay : Type 0
KeptTurnsStay = (p : ℕ) (w : World) (cpu t : ℕ) → IsSoundWorld w → p ≢ w.tree.root.name → PollsInVain w cpu
    → is_kept p w cpu ≡ true → IsInsideTurn p w cpu t

-- and one that stays inside asks no parent
abbrev pub InsideTurnsAskNot : Type 0
InsideTurnsAskNot = (p : ℕ) (w : World) (cpu t : ℕ) → IsSoundWorld w → IsInsideTurn p w cpu t
    → asks_next p w cpu ≡ false
