-- One turn of a processor at step t, as a list of acts: it polls, fetches and runs one instruction.
use Rattle.std.specs.Prelude.{ℕ, List, [], ◌∷◌, ◌++◌, Option, Some, None, codes, decimal, slice_index}
use Rattle.pip_base.specs.Status.{status_number}
use Rattle.pip_base.specs.declared.types.Ctx.{Ctx}
use Rattle.pip_base.specs.declared.outcome.Outcome.{Outcome}
use Rattle.pip_base.specs.declared.outcome.Outcome.TheVariants as O
use Rattle.pip_model.specs.Acts.{Act, Makes, Writes}
use Rattle.pip_model.specs.Answers.{Five}
use Rattle.pip_model.specs.Effects.{with_link, at_next, with_register, word_effect}
use Rattle.pip_model.specs.Events as E
use Rattle.pip_model.specs.Events.{Event}
use Rattle.pip_model.specs.Happens.{event}
use Rattle.pip_model.specs.InstrRead.{instr_of}
use Rattle.pip_model.specs.Text.{word_text}
use Rattle.pip_model.specs.Worlds.{World, runs_on}
use Rattle.pip_model.specs.declared.effect.Effect.{Effect}
use Rattle.pip_model.specs.declared.effect.Effect.TheVariants as F
use Rattle.pip_model.specs.declared.processors.Occupant.{Occupant}
use Rattle.pip_model.specs.declared.turn_end.TurnEnd.{TurnEnd}
use Rattle.pip_model.specs.declared.turn_end.TurnEnd.TheVariants as N

-- ---- the lines of the trace

-- a line begins with the step and the processor
abbrev pub head : ℕ → ℕ → List ℕ
head t cpu = decimal t ++ codes " " ++ decimal cpu

-- the end of a line: control went from one partition to another, for vector k
abbrev pub switch_text : ℕ → ℕ → ℕ → List ℕ
switch_text from to k =
    codes " switch " ++ decimal from ++ codes " " ++ decimal to ++ codes " " ++ decimal k ++ codes "\n"

-- the end of a line: a partition was parked, for vector k
abbrev pub park_text : ℕ → ℕ → List ℕ
park_text from k = codes " park " ++ decimal from ++ codes " " ++ decimal k ++ codes "\n"

-- the line of a poll, a fetch, a load, a store or a trap, by its outcome: it has no bytes where control stayed
abbrev pub moved_line : ℕ → ℕ → Outcome → List ℕ
moved_line t cpu (O.Switched from to k) = head t cpu ++ switch_text from to k
moved_line t cpu (O.Parked from k) = head t cpu ++ park_text from k
moved_line t cpu _ = []

-- the line of a call by its outcome: it replies or switches
abbrev pub call_line : ℕ → ℕ → ℕ → Outcome → List ℕ
call_line t cpu n (O.Reply s v) = head t cpu ++ codes " call " ++ decimal n ++ codes " reply "
    ++ decimal (status_number s) ++ codes " " ++ word_text v ++ codes "\n"
call_line t cpu n (O.Switched from to k) = head t cpu ++ codes " call " ++ decimal n ++ switch_text from to k
call_line t cpu n _ = []

-- the line of a word that is shown
abbrev pub out_line : ℕ → ℕ → ℕ → List ℕ
out_line t cpu v = head t cpu ++ codes " out " ++ word_text v ++ codes "\n"

-- ---- the acts of an effect

-- what an event answers
abbrev pub outcome_of : World → Event → Outcome
outcome_of w e = (event w e).outcome

-- the world after an event
abbrev pub world_of : World → Event → World
world_of w e = (event w e).world

-- the acts after a load and a store: only where it gave a word or was done do the registers and pc change
abbrev pub load_acts : ℕ → ℕ → Ctx → ℕ → Outcome → List Act
load_acts t cpu x a (O.Word v) = Makes (E.SetContext cpu (with_register x a v)) ∷ []
load_acts t cpu x a o = Writes (moved_line t cpu o) ∷ []

-- the acts after a store: only where it was done does the pc go on
abbrev pub store_acts : ℕ → ℕ → Ctx → Outcome → List Act
store_acts t cpu x O.Done = Makes (E.SetContext cpu (at_next x)) ∷ []
store_acts t cpu x o = Writes (moved_line t cpu o) ∷ []

-- the act after another event that may move control
abbrev pub move_acts : ℕ → ℕ → Outcome → List Act
move_acts t cpu o = Writes (moved_line t cpu o) ∷ []

-- a call has its arguments in r1 to r5
abbrev pub arguments : Ctx → Five
arguments x = record {
  x0 = slice_index x.regs 1;
  x1 = slice_index x.regs 2;
  x2 = slice_index x.regs 3;
  x3 = slice_index x.regs 4;
  x4 = slice_index x.regs 5;
}

-- an effect on a processor that runs with the context x. Where pc has to go on, it does so by one SetContext:
-- before a call and an interrupt, after a word that is shown
abbrev pub effect_acts : World → ℕ → ℕ → Ctx → Effect → List Act
effect_acts w t cpu x (F.Sets a v) = Makes (E.SetContext cpu (with_register x a v)) ∷ []
effect_acts w t cpu x (F.Goes pc) = Makes (E.SetContext cpu (record x { pc = pc })) ∷ []
effect_acts w t cpu x (F.Links a pc) = Makes (E.SetContext cpu (with_link x a pc)) ∷ []
effect_acts w t cpu x (F.Loads a va size) =
    Makes (E.Load cpu va size) ∷ load_acts t cpu x a (outcome_of w (E.Load cpu va size))
effect_acts w t cpu x (F.Stores va v size) =
    Makes (E.Store cpu va size v) ∷ store_acts t cpu x (outcome_of w (E.Store cpu va size v))
effect_acts w t cpu x (F.Traps k a b) = Makes (E.Trap cpu k a b) ∷ move_acts t cpu (outcome_of w (E.Trap cpu k a b))
effect_acts w t cpu x (F.Interrupts k) = Makes (E.SetContext cpu (at_next x)) ∷ Makes (E.Trap cpu k 0 0)
    ∷ move_acts t cpu (outcome_of (world_of w (E.SetContext cpu (at_next x))) (E.Trap cpu k 0 0))
effect_acts w t cpu x (F.Calls n) = Makes (E.SetContext cpu (at_next x)) ∷ Makes (E.Call cpu n (arguments x))
    ∷ Writes (call_line t cpu n (outcome_of (world_of w (E.SetContext cpu (at_next x))) (E.Call cpu n (arguments x))))
    ∷ []
effect_acts w t cpu x (F.Shows v) = Writes (out_line t cpu v) ∷ Makes (E.SetContext cpu (at_next x)) ∷ []

-- ---- a turn

-- the word v was fetched: what runs there does what the word says. (None does not come: a fetch gave a word)
abbrev pub word_acts : World → ℕ → ℕ → ℕ → Option Occupant → List Act
word_acts w t cpu v None = []
word_acts w t cpu v (Some r) = effect_acts w t cpu r.ctx (word_effect r.ctx v (instr_of v))

-- by the outcome of the fetch: where it gave no word the turn ends
abbrev pub acts_after_fetch : World → ℕ → ℕ → Outcome → List Act
acts_after_fetch w t cpu (O.Word v) = word_acts w t cpu v (runs_on w cpu)
acts_after_fetch w t cpu o = move_acts t cpu o

-- the acts of a fetch and of what comes of it
abbrev pub fetch_acts : World → ℕ → ℕ → List Act
fetch_acts w t cpu =
    Makes (E.Fetch cpu) ∷ acts_after_fetch (world_of w (E.Fetch cpu)) t cpu (outcome_of w (E.Fetch cpu))

-- by the outcome of the poll: where it switched, or nothing runs, the turn ends
abbrev pub acts_after_poll : World → ℕ → ℕ → Outcome → List Act
acts_after_poll w t cpu (O.Switched from to k) = move_acts t cpu (O.Switched from to k)
acts_after_poll w t cpu O.Idle = []
acts_after_poll w t cpu o = fetch_acts w t cpu

-- a turn of a processor at step t: it polls, fetches, and does what the instruction says
abbrev pub turn : World → ℕ → ℕ → List Act
turn w cpu t = Makes (E.Poll cpu) ∷ acts_after_poll (world_of w (E.Poll cpu)) t cpu (outcome_of w (E.Poll cpu))

-- how a turn ends
abbrev pub fetched_end : Outcome → TurnEnd
fetched_end (O.Word v) = N.Ran
fetched_end o = N.Fetched o

-- how a turn ends, by the outcome of its poll
abbrev pub polled_end : World → ℕ → Outcome → TurnEnd
polled_end w cpu (O.Switched from to k) = N.Polled (O.Switched from to k)
polled_end w cpu O.Idle = N.Polled O.Idle
polled_end w cpu o = fetched_end (outcome_of w (E.Fetch cpu))

-- how a processor's turn ends
abbrev pub turn_end : World → ℕ → TurnEnd
turn_end w cpu = polled_end (world_of w (E.Poll cpu)) cpu (outcome_of w (E.Poll cpu))
