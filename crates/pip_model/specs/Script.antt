-- What a line of a script does, in a world or before there is one.
use Rattle.std.specs.Prelude.{ℕ, Option, Some, None, option_map}
use Rattle.pip_model.specs.declared.script.Said.{Said}
use Rattle.pip_model.specs.declared.script.Said.TheVariants.{Booted, Came, Peeked, Shown}
use Rattle.pip_model.specs.declared.script.ScriptLine.{ScriptLine}
use Rattle.pip_model.specs.declared.script.ScriptLine.TheVariants as L
use Rattle.pip_model.specs.Answers.{five_of}
use Rattle.pip_model.specs.Views.{peek_word, register_or_pc}
use Rattle.pip_model.specs.Events as E
use Rattle.pip_model.specs.Events.{Event}
use Rattle.pip_model.specs.Happens.{event}
use Rattle.pip_model.specs.Worlds.{World, Happened, nothing, runs_on, boot_world}
use Rattle.pip_model.specs.declared.processors.Occupant.{Occupant}

-- a line has no answer, it has one and leaves a world, or it is bad
pub data Verdict : Type 0 where
  quiet : Verdict
  says : Said → World → Verdict
  bad : Verdict

-- the verdict on a line that is an event
abbrev pub happens : Happened → Verdict
happens h = says (Came h.outcome) h.world

-- what runs on cpu goes on at va, all else of its context as it is
abbrev pub with_pc : World → ℕ → ℕ → Option Occupant → Happened
with_pc w cpu va None = nothing w
with_pc w cpu va (Some r) = event w (E.SetContext cpu (record r.ctx { pc = va }))

-- a line in a world
abbrev pub verdict_in : World → ScriptLine → Verdict
verdict_in w L.Blank = quiet
verdict_in w (L.Boot n c) = bad
verdict_in w (L.Load cpu va size) = happens (event w (E.Load cpu va size))
verdict_in w (L.Store cpu va size word) = happens (event w (E.Store cpu va size word))
verdict_in w (L.Fetch cpu) = happens (event w (E.Fetch cpu))
verdict_in w (L.Trap cpu vector a b) = happens (event w (E.Trap cpu vector a b))
verdict_in w (L.Call cpu number args) = happens (event w (E.Call cpu number (five_of args)))
verdict_in w (L.Raise line) = happens (event w (E.Raise line))
verdict_in w (L.Poll cpu) = happens (event w (E.Poll cpu))
verdict_in w (L.Peek frame index) = says (Peeked (peek_word w frame index)) w
verdict_in w (L.Reg cpu reg) = says (Shown (option_map (register_or_pc reg) (runs_on w cpu))) w
verdict_in w (L.SetPc cpu va) = happens (with_pc w cpu va (runs_on w cpu))

-- a line before there is a world
abbrev pub verdict_first : ScriptLine → Verdict
verdict_first L.Blank = quiet
verdict_first (L.Boot n c) = says (Booted n c) (boot_world n c)
verdict_first (L.Load cpu va size) = bad
verdict_first (L.Store cpu va size word) = bad
verdict_first (L.Fetch cpu) = bad
verdict_first (L.Trap cpu vector a b) = bad
verdict_first (L.Call cpu number args) = bad
verdict_first (L.Raise line) = bad
verdict_first (L.Poll cpu) = bad
verdict_first (L.Peek frame index) = bad
verdict_first (L.Reg cpu reg) = bad
verdict_first (L.SetPc cpu va) = bad

-- the verdict on a line, in a world or before there is one
abbrev pub verdict_on : Option World → ScriptLine → Verdict
verdict_on None line = verdict_first line
verdict_on (Some w) line = verdict_in w line
