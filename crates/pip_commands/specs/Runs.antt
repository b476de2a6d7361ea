-- What running a line of a script does.
use Rattle.std.specs.Prelude.{◌≡◌, ℕ, List, [], Option, None, Some}
use Rattle.pip_io.specs.Taken.{Taken, Appends, AppendsPart, Keeps}
use Rattle.pip_model.specs.Grammar.{line_meaning}
use Rattle.pip_model.specs.Script.{Verdict, quiet, says, bad}
use Rattle.pip_model.specs.Text.{judge, line_text, said_text}
use Rattle.pip_model.specs.Worlds.{World}
use Rattle.pip_model.specs.declared.script.Said.{Said}
use Rattle.pip_model.specs.declared.script.ScriptLine.TheVariants as L
use Rattle.pip_switch.specs.Standing.{State}
use Rattle.pip_command_contracts.specs.Machines.{StandsIfAny}
use Rattle.pip_commands.specs.declared.commands.script.line.ScriptLineError.{ScriptLineError}
use Rattle.pip_commands.specs.declared.commands.script.line.ScriptLineError.TheVariants.{Bad, Write, Memory}

-- a line with this verdict leads from a world to another with this text
abbrev pub LeadsBy : Verdict → Option World → List ℕ → Option World → Type 0
LeadsBy quiet v text v' = (text ≡ []) × (v' ≡ v)
LeadsBy (says said w) v text v' = (text ≡ line_text (said_text said)) × (v' ≡ Some w)
LeadsBy bad v text v' = ⊥

-- a line was run from world v on, and led to a world of which this holds
pub record RunsTo (v : Option World) (line : List ℕ)
    (before after : Taken) (holds : Option World → Type 0) : Type 0 where
  pub text : List ℕ
  pub world : Option World
  pub leads : LeadsBy (judge v line) v text world
  pub wrote : Appends before after text
  pub stands : holds world

-- to one for which the machine stands
abbrev pub Runs : Option World → List ℕ → Taken → Taken → Option State → Type 0
Runs v line before after machine = RunsTo v line before after (StandsIfAny machine)

-- and over any machine, to one of those
abbrev pub OfSome : (World → Type 0) → Option World → Type 0
OfSome stands None = ⊥
OfSome stands (Some w) = stands w

-- a line was run in this world, and the machine stands for the world after it
abbrev pub RunsIn : World → List ℕ → Taken → Taken → (World → Type 0) → Type 0
RunsIn w line before after stands = RunsTo (Some w) line before after (OfSome stands)

-- a good boot line
pub record Boots (line : List ℕ) : Type 0 where
  pub frames : ℕ
  pub cpus : ℕ
  pub meaning : line_meaning 0 line ≡ Some (L.Boot frames cpus)

-- an answer was due, and a part of it was taken
pub record IsCutShort (v : Option World) (line : List ℕ) (before after : Taken) : Type 0 where
  pub said : Said
  pub world : World
  pub verdict : judge v line ≡ says said world
  pub wrote : AppendsPart before after (line_text (said_text said))

-- a line was not run to its end
abbrev pub Stopped : ScriptLineError → Option World → List ℕ → Taken → Taken → Type 0
Stopped Bad v line before after = (judge v line ≡ bad) × Keeps before after
Stopped Write v line before after = IsCutShort v line before after
Stopped Memory v line before after = (v ≡ None) × Boots line × Keeps before after
