-- What the numbers of every line in the grammar keep.
use Rattle.std.specs.Prelude.{◌≡◌, ℕ, ◌≤◌, ◌<◌}
use Rattle.pip_model.specs.declared.script.ScriptLine.{ScriptLine}
use Rattle.pip_model.specs.declared.script.ScriptLine.TheVariants as L
use Rattle.pip_model.specs.Events as E
use Rattle.pip_model.specs.Events.{IsEvent}
use Rattle.pip_model.specs.Answers.{five_of}
use Rattle.pip_model.specs.Sound.{IsWord}

-- a machine of n frames and c processors can begin
abbrev pub CanBoot : ℕ → ℕ → Type 0
CanBoot n c = (16 ≤ n) × (n ≤ 4096) × (1 ≤ c) × (c ≤ 4)

-- A line's processor is below cpus, and the numbers of its event are in their ranges. There is no processor
-- before the boot line, and one at least after it
abbrev pub IsProper : ℕ → ScriptLine → Type 0
IsProper cpus L.Blank = Unit {0}
IsProper cpus (L.Boot n c) = (cpus ≡ 0) × CanBoot n c
IsProper cpus (L.Load cpu va size) = (cpu < cpus) × IsEvent (E.Load cpu va size)
IsProper cpus (L.Store cpu va size word) = (cpu < cpus) × IsEvent (E.Store cpu va size word)
IsProper cpus (L.Fetch cpu) = cpu < cpus
IsProper cpus (L.Trap cpu vector a b) = (cpu < cpus) × IsEvent (E.Trap cpu vector a b)
IsProper cpus (L.Call cpu number args) = (cpu < cpus) × IsEvent (E.Call cpu number (five_of args))
IsProper cpus (L.Raise line) = (0 < cpus) × IsEvent (E.Raise line)
IsProper cpus (L.Poll cpu) = cpu < cpus
IsProper cpus (L.Peek frame index) = (0 < cpus) × IsWord frame × IsWord index
IsProper cpus (L.Reg cpu reg) = (cpu < cpus) × (reg ≤ 16)
IsProper cpus (L.SetPc cpu va) = (cpu < cpus) × IsWord va

-- a line that isn't blank is proper
abbrev pub IsProperEvent : ℕ → ScriptLine → Type 0
IsProperEvent cpus L.Blank = ⊥
IsProperEvent cpus line = IsProper cpus line
