-- What a machine makes of a line.
use Rattle.std.specs.Prelude.{◌≡◌, Option, Some, None}
use Rattle.pip_model.specs.Script.{Verdict, quiet, says, verdict_in}
use Rattle.pip_model.specs.Worlds.{World}
use Rattle.pip_model.specs.declared.script.Said.{Said}
use Rattle.pip_model.specs.declared.script.ScriptLine.{ScriptLine}

-- by what the model says of the line: nothing is said and the world stays, or just this is said and the next world
-- is one for which the machine stands
abbrev pub RepliesBy : Verdict → World → Option Said → (World → Type 0) → Type 0
RepliesBy quiet w None after = after w
RepliesBy (says s v) w (Some said) after = (said ≡ s) × after v
RepliesBy _ w said after = ⊥

-- a line was run in a world: this is said, and the machine stands for the world after it
abbrev pub RepliesIn : World → ScriptLine → Option Said → (World → Type 0) → Type 0
RepliesIn w line said after = RepliesBy (verdict_in w line) w said after

-- a line was run that may not be in the grammar: then nothing is said and the world stays; blank ones aside
abbrev pub RepliesTo : World → Option ScriptLine → Option Said → (World → Type 0) → Type 0
RepliesTo w None None after = after w
RepliesTo w (Some line) (Some said) after = RepliesIn w line (Some said) after
RepliesTo _ _ _ _ = ⊥
