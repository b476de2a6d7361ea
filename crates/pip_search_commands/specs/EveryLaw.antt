-- That `every` has one answer to an image, and that its lines are those of runs.
use Rattle.std.specs.Prelude.{◌≡◌, ◌≢◌, ℕ, ◌⊎◌, List, [], ◌++◌, Option, codes, decimal}
use Rattle.pip_model.specs.Acts.{text_of}
use Rattle.pip_model.specs.Images.{Image}
use Rattle.pip_model.specs.Turn.{turn}
use Rattle.pip_model.specs.Worlds.{World}
use Rattle.pip_every.specs.Texts.{inner}
use Rattle.pip_search_commands.specs.MenuText.{no_menu}
use Rattle.pip_search_commands.specs.SearchDues.{IsSearchedAgainst}
use Rattle.pip_command_contracts.specs.EndsBy.{Response}
use Rattle.pip_search_commands.specs.declared.start.Start.{Start}

-- what can happen to an image has one text, by the words of the command line
abbrev pub SearchesSayOnce : Type 0
SearchesSayOnce = (states from : ℕ) (depth : Option ℕ) (start : Start) (i : Image) (v u : Response)
    → IsSearchedAgainst no_menu states from depth start i v → IsSearchedAgainst no_menu states from depth start i u → v
    ≡ u

-- neither is a line; or the one is a line at step 0, and the other has the step t in its place
abbrev pub IsLineAt : ℕ → List ℕ → List ℕ → Type 0
IsLineAt t label line = ((label ≡ []) × (line ≡ []))
    ⊎ ((label ≢ []) × (line ≡ decimal t ++ inner label ++ codes "\n"))

-- what is written of a label is the line that its turn has in a run at that step
abbrev pub LinesAreOfRuns : Type 0
LinesAreOfRuns = (w : World) (cpu t : ℕ) → IsLineAt t (text_of (turn w cpu 0)) (text_of (turn w cpu t))
