-- What a run shows, and the machine after it.
use Rattle.std.specs.Prelude.{ℕ, Result, MatchResult}
use Rattle.pip_io.specs.Taken.{Taken, Appends, AppendsPart, SendsPart}
use Rattle.pip_model.specs.Images.{Image}
use Rattle.pip_switch.specs.Standing.{StandsAs, State}
use Rattle.pip_commands.specs.Dues.{last_world, shown}
use Rattle.pip_commands.specs.declared.commands.run.report.Report.{Report}

-- at Ok the text was taken, and the machine stands for the last world; at Err a part of the text was taken
abbrev pub ShowsReport : {T E : Type 0} → Result T E → Report → Image → ℕ → ℕ → Taken → Taken → State → Type 0
ShowsReport result r i count seed before after p = MatchResult result
    (λ v. Appends before after (shown r i count seed) × StandsAs p (last_world r i count seed))
    (λ e. AppendsPart before after (shown r i count seed))

-- all of the text went out at Ok, and a part at Err
abbrev pub ShowsOut : {T E : Type 0} → Result T E → Report → Image → ℕ → ℕ → Taken → Taken → State → Type 0
ShowsOut result r i count seed before after p = MatchResult result
    (λ v. Appends before after (shown r i count seed) × StandsAs p (last_world r i count seed))
    (λ e. SendsPart before after (shown r i count seed))
