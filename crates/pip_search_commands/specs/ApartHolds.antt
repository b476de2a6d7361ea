-- What the text of `apart` says of each guest: if its last line is `apart yes`, each does exactly what it does alone.
use Rattle.std.specs.Prelude.{ℕ, ◌<◌, List, None}
use Rattle.std.specs.List.{AllByRecursion}
use Rattle.pip_apart.specs.Company.{slots_of}
use Rattle.pip_apart.specs.Tops.{tops}
use Rattle.pip_base.specs.declared.types.Plan.{Plan}
use Rattle.pip_command_contracts.specs.EndsBy.{plainly}
use Rattle.pip_guests.specs.Programs.{IsRunAsAlone, Slot}
use Rattle.pip_model.specs.Images.{Image}
use Rattle.pip_model.specs.Lists.{In}
use Rattle.pip_model.specs.RunTexts.{stepped_world}
use Rattle.pip_search_commands.specs.ApartLaw.{SaysYes}
use Rattle.pip_search_commands.specs.SearchDues.{IsFoundApart}

-- whatever turns processors have after those steps, in whatever order and with whatever lines raised, each guest has
-- the turns that it has alone, and is in the end as it is alone
abbrev pub YesGuestsHold : Type 0
YesGuestsHold = (states count seed : ℕ) (i : Image) (text : List ℕ) (plans : List Plan) (ss : List Slot)
    → IsFoundApart states count seed i (plainly 0 text None) → SaysYes text → AllByRecursion (λ p. p.line < 16) plans
    → (p : ℕ) → In p (tops (stepped_world i count seed))
    → IsRunAsAlone plans p (stepped_world i count seed) ss (slots_of (stepped_world i count seed) p ss)
