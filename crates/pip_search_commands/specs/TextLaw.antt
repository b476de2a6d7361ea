-- What the last lines of `every` and of `against` say: where one ends with `closed`, the text names all that can come.
use Rattle.std.specs.Prelude.{◌≡◌, ◌≢◌, ℕ, ◌≤◌, false, List, [], ◌++◌, Option, Some, None, codes, drop, flat_map}
use Rattle.std.specs.Prelude.{slice_get}
use Rattle.pip_away.specs.Blind.{leaves_out}
use Rattle.pip_base.specs.declared.types.Plan.{Plan}
use Rattle.pip_command_contracts.specs.EndsBy.{plainly}
use Rattle.pip_command_contracts.specs.Planned.{lines_planned}
use Rattle.pip_every.specs.Again.{shown_line}
use Rattle.pip_every.specs.Menus.{menu_model, usual_choices}
use Rattle.pip_model.specs.Acts.{text_of}
use Rattle.pip_model.specs.Images.{Image}
use Rattle.pip_search.specs.Again.{CanComeAgain}
use Rattle.pip_search.specs.Summary.{IsShownOn}
use Rattle.pip_search_commands.specs.ApartLaw.{HasLineOf}
use Rattle.pip_search_commands.specs.MenuText.{MenuSaid, no_menu}
use Rattle.pip_search_commands.specs.RunLaw.{AreLinesOf, ArePlansFrom, steps_from}
use Rattle.pip_search_commands.specs.SearchDues.{IsSearchedAgainst, begun_moment, image_menu}
use Rattle.pip_search_commands.specs.declared.start.Start.{Start}

-- the last line of a text ends so
abbrev pub EndsSo : List ℕ → List ℕ → Type 0
EndsSo text end = (front : List ℕ) × (text ≡ front ++ (end ++ codes "\n"))

-- where the last line of `every` ends with `closed`, each line of any number of steps from there on, by any seed and
-- with any plans of the image's lines that raise none in the first `from` of these steps, is but for its step a line of
-- the text
abbrev pub ClosedTextsNameRuns : Type 0
ClosedTextsNameRuns = (states from : ℕ) (most : Option ℕ) (start : Start) (i : Image) (text : List ℕ)
    → IsSearchedAgainst no_menu states from most start i (plainly 0 text None) → EndsSo text (codes " closed")
    → (plans : List Plan) (seed n : ℕ) → ArePlansFrom (lines_planned i.plans) start.count from plans
    → AreLinesOf (HasLineOf text) start.count n (text_of (steps_from i start plans seed n))

-- where the last line of `against` does, with a menu that asks nothing, whatever is shown by any choices has a line of
-- the text: turns, lines, and deeds of the menu on any processor
abbrev pub ClosedTextsNameMenus : Type 0
ClosedTextsNameMenus = (menu : MenuSaid) (states from : ℕ) (most : Option ℕ) (start : Start) (i : Image)
    (text : List ℕ) (s : IsSearchedAgainst menu states from most start i (plainly 0 text None)) → menu.again ≡ []
    → menu.comes ≡ [] → leaves_out menu.out ≡ false → EndsSo text (codes " closed") → (label choices : List ℕ)
    → label ≢ []
    → IsShownOn (menu_model s.first (image_menu i from menu.may)) (begun_moment i start) label choices
    → HasLineOf text label

-- the line that says of a label that it can come again
abbrev pub comes_again_line : List ℕ → List ℕ
comes_again_line label = codes "again " ++ label ++ codes ": yes\n"

-- where the last lines say so of the labels from number j on, with a menu that asks only whether labels can come again,
-- each of these can, from every state to which any choices lead
abbrev pub YesTextsComeAgain : Type 0
YesTextsComeAgain = (menu : MenuSaid) (states from : ℕ) (most : Option ℕ) (start : Start) (i : Image)
    (text front : List ℕ) (s : IsSearchedAgainst menu states from most start i (plainly 0 text None)) (j k : ℕ)
    (label : List ℕ) → menu.comes ≡ [] → leaves_out menu.out ≡ false
    → text ≡ front ++ flat_map comes_again_line (drop j menu.again) → j ≤ k → slice_get menu.again k ≡ Some label
    → CanComeAgain (menu_model s.first (image_menu i from menu.may))
    (usual_choices (image_menu i from menu.may)) (begun_moment i start) (shown_line label)
