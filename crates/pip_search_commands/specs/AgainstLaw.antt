-- That `against` has one answer to an input, and what a search with a menu that closed says of the menu.
use Rattle.std.specs.Prelude.{◌≡◌, ◌≢◌, ℕ, ◌⊎◌, List, [], ◌++◌, Option, None, Some, Ok, reverse, slice_get}
use Rattle.pip_every.specs.Again.{shown_line}
use Rattle.pip_every.specs.Comes.{IsAvoidedBy, own_classes}
use Rattle.pip_every.specs.Keys.{model_of}
use Rattle.pip_every.specs.Menus.{menu_model, usual_choices}
use Rattle.pip_every.specs.declared.again.Again.{Again}
use Rattle.pip_every.specs.declared.again.Again.TheVariants.{Can, Lost}
use Rattle.pip_every.specs.declared.comes.Comes.{Comes}
use Rattle.pip_every.specs.declared.comes.Comes.TheVariants as C
use Rattle.pip_model.specs.Images.{Image}
use Rattle.pip_search.specs.Again.{CanComeAgain, IsLost}
use Rattle.pip_search.specs.Comes.{MustCome}
use Rattle.pip_search.specs.Summary.{IsShownOn, IsTold}
use Rattle.pip_search.specs.Ways.{runs_of}
use Rattle.pip_search.specs.declared.searching.Extent.TheVariants.{Closed}
use Rattle.pip_search.specs.declared.ways.Run.{Run}
use Rattle.pip_search_commands.specs.SearchDues.{IsAgainstAnswer, IsSearchedAgainst, begun_moment, image_menu}
use Rattle.pip_search_commands.specs.SearchDues.{image_scope}
use Rattle.pip_search_commands.specs.SearchDues.{most_choices}
use Rattle.pip_command_contracts.specs.EndsBy.{Response, plainly}
use Rattle.pip_command_contracts.specs.ImageDues.{BeginsImage}
use Rattle.pip_command_contracts.specs.Planned.{lines_planned}
use Rattle.pip_search_commands.specs.EveryText.{comes_text}
use Rattle.pip_search_commands.specs.MenuText.{MenuSaid, menu_of}
use Rattle.pip_search_commands.specs.RunLaw.{IsNamedBy}
use Rattle.pip_search_commands.specs.declared.start.Start.{Start}

-- of a label one answer doesn't say that it comes, and the other that it is avoided
abbrev pub IsNoContradiction : Comes → Comes → Type 0
IsNoContradiction (C.Must counts) (C.Avoided way round) = ⊥
IsNoContradiction (C.Avoided way round) (C.Must counts) = ⊥
IsNoContradiction a b = Unit {0}

-- two answers differ at most in what they say of labels that may come, and don't contradict each other
pub record DifferInComing (i : Image) (menu : MenuSaid) (v u : Response) : Type 0 where
  pub front : List ℕ
  pub one : List Comes
  pub other : List Comes
  pub back : List ℕ
  pub first : v ≡ plainly 0 (front ++ (comes_text i.cpus (lines_planned i.plans) menu.comes one ++ back)) None
  pub second : u ≡ plainly 0 (front ++ (comes_text i.cpus (lines_planned i.plans) menu.comes other ++ back)) None
  pub agree : (j : ℕ) (label : List ℕ) (a b : Comes) → slice_get menu.comes j ≡ Some label → slice_get one j ≡ Some a
      → slice_get other j ≡ Some b → IsNoContradiction a b

-- two answers to an input, whose menu asks of some label whether it comes, differ at most in that
pub record AsksComing (input : List ℕ) (v u : Response) : Type 0 where
  pub begins : BeginsImage input
  pub menu : MenuSaid
  pub read : menu_of begins.after ≡ Ok menu
  pub some : menu.comes ≢ []
  pub differ : DifferInComing begins.parsed menu v u

-- an input has one answer, by the words of the command line, but for the numbers and ways that are said of labels of
-- which its menu asks whether they come
abbrev pub InputsSayOnce : Type 0
InputsSayOnce = (states from : ℕ) (depth : Option ℕ) (start : Start) (input : List ℕ) (v u : Response)
    → IsAgainstAnswer states from depth start input v → IsAgainstAnswer states from depth start input u
    → (v ≡ u) ⊎ AsksComing input v u

-- with a menu without deeds, as `every` searches, it is told of turns and lines alone
abbrev pub EmptyMenusSayEvery : Type 0
EmptyMenusSayEvery = (menu : MenuSaid) (states from : ℕ) (depth : Option ℕ) (start : Start) (i : Image) (v : Response)
    (s : IsSearchedAgainst menu states from depth start i v) → menu.may ≡ []
    → IsTold (model_of s.first (image_scope i from)) (begun_moment i start) (most_choices depth) states s.found s.count
    s.verdict

-- where a search closed, it names whatever is shown by any choices: turns, lines, and deeds of the menu on any
-- processor
abbrev pub ClosedNamesMenus : Type 0
ClosedNamesMenus = (menu : MenuSaid) (states from depth : ℕ) (most : Option ℕ) (start : Start) (i : Image)
    (v : Response) (s : IsSearchedAgainst menu states from most start i v) → s.verdict ≡ Closed depth
    → (label choices : List ℕ) → label ≢ []
    → IsShownOn (menu_model s.first (image_menu i from menu.may)) (begun_moment i start) label choices
    → IsNamedBy s.found label

-- where it says of a label that it can come again, turns and lines without deeds can show it from every state to which
-- any choices lead: turns, lines, and deeds of the menu on any processor
abbrev pub YesComesAgain : Type 0
YesComesAgain = (menu : MenuSaid) (states from : ℕ) (most : Option ℕ) (start : Start) (i : Image) (v : Response)
    (s : IsSearchedAgainst menu states from most start i v) (j : ℕ) (label : List ℕ) → slice_get menu.again j ≡ Some
    label
    → slice_get s.again j ≡ Some Can → CanComeAgain (menu_model s.first (image_menu i from menu.may))
    (usual_choices (image_menu i from menu.may)) (begun_moment i start) (shown_line label)

-- the way that is said, where a label can't come again
abbrev pub way_said : Again → Option (List Run)
way_said (Lost way) = Some way.items
way_said r = None

-- where it says of a label that it can't come again, these choices can be made, no turns and lines without deeds show
-- it after them, and after no way before theirs it is so
abbrev pub NoIsLost : Type 0
NoIsLost = (menu : MenuSaid) (states from : ℕ) (most : Option ℕ) (start : Start) (i : Image) (v : Response)
    (s : IsSearchedAgainst menu states from most start i v) (j : ℕ) (label : List ℕ) (r : Again) (runs : List Run)
    → slice_get menu.again j ≡ Some label → slice_get s.again j ≡ Some r → way_said r ≡ Some runs
    → (way : List ℕ) × ((runs ≡ reverse (runs_of way)) × IsLost (menu_model s.first (image_menu i from menu.may))
    (usual_choices (image_menu i from menu.may)) (begun_moment i start) (shown_line label) way)

-- the counts that are said, where a label comes
abbrev pub counts_said : Comes → Option (List ℕ)
counts_said (C.Must counts) = Some counts.items
counts_said r = None

-- the way and the loop that are said, where it may be avoided
abbrev pub loop_said : Comes → Option (List Run × List Run)
loop_said (C.Avoided way round) = Some (way.items, round.items)
loop_said r = None

-- where it says of a label within how many windows it comes, it does, from every state to which any choices lead,
-- whatever is chosen next, deeds too, if among as many choices in a row as a window says is a turn of its processor, or
-- its line
abbrev pub YesComes : Type 0
YesComes = (menu : MenuSaid) (states from : ℕ) (most : Option ℕ) (start : Start) (i : Image) (v : Response)
    (s : IsSearchedAgainst menu states from most start i v) (j : ℕ) (label : List ℕ) (r : Comes) (counts : List ℕ)
    → slice_get menu.comes j ≡ Some label → slice_get s.comes j ≡ Some r → counts_said r ≡ Some counts
    → MustCome (menu_model s.first (image_menu i from menu.may))
    (own_classes (usual_choices (image_menu i from menu.may))) (begun_moment i start) (shown_line label) counts

-- where it says that a label may not come, the choices of the way can be made, and after them those of the loop over
-- and over, with a turn of each processor and each line, and the loop never shows it
abbrev pub NoIsAvoided : Type 0
NoIsAvoided = (menu : MenuSaid) (states from : ℕ) (most : Option ℕ) (start : Start) (i : Image) (v : Response)
    (s : IsSearchedAgainst menu states from most start i v) (j : ℕ) (label : List ℕ) (r : Comes) (way round : List Run)
    → slice_get menu.comes j ≡ Some label → slice_get s.comes j ≡ Some r → loop_said r ≡ Some (way, round)
    → IsAvoidedBy (menu_model s.first (image_menu i from menu.may))
    (own_classes (usual_choices (image_menu i from menu.may))) (begun_moment i start) (shown_line label) way round
