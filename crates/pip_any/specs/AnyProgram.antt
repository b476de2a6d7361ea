-- What a search of an image with a menu says of every program of its hostile partitions.
use Rattle.std.specs.Prelude.{◌≡◌, ℕ, ◌<◌, true, List, Option, None, codes}
use Rattle.pip_away.specs.Blind.{leaves_out, look_of}
use Rattle.pip_any.specs.Programs.{AreNamedTurns, EachTurn, HostileExits, SearchConfines, SearchLooksAway}
use Rattle.pip_base.specs.Memory.{Memory}
use Rattle.pip_base.specs.declared.types.Plan.{Plan}
use Rattle.pip_every.specs.Menus.{Menu, menu_model}
use Rattle.pip_every.specs.Moments.{Moment}
use Rattle.pip_every.specs.Away.{looks_away}
use Rattle.pip_command_contracts.specs.EndsBy.{Response, plainly}
use Rattle.pip_command_contracts.specs.Planned.{lines_planned}
use Rattle.pip_model.specs.Acts.{text_of}
use Rattle.pip_model.specs.Images.{Image, image_word}
use Rattle.pip_guests.specs.Outside.{Alike}
use Rattle.pip_guests.specs.Sights.{IsSight, Sight}
use Rattle.pip_search.specs.Reached.{AreChoices}
use Rattle.pip_search.specs.Systems.{after_choices}
use Rattle.pip_search.specs.declared.searching.Extent.TheVariants.{Closed}
use Rattle.pip_search_commands.specs.MenuText.{MenuSaid}
use Rattle.pip_search_commands.specs.RunLaw.{ArePlansFrom, steps_from}
use Rattle.pip_search_commands.specs.SearchDues.{IsSearchedAgainst, begun_moment, begun_world, image_menu}
use Rattle.pip_search_commands.specs.TextLaw.{EndsSo}
use Rattle.pip_search_commands.specs.declared.start.Start.{Start}

-- where the search closed, at each of its moments looks away from what isn't seen of words, and finds the hostile
-- partitions confined: it names what each turn shows of each run of another image that begins alike, by any seed and
-- plans, if the exits of hostile partitions are on the menu; but for turns that stay inside these partitions
abbrev pub AnyProgramIsNamed : Type 0
AnyProgramIsNamed = (own : List ℕ) (look : ℕ → ℕ → ℕ → ℕ) (menu : MenuSaid) (states from depth : ℕ) (most : Option ℕ)
    (start : Start) (i j : Image) (v : Response) (s : IsSearchedAgainst menu states from most start i v)
    → s.verdict ≡ Closed depth → j.cpus ≡ i.cpus
    → SearchLooksAway own look s.first (image_menu i from menu.may) (begun_moment i start)
    → SearchConfines own look s.first (image_menu i from menu.may) (begun_moment i start)
    → Alike own look (begun_world j start) (begun_world i start) → (plans : List Plan) (seed n : ℕ)
    → ArePlansFrom (lines_planned i.plans) start.count from plans
    → EachTurn (HostileExits own look (image_menu i from menu.may)) (begun_world j start)
    plans seed j.cpus n start.count
    → AreNamedTurns s.found own look (begun_world j start) plans seed j.cpus n start.count
    (text_of (steps_from j start plans seed n))

-- so it is from step 0 on, of each image of that size of whose words the same is seen
abbrev pub AnyProgramFromStart : Type 0
AnyProgramFromStart = (own : List ℕ) (look : ℕ → ℕ → ℕ → ℕ) (menu : MenuSaid) (states from depth : ℕ) (most : Option ℕ)
    (start : Start) (i j : Image) (v : Response) (s : IsSearchedAgainst menu states from most start i v)
    → s.verdict ≡ Closed depth → start.count ≡ 0 → j.cpus ≡ i.cpus → j.frames ≡ i.frames
    → ((g k : ℕ) → look g k (image_word j.frames j.pages g k) ≡ look g k (image_word i.frames i.pages g k))
    → SearchLooksAway own look s.first (image_menu i from menu.may) (begun_moment i start)
    → SearchConfines own look s.first (image_menu i from menu.may) (begun_moment i start) → (plans : List Plan)
    (seed n : ℕ) → ArePlansFrom (lines_planned i.plans) start.count from plans
    → EachTurn (HostileExits own look (image_menu i from menu.may)) (begun_world j start)
    plans seed j.cpus n start.count
    → AreNamedTurns s.found own look (begun_world j start) plans seed j.cpus n start.count
    (text_of (steps_from j start plans seed n))

-- a state of a search passes the test by what is seen of words, on each processor
abbrev pub SearchIsPassed : List ℕ → Sight → Memory → Menu → Moment → Type 0
SearchIsPassed own tests first g m = (cs : List ℕ) (cpu : ℕ) → AreChoices (menu_model first g) cs
    → cpu < g.scope.cpus → looks_away own tests g (after_choices (menu_model first g) m cs).world cpu ≡ true

-- so it is where each state of the search passes it
abbrev pub PassedNamesAnyProgram : Type 0
PassedNamesAnyProgram = (own : List ℕ) (look : ℕ → ℕ → ℕ → ℕ) (tests : Sight) (menu : MenuSaid)
    (states from depth : ℕ) (most : Option ℕ) (start : Start) (i j : Image) (v : Response)
    (s : IsSearchedAgainst menu states from most start i v) → IsSight own look tests → s.verdict ≡ Closed depth
    → j.cpus ≡ i.cpus → SearchIsPassed own tests s.first (image_menu i from menu.may) (begun_moment i start)
    → Alike own look (begun_world j start) (begun_world i start) → (plans : List Plan) (seed n : ℕ)
    → ArePlansFrom (lines_planned i.plans) start.count from plans
    → EachTurn (HostileExits own look (image_menu i from menu.may)) (begun_world j start)
    plans seed j.cpus n start.count
    → AreNamedTurns s.found own look (begun_world j start) plans seed j.cpus n start.count
    (text_of (steps_from j start plans seed n))

-- so it is where the menu leaves words out, and the text of the search ends with `away yes`
abbrev pub AwayTextsNamePrograms : Type 0
AwayTextsNamePrograms = (menu : MenuSaid) (states from : ℕ) (most : Option ℕ) (start : Start) (i j : Image)
    (text : List ℕ) (s : IsSearchedAgainst menu states from most start i (plainly 0 text None))
    → leaves_out menu.out ≡ true → EndsSo text (codes "away yes") → j.cpus ≡ i.cpus
    → Alike menu.out.own (look_of menu.out) (begun_world j start) (begun_world i start)
    → (plans : List Plan) (seed n : ℕ) → ArePlansFrom (lines_planned i.plans) start.count from plans
    → EachTurn (HostileExits menu.out.own (look_of menu.out) (image_menu i from menu.may))
    (begun_world j start) plans seed j.cpus n start.count
    → AreNamedTurns s.found menu.out.own (look_of menu.out) (begun_world j start) plans seed j.cpus n
    start.count (text_of (steps_from j start plans seed n))
