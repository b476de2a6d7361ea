-- Runs in which some partitions have other programs than the image that was searched: what a search with a menu says of
-- them.
use Rattle.std.specs.Prelude.{◌≡◌, ℕ, zero, suc, ◌+◌, ◌*◌, ◌≤◌, ◌<◌, ◌⊎◌, List, length, Option, Some}
use Rattle.pip_base.specs.declared.types.Plan.{Plan}
use Rattle.pip_every.specs.Menus.{Menu, menu_after, menu_label, name_on, usual_choices}
use Rattle.pip_every.specs.Moments.{Moment}
use Rattle.pip_model.specs.Acts.{after_acts, text_of}
use Rattle.pip_model.specs.Images.{Image}
use Rattle.pip_model.specs.Lists.{In}
use Rattle.pip_model.specs.Run.{raises, schedule, step}
use Rattle.pip_model.specs.Turn.{turn}
use Rattle.pip_model.specs.Worlds.{IsSoundWorld, World, runs_on}
use Rattle.pip_model.specs.declared.processors.Occupant.{Occupant}
use Rattle.pip_search.specs.declared.searching.Extent.TheVariants.{Closed}
use Rattle.pip_command_contracts.specs.EndsBy.{Response}
use Rattle.pip_command_contracts.specs.Planned.{lines_planned}
use Rattle.pip_search_commands.specs.MenuText.{MenuSaid}
use Rattle.pip_search_commands.specs.RunLaw.{AreLinesOf, ArePlansFrom, IsNamedBy, steps_from}
use Rattle.pip_search_commands.specs.SearchDues.{IsSearchedAgainst, begun_world, image_menu}
use Rattle.pip_search_commands.specs.declared.start.Start.{Start}

-- two worlds look alike from outside of partitions with these names: their trees differ in words of these pages alone,
-- and their processors run the same, but for the registers and the pc of those partitions. Caches may differ
pub record LookAlike (own pages : List ℕ) (w v : World) : Type 0 where
  pub tree : record w.tree { words = v.tree.words } ≡ v.tree
  pub words : (g : ℕ) → (In g pages → ⊥) → v.tree.words g ≡ w.tree.words g
  pub count : length v.cpus ≡ length w.cpus
  pub names : (cpu : ℕ) → name_on v cpu ≡ name_on w cpu
  pub others : (cpu : ℕ) (r : Occupant) → runs_on w cpu ≡ Some r → (In r.name own → ⊥) → runs_on v cpu ≡ Some r

-- a choice at a moment of a search matches the turn of a processor in a world: it shows the same, counts as a turn, and
-- what comes of both looks alike
pub record Matches (own pages : List ℕ) (g : Menu) (w : World) (cpu : ℕ) (m : Moment) : Type 0 where
  pub choice : ℕ
  pub can : choice < usual_choices g + g.scope.cpus * length g.may
  pub counts : (g.scope.from ≤ (menu_after g m choice).turns) ⊎ (m.turns < (menu_after g m choice).turns)
  pub same : menu_label g m choice ≡ text_of (turn w cpu 0)
  pub alike : LookAlike own pages (after_acts w (turn w cpu 0)) (menu_after g m choice).world

-- so it is at whatever moment whose world is sound and looks like that one
abbrev pub IsMatched : List ℕ → List ℕ → Menu → World → ℕ → Type 0
IsMatched own pages g w cpu =
    (m : Moment) → IsSoundWorld m.world → LookAlike own pages w m.world → Matches own pages g w cpu m

-- so it is of each turn of n steps from step t on, of c processors
abbrev pub AreMatched : List ℕ → List ℕ → Menu → World → List Plan → ℕ → ℕ → ℕ → ℕ → Type 0
AreMatched own pages g w plans seed c zero t = Unit {0}
AreMatched own pages g w plans seed c (suc n) t =
    IsMatched own pages g (after_acts w (raises plans t)) (schedule seed c t)
    × AreMatched own pages g (after_acts w (step w plans (schedule seed c t) t)) plans seed c n (t + 1)

-- where a search with a menu closed, it names each line of steps whose turns are matched, also of another image, whose
-- partitions with these names have other programs in these pages
abbrev pub MatchedRunsAreNamed : Type 0
MatchedRunsAreNamed = (own pages : List ℕ) (menu : MenuSaid) (states from depth : ℕ) (most : Option ℕ) (start : Start)
    (i j : Image) (v : Response) (s : IsSearchedAgainst menu states from most start i v) → s.verdict ≡ Closed depth
    → j.cpus ≡ i.cpus → LookAlike own pages (begun_world j start) (begun_world i start) → (plans : List Plan)
    (seed n : ℕ) → ArePlansFrom (lines_planned i.plans) start.count from plans
    → AreMatched own pages (image_menu i from menu.may) (begun_world j start) plans seed i.cpus n start.count
    → AreLinesOf (IsNamedBy s.found) start.count n (text_of (steps_from j start plans seed n))
