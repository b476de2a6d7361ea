-- Runs in which the partitions of a menu have programs of their own: what a search with this menu says of them.
use Rattle.std.specs.Prelude.{◌≡◌, ◌≢◌, ℕ, zero, suc, ◌+◌, ◌<◌, ◌≤◌, ◌⊎◌, List, [], ◌++◌, Some}
use Rattle.pip_base.specs.Memory.{Memory}
use Rattle.pip_base.specs.declared.types.Plan.{Plan}
use Rattle.pip_every.specs.Menus.{Menu, menu_model, name_on}
use Rattle.pip_every.specs.Moments.{Moment}
use Rattle.pip_any.specs.Hostile.{LooksAway, RunsHostile, TurnExitsByMenu, TurnKeepsToMenu, TurnStaysInside}
use Rattle.pip_model.specs.Acts.{after_acts, text_of}
use Rattle.pip_model.specs.Lists.{In}
use Rattle.pip_model.specs.Run.{raises, schedule, step, steps}
use Rattle.pip_model.specs.Turn.{turn}
use Rattle.pip_model.specs.Worlds.{World}
use Rattle.pip_guests.specs.Exits.{IsConfined}
use Rattle.pip_guests.specs.Outside.{Alike}
use Rattle.pip_search.specs.Reached.{AreChoices}
use Rattle.pip_search.specs.Summary.{IsTold, Witness}
use Rattle.pip_search.specs.Systems.{after_choices}
use Rattle.pip_search.specs.declared.searching.Extent.{Extent}
use Rattle.pip_search.specs.declared.searching.Extent.TheVariants.{Closed}
use Rattle.pip_search_commands.specs.RunLaw.{ArePlansFrom, IsNamedBy}

-- ---- what the search has to find

-- at each moment to which choices lead, and on each processor, nothing outside reads what isn't seen of words
abbrev pub SearchLooksAway : List ℕ → (ℕ → ℕ → ℕ → ℕ) → Memory → Menu → Moment → Type 0
SearchLooksAway own look first g m = (cs : List ℕ) (cpu : ℕ) → AreChoices (menu_model first g) cs → cpu < g.scope.cpus
    → LooksAway own look g (after_choices (menu_model first g) m cs).world cpu

-- at each of them, each hostile partition that runs is one of these, and confined
abbrev pub SearchConfines : List ℕ → (ℕ → ℕ → ℕ → ℕ) → Memory → Menu → Moment → Type 0
SearchConfines own look first g m = (cs : List ℕ) (cpu p : ℕ) → AreChoices (menu_model first g) cs
    → name_on (after_choices (menu_model first g) m cs).world cpu ≡ Some p
    → RunsHostile g (after_choices (menu_model first g) m cs).world cpu
    → In p own × IsConfined (after_choices (menu_model first g) m cs).world.tree p

-- ---- what programs do

-- this holds of each turn in n steps from step t on, of c processors
abbrev pub EachTurn : (World → ℕ → Type 0) → World → List Plan → ℕ → ℕ → ℕ → ℕ → Type 0
EachTurn K w plans seed c zero t = Unit {0}
EachTurn K w plans seed c (suc n) t = K (after_acts w (raises plans t)) (schedule seed c t)
    × EachTurn K (after_acts w (step w plans (schedule seed c t) t)) plans seed c n (t + 1)

-- where a hostile partition has the turn, it keeps to the menu
abbrev pub HostileKeeps : List ℕ → (ℕ → ℕ → ℕ → ℕ) → Menu → World → ℕ → Type 0
HostileKeeps own look g w cpu = RunsHostile g w cpu → TurnKeepsToMenu own look g w cpu

-- where a hostile partition has the turn, its exits are on the menu
abbrev pub HostileExits : List ℕ → (ℕ → ℕ → ℕ → ℕ) → Menu → World → ℕ → Type 0
HostileExits own look g w cpu = RunsHostile g w cpu → TurnExitsByMenu own look g w cpu

-- ---- what the search says of their runs

-- a text begins with what a turn at step t writes. This is nothing, or named, as a line at step 0, or the turn stays
-- inside a hostile partition. Of what comes after it Q holds
pub record IsNamedTurn (ws : List Witness) (own : List ℕ) (look : ℕ → ℕ → ℕ → ℕ) (w : World) (cpu t : ℕ) (Q : List ℕ
    → Type 0)
    (text : List ℕ) : Type 0
  where
    pub rest : List ℕ
    pub whole : text ≡ text_of (turn w cpu t) ++ rest
    pub known : text_of (turn w cpu 0) ≢ [] → IsNamedBy ws (text_of (turn w cpu 0)) ⊎ TurnStaysInside own look w cpu
    pub goes_on : Q rest

-- a text is that of n steps from step t on, and so is each of their turns
abbrev pub AreNamedTurns
    : List Witness → List ℕ → (ℕ → ℕ → ℕ → ℕ) → World → List Plan → ℕ → ℕ → ℕ → ℕ → List ℕ → Type 0
AreNamedTurns ws own look w plans seed c zero t text = text ≡ []
AreNamedTurns ws own look w plans seed c (suc n) t text =
    IsNamedTurn ws own look (after_acts w (raises plans t)) (schedule seed c t) t
    (AreNamedTurns ws own look (after_acts w (step w plans (schedule seed c t) t)) plans seed c n (t + 1)) text

-- a search with a menu that closed names each line of n steps from a world that looks like the moment at which it
-- began, whatever programs the partitions of the menu have there, if what they do outside is on the menu; but for lines
-- of turns that stay inside them
abbrev pub ProgramsAreNamed : Type 0
ProgramsAreNamed = (own : List ℕ) (look : ℕ → ℕ → ℕ → ℕ) (first : Memory) (g : Menu) (m : Moment)
    (most limit count depth : ℕ)
    (ws : List Witness) (end : Extent) → IsTold (menu_model first g) m most limit ws count end → end ≡ Closed depth
    → 1 ≤ g.scope.cpus → SearchLooksAway own look first g m → (w : World) → Alike own look w m.world
    → (plans : List Plan) (seed n t : ℕ) → ArePlansFrom g.scope.lines t g.scope.from plans
    → EachTurn (HostileKeeps own look g) w plans seed g.scope.cpus n t
    → AreNamedTurns ws own look w plans seed g.scope.cpus n t (text_of (steps w plans seed g.scope.cpus n t))

-- where the partitions of the menu are confined, all that they do is free but for exits: accesses that fault, traps,
-- yields that enter another, what changes what is seen of a word, and a child that is created
abbrev pub ConfinedProgramsAreNamed : Type 0
ConfinedProgramsAreNamed = (own : List ℕ) (look : ℕ → ℕ → ℕ → ℕ) (first : Memory) (g : Menu) (m : Moment)
    (most limit count depth : ℕ)
    (ws : List Witness) (end : Extent) → IsTold (menu_model first g) m most limit ws count end → end ≡ Closed depth
    → 1 ≤ g.scope.cpus → SearchLooksAway own look first g m → SearchConfines own look first g m → (w : World)
    → Alike own look w m.world → (plans : List Plan) (seed n t : ℕ) → ArePlansFrom g.scope.lines t g.scope.from plans
    → EachTurn (HostileExits own look g) w plans seed g.scope.cpus n t
    → AreNamedTurns ws own look w plans seed g.scope.cpus n t (text_of (steps w plans seed g.scope.cpus n t))
