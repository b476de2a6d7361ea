-- A test of a state, by which a search can say that it looks away, and that its hostile partitions are confined; and
-- what it says.
use Rattle.std.specs.Prelude.{◌≡◌, ℕ, ◌<◌, ◌&&◌, ◌||◌, not, if◌then◌else◌, Bool, true, false, List, [], ◌∷◌, reverse}
use Rattle.std.specs.Prelude.{Option, Some, None}
use Rattle.pip_away.specs.Blind.{LeftOut, sight_in, leaves_out}
use Rattle.pip_base.specs.Memory.{Memory}
use Rattle.pip_base.specs.declared.outcome.Outcome.{Outcome}
use Rattle.pip_base.specs.declared.outcome.Outcome.TheVariants as O
use Rattle.pip_base.specs.declared.types.Access.TheVariants.{Load}
use Rattle.pip_every.specs.Menus.{Menu, deed_event, is_hostile, is_its, menu_model, name_on}
use Rattle.pip_every.specs.Moments.{Moment}
use Rattle.pip_every.specs.declared.away.Away.{Away}
use Rattle.pip_every.specs.declared.away.Away.TheVariants.{No, Unknown, Yes}
use Rattle.pip_every.specs.declared.menus.Deed.{Deed}
use Rattle.pip_every.specs.declared.menus.Deed.TheVariants as D
use Rattle.pip_every.specs.declared.menus.May.{May}
use Rattle.pip_model.specs.Acts.{events_made}
use Rattle.pip_model.specs.Events as E
use Rattle.pip_model.specs.Handlers.{is_reached}
use Rattle.pip_model.specs.Happens.{event}
use Rattle.pip_model.specs.Reach.{reach}
use Rattle.pip_model.specs.Turn.{turn}
use Rattle.pip_model.specs.Worlds.{World, runs_on}
use Rattle.pip_guests.specs.Sights.{Sight, event_passes, events_pass, has_no_child, if_runs}
use Rattle.pip_search.specs.Orders.{IsNoLater}
use Rattle.pip_search.specs.Reached.{AreChoices}
use Rattle.pip_search.specs.Systems.{after_choices}
use Rattle.pip_search.specs.Ways.{runs_of}
use Rattle.pip_search.specs.declared.searching.Extent.{Extent}
use Rattle.pip_search.specs.declared.searching.Extent.TheVariants.{Closed, Stopped, Within}

-- ---- the test

-- an outcome is that nothing more happened
abbrev pub is_vain : Outcome → Bool
is_vain O.Done = true
is_vain _ = false

-- a deed is a load that is answered
abbrev pub deed_answers : World → ℕ → Deed → Bool
deed_answers w cpu (D.Load va z) =
    if_runs (runs_on w cpu) (λ r. is_reached (reach w.tree r.name va Load z))
deed_answers w cpu _ = false

-- no deed of what runs there reads such a word, but for loads that are answered
abbrev pub deeds_pass : List ℕ → Sight → World → ℕ → List May → Bool
deeds_pass own sight w cpu [] = true
deeds_pass own sight w cpu (d ∷ ds) = (not (is_its w.tree.root.name (name_on w cpu) d)
    || (deed_answers w cpu d.deed || event_passes own sight w (deed_event cpu d.deed)))
    && deeds_pass own sight w cpu ds

-- the test where a hostile partition runs
abbrev pub hostile_looks_away : List ℕ → Sight → List May → World → ℕ → Bool
hostile_looks_away own sight ds w cpu = event_passes own sight w (E.Poll cpu)
    && ((not (is_vain (event w (E.Poll cpu)).outcome) || deeds_pass own sight w cpu ds)
    && if_runs (runs_on w cpu) (has_no_child own w.tree))

-- the test of a state and a processor
abbrev pub looks_away : List ℕ → Sight → Menu → World → ℕ → Bool
looks_away own sight g w cpu = if is_hostile w.tree.root.name (name_on w cpu) g.may
    then hostile_looks_away own sight g.may w cpu else events_pass own sight w (events_made (turn w cpu 0))

-- ---- what is said

-- the state after these choices passes the test on a processor
abbrev pub passes_after : Memory → LeftOut → Menu → Moment → List ℕ → ℕ → Bool
passes_after first o g s cs cpu =
    looks_away o.own (sight_in o) g (after_choices (menu_model first g) s cs).world cpu

-- the state after these choices fails on a processor, the first on which it does; and none does after choices before
-- these
pub record IsSeenFirst (memory : Memory) (o : LeftOut) (g : Menu) (s : Moment) (cs : List ℕ) (k : ℕ) : Type 0 where
  pub can : AreChoices (menu_model memory g) cs
  pub cpu : k < g.scope.cpus
  pub seen : passes_after memory o g s cs k ≡ false
  pub least : (j : ℕ) → j < k → passes_after memory o g s cs j ≡ true
  pub first : (ds : List ℕ) (j : ℕ) → AreChoices (menu_model memory g) ds → j < g.scope.cpus
      → passes_after memory o g s ds j ≡ false → IsNoLater cs ds

-- of a search from s: each state passes on each processor, wherever choices lead; or one fails, the first that does; or
-- nothing, where the search didn't close
abbrev pub IsAwaySaid : Memory → LeftOut → Menu → Moment → Extent → Away → Type 0
IsAwaySaid first o g s (Closed depth) Yes = (cs : List ℕ) (cpu : ℕ) → AreChoices (menu_model first g) cs
    → cpu < g.scope.cpus → passes_after first o g s cs cpu ≡ true
IsAwaySaid first o g s (Closed depth) (No way cpu) =
    (cs : List ℕ) × ((way.items ≡ reverse (runs_of cs)) × IsSeenFirst first o g s cs cpu)
IsAwaySaid first o g s (Closed depth) Unknown = ⊥
IsAwaySaid first o g s (Within depth) r = r ≡ Unknown
IsAwaySaid first o g s (Stopped depth) r = r ≡ Unknown

-- and only where partitions are named, or words
pub record IsAwayReply (first : Memory) (o : LeftOut) (g : Menu) (s : Moment) (end : Extent) (r : Option Away) : Type 0
  where
    pub asked : leaves_out o ≡ true → (a : Away) × ((r ≡ Some a) × IsAwaySaid first o g s end a)
    pub none : leaves_out o ≡ false → r ≡ None

-- two answers say the same: of a way and a processor, the same ones
abbrev pub SayTheSame : Away → Away → Type 0
SayTheSame Yes Yes = Unit {0}
SayTheSame (No way cpu) (No other k) = (way.items ≡ other.items) × (cpu ≡ k)
SayTheSame Unknown Unknown = Unit {0}
SayTheSame _ _ = ⊥

-- and so do two replies, or neither says anything
abbrev pub ReplyTheSame : Option Away → Option Away → Type 0
ReplyTheSame (Some a) (Some b) = SayTheSame a b
ReplyTheSame None None = Unit {0}
ReplyTheSame _ _ = ⊥
