-- Partitions that may do anything of a menu, whatever their programs are.
use Rattle.std.specs.Prelude.{ℕ, ◌+◌, ◌-◌, ◌*◌, ◌/◌, ◌%◌, ◌==◌, ◌&&◌, nat_lt, not, Bool, false, List, []}
use Rattle.std.specs.Prelude.{◌∷◌, if◌then◌else◌, length, Option, Some, None, option_map}
use Rattle.std.specs.Prelude.{slice_get}
use Rattle.std.specs.List.{list_any}
use Rattle.pip_base.specs.declared.outcome.Outcome.{Outcome}
use Rattle.pip_base.specs.declared.outcome.Outcome.TheVariants as O
use Rattle.pip_base.specs.declared.types.Size.TheVariants.{Byte, Word}
use Rattle.pip_base.specs.Memory.{Memory}
use Rattle.pip_model.specs.Acts.{Act, Makes, Writes, after_acts, text_of}
use Rattle.pip_model.specs.Answers.{five_of}
use Rattle.pip_model.specs.Events as E
use Rattle.pip_model.specs.Events.{Event}
use Rattle.pip_model.specs.Turn.{call_line, move_acts, moved_line, outcome_of, world_of}
use Rattle.pip_model.specs.Worlds.{World, runs_on}
use Rattle.pip_model.specs.declared.turn_end.TurnEnd.TheVariants as N
use Rattle.pip_search.specs.Systems.{Model}
use Rattle.pip_every.specs.Keys.{IsKeyOf}
use Rattle.pip_every.specs.Moments.{Moment, Scope, choice_acts, turns_after, turns_chosen}
use Rattle.pip_every.specs.declared.menus.Deed.{Deed}
use Rattle.pip_every.specs.declared.menus.Deed.TheVariants as D
use Rattle.pip_every.specs.declared.menus.May.{May}

-- ---- deeds

-- the event of a deed on a processor
abbrev pub deed_event : ℕ → Deed → Event
deed_event cpu (D.Load va size) = E.Load cpu va size
deed_event cpu (D.StoreWord va word) = E.Store cpu va Word word
deed_event cpu (D.StoreByte va byte) = E.Store cpu va Byte byte
deed_event cpu (D.Trap vector a b) = E.Trap cpu vector a b
deed_event cpu (D.Call number args) = E.Call cpu number (five_of args)

-- its line, as that of a turn at step 0
abbrev pub deed_line : ℕ → Deed → Outcome → List ℕ
deed_line cpu (D.Call number args) o = call_line 0 cpu number o
deed_line cpu d o = moved_line 0 cpu o

-- what a deed does on a processor
abbrev pub deed_acts : World → ℕ → Deed → List Act
deed_acts w cpu d = Makes (deed_event cpu d) ∷ Writes (deed_line cpu d (outcome_of w (deed_event cpu d))) ∷ []

-- a hostile partition does its deed, if it does one, where its poll found no line
abbrev pub acts_after_line : World → ℕ → Option Deed → Outcome → List Act
acts_after_line w cpu d (O.Switched from to k) = move_acts 0 cpu (O.Switched from to k)
acts_after_line w cpu None o = []
acts_after_line w cpu (Some d) o = deed_acts w cpu d

-- it is polled for a line first, as at each turn
abbrev pub hostile_acts : World → ℕ → Option Deed → List Act
hostile_acts w cpu d = Makes (E.Poll cpu) ∷ acts_after_line (world_of w (E.Poll cpu)) cpu d (outcome_of w (E.Poll cpu))

-- ---- menus

-- what is searched, and what partitions may do
pub record Menu : Type 0 where
  pub scope : Scope
  pub may : List May

-- a deed is of the partition of its name, or of each but the root
abbrev pub is_meant : ℕ → ℕ → Option ℕ → Bool
is_meant root p None = not (p == root)
is_meant root p (Some n) = p == n

-- it is of the partition that runs, if one does
abbrev pub is_its : ℕ → Option ℕ → May → Bool
is_its root None d = false
is_its root (Some p) d = is_meant root p d.name

-- the partition that runs is hostile: some deed is its own
abbrev pub is_hostile : ℕ → Option ℕ → List May → Bool
is_hostile root o ds = list_any (λ d. is_its root o d) ds

-- the partition that runs on a processor, if one does
abbrev pub name_on : World → ℕ → Option ℕ
name_on w cpu = option_map (λ r. r.name) (runs_on w cpu)

-- ---- choices

-- what a choice is at a moment
pub data Pick : Type 0 where
  -- one of the search without a menu: a turn, or a line
  Usual : Pick
  -- what runs on a processor is hostile: it waits for a line, or does one of its deeds
  Hostile : ℕ → Option Deed → Pick
  -- a deed that isn't of what runs there
  Nothing : Pick

-- how many choices there are without the deeds
abbrev pub usual_choices : Menu → ℕ
usual_choices g = g.scope.cpus + length g.scope.lines

-- the choices after these are the deeds: each on all processors, before the next
abbrev pub deed_at : Menu → ℕ → Option May
deed_at g k =
    if nat_lt k (usual_choices g) then None else slice_get g.may ((k - usual_choices g) / g.scope.cpus)

-- on this processor
abbrev pub deed_cpu : Menu → ℕ → ℕ
deed_cpu g k = (k - usual_choices g) % g.scope.cpus

-- a choice without a deed: a hostile partition has no turns of its program, and waits in their place
abbrev pub usual_pick : Menu → World → ℕ → Pick
usual_pick g w k =
    if nat_lt k g.scope.cpus && is_hostile w.tree.root.name (name_on w k) g.may then Hostile k None else Usual

-- a deed on a processor
abbrev pub deed_pick : World → ℕ → May → Pick
deed_pick w cpu d = if is_its w.tree.root.name (name_on w cpu) d then Hostile cpu (Some d.deed) else Nothing

-- what a choice is, by the deed that it is, if it is one
abbrev pub picked_by : Menu → World → ℕ → Option May → Pick
picked_by g w k None = usual_pick g w k
picked_by g w k (Some d) = deed_pick w (deed_cpu g k) d

-- what a choice is at a world
abbrev pub picked : Menu → World → ℕ → Pick
picked g w k = picked_by g w k (deed_at g k)

-- what comes of a choice, by what it is
abbrev pub pick_acts : Menu → Moment → ℕ → Pick → List Act
pick_acts g m k Usual = choice_acts g.scope m k
pick_acts g m k (Hostile cpu d) = hostile_acts m.world cpu d
pick_acts g m k Nothing = []

-- a deed is a turn, too, and so is waiting
abbrev pub pick_turns : Menu → Moment → ℕ → Pick → ℕ
pick_turns g m k Usual = turns_chosen g.scope m k
pick_turns g m k (Hostile cpu d) = turns_after g.scope.from m.turns N.Ran
pick_turns g m k Nothing = m.turns

-- the moment after a choice, by what it is
abbrev pub pick_after : Menu → Moment → ℕ → Pick → Moment
pick_after g m k p = record { world = after_acts m.world (pick_acts g m k p); turns = pick_turns g m k p }

-- the moment after a choice
abbrev pub menu_after : Menu → Moment → ℕ → Moment
menu_after g m k = pick_after g m k (picked g m.world k)

-- what it shows
abbrev pub menu_label : Menu → Moment → ℕ → List ℕ
menu_label g m k = text_of (pick_acts g m k (picked g m.world k))

-- the system that is searched with a menu. Its states and keys are those of the search without
abbrev pub menu_model : Memory → Menu → Model
menu_model first g = record {
  State = Moment;
  choices = usual_choices g + g.scope.cpus * length g.may;
  act = menu_after g;
  label = menu_label g;
  stands = IsKeyOf first g.scope;
}
