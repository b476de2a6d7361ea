-- The test of a state, as a machine makes it.
use Rattle.std.proofs.Common.{◌≡◌, ℕ, zero, suc, ◌+◌, ◌≤◌, ◌&&◌, ◌||◌, not, Bool, true, false, List, [], ◌∷◌, refl}
use Rattle.std.proofs.Common.{sym, arith, drop, length, Option, Some}
use Rattle.std.specs.Prelude.{slice_get}
use Rattle.pip_base.specs.declared.outcome.Outcome.{Outcome}
use Rattle.pip_base.specs.declared.outcome.Outcome.TheVariants as O
use Rattle.pip_every.specs.Menus as menus
use Rattle.pip_every.specs.Menus.{deed_event, is_its, name_on}
use Rattle.pip_every.specs.declared.menus.Deed.{Deed}
use Rattle.pip_every.specs.declared.menus.Deed.TheVariants as D
use Rattle.pip_every.specs.declared.menus.May.{May}
use Rattle.pip_base.specs.declared.types.Size.{Size}
use Rattle.pip_model.specs.Events as E
use Rattle.pip_model.specs.Happens.{event}
use Rattle.pip_model.specs.Worlds.{World, runs_on}
use Rattle.pip_model.proofs.Trees.Ancestry.{root_is_one}
use Rattle.pip_guests.specs.Sights.{Sight, event_passes, has_no_child, if_runs}
use Rattle.pip_away.proofs.Reading.{drop_at}
use Rattle.pip_switch.specs.Standing.{StandsAs, State}
use Rattle.pip_every.specs.Away.{deed_answers, deeds_pass, hostile_looks_away, is_vain}

module _ (p : State) (w : World) (s : StandsAs p w) (cpu : ℕ) where
  -- a line of a menu is of what runs there
  pub its_here : (d : May) (o : Option ℕ) → o ≡ name_on w cpu → (b : Bool) → b ≡ menus.is_its 1 o d
      → b ≡ is_its w.tree.root.name (name_on w cpu) d
  its_here d o is b e = rw (e, is, ← root_is_one w.tree s.bare.sound.tree)

  pub hostile_here : (ds : List May) (o : Option ℕ) → o ≡ name_on w cpu → (b : Bool) → b ≡ menus.is_hostile 1 o ds
      → b ≡ menus.is_hostile w.tree.root.name (name_on w cpu) ds
  hostile_here ds o is b e = rw (e, is, ← root_is_one w.tree s.bare.sound.tree)

-- a deed is a load that is answered, or reads no word that is left out
abbrev pub deed_is : List ℕ → Sight → World → ℕ → Deed → Bool
deed_is own sight w cpu d = deed_answers w cpu d || event_passes own sight w (deed_event cpu d)

module _ (own : List ℕ) (sight : Sight) (w : World) (cpu : ℕ) (d : Deed) (va : ℕ) (z : Size)
    (is : d ≡ D.Load va z) (b : Bool) (e : b ≡ deed_answers w cpu (D.Load va z)) where
  pub load_answered : b ≡ true → b ≡ deed_is own sight w cpu d
  load_answered on = cc

  pub load_faults : b ≡ false → event_passes own sight w (E.Load cpu va z) ≡ deed_is own sight w cpu d
  load_faults off = cc

module _ (own : List ℕ) (sight : Sight) (w : World) (cpu : ℕ) (ds : List May) (k : ℕ) (d : May)
    (at : slice_get ds k ≡ Some d) (b : Bool)
    (is : b ≡ (not (is_its w.tree.root.name (name_on w cpu) d)
    || (deed_answers w cpu d.deed || event_passes own sight w (deed_event cpu d.deed))))
    (before : deeds_pass own sight w cpu ds ≡ deeds_pass own sight w cpu (drop k ds)) where
  next : deeds_pass own sight w cpu ds ≡ (b && deeds_pass own sight w cpu (drop (k + 1) ds))
  next = rw (before, drop_at ds k d at, ← is)

  pub deed_reads : b ≡ false → false ≡ deeds_pass own sight w cpu ds
  unfolding next
  deed_reads e = sym (rw (next, e))

  pub deed_passes : b ≡ true
      → deeds_pass own sight w cpu ds ≡ deeds_pass own sight w cpu (drop (k + 1) ds)
  unfolding next
  deed_passes e = rw (next, e)

-- ---- the parts of a test

and_off : (b : Bool) → (b && false) ≡ false
and_off true = refl
and_off false = refl

or_on : (v : Bool) → ((not v || true) && true) ≡ true
or_on true = refl
or_on false = refl

or_off : (v : Bool) → ((not v || false) && true) ≡ not v
or_off true = refl
or_off false = refl

module _ (own : List ℕ) (sight : Sight) (ds : List May) (w : World) (cpu : ℕ) where
  abbrev polls : Bool
  polls = event_passes own sight w (E.Poll cpu)

  abbrev vain : Bool
  vain = is_vain (event w (E.Poll cpu)).outcome

  abbrev deeds : Bool
  deeds = deeds_pass own sight w cpu ds

  abbrev small : Bool
  small = if_runs (runs_on w cpu) (has_no_child own w.tree)

  pub poll_off : polls ≡ false → false ≡ hostile_looks_away own sight ds w cpu
  poll_off e = cc

  module _ (e : polls ≡ true) where
    pub large : small ≡ false → false ≡ hostile_looks_away own sight ds w cpu
    large f = cc (and_off (not vain || deeds))

    module _ (f : small ≡ true) where
      pub by_deeds : deeds ≡ true → true ≡ hostile_looks_away own sight ds w cpu
      by_deeds h = cc (or_on vain)

      pub by_poll : deeds ≡ false → not vain ≡ hostile_looks_away own sight ds w cpu
      by_poll h = cc (or_off vain)

pub not_done : (o : Outcome) → (o ≡ O.Done → ⊥) → is_vain o ≡ false
not_done O.Done n = absurd (n refl)
not_done (O.Word v) n = refl
not_done (O.Reply s v) n = refl
not_done (O.Switched f to k) n = refl
not_done (O.Parked f k) n = refl
not_done O.Idle n = refl
