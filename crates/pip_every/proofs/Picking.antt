-- What a choice is, with a menu.
use Rattle.std.proofs.Common.{◌≡◌, ℕ, ◌-◌, ◌/◌, ◌<◌, ◌≤◌, ◌&&◌, nat_lt, Bool, true, false}
use Rattle.std.proofs.Common.{List, [], Option, Some, None, slice_get}
use Rattle.std.proofs.lemmas.Bool.{lt-ltb, le-ltb}
use Rattle.pip_model.proofs.Trees.Ancestry.{root_is_one}
use Rattle.pip_model.specs.Worlds.{World}
use Rattle.pip_switch.specs.Standing.{State}
use Rattle.pip_every.specs.Choosing.{HasPicked, IsAtWorld}
use Rattle.pip_every.specs.Menus.{Hostile, Menu, Nothing, Pick, Usual, deed_at, deed_cpu, is_hostile, is_its}
use Rattle.pip_every.specs.Menus.{name_on, picked, usual_choices}
use Rattle.pip_every.specs.Moments.{Moment}
use Rattle.pip_every.specs.declared.menus.May.{May}

-- ---- the numbers of deeds

-- ---- a choice that is no deed

usual_at : (g : Menu) (k : ℕ) → k < usual_choices g → deed_at g k ≡ None
usual_at g k lt = rw (lt-ltb k (usual_choices g) lt)

pub waits_is : (g : Menu) (w : World) (k : ℕ) → k < usual_choices g
    → (nat_lt k g.scope.cpus && is_hostile w.tree.root.name (name_on w k) g.may) ≡ true → picked g w k ≡ Hostile k None
waits_is g w k lt t =
    rw (usual_at g k lt, t)

pub goes_is : (g : Menu) (w : World) (k : ℕ) → k < usual_choices g
    → (nat_lt k g.scope.cpus && is_hostile w.tree.root.name (name_on w k) g.may) ≡ false → picked g w k ≡ Usual
goes_is g w k lt f =
    rw (usual_at g k lt, f)

line_is : (g : Menu) (w : World) (k : ℕ) → g.scope.cpus ≤ k → k < usual_choices g → picked g w k ≡ Usual
line_is g w k le lt = goes_is g w k lt
    (rw (le-ltb k g.scope.cpus le))

-- ---- a deed

pub deed_is : (g : Menu) (k : ℕ) (d : May) → usual_choices g ≤ k
    → slice_get g.may ((k - usual_choices g) / g.scope.cpus) ≡ Some d → deed_at g k ≡ Some d
deed_is g k d le at = rw (le-ltb k (usual_choices g) le, at)

pub own_is : (g : Menu) (w : World) (k : ℕ) (d : May) → deed_at g k ≡ Some d
    → is_its w.tree.root.name (name_on w (deed_cpu g k)) d ≡ true → picked g w k ≡ Hostile (deed_cpu g k) (Some d.deed)
own_is g w k d at t =
    rw (at, t)

pub others_is : (g : Menu) (w : World) (k : ℕ) (d : May) → deed_at g k ≡ Some d
    → is_its w.tree.root.name (name_on w (deed_cpu g k)) d ≡ false → picked g w k ≡ Nothing
others_is g w k d at f =
    rw (at, f)

-- ---- what code knows of them

-- whether the turn of a processor is that of a hostile partition
pub hostile_turn : (k n r s : ℕ) (a b : Option ℕ) (ds es : List May) (x : Bool) → k < n → x ≡ is_hostile r a ds → r ≡ s
    → a ≡ b → ds ≡ es → x ≡ (nat_lt k n && is_hostile s b es)
hostile_turn k n r s a b ds es x lt e root same menu =
    cc (lt-ltb k n lt)

-- whether a deed is of what runs on its processor
pub its_is : (w : World) (cpu other : ℕ) (a : Option ℕ) (d : May) (x b : Bool) → x ≡ is_its 1 a d → x ≡ b
    → w.tree.root.name ≡ 1 → a ≡ name_on w cpu → cpu ≡ other → is_its w.tree.root.name (name_on w other) d ≡ b
its_is w cpu other a d x b e f root same cpus =
    rw (← cpus, root, ← same, ← e, f)

-- ---- what was made

pub root_at : (p : State) (w : World) → IsAtWorld p w → w.tree.root.name ≡ 1
root_at p w at = root_is_one w.tree at.bare.sound.tree

pub as_picked : (g : Menu) (m : Moment) (k : ℕ) (p : Pick) (q : State) (turns : ℕ) (label : List ℕ)
    → picked g m.world k ≡ p → HasPicked g m k p q turns label → HasPicked g m k (picked g m.world k) q turns label
as_picked g m k p q turns label e h = rw e h

pub nothing_made : (g : Menu) (m : Moment) (k : ℕ) (p : State) (turns : ℕ) (label : List ℕ) → IsAtWorld p m.world
    → turns ≡ m.turns → label ≡ [] → HasPicked g m k Nothing p turns label
nothing_made g m k p turns label at same none = record {
  world = at;
  turns_are = same;
  label_is = none;
}

-- ---- choices that change nothing
