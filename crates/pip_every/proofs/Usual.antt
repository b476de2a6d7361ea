-- A search with an empty menu is the search without one.
use Rattle.std.proofs.Common.{◌≡◌, ℕ, ◌+◌, ◌*◌, ◌&&◌, nat_lt, Bool, true, false, if◌then◌else◌, List, [], length}
use Rattle.std.proofs.Common.{Option}
use Rattle.std.proofs.Common.{None, refl, subst, arith}
use Rattle.pip_base.specs.Memory.{Memory}
use Rattle.pip_model.specs.Worlds.{World}
use Rattle.pip_search.specs.Certificates.{IsClosedPart, IsReachedPart, Portion}
use Rattle.pip_search.specs.Portions.{IsPortionOf}
use Rattle.pip_search.specs.Summary.{IsTold, Witness}
use Rattle.pip_search.specs.Systems.{Model}
use Rattle.pip_search.specs.declared.searching.Extent.{Extent}
use Rattle.pip_every.specs.Keys.{IsKeyOf, model_of}
use Rattle.pip_every.specs.Menus.{Hostile, Menu, Usual, menu_after, menu_label, menu_model}
use Rattle.pip_every.specs.Menus.{picked, usual_choices}
use Rattle.pip_every.specs.Moments.{Moment, Scope, choice_label, moment_after}
use Rattle.pip_every.specs.declared.menus.May.{May}

-- what choices do
record Acting : Type 0 where
  choices : ℕ
  act : Moment → ℕ → Moment
  label : Moment → ℕ → List ℕ

abbrev system : Memory → Scope → Acting → Model
system first s a = record {
  State = Moment;
  choices = a.choices;
  act = a.act;
  label = a.label;
  stands = IsKeyOf first s;
}

abbrev bare_menu : Scope → Menu
bare_menu s = record { scope = s; may = [] }

no_deed : (b : Bool) → ◌≡◌ {A = Option May} (if b then None else None) None
no_deed true = refl
no_deed false = refl

none_waits : (b : Bool) (k : ℕ) → (if b && false then Hostile k None else Usual) ≡ Usual
none_waits true k = refl
none_waits false k = refl

all_usual : (s : Scope) (w : World) (k : ℕ) → picked (bare_menu s) w k ≡ Usual
all_usual s w k = rw (no_deed (nat_lt k (usual_choices (bare_menu s))), none_waits (nat_lt k s.cpus) k)

abbrev menu_acting : Menu → Acting
menu_acting g = record {
  choices = usual_choices g + g.scope.cpus * length g.may;
  act = menu_after g;
  label = menu_label g;
}

abbrev usual_acting : Scope → Acting
usual_acting s = record { choices = s.cpus + length s.lines; act = moment_after s; label = choice_label s }

same_acting : (s : Scope) → menu_acting (bare_menu s) ≡ usual_acting s
same_acting s =
    let count : (s.cpus + length s.lines) + s.cpus * 0 ≡ s.cpus + length s.lines = omega arith in
    let act : (m : Moment) (k : ℕ) → menu_after (bare_menu s) m k ≡ moment_after s m k =
    λ m k. rw (all_usual s m.world k) in
    let label : (m : Moment) (k : ℕ) → menu_label (bare_menu s) m k ≡ choice_label s m k =
    λ m k. rw (all_usual s m.world k) in
    λ i. record { choices = count i; act = λ m k. act m k i; label = λ m k. label m k i }

pub told_usual : (first : Memory) (s : Scope) (m : Moment) (most limit : ℕ) (ws : List Witness) (count : ℕ)
    (v : Extent) → IsTold (menu_model first (record { scope = s; may = [] })) m most limit ws count v
    → IsTold (model_of first s) m most limit ws count v
told_usual first s m most limit ws count v h =
    subst (λ a. IsTold (system first s a) m most limit ws count v) (same_acting s) h

pub closed_usual : (first : Memory) (s : Scope) (p : Portion)
    → IsClosedPart (menu_model first (record { scope = s; may = [] })) p → IsClosedPart (model_of first s) p
closed_usual first s p h = subst (λ a. IsClosedPart (system first s a) p) (same_acting s) h

pub reached_usual : (first : Memory) (s : Scope) (m : Moment) (p : Portion)
    → IsReachedPart (menu_model first (record { scope = s; may = [] })) m p → IsReachedPart (model_of first s) m p
reached_usual first s m p h = subst (λ a. IsReachedPart (system first s a) m p) (same_acting s) h

pub portion_usual : (first : Memory) (s : Scope) (start way marks : List ℕ) (p : Portion)
    → IsPortionOf (menu_model first (record { scope = s; may = [] })) start way marks p
    → IsPortionOf (model_of first s) start way marks p
portion_usual first s start way marks p h =
    subst (λ a. IsPortionOf (system first s a) start way marks p) (same_acting s) h
