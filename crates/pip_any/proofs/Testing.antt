-- The test of a state says that it looks away.
use Rattle.std.proofs.Common.{◌≡◌, ℕ, zero, suc, ◌&&◌, ◌||◌, inl, inr, not, cond, Bool}
use Rattle.std.proofs.Common.{true}
use Rattle.std.proofs.Common.{false, List, [], ◌∷◌, refl, sym, ap, ◌∙◌, subst, Option, Some}
use Rattle.std.proofs.Common.{None}
use Rattle.std.proofs.Common.{option_map, slice_get}
use Rattle.pip_base.specs.declared.types.Access.TheVariants.{Load}
use Rattle.pip_every.specs.Menus.{Menu, deed_event, is_hostile, is_its, name_on}
use Rattle.pip_every.specs.declared.menus.Deed.{Deed}
use Rattle.pip_every.specs.declared.menus.Deed.TheVariants as D
use Rattle.pip_every.specs.declared.menus.May.{May}
use Rattle.pip_any.specs.Hostile.{DeedAnswers}
use Rattle.pip_every.specs.Away as H
use Rattle.pip_any.specs.Passing as P
use Rattle.pip_guests.specs.Sights.{IsSight, Sight}
use Rattle.pip_guests.specs.Sights as S
use Rattle.pip_guests.proofs.Testing.{all_read, both, confined, not_both, off, one, reads}
use Rattle.pip_model.specs.Acts.{events_made}
use Rattle.pip_model.specs.Events as E
use Rattle.pip_model.specs.Handlers.{is_reached}
use Rattle.pip_model.specs.Happens.{event}
use Rattle.pip_model.specs.Lists.{In}
use Rattle.pip_model.specs.Reach.{Faulted, Place, Reached, reach}
use Rattle.pip_model.specs.Turn.{turn}
use Rattle.pip_model.specs.Worlds.{IsSoundWorld, World, runs_on}
use Rattle.pip_model.specs.declared.processors.Occupant.{Occupant}
use Rattle.pip_guests.specs.Exits.{IsConfined}
use Rattle.pip_guests.specs.Outside.{ReadsOutside}
use Rattle.pip_guests.specs.Unseen.{Answers}
use Rattle.pip_any.proofs.Choosing.{nobody_hostile}

module _ (own : List ℕ) (look : ℕ → ℕ → ℕ → ℕ) (s : Sight) (is : IsSight own look s) where
  -- ---- a state

  module _ (w : World) (cpu : ℕ) where
    answers : (d : Deed) → H.deed_answers w cpu d ≡ true → (r : Occupant) → runs_on w cpu ≡ Some r → DeedAnswers w cpu d
    answers (D.Load va z) e r k = (
      r,
      k,
      by (reach w.tree r.name va Load z) (rw k at e),
    )
      where
        by : (q : Reached) → is_reached q ≡ true → Answers q
        by (Place g i) e = tt
        by (Faulted f) e = cc
    answers (D.StoreWord va x) e r k = cc
    answers (D.StoreByte va x) e r k = cc
    answers (D.Trap v x y) e r k = cc
    answers (D.Call n args) e r k = cc

    deeds : (ds : List May) → H.deeds_pass own s w cpu ds ≡ true → (r : Occupant) → runs_on w cpu ≡ Some r
        → (place : ℕ) (d : May) → slice_get ds place ≡ Some d → is_its w.tree.root.name (name_on w cpu) d ≡ true
        → (DeedAnswers w cpu d.deed → ⊥) → ReadsOutside own look w (deed_event cpu d.deed)
    deeds [] e r k place d at its n = cc
    deeds (x ∷ ds) e r k zero d at its n =
        let h = both _ _ e in
        let q : x ≡ d = cc in
        elim (one _ _ h.0) [
          | inl y ↦ absurd (not_both _ (off _ y) (ap (is_its w.tree.root.name (name_on w cpu)) q ∙ its))
          | inr y ↦ elim (one _ _ y) [
            | inl z ↦ absurd (n (rw (← q) (answers x.deed z r k)))
            | inr z ↦ rw (← q) (reads own look s is w (deed_event cpu x.deed) z)
          ]
        ]
    deeds (x ∷ ds) e r k (suc place) d at its n = let h = both _ _ e in deeds ds h.1 r k place d at its n

module _ (own : List ℕ) (look : ℕ → ℕ → ℕ → ℕ) (s : Sight) (is : IsSight own look s) (g : Menu) (w : World) (cpu : ℕ)
    (sound : IsSoundWorld w) where
  abbrev hostile : Bool
  hostile = is_hostile w.tree.root.name (name_on w cpu) g.may

  hostile_passes : hostile ≡ true → (S.event_passes own s w (E.Poll cpu)
      && ((not (H.is_vain (event w (E.Poll cpu)).outcome) || H.deeds_pass own s w cpu g.may)
      && S.if_runs (runs_on w cpu) (S.has_no_child own w.tree))) ≡ true → P.HasPassed own look g w cpu
  hostile_passes q e = by (runs_on w cpu) refl
    where
      by : (o : Option Occupant) → runs_on w cpu ≡ o → P.HasPassed own look g w cpu
      by None k = absurd (nobody_hostile w.tree.root.name g.may
          (sym (rw k) ∙ q))
      by (Some r) k =
          let a = both _ _ e in
          let b = both _ _ a.1 in
          let c = confined own w cpu r sound k (rw k at b.1) in
          record {
            away = record {
              turn = λ f. absurd (not_both _ f q);
              poll = λ h. reads own look s is w (E.Poll cpu) a.0;
              deeds = λ h vain place d at its n. elim (one _ _ b.0) [
                | inl x ↦ absurd (not_both _ (off _ x) (ap (λ h. H.is_vain h.outcome) vain))
                | inr x ↦ deeds own look s is w cpu g.may x r k place d at its n
              ];
            };
            confined = λ p named h.
                let n : ◌≡◌ {A = Option ℕ} (Some r.name) (Some p) = cc in
                let d : r.name ≡ p = cc in
                (rw (← d) c.0, rw (← d) c.1);
          }

  outside_passes : hostile ≡ false → S.events_pass own s w (events_made (turn w cpu 0)) ≡ true
      → P.HasPassed own look g w cpu
  outside_passes q e = record {
    away = record {
      turn = λ f. all_read own look s is (events_made (turn w cpu 0)) w e;
      poll = λ h. absurd (not_both _ q h);
      deeds = λ h vain place d at its n. absurd (not_both _ q h);
    };
    confined = λ p named h. absurd (not_both _ q h);
  }

pub states_pass : P.StatesPass
states_pass own look s g w cpu is sound e = by (hostile own look s is g w cpu sound) refl e
  where
    by : (b : Bool) → hostile own look s is g w cpu sound ≡ b
        → cond b (H.hostile_looks_away own s g.may w cpu) (S.events_pass own s w (events_made (turn w cpu 0))) ≡ true
        → P.HasPassed own look g w cpu
    by true q e = hostile_passes own look s is g w cpu sound q e
    by false q e = outside_passes own look s is g w cpu sound q e
