-- The test of a state doesn't depend on the caches.
use Rattle.std.proofs.Common.{◌≡◌, ℕ, ◌&&◌, ◌||◌, not, Bool, List, [], ◌∷◌, cond, refl, ap, ap₂, ◌∙◌}
use Rattle.pip_model.specs.Acts.{events_made}
use Rattle.pip_model.specs.Events as E
use Rattle.pip_model.specs.Events.{Event}
use Rattle.pip_model.specs.Turn.{turn, world_of}
use Rattle.pip_model.specs.Worlds.{World, runs_on}
use Rattle.pip_guests.specs.Sights.{Sight, event_passes, events_pass, has_no_child, if_runs}
use Rattle.pip_every.specs.Away.{deed_answers, deeds_pass, hostile_looks_away, is_vain, looks_away}
use Rattle.pip_every.specs.Menus.{Menu, deed_event, is_hostile, is_its, name_on}
use Rattle.pip_every.specs.declared.menus.Deed.{Deed}
use Rattle.pip_every.specs.declared.menus.Deed.TheVariants as D
use Rattle.pip_every.specs.declared.menus.May.{May}
use Rattle.pip_every.proofs.Unseen.{IsBut, event_same, other, turn_same}

module _ (own : List ℕ) (sight : Sight) where
  reads_with : (w v : World) (e : Event) → event_passes own sight w e
      ≡ event_passes own sight (record w { caches = v.caches }) e
  reads_with w v (E.Load cpu va z) = refl
  reads_with w v (E.Store cpu va z x) = refl
  reads_with w v (E.Fetch cpu) = refl
  reads_with w v (E.Trap cpu k a b) = refl
  reads_with w v (E.Call cpu n a) = refl
  reads_with w v (E.Raise j) = refl
  reads_with w v (E.Poll cpu) = refl
  reads_with w v (E.SetContext cpu c) = refl

  reads_same : (w v : World) (e : Event) → IsBut w v → event_passes own sight w e ≡ event_passes own sight v e
  reads_same w v e b = rw (reads_with w v e, other w v b)

  all_same : (es : List Event) (w v : World) → IsBut w v → events_pass own sight w es
      ≡ events_pass own sight v es
  all_same [] w v b = refl
  all_same (e ∷ es) w v b = ap₂ (λ x y. x && y) (reads_same w v e b)
      (all_same es (world_of w e) (world_of v e) (event_same w v e b).1)

  answers_with : (w v : World) (cpu : ℕ) (d : Deed) → deed_answers w cpu d
      ≡ deed_answers (record w { caches = v.caches }) cpu d
  answers_with w v cpu (D.Load va z) = refl
  answers_with w v cpu (D.StoreWord va x) = refl
  answers_with w v cpu (D.StoreByte va x) = refl
  answers_with w v cpu (D.Trap k a c) = refl
  answers_with w v cpu (D.Call n args) = refl

  deeds_same : (w v : World) (cpu : ℕ) (ds : List May) → IsBut w v → deeds_pass own sight w cpu ds
      ≡ deeds_pass own sight v cpu ds
  deeds_same w v cpu [] b = refl
  deeds_same w v cpu (d ∷ ds) b =
      cc (
        ap₂ (λ x y. (not (is_its w.tree.root.name (name_on w cpu) d) || x) && y)
            (ap₂ (λ x y. x || y) (answers_with w v cpu d.deed ∙ ap (λ u. deed_answers u cpu d.deed) (other w v b))
            (reads_same w v (deed_event cpu d.deed) b)) (deeds_same w v cpu ds b),
        other w v b,
      )

  hostile_same : (w v : World) (cpu : ℕ) (ds : List May) → IsBut w v → hostile_looks_away own sight ds w cpu
      ≡ hostile_looks_away own sight ds v cpu
  hostile_same w v cpu ds b =
      cc (
        ap₂ (λ x y. event_passes own sight w (E.Poll cpu) &&
            ((not x || y) && if_runs (runs_on w cpu) (has_no_child own w.tree)))
            (ap is_vain (event_same w v (E.Poll cpu) b).0) (deeds_same w v cpu ds b),
        other w v b,
      )

  pub looks_same : (g : Menu) (w v : World) (cpu : ℕ) → IsBut w v → looks_away own sight g w cpu
      ≡ looks_away own sight g v cpu
  looks_same g w v cpu b =
      cc (
        ap₂ (λ x y. cond (is_hostile w.tree.root.name (name_on w cpu) g.may) x y) (hostile_same w v cpu g.may b)
            (all_same (events_made (turn w cpu 0)) w v b ∙ ap (λ es. events_pass own sight v (events_made es))
            (turn_same w v cpu 0 b)),
        other w v b,
      )
