-- Where runs begin alike.
use Rattle.std.proofs.Common.{◌≡◌, ℕ, zero, suc, ◌+◌, ◌&&◌, ◌++◌, Bool, true, false, cond, List, [], ◌∷◌, refl, sym, ap}
use Rattle.std.proofs.Common.{ap₂, subst, Some, None}
use Rattle.std.specs.Prelude.{nat_le, nat_lt}
use Rattle.pip_base.specs.declared.types.Plan.{Plan}
use Rattle.pip_model.specs.Acts.{Act, Makes, after_acts}
use Rattle.pip_model.specs.Boot.{first_user}
use Rattle.pip_model.specs.Due.{is_due}
use Rattle.pip_model.specs.Events as E
use Rattle.pip_model.specs.Images.{image_word}
use Rattle.pip_model.specs.Run.{image_world, raises, schedule, step, steps}
use Rattle.pip_model.specs.Turn.{turn, world_of}
use Rattle.pip_model.specs.Worlds.{World, boot_world_with}
use Rattle.pip_model.proofs.OnLists.Acts.{after-append}
use Rattle.pip_guests.specs.Outside.{Alike, AlikeWord}
use Rattle.pip_guests.specs.Turns.{IsOneTurn}
use Rattle.pip_guests.proofs.Moved.{outside_depends_on_outside}
use Rattle.pip_guests.proofs.Runners.{cpus_alike_same}
use Rattle.pip_guests.proofs.Turning.{turns_depend_on_outside}
use Rattle.pip_any.specs.Begins.{ImagesLookAlike, StepsDependOnOutside}

pub images_look_alike : ImagesLookAlike
images_look_alike own look i j f c h =
    subst (λ n. Alike own look (image_world i) (boot_world_with (image_word j.frames j.pages) n j.cpus)) f
    (rw (← c) (record {
      tree = record {
        nodes = refl;
        words = λ g. page g
            (nat_le (first_user i.frames) g && nat_lt g i.frames);
      };
      cpus = cpus_alike_same own (image_world i).cpus;
    }))
  where
    page : (g : ℕ) (b : Bool) → AlikeWord look g (cond b (Some (image_word i.frames i.pages g)) None)
        (cond b (Some (image_word j.frames j.pages g)) None)
    page g true = record { there = refl; words = λ k. h g k }
    page g false = record { there = refl; words = λ k. refl }

-- a line is raised in both
pub raised_alike : (own : List ℕ) (look : ℕ → ℕ → ℕ → ℕ) (w v : World) (j : ℕ) → Alike own look w v
    → Alike own look (world_of w (E.Raise j)) (world_of v (E.Raise j))
raised_alike own look w v j a = (outside_depends_on_outside own look w v (E.Raise j) a tt).world

raises_alike : (own : List ℕ) (look : ℕ → ℕ → ℕ → ℕ) (ps : List Plan) (t : ℕ) (w v : World) → Alike own look w v
    → Alike own look (after_acts w (raises ps t)) (after_acts v (raises ps t))
raises_alike own look [] t w v a = a
raises_alike own look (p ∷ ps) t w v a = by (is_due p t) (λ x y. raises_alike own look ps t x y)
  where
    by : (b : Bool) → ((x y : World) → Alike own look x y
        → Alike own look (after_acts x (raises ps t)) (after_acts y (raises ps t)))
        → Alike own look (after_acts w (cond b (Makes (E.Raise p.line) ∷ raises ps t) (raises ps t)))
        (after_acts v (cond b (Makes (E.Raise p.line) ∷ raises ps t) (raises ps t)))
    by true f = f _ _ (raised_alike own look w v p.line a)
    by false f = f w v a

pub steps_depend_on_outside : StepsDependOnOutside
steps_depend_on_outside own look w v plans seed c zero t a m = (refl, a)
steps_depend_on_outside own look w v plans seed c (suc n) t a m =
    let cpu : ℕ = schedule seed c t in
    let rs : List Act = raises plans t in
    let w' : World = after_acts w rs in
    let v' : World = after_acts v rs in
    let one : IsOneTurn own look cpu t w' v' =
    turns_depend_on_outside own look w' v' cpu t (raises_alike own look plans t w v a) m.0 in
    let st : List Act = step w plans cpu t in
    let tt' : List Act = step v plans cpu t in
    let same : st ≡ tt' = rw one.acts in
    let next : Alike own look (after_acts w st) (after_acts v tt') =
    rw (after-append w rs (turn w' cpu t)) (subst (Alike own look (after_acts w' (turn w' cpu t)))
    (sym (after-append v rs (turn v' cpu t))) one.world) in
    let rest = steps_depend_on_outside own look (after_acts w st) (after_acts v tt') plans seed c n (t + 1) next m.1 in
    let ws : List Act = steps (after_acts w st) plans seed c n (t + 1) in
    let vs : List Act = steps (after_acts v tt') plans seed c n (t + 1) in (
      ap₂ (λ x y. x ++ y) same rest.0,
      rw (after-append w st ws) (subst (Alike own look (after_acts (after_acts w st) ws)) (sym (after-append v tt' vs))
          rest.1),
    )
