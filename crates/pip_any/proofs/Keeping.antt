-- A turn of a partition that is confined keeps to the menu where its exits do.
use Rattle.std.proofs.Common.{◌≡◌, ℕ, ◌+◌, ◌*◌, ◌==◌, cond, ◌⊎◌, inl, inr, Bool, true, false, List, refl, sym, ap, ◌∙◌}
use Rattle.std.proofs.Common.{subst, Option, Some, None}
use Rattle.pip_base.specs.declared.outcome.Outcome.{Outcome}
use Rattle.pip_base.specs.declared.outcome.Outcome.TheVariants as O
use Rattle.pip_base.specs.declared.types.Ctx.{Ctx}
use Rattle.pip_every.specs.Menus.{Menu}
use Rattle.pip_model.specs.Acts.{events_made}
use Rattle.pip_model.specs.Effects.{at_next, with_link, with_register, word_effect}
use Rattle.pip_model.specs.Events.{Event}
use Rattle.pip_model.specs.Events as E
use Rattle.pip_base.specs.declared.types.Access.TheVariants.{Store}
use Rattle.pip_base.specs.declared.types.Size.{Size}
use Rattle.pip_model.specs.Deliver.{deliver}
use Rattle.pip_model.specs.Happens.{fault_number, fault_vector, on_running, what_happens, written_over, wrote}
use Rattle.pip_model.specs.Tree.{word_of}
use Rattle.std.specs.Prelude.{is_some}
use Rattle.pip_model.specs.Local.{Succeeded}
use Rattle.pip_model.specs.Reach.{Faulted, Place, Reached, reach}
use Rattle.pip_model.proofs.Locality.OneEvent.{deliver-fails}
use Rattle.pip_guests.proofs.Refusing.{store_faults_are_traps}
use Rattle.pip_model.specs.InstrRead.{instr_of}
use Rattle.pip_model.specs.Lists.{In}
use Rattle.pip_model.specs.Turn.{acts_after_fetch, arguments, effect_acts, fetch_acts, load_acts, outcome_of}
use Rattle.pip_model.specs.Turn.{store_acts}
use Rattle.pip_model.specs.Turn.{word_acts, world_of}
use Rattle.pip_model.specs.Worlds.{World, runs_on}
use Rattle.pip_model.specs.declared.effect.Effect.{Effect}
use Rattle.pip_model.specs.declared.effect.Effect.TheVariants as F
use Rattle.pip_model.specs.declared.processors.Occupant.{Occupant}
use Rattle.pip_guests.specs.Exits.{IsConfined, IsExit, IsMadeOn}
use Rattle.pip_guests.specs.Outside.{Alike, AlikeOn}
use Rattle.pip_guests.specs.Unseen.{ByOneOf, IsUnseen}
use Rattle.pip_guests.proofs.Alikes.{alike_back}
use Rattle.pip_guests.proofs.Confined.{confined_alike, confined_stays_or_exits}
use Rattle.pip_guests.proofs.Staying.{unseen_is_unseen}
use Rattle.pip_guests.proofs.Turning.{runs_alike}
use Rattle.pip_any.specs.Hostile.{ConfinedKeepsToMenu, ExitsAreOnMenu, IsNoWord, IsOnMenu, KeepsToMenu}

module _ (own : List ℕ) (look : ℕ → ℕ → ℕ → ℕ) (g : Menu) (cpu : ℕ) where
  -- one of these partitions runs there, and is confined
  record Runs (w : World) : Type 0 where
    runner : Occupant
    there : runs_on w cpu ≡ Some runner
    own_is : In runner.name own
    confined : IsConfined w.tree runner.name

  -- it does so after what nobody sees
  still : (w : World) (e : Event) → Runs w → IsUnseen own look w e → Runs (world_of w e)
  still w e r m =
      let a = alike_back own look (world_of w e) w (unseen_is_unseen own look w e m) in
      by a (runs_on (world_of w e) cpu) refl
      (rw (← r.there) (runs_alike own look w (world_of w e) cpu a))
    where
      by : Alike own look w (world_of w e) → (o : Option Occupant) → runs_on (world_of w e) cpu ≡ o
          → AlikeOn own (Some r.runner) o → Runs (world_of w e)
      by a None k b = absurd b
      by a (Some q) k b = record {
        runner = q;
        there = k;
        own_is = rw (← b.0) r.own_is;
        confined = rw (← b.0) (confined_alike look w.tree (world_of w e).tree r.runner.name a.tree r.confined);
      }

  -- an event stays inside, or is on the menu
  one : (w : World) (e : Event) → Runs w → IsMadeOn cpu e → ((r : Occupant) → runs_on w cpu ≡ Some r → In r.name own
      → IsExit look w r.name e → IsOnMenu own look g w cpu e) → IsUnseen own look w e ⊎ IsOnMenu own look g w cpu e
  one w e r m f = elim (confined_stays_or_exits own look w cpu e r.runner r.there r.own_is r.confined m) [
    | inl x ↦ inl x
    | inr x ↦ inr (f r.runner r.there r.own_is x)
  ]

  set_unseen : (w : World) (c : Ctx) → Runs w → IsUnseen own look w (E.SetContext cpu c)
  set_unseen w c r = rw r.there (r.own_is, tt)

  -- where an event is on the menu it gives no word
  gave_none : (w : World) (e : Event) (u : ℕ) → outcome_of w e ≡ O.Word u → IsOnMenu own look g w cpu e → ⊥
  gave_none w e u q m = rw q at m.word

  load_rest : (w : World) (e : Event) (c : Ctx) (a : ℕ) (o : Outcome) → outcome_of w e ≡ o → Runs w
      → IsUnseen own look w e ⊎ IsOnMenu own look g w cpu e
      → KeepsToMenu own look g (world_of w e) cpu (events_made (load_acts 0 cpu c a o))
  load_rest w e c a (O.Word u) q r (inl m) = (inl (set_unseen (world_of w e) (with_register c a u) (still w e r m)), tt)
  load_rest w e c a (O.Word u) q r (inr m) = absurd (gave_none w e u q m)
  load_rest w e c a O.Done q r m = tt
  load_rest w e c a (O.Reply s v) q r m = tt
  load_rest w e c a (O.Switched x y k) q r m = tt
  load_rest w e c a (O.Parked x k) q r m = tt
  load_rest w e c a O.Idle q r m = tt

  -- after a store it runs there as before
  stored : (w : World) (va : ℕ) (z : Size) (n : ℕ) (r : Runs w) (q : Reached)
      → reach w.tree r.runner.name va Store z ≡ q → outcome_of w (E.Store cpu va z n) ≡ O.Done
      → Runs (world_of w (E.Store cpu va z n))
  stored w va z n r (Faulted x) e o =
      let b = ap (λ h. h.outcome) (store_faults_are_traps w cpu va z n r.runner x r.there e
      ∙ ap (λ o. on_running w cpu o (λ r. deliver w cpu r (fault_vector x) va (16 * 1 + fault_number x))) r.there) in
      absurd (deliver-fails w cpu r.runner (fault_vector x) va (16 * 1 + fault_number x) (subst Succeeded (sym o ∙ b)
      tt))
  stored w va z n r (Place g i) e o = record {
    runner = r.runner;
    there = ap (λ h. runs_on h.world cpu) is ∙ r.there;
    own_is = r.own_is;
    confined = subst (λ h. IsConfined h.world.tree r.runner.name) (sym is) (record {
      leaf = r.confined.leaf;
      other = r.confined.other;
      there = λ va h j z k. words h (h == g) (r.confined.there va h j z k);
    });
  }
    where
      is : what_happens w (E.Store cpu va z n) ≡ wrote w cpu r.runner va z n (Place g i)
      is = rw (r.there, e)

      words : (h : ℕ) (b : Bool) → is_some (w.tree.words h) ≡ true → is_some (cond b (Some (λ j. cond (j == i)
          (written_over va z n (word_of (w.tree.words g) i)) (word_of (w.tree.words g) j))) (w.tree.words h)) ≡ true
      words h true k = refl
      words h false k = k

  store_rest : (w : World) (va : ℕ) (z : Size) (n : ℕ) (c : Ctx) (o : Outcome) → outcome_of w (E.Store cpu va z n) ≡ o
      → (r : Runs w)
      → KeepsToMenu own look g (world_of w (E.Store cpu va z n)) cpu (events_made (store_acts 0 cpu c o))
  store_rest w va z n c O.Done q r = (
    inl (set_unseen (world_of w (E.Store cpu va z n)) (at_next c)
        (stored w va z n r (reach w.tree r.runner.name va Store z) refl q)),
    tt,
  )
  store_rest w va z n c (O.Word u) q r = tt
  store_rest w va z n c (O.Reply s v) q r = tt
  store_rest w va z n c (O.Switched x y k) q r = tt
  store_rest w va z n c (O.Parked x k) q r = tt
  store_rest w va z n c O.Idle q r = tt

  keeps_effect : (w : World) (c : Ctx) (f : Effect) → Runs w
      → ExitsAreOnMenu own look g w cpu (events_made (effect_acts w 0 cpu c f))
      → KeepsToMenu own look g w cpu (events_made (effect_acts w 0 cpu c f))
  keeps_effect w c (F.Sets a n) r x = (inl (set_unseen w (with_register c a n) r), tt)
  keeps_effect w c (F.Goes pc) r x = (inl (set_unseen w (record c { pc = pc }) r), tt)
  keeps_effect w c (F.Links a pc) r x = (inl (set_unseen w (with_link c a pc) r), tt)
  keeps_effect w c (F.Shows n) r x = (inl (set_unseen w (at_next c) r), tt)
  keeps_effect w c (F.Loads a va z) r x =
      let m = one w (E.Load cpu va z) r refl x.0 in
      (m, load_rest w (E.Load cpu va z) c a (outcome_of w (E.Load cpu va z)) refl r m)
  keeps_effect w c (F.Stores va n z) r x = (
    one w (E.Store cpu va z n) r refl x.0,
    store_rest w va z n c (outcome_of w (E.Store cpu va z n)) refl r,
  )
  keeps_effect w c (F.Traps j a b) r x = (one w (E.Trap cpu j a b) r refl x.0, tt)
  keeps_effect w c (F.Interrupts j) r x =
      let m = set_unseen w (at_next c) r in (
        inl m,
        (
          one (world_of w (E.SetContext cpu (at_next c))) (E.Trap cpu j 0 0) (still w (E.SetContext cpu (at_next c))
              r m) refl x.1.0,
          tt,
        ),
      )
  keeps_effect w c (F.Calls n) r x =
      let m = set_unseen w (at_next c) r in (
        inl m,
        (
          one (world_of w (E.SetContext cpu (at_next c))) (E.Call cpu n (arguments c))
              (still w (E.SetContext cpu (at_next c)) r m) refl x.1.0,
          tt,
        ),
      )

  keeps_fetch : (w : World) → Runs w → ExitsAreOnMenu own look g w cpu (events_made (fetch_acts w 0 cpu))
      → KeepsToMenu own look g w cpu (events_made (fetch_acts w 0 cpu))
  keeps_fetch w r x =
      let m = one w (E.Fetch cpu) r refl x.0 in (m, go (outcome_of w (E.Fetch cpu)) refl m x.1)
    where
      y : World
      y = world_of w (E.Fetch cpu)

      word : (u : ℕ) (o : Option Occupant) → Runs y
          → ExitsAreOnMenu own look g y cpu (events_made (word_acts y 0 cpu u o))
          → KeepsToMenu own look g y cpu (events_made (word_acts y 0 cpu u o))
      word u None q x = tt
      word u (Some z) q x = keeps_effect y z.ctx (word_effect z.ctx u (instr_of u)) q x

      go : (o : Outcome) → outcome_of w (E.Fetch cpu) ≡ o → IsUnseen own look w (E.Fetch cpu)
          ⊎ IsOnMenu own look g w cpu
          (E.Fetch cpu) → ExitsAreOnMenu own look g y cpu (events_made (acts_after_fetch y 0 cpu o))
          → KeepsToMenu own look g y cpu (events_made (acts_after_fetch y 0 cpu o))
      go (O.Word u) q (inl m) x = word u (runs_on y cpu) (still w (E.Fetch cpu) r m) x
      go (O.Word u) q (inr m) x = absurd (gave_none w (E.Fetch cpu) u q m)
      go O.Done q m x = tt
      go (O.Reply s v) q m x = tt
      go (O.Switched a b k) q m x = tt
      go (O.Parked a k) q m x = tt
      go O.Idle q m x = tt

pub confined_keeps_to_menu : ConfinedKeepsToMenu
confined_keeps_to_menu own look g w cpu r k i c x vain =
    keeps_fetch own look g cpu w (record { runner = r; there = k; own_is = i; confined = c }) (x vain)
