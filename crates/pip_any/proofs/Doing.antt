-- What a program does in a turn: it stays inside, or leaves by a deed of the menu.
use Rattle.std.proofs.Common.{◌≡◌, ℕ, ◌⊎◌, inl, inr, true, List, [], ◌∷◌, refl, sym, ap, ◌∙◌, subst}
use Rattle.std.proofs.Common.{Option, Some, None, slice_get, option_map}
use Rattle.std.proofs.lemmas.List.{append-nil}
use Rattle.pip_base.specs.declared.outcome.Outcome.{Outcome}
use Rattle.pip_base.specs.declared.outcome.Outcome.TheVariants as O
use Rattle.pip_base.specs.declared.types.Ctx.{Ctx}
use Rattle.pip_every.specs.Menus.{Menu, deed_event, deed_line, is_its, name_on}
use Rattle.pip_every.specs.declared.menus.Deed.{Deed}
use Rattle.pip_every.specs.declared.menus.Deed.TheVariants as D
use Rattle.pip_every.specs.declared.menus.May.{May}
use Rattle.pip_model.specs.Acts.{Act, Makes, after_acts, events_made, text_of}
use Rattle.pip_model.specs.Effects.{at_next, word_effect}
use Rattle.pip_model.specs.Events.{Event}
use Rattle.pip_model.specs.Events as E
use Rattle.pip_base.specs.declared.types.Access.TheVariants.{Load}
use Rattle.pip_base.specs.declared.types.Size.{Size}
use Rattle.pip_model.specs.Happens.{after, event, load_happens, on_running}
use Rattle.pip_model.specs.Reach.{Faulted, Place, Reached, reach}
use Rattle.pip_model.specs.InstrRead.{instr_of}
use Rattle.pip_model.specs.Turn.{acts_after_fetch, arguments, call_line, effect_acts, fetch_acts, load_acts}
use Rattle.pip_model.specs.Turn.{moved_line, outcome_of, store_acts, word_acts, world_of}
use Rattle.pip_model.specs.Worlds.{World, runs_on}
use Rattle.pip_model.specs.declared.effect.Effect.{Effect}
use Rattle.pip_model.specs.declared.effect.Effect.TheVariants as F
use Rattle.pip_model.specs.declared.processors.Occupant.{Occupant}
use Rattle.pip_model.proofs.OnLists.Acts.{after-events}
use Rattle.pip_guests.specs.Outside.{Alike, AlikeOn, IsAlike, ReadsOutside}
use Rattle.pip_guests.specs.Unseen.{Answers, IsUnseen}
use Rattle.pip_guests.proofs.Alikes.{alike_back, alike_on}
use Rattle.pip_guests.proofs.Masks.{reach_alike}
use Rattle.pip_guests.proofs.Moved.{outside_depends_on_outside}
use Rattle.pip_guests.proofs.Staying.{unseen_is_unseen}
use Rattle.pip_guests.proofs.Turning.{runs_alike}
use Rattle.pip_any.specs.Hostile.{AllUnseen, DeedAnswers, IsNoWord, IsOnMenu, KeepsToMenu, StandsForEvent}

-- ---- worlds that look alike

pub root_alike : (own : List ℕ) (look : ℕ → ℕ → ℕ → ℕ) (w v : World) → Alike own look w v
    → w.tree.root.name ≡ v.tree.root.name
root_alike own look w v a = ap (λ t. t.root.name) a.tree.nodes

pub name_alike : (own : List ℕ) (look : ℕ → ℕ → ℕ → ℕ) (w v : World) (cpu : ℕ) → Alike own look w v
    → name_on w cpu ≡ name_on v cpu
name_alike own look w v cpu a = go (runs_on w cpu) (runs_on v cpu) (runs_alike own look w v cpu a)
  where
    go : (o p : Option Occupant) → AlikeOn own o p → option_map (λ r. r.name) o ≡ option_map (λ r. r.name) p
    go None None l = refl
    go None (Some q) l = absurd l
    go (Some r) None l = absurd l
    go (Some r) (Some q) l = rw l.0

-- ---- lines

-- what an event shows by its outcome
abbrev line_of : ℕ → Event → Outcome → List ℕ
line_of cpu (E.Call c n a) o = call_line 0 cpu n o
line_of cpu (E.Load c a z) o = moved_line 0 cpu o
line_of cpu (E.Store c a z x) o = moved_line 0 cpu o
line_of cpu (E.Fetch c) o = moved_line 0 cpu o
line_of cpu (E.Trap c k a b) o = moved_line 0 cpu o
line_of cpu (E.Raise j) o = []
line_of cpu (E.Poll c) o = []
line_of cpu (E.SetContext c x) o = []

line_same : (cpu : ℕ) (d : Deed) (e : Event) (o : Outcome) → StandsForEvent d e → line_of cpu e o ≡ deed_line cpu d o
line_same cpu (D.Call number args) (E.Call c n a) o s = rw s
line_same cpu (D.Call number args) (E.Load c a z) o s = absurd s
line_same cpu (D.Call number args) (E.Store c a z x) o s = absurd s
line_same cpu (D.Call number args) (E.Fetch c) o s = absurd s
line_same cpu (D.Call number args) (E.Trap c k a b) o s = absurd s
line_same cpu (D.Load va z) (E.Call c n a) o s = absurd s
line_same cpu (D.Load va z) (E.Load c a y) o s = refl
line_same cpu (D.Load va z) (E.Store c a y x) o s = refl
line_same cpu (D.Load va z) (E.Fetch c) o s = refl
line_same cpu (D.Load va z) (E.Trap c k a b) o s = refl
line_same cpu (D.StoreWord va y) (E.Call c n a) o s = absurd s
line_same cpu (D.StoreWord va y) (E.Load c a z) o s = refl
line_same cpu (D.StoreWord va y) (E.Store c a z x) o s = refl
line_same cpu (D.StoreWord va y) (E.Fetch c) o s = refl
line_same cpu (D.StoreWord va y) (E.Trap c k a b) o s = refl
line_same cpu (D.StoreByte va y) (E.Call c n a) o s = absurd s
line_same cpu (D.StoreByte va y) (E.Load c a z) o s = refl
line_same cpu (D.StoreByte va y) (E.Store c a z x) o s = refl
line_same cpu (D.StoreByte va y) (E.Fetch c) o s = refl
line_same cpu (D.StoreByte va y) (E.Trap c k a b) o s = refl
line_same cpu (D.Trap v x y) (E.Call c n a) o s = absurd s
line_same cpu (D.Trap v x y) (E.Load c a z) o s = refl
line_same cpu (D.Trap v x y) (E.Store c a z w) o s = refl
line_same cpu (D.Trap v x y) (E.Fetch c) o s = refl
line_same cpu (D.Trap v x y) (E.Trap c k a b) o s = refl
line_same cpu (D.Call number args) (E.Raise j) o s = absurd s
line_same cpu (D.Load va z) (E.Raise j) o s = absurd s
line_same cpu (D.StoreWord va y) (E.Raise j) o s = absurd s
line_same cpu (D.StoreByte va y) (E.Raise j) o s = absurd s
line_same cpu (D.Trap v x y) (E.Raise j) o s = absurd s
line_same cpu (D.Call number args) (E.Poll c) o s = absurd s
line_same cpu (D.Load va z) (E.Poll c) o s = absurd s
line_same cpu (D.StoreWord va y) (E.Poll c) o s = absurd s
line_same cpu (D.StoreByte va y) (E.Poll c) o s = absurd s
line_same cpu (D.Trap v x y) (E.Poll c) o s = absurd s
line_same cpu (D.Call number args) (E.SetContext c z) o s = absurd s
line_same cpu (D.Load va z) (E.SetContext c x) o s = absurd s
line_same cpu (D.StoreWord va y) (E.SetContext c z) o s = absurd s
line_same cpu (D.StoreByte va y) (E.SetContext c z) o s = absurd s
line_same cpu (D.Trap v x y) (E.SetContext c z) o s = absurd s

-- a load that is answered gives a word
gave_word : (w : World) (cpu : ℕ) (r : Occupant) (va : ℕ) (z : Size) (q : Reached) → Answers q
    → IsNoWord (load_happens w cpu r va Load z q).outcome → ⊥
gave_word w cpu r va z (Place g i) a n = n
gave_word w cpu r va z (Faulted f) a n = absurd a

-- a deed that gives no word in one world is no load that is answered in another that looks alike
no_answer : (own : List ℕ) (look : ℕ → ℕ → ℕ → ℕ) (x v : World) (cpu : ℕ) (d : Deed) → Alike own look x v
    → IsNoWord (event x (deed_event cpu d)).outcome → DeedAnswers v cpu d → ⊥
no_answer own look x v cpu (D.Load va z) a n m =
    by (runs_on x cpu) refl (rw (← m.1) (runs_alike own look x v cpu a))
  where
    by : (o : Option Occupant) → runs_on x cpu ≡ o → AlikeOn own o (Some m.0) → ⊥
    by None k b = b
    by (Some q) k b =
        let there : reach x.tree q.name va Load z ≡ reach v.tree m.0.name va Load z =
        cc (b.0, reach_alike look x.tree v.tree m.0.name va Load z a.tree) in
        gave_word x cpu q va z (reach x.tree q.name va Load z) (rw there m.2)
        (rw k at n)
no_answer own look x v cpu (D.StoreWord va y) a n m = m
no_answer own look x v cpu (D.StoreByte va y) a n m = m
no_answer own look x v cpu (D.Trap k y z) a n m = m
no_answer own look x v cpu (D.Call number args) a n m = m

-- a context that is set is on no menu
not_set : (d : Deed) (cpu : ℕ) (c : Ctx) → StandsForEvent d (E.SetContext cpu c) → ⊥
not_set (D.Load va z) cpu c s = s
not_set (D.StoreWord va y) cpu c s = s
not_set (D.StoreByte va y) cpu c s = s
not_set (D.Trap v x y) cpu c s = s
not_set (D.Call number args) cpu c s = s

module _ (own : List ℕ) (look : ℕ → ℕ → ℕ → ℕ) (g : Menu) (cpu : ℕ) (v : World) (deeds : (place : ℕ) (d : May)
    → slice_get g.may place ≡ Some d → is_its v.tree.root.name (name_on v cpu) d ≡ true → (DeedAnswers v cpu d.deed → ⊥)
    → ReadsOutside own look v (deed_event cpu d.deed)) where
  -- acts leave by a deed: they show what it shows in v, and both lead to worlds that look alike
  pub record LeavesBy (x : World) (acts : List Act) : Type 0 where
    pub place : ℕ
    pub may : May
    pub at : slice_get g.may place ≡ Some may
    pub its : is_its v.tree.root.name (name_on v cpu) may ≡ true
    pub same : text_of acts ≡ deed_line cpu may.deed (outcome_of v (deed_event cpu may.deed))
    pub alike : Alike own look (after_acts x acts) (world_of v (deed_event cpu may.deed))

  -- acts stay inside, or leave so
  abbrev pub Does : World → List Act → Type 0
  Does x acts = AllUnseen own look x (events_made acts) ⊎ LeavesBy x acts

  -- what nobody sees leaves the world as it looks
  pub unseen_alike : (es : List Event) (x y : World) → AllUnseen own look x es → Alike own look x y
      → Alike own look (after x es) y
  unseen_alike [] x y m a = a
  unseen_alike (e ∷ es) x y m a = unseen_alike es (event x e).world y m.1
      (alike_on own look (event x e).world x y (unseen_is_unseen own look x e m.0) a)

  -- one event stays inside, and the rest does what it does
  goes_on : (x : World) (e : Event) (acts : List Act) → IsUnseen own look x e → Does (world_of x e) acts
      → Does x (Makes e ∷ acts)
  goes_on x e acts m (inl all) = inl (m, all)
  goes_on x e acts m (inr l) =
      inr (search)

  -- an event is on the menu, and what comes after it stays inside
  leaves : (x : World) (e : Event) (acts : List Act) → Alike own look x v → IsOnMenu own look g x cpu e
      → AllUnseen own look (world_of x e) (events_made acts) → text_of acts ≡ line_of cpu e (outcome_of x e)
      → LeavesBy x (Makes e ∷ acts)
  leaves x e acts a m all shows = record {
    place = m.place;
    may = m.may;
    at = m.at;
    its = its;
    same = rw (shows, outcome, line_same cpu m.may.deed e (outcome_of v (deed_event cpu m.may.deed)) m.stands);
    alike = rw (after-events (world_of x e) acts) (unseen_alike (events_made acts) (world_of x e)
        (world_of v (deed_event cpu m.may.deed)) all after_it);
  }
    where
      its : is_its v.tree.root.name (name_on v cpu) m.may ≡ true
      its = let r = root_alike own look x v a in let n = name_alike own look x v cpu a in
          sym (λ i. is_its (r i) (n i) m.may) ∙ m.its

      there : IsAlike own look (deed_event cpu m.may.deed) v x
      there = outside_depends_on_outside own look v x (deed_event cpu m.may.deed) (alike_back own look x v a)
          (deeds m.place m.may m.at its (no_answer own look x v cpu m.may.deed a
          (rw (← m.outcome) m.word)))

      outcome : outcome_of x e ≡ outcome_of v (deed_event cpu m.may.deed)
      outcome = m.outcome ∙ sym there.outcome

      after_it : Alike own look (world_of x e) (world_of v (deed_event cpu m.may.deed))
      after_it = alike_on own look (world_of x e) (world_of x (deed_event cpu m.may.deed))
          (world_of v (deed_event cpu m.may.deed)) m.alike (alike_back own look _ _ there.world)

  -- one event, after which nothing leaves
  one_event : (x : World) (e : Event) (acts : List Act) → Alike own look x v
      → IsUnseen own look x e ⊎ IsOnMenu own look g x cpu e → AllUnseen own look (world_of x e) (events_made acts)
      → text_of acts ≡ line_of cpu e (outcome_of x e) → Does x (Makes e ∷ acts)
  one_event x e acts a (inl m) all shows = inl (m, all)
  one_event x e acts a (inr m) all shows = inr (leaves x e acts a m all shows)

  set_unseen : (x : World) (c : Ctx) → IsUnseen own look x (E.SetContext cpu c)
      ⊎ IsOnMenu own look g x cpu (E.SetContext cpu c)
      → IsUnseen own look x (E.SetContext cpu c)
  set_unseen x c (inl m) = m
  set_unseen x c (inr m) = absurd (not_set m.may.deed cpu c m.stands)

  -- what comes after a load and a store
  record Rest (y : World) (acts : List Act) (line : List ℕ) : Type 0 where
    all : AllUnseen own look y (events_made acts)
    shows : text_of acts ≡ line

  load_rest : (y : World) (c : Ctx) (a : ℕ) (o : Outcome)
      → KeepsToMenu own look g y cpu (events_made (load_acts 0 cpu c a o))
      → Rest y (load_acts 0 cpu c a o) (moved_line 0 cpu o)
  load_rest y c a (O.Word u) k = record { all = (set_unseen y _ k.0, tt); shows = refl }
  load_rest y c a O.Done k = record { all = tt; shows = refl }
  load_rest y c a (O.Reply s z) k = record { all = tt; shows = refl }
  load_rest y c a (O.Switched p q n) k = record { all = tt; shows = append-nil _ }
  load_rest y c a (O.Parked p n) k = record { all = tt; shows = append-nil _ }
  load_rest y c a O.Idle k = record { all = tt; shows = refl }

  store_rest : (y : World) (c : Ctx) (o : Outcome)
      → KeepsToMenu own look g y cpu (events_made (store_acts 0 cpu c o))
      → Rest y (store_acts 0 cpu c o) (moved_line 0 cpu o)
  store_rest y c (O.Word u) k = record { all = tt; shows = refl }
  store_rest y c O.Done k = record { all = (set_unseen y _ k.0, tt); shows = refl }
  store_rest y c (O.Reply s z) k = record { all = tt; shows = refl }
  store_rest y c (O.Switched p q n) k = record { all = tt; shows = append-nil _ }
  store_rest y c (O.Parked p n) k = record { all = tt; shows = append-nil _ }
  store_rest y c O.Idle k = record { all = tt; shows = refl }

  -- what an instruction does
  effect_does : (x : World) (c : Ctx) (f : Effect) → Alike own look x v
      → KeepsToMenu own look g x cpu (events_made (effect_acts x 0 cpu c f)) → Does x (effect_acts x 0 cpu c f)
  effect_does x c (F.Sets a n) h k = inl (set_unseen x _ k.0, tt)
  effect_does x c (F.Goes pc) h k = inl (set_unseen x _ k.0, tt)
  effect_does x c (F.Links a pc) h k = inl (set_unseen x _ k.0, tt)
  effect_does x c (F.Shows n) h k = inl (set_unseen x _ k.0, tt)
  effect_does x c (F.Loads a va z) h k =
      let r = load_rest (world_of x (E.Load cpu va z)) c a (outcome_of x (E.Load cpu va z)) k.1 in
      one_event x (E.Load cpu va z) _ h k.0 r.all r.shows
  effect_does x c (F.Stores va n z) h k =
      let r = store_rest (world_of x (E.Store cpu va z n)) c (outcome_of x (E.Store cpu va z n)) k.1 in
      one_event x (E.Store cpu va z n) _ h k.0 r.all r.shows
  effect_does x c (F.Traps j a b) h k = one_event x (E.Trap cpu j a b) _ h k.0 tt (append-nil _)
  effect_does x c (F.Interrupts j) h k =
      let m = set_unseen x _ k.0 in
      goes_on x (E.SetContext cpu (at_next c)) _ m
      (one_event (world_of x (E.SetContext cpu (at_next c))) (E.Trap cpu j 0 0) _
      (unseen_alike (E.SetContext cpu (at_next c) ∷ []) x v (m, tt) h) k.1.0 tt (append-nil _))
  effect_does x c (F.Calls n) h k =
      let m = set_unseen x _ k.0 in
      goes_on x (E.SetContext cpu (at_next c)) _ m
      (one_event (world_of x (E.SetContext cpu (at_next c))) (E.Call cpu n (arguments c)) _
      (unseen_alike (E.SetContext cpu (at_next c) ∷ []) x v (m, tt) h) k.1.0 tt (append-nil _))

  -- a fetch, and what comes after it
  pub fetch_does : (x : World) → Alike own look x v
      → KeepsToMenu own look g x cpu (events_made (fetch_acts x 0 cpu)) → Does x (fetch_acts x 0 cpu)
  fetch_does x h k = by (outcome_of x (E.Fetch cpu)) refl k.0 k.1
    where
      y : World
      y = world_of x (E.Fetch cpu)

      word : (u : ℕ) (o : Option Occupant) → Alike own look y v
          → KeepsToMenu own look g y cpu (events_made (word_acts y 0 cpu u o)) → Does y (word_acts y 0 cpu u o)
      word u None a k = inl tt
      word u (Some r) a k = effect_does y r.ctx (word_effect r.ctx u (instr_of u)) a k

      by : (o : Outcome) → outcome_of x (E.Fetch cpu) ≡ o
          → IsUnseen own look x (E.Fetch cpu) ⊎ IsOnMenu own look g x cpu (E.Fetch cpu)
          → KeepsToMenu own look g y cpu (events_made (acts_after_fetch y 0 cpu o))
          → Does x (Makes (E.Fetch cpu) ∷ acts_after_fetch y 0 cpu o)
      by (O.Word u) e (inl m) k = goes_on x (E.Fetch cpu) (word_acts y 0 cpu u (runs_on y cpu)) m
          (word u (runs_on y cpu) (unseen_alike (E.Fetch cpu ∷ []) x v (m, tt) h) k)
      by (O.Word u) e (inr m) k = absurd (rw e at m.word)
      by O.Done e n k = one_event x (E.Fetch cpu) _ h n tt (append-nil _ ∙ sym (ap (moved_line 0 cpu) e))
      by (O.Reply s z) e n k = one_event x (E.Fetch cpu) _ h n tt (append-nil _ ∙ sym (ap (moved_line 0 cpu) e))
      by (O.Switched p q j) e n k = one_event x (E.Fetch cpu) _ h n tt (append-nil _ ∙ sym (rw e))
      by (O.Parked p j) e n k = one_event x (E.Fetch cpu) _ h n tt (append-nil _ ∙ sym (rw e))
      by O.Idle e n k = one_event x (E.Fetch cpu) _ h n tt (append-nil _ ∙ sym (ap (moved_line 0 cpu) e))
