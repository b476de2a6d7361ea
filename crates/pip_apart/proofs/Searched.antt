-- What a search of a guest alone says of it, and what searches of several say of these together.
use Rattle.std.proofs.Common.{◌≡◌, ◌≢◌, ℕ, ◌+◌, ◌<◌, arith, Bool, true, false, not, cond, List, [], ◌∷◌, refl, sym}
use Rattle.std.proofs.Common.{ap, ◌∙◌, subst, length}
use Rattle.std.specs.Prelude.{slice_index}
use Rattle.std.specs.List.{AllByRecursion}
use Rattle.pip_base.specs.Memory.{Memory}
use Rattle.pip_model.specs.Events as E
use Rattle.pip_model.specs.Acts.{after_acts, text_of}
use Rattle.pip_model.proofs.OnLists.Acts.{after-append}
use Rattle.pip_model.specs.Turn.{turn}
use Rattle.pip_model.specs.Worlds.{IsSoundWorld, World}
use Rattle.pip_model.proofs.OnLists.Members.{has_in, in_has}
use Rattle.pip_model.proofs.Trees.Free.{IsName}
use Rattle.pip_guests.specs.Guests.{PollsInVain}
use Rattle.pip_guests.specs.Programs.{IsInsideTurn, AreInsideTurns, Slot, all_steps, ready, turn_of, turns}
use Rattle.pip_guests.proofs.Inside.{actor_runs}
use Rattle.pip_guests.proofs.Lines.{not_top}
use Rattle.pip_guests.proofs.Numbers.{turn_after}
use Rattle.pip_guests.proofs.Turns.{turn_name, turn_sound}
use Rattle.pip_search.specs.Reached.{AreChoices}
use Rattle.pip_search.specs.Summary.{IsShownOn, IsTold, Witness}
use Rattle.pip_search.specs.Systems.{Model, after_choices}
use Rattle.pip_search.specs.declared.searching.Extent.TheVariants.{Closed}
use Rattle.pip_apart.specs.Alone.{AreProcessors, AreSearched, MarkedGuestsLeave, NoneLeaves}
use Rattle.pip_apart.specs.Alone.{SearchedGuestsStay, SearchesAdd, guest_label, guest_model}
use Rattle.pip_apart.specs.Alone.{mark}
use Rattle.pip_apart.specs.Company.{TakesNoLine, AreGuests, StaysAlone, runs_below, slots_of}
use Rattle.pip_apart.specs.Kept.{asks_next, is_kept}
use Rattle.pip_apart.proofs.Kept.{inside_turns_ask_not, kept_turns_stay}
use Rattle.pip_apart.proofs.Marks.{no_mark}
use Rattle.pip_apart.proofs.NoLine.{alone_later, in_vain, lines_are_shown_alone, of_one}
use Rattle.pip_apart.proofs.Testing.{and_both, both}

-- what is known where a guest is alone
record At (w : World) (p : ℕ) : Type 0 where
  sound : IsSoundWorld w
  name : IsName w.tree p
  not_root : p ≢ w.tree.root.name
  lines : TakesNoLine w (p ∷ [])

-- a turn that is kept stays inside, and so it goes on
record Next (w : World) (p cpu t : ℕ) : Type 0 where
  inside : IsInsideTurn p w cpu t
  after : At (after_acts w (turn w cpu t)) p

-- the poll of a guest's processor is in vain
quiet_at : (w : World) (p cpu : ℕ) → At w p → runs_below w p cpu ≡ true → PollsInVain w cpu
quiet_at w p cpu a b =
    let (r, k, q) = actor_runs w p (E.Poll cpu) a.sound (has_in p _ b) in in_vain (p ∷ []) w cpu r a.lines k

-- a turn that stays inside
after_inside : (w : World) (p cpu t : ℕ) → At w p → PollsInVain w cpu → IsInsideTurn p w cpu t
    → At (after_acts w (turn w cpu t)) p
after_inside w p cpu t a v i =
    let s = turn_sound w p cpu t a.sound v i in
    record {
      sound = s;
      name = turn_name w p cpu t a.sound a.name a.not_root v i;
      not_root = not_top w.tree (after_acts w (turn w cpu t)).tree a.sound.tree s.tree p a.not_root;
      lines = alone_later w p cpu t a.sound a.name a.not_root a.lines v i;
    }

next_kept : (w : World) (p cpu t : ℕ) → At w p → is_kept p w cpu ≡ true → Next w p cpu t
next_kept w p cpu t a q =
    let v = quiet_at w p cpu a (both (runs_below w p cpu) _ q).0 in
    let i = kept_turns_stay p w cpu t a.sound a.not_root v q in
    record { inside = i; after = after_inside w p cpu t a v i }

module _ (first : Memory) (machine : ℕ) (w : World) (p : ℕ) (cpus : List ℕ) where
  abbrev M : Model
  M = guest_model first machine p cpus

  abbrev at : List ℕ → World
  at cs = after_choices M w cs

  -- every turn of a guest is kept, where a search closed without a turn that leaves
  kept_at : (ws : List Witness) (most limit count depth : ℕ) → IsTold M w most limit ws count (Closed depth)
      → NoneLeaves ws → (c : ℕ) (cs : List ℕ) → AreChoices M (c ∷ cs) → is_kept p (at cs) (slice_index cpus c) ≡ true
  kept_at ws most limit count depth told none c cs can = go (is_kept p (at cs) (slice_index cpus c)) refl
    where
      text : List ℕ
      text = text_of (turn (at cs) (slice_index cpus c) 0)

      go : (b : Bool) → is_kept p (at cs) (slice_index cpus c) ≡ b → b ≡ true
      go true e = refl
      go false e =
          let shown : mark ∷ text ≡ guest_label p (at cs) (slice_index cpus c) =
          cc in
          let x = told.all (mark ∷ text) (c ∷ cs) (can, shown) (λ z. let k : mark ∷ text ≡ [] = z in cc) tt in
          absurd (none x.place x.witness text x.at x.same)

  -- the world after one more turn that is kept
  next_at : (c t : ℕ) (cs : List ℕ) → is_kept p (at cs) (slice_index cpus c) ≡ true
      → at (c ∷ cs) ≡ after_acts (at cs) (turn (at cs) (slice_index cpus c) t)
  next_at c t cs e =
      rw (e, turn_after (at cs) (slice_index cpus c) 0 t)

  stays_at : ((c : ℕ) (cs : List ℕ) → AreChoices M (c ∷ cs) → is_kept p (at cs) (slice_index cpus c) ≡ true)
      → AreProcessors w p cpus → (ss : List Slot) (cs : List ℕ) → AreChoices M cs → At (at cs) p
      → AllByRecursion (λ s. runs_below w p s.cpu ≡ true) ss → AreInsideTurns p (at cs) ss
  stays_at kept are [] cs can a all = tt
  stays_at kept are (s ∷ ss) cs can a all =
      let (k, l, e) = are.all s.cpu all.0 in
      let i = kept k cs (l, can) in
      let here : is_kept p (at cs) s.cpu ≡ true = rw (← e) i in
      let n = next_kept (at cs) p s.cpu s.step a here in
      let next : at (k ∷ cs) ≡ after_acts (at cs) (turn_of (at cs) s) =
      rw (next_at k s.step cs i, e) in (
        n.inside,
        rw (← next) (stays_at kept are ss (k ∷ cs) (l, can) (subst (λ v. At v p) (sym next) n.after) all.1),
      )

  -- a guest that stays inside does so after any choices, and each of its turns is kept
  record Later (cs : List ℕ) : Type 0 where
    known : At (at cs) p
    stays : (ss : List Slot) → AllByRecursion (λ s. runs_below w p s.cpu ≡ true) ss → AreInsideTurns p (at cs) ss

  -- it runs on the processor after a turn, since another turn there stays inside, too
  kept_in : AreProcessors w p cpus → (cs : List ℕ) → Later cs → (c : ℕ) → c < length cpus
      → is_kept p (at cs) (slice_index cpus c) ≡ true
  kept_in are cs later c l =
      let cpu = slice_index cpus c in
      let s : Slot = record { step = 0; cpu = cpu } in
      let o = are.run c l in
      let i = later.stays (s ∷ s ∷ []) (o, (o, tt)) in
      and_both (runs_below (at cs) p cpu) _ (in_has p _ i.0.below) (and_both (not (asks_next p (at cs) cpu)) _
      (rw (inside_turns_ask_not p (at cs) cpu 0 later.known.sound i.0)) (in_has p _ i.1.0.below))

  later_at : At w p → AreProcessors w p cpus → StaysAlone w p → (cs : List ℕ) → AreChoices M cs → Later cs
  later_at a are stays [] can = record { known = a; stays = stays }
  later_at a are stays (c ∷ cs) can =
      let later = later_at a are stays cs can.1 in
      let cpu = slice_index cpus c in
      let s : Slot = record { step = 0; cpu = cpu } in
      let i = kept_in are cs later c can.0 in
      let next = next_at c 0 cs i in
      record {
        known = subst (λ v. At v p) (sym next) (next_kept (at cs) p cpu 0 later.known i).after;
        stays = λ ss all. subst (λ v. AreInsideTurns p v ss) (sym next) (later.stays (s ∷ ss) (are.run c can.0, all)).1;
      }

  tested_at : At w p → AreProcessors w p cpus → StaysAlone w p → (c : ℕ) (cs : List ℕ) → AreChoices M (c ∷ cs)
      → is_kept p (at cs) (slice_index cpus c) ≡ true
  tested_at a are stays c cs can = kept_in are cs (later_at a are stays cs can.1) c can.0

pub searched_guests_stay : SearchedGuestsStay
searched_guests_stay w p ws s n m k h ss all =
    stays_at h.first h.machine w p h.cpus (kept_at h.first h.machine w p h.cpus ws h.most h.limit h.count h.depth h.told
    h.none) h.processors ss [] tt (record { sound = s; name = n; not_root = m; lines = k }) all

-- a way shows a label by its last choice, whose turn is tested
not_marked : (first : Memory) (machine : ℕ) (w : World) (p : ℕ) (cpus : List ℕ) → At w p
    → AreProcessors w p cpus → StaysAlone w p → (label text way : List ℕ)
    → IsShownOn (guest_model first machine p cpus) w label way
    → label ≢ mark ∷ text
not_marked first machine w p cpus a are stays label text [] h e = absurd h
not_marked first machine w p cpus a are stays label text (c ∷ cs) h e =
    let m = guest_model first machine p cpus in
    let v = after_choices m w cs in
    let cpu = slice_index cpus c in
    let i = tested_at first machine w p cpus a are stays c cs h.0 in
    let line : guest_label p v cpu ≡ text_of (turn v cpu 0) =
    rw i in
    no_mark cpu v text (rw (← line, ← h.1, e))

pub marked_guests_leave : MarkedGuestsLeave
marked_guests_leave first w p cpus ws machine k most limit count x text end s n m q are told at e stays =
    not_marked first machine w p cpus (record { sound = s; name = n; not_root = m; lines = q }) are stays x.label text
    x.way (told.shown k x at).0 e

-- ---- several guests

-- the slots of a guest are its own
all_own : (w : World) (p : ℕ) (ss : List Slot)
    → AllByRecursion (λ s. runs_below w p s.cpu ≡ true) (slots_of w p ss)
all_own w p [] = tt
all_own w p (s ∷ ss) = go (runs_below w p s.cpu) refl (all_own w p ss)
  where
    go : (b : Bool) → runs_below w p s.cpu ≡ b → AllByRecursion (λ s. runs_below w p s.cpu ≡ true) (slots_of w p ss)
        → AllByRecursion (λ s. runs_below w p s.cpu ≡ true) (cond b (s ∷ slots_of w p ss) (slots_of w p ss))
    go true e h = (e, h)
    go false e h = h

-- turns of a guest that stay inside are choices, as many as there are slots
record Chosen (first : Memory) (machine : ℕ) (w : World) (p : ℕ) (cpus : List ℕ) (v : World) (n : ℕ) : Type 0 where
  choices : List ℕ
  can : AreChoices (guest_model first machine p cpus) choices
  count : length choices ≡ n
  world : after_choices (guest_model first machine p cpus) w choices ≡ v

chosen : (first : Memory) (machine : ℕ) (w : World) (p : ℕ) (cpus : List ℕ) → At w p → AreProcessors w p cpus
    → StaysAlone w p → (ss : List Slot) → AllByRecursion (λ s. runs_below w p s.cpu ≡ true) ss → (cs : List ℕ)
    → AreChoices (guest_model first machine p cpus) cs → (n : ℕ) → length cs + length ss ≡ n
    → Chosen first machine w p cpus (after_acts (after_choices (guest_model first machine p cpus) w cs)
    (turns (after_choices (guest_model first machine p cpus) w cs) ss)) n
chosen first machine w p cpus a are stays [] all cs can n e =
    record { choices = cs; can = can; count = grind (arith, e); world = refl }
chosen first machine w p cpus a are stays (s ∷ ss) all cs can n e =
    let m = guest_model first machine p cpus in
    let v = after_choices m w cs in
    let (k, l, d) = are.all s.cpu all.0 in
    let i = tested_at first machine w p cpus a are stays k cs (l, can) in
    let next : after_choices m w (k ∷ cs) ≡ after_acts v (turn_of v s) =
    rw (next_at first machine w p cpus k s.step cs i, d) in
    let rest = chosen first machine w p cpus a are stays ss all.1 (k ∷ cs) (l, can) n (grind (arith, e)) in
    record {
      choices = rest.choices;
      can = rest.can;
      count = rest.count;
      world = rw (rest.world, next, ← after-append v (turn_of v s) (turns (after_acts v (turn_of v s)) ss));
    }

-- they are guests that stay inside
guests_of : (w : World) (ps : List ℕ) (found : ℕ → List Witness) → AreSearched w ps found → AreGuests w ps
guests_of w ps found a = record {
  sound = a.sound;
  each = λ p i. record {
    name = a.names p i;
    not_root = a.not_root p i;
    stays = searched_guests_stay w p (found p) a.sound (a.names p i) (a.not_root p i) (of_one w ps a.lines p i)
        (a.searched p i);
  };
  aside = a.aside;
}

pub searches_add : SearchesAdd
searches_add plans w ps found ss s a all os some =
    let g = guests_of w ps found a in
    let x = lines_are_shown_alone plans w ps ss s g a.lines all os some in
    let p = x.guest in
    let h = a.searched p x.among in
    let stays = (g.each p x.among).stays in
    let m = guest_model h.first h.machine p h.cpus in
    let known : At w p = record {
      sound = a.sound;
      name = a.names p x.among;
      not_root = a.not_root p x.among;
      lines = of_one w ps a.lines p x.among;
    } in
    let y = chosen h.first h.machine w p h.cpus known h.processors stays (slots_of w p ss) (all_own w p ss) [] tt
    (length (slots_of w p ss)) (grind arith) in
    let (k, l, d) = h.processors.all s.cpu x.runs in
    let v = after_choices m w y.choices in
    let cpu = slice_index h.cpus k in
    let i = tested_at h.first h.machine w p h.cpus known h.processors stays k y.choices (l, y.can) in
    let text = text_of (turn (ready plans (after_acts w (all_steps plans w ss)) s) s.cpu 0) in
    let line : text ≡ guest_label p v cpu =
    ap text_of (x.acts 0) ∙ ap (λ c. text_of (turn (after_acts w (turns w (slots_of w p ss))) c 0)) (sym d)
    ∙ ap (λ u. text_of (turn u cpu 0)) (sym y.world)
    ∙ sym (rw i) in
    let z = h.told.all text (k ∷ y.choices) ((l, y.can), line) some tt in
    record {
      guest = p;
      among = x.among;
      place = z.place;
      witness = z.witness;
      at = z.at;
      label = z.same;
      choices = k ∷ y.choices;
      few = grind (arith, x.few, y.count);
      first = z.first;
    }
