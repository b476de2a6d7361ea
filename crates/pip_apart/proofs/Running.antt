-- Turns of several guests one after another: each guest has those that it has alone.
use Rattle.std.proofs.Common.{◌≡◌, ◌≢◌, ℕ, ◌<◌, inl, inr, Bool, true, false, cond, List, [], ◌∷◌, ◌++◌, refl, sym, ap}
use Rattle.std.proofs.Common.{subst, Some, None, ◌≤◌, arith, length}
use Rattle.std.specs.Prelude.{filter}
use Rattle.std.specs.List.{AllByRecursion}
use Rattle.std.proofs.lemmas.Bool.Decides.{eqb_tells}
use Rattle.pip_base.specs.declared.types.Plan.{Plan}
use Rattle.pip_model.specs.Acts.{Makes, after_acts, text_of}
use Rattle.pip_model.specs.Due.{is_due}
use Rattle.pip_model.specs.Events.{Event, IsEvent}
use Rattle.pip_model.specs.Events as E
use Rattle.pip_model.specs.Happens.{event}
use Rattle.pip_model.specs.Lists.{In, has}
use Rattle.pip_model.specs.Local.{actor}
use Rattle.pip_model.specs.Run.{raises}
use Rattle.pip_model.specs.Tree.{ancestry}
use Rattle.pip_model.specs.Worlds.{IsSoundWorld, World, nothing, runs_on}
use Rattle.pip_model.specs.Turn.{acts_after_poll, turn}
use Rattle.pip_model.specs.declared.processors.Occupant.{Occupant}
use Rattle.pip_model.proofs.OnLists.Acts.{after-append}
use Rattle.pip_model.proofs.OnLists.Members.{has_in, in_has}
use Rattle.pip_model.proofs.Events.Soundness.{event-sound}
use Rattle.pip_model.proofs.Trees.Free.{IsName}
use Rattle.pip_guests.specs.Guests.{IsSameGuest, PollsInVain}
use Rattle.pip_guests.specs.Programs.{IsInsideTurn, IsRunAsAlone, Slot, all_steps, next_world, ready, turn_of, turns}
use Rattle.pip_guests.proofs.Elsewhere.{others_leave_guests_alone, same_sym, same_world}
use Rattle.pip_guests.proofs.Programs.{RunAlone, after_step, other_turn, own_turn}
use Rattle.pip_guests.proofs.Together.{name_there}
use Rattle.pip_apart.specs.Company.{AloneIsAnOrder, AreGuests, IsOfGuests, IsShownAlone, runs_below, slots_of}
use Rattle.pip_apart.proofs.Company.{Alone, Company, Owns, alone_on, company_on, idle_turn, none_below, not_both}
use Rattle.pip_apart.proofs.Company.{turn_on}

-- C says why polls are in vain in company, and B why they are where a guest is alone. Lines of which R holds may be
-- raised: they are below 16, and C holds again
module _ (w0 : World) (ps : List ℕ) (g : AreGuests w0 ps) (B : ℕ → World → Type 0) (C : World → Type 0)
    (R : ℕ → Type 0)
    (vain_alone : (w : World) (q cpu : ℕ) (r : Occupant) → IsSoundWorld w → B q w → runs_on w cpu ≡ Some r
    → PollsInVain w cpu)
    (later_alone : (w : World) (q cpu t : ℕ) → IsSoundWorld w → IsName w.tree q → q ≢ w.tree.root.name → B q w
    → PollsInVain w cpu → IsInsideTurn q w cpu t → B q (after_acts w (turn w cpu t)))
    (vain : (w : World) (cpu : ℕ) (r : Occupant) → IsSoundWorld w → C w → runs_on w cpu ≡ Some r → PollsInVain w cpu)
    (later : (w : World) (q cpu t : ℕ) → In q ps → IsSoundWorld w → IsName w.tree q → q ≢ w.tree.root.name → C w
    → PollsInVain w cpu → IsInsideTurn q w cpu t → IsSoundWorld (after_acts w (turn w cpu t))
    → ((p : ℕ) → In p ps → p ≢ q → IsName w.tree p × IsSameGuest p w (after_acts w (turn w cpu t)))
    → C (after_acts w (turn w cpu t)))
    (idle : (w : World) (cpu : ℕ) → IsSoundWorld w → C w → runs_on w cpu ≡ None → event w (E.Poll cpu) ≡ nothing w)
    (line : (j : ℕ) → R j → j < 16)
    (raised : (w : World) (j : ℕ) → IsSoundWorld w → C w → R j → C (event w (E.Raise j)).world)
    (plans : List Plan) where
  abbrev Group : World → Type 0
  Group w = Company w0 ps B C vain_alone later_alone vain later w

  abbrev One : ℕ → World → World → Type 0
  One q u w = Alone w0 ps B C vain_alone later_alone vain later q u w

  -- the lines that are due at a step are those of which R holds
  abbrev pub AreRaised : List Plan → ℕ → Type 0
  AreRaised [] t = Unit {0}
  AreRaised (x ∷ xs) t = (is_due x t ≡ true → R x.line) × AreRaised xs t

  -- ---- lines that are raised

  raise_on : (w : World) (j : ℕ) → Group w → R j → Group (event w (E.Raise j)).world
  raise_on w j c r =
      let ev = line j r in
      company_on w0 ps B C vain_alone later_alone vain later w (event w (E.Raise j)).world c (event-sound w (E.Raise
      j) c.sound ev)
      (raised w j c.sound c.no_faults r)
      (λ q i. (others_leave_guests_alone w q (E.Raise j) c.sound ev (c.names q i) (c.not_root q i) tt).same)
      (λ cpu e. e)

  raise_alone : (w u : World) (j q : ℕ) → Group w → R j → In q ps → One q u w → One q u (event w (E.Raise j)).world
  raise_alone w u j q c r i a =
      let ev = line j r in
      alone_on w0 ps B C vain_alone later_alone vain later q u w (event w (E.Raise j)).world c.sound (event-sound w
      (E.Raise j) c.sound ev)
      (c.names q i) a
      (others_leave_guests_alone w q (E.Raise j) c.sound ev (c.names q i) (c.not_root q i) tt).same

  record Ready (w v : World) : Type 0 where
    group : Group v
    one : (q : ℕ) (u : World) → In q ps → One q u w → One q u v

  raises_on : (xs : List Plan) (t : ℕ) (w : World) → Group w → AreRaised xs t → Ready w (after_acts w (raises xs t))
  raises_on [] t w c r = record { group = c; one = λ q u i a. a }
  raises_on (x ∷ xs) t w c r = go (is_due x t) r.0 (λ v k. raises_on xs t v k r.1)
    where
      go : (d : Bool) → (d ≡ true → R x.line) → ((v : World) → Group v → Ready v (after_acts v (raises xs t)))
          → Ready w (after_acts w (cond d (Makes (E.Raise x.line) ∷ raises xs t) (raises xs t)))
      go true h more =
          let one = h refl in
          let rest = more (event w (E.Raise x.line)).world (raise_on w x.line c one) in
          record { group = rest.group; one = λ q u i a. rest.one q u i (raise_alone w u x.line q c one i a) }
      go false h more = more w c

  -- ---- one step, and several

  -- a slot of another guest, or of a processor that runs nothing, is none of p's
  owns_not : (p q : ℕ) (s : Slot) → In p ps → In q ps → p ≢ q → Owns w0 ps B C vain_alone later_alone vain later q s
      → runs_below w0 p s.cpu ≡ false
  owns_not p q s i j d o = not_both w0 p q (actor w0 (E.Poll s.cpu)) g.sound
      (g.aside q p j i (λ e. d (sym e))) (has_in q _ o)

  -- the guest p has its turns of the slots ss as it has those of the slots xs alone, and in the end the guests are a
  -- company again, and p is as it is alone
  pub record Ran (p : ℕ) (w u : World) (ss xs : List Slot) : Type 0 where
    pub run : RunAlone plans p w u ss xs
    pub group : Group (after_acts w (all_steps plans w ss))
    pub one : One p (after_acts u (turns u xs)) (after_acts w (all_steps plans w ss))

  on_slot : (p : ℕ) (s : Slot) (ss : List Slot) (w u : World) (b : Bool) → runs_below w0 p s.cpu ≡ b
      → Ran p w u (s ∷ ss) (cond b (s ∷ slots_of w0 p ss) (slots_of w0 p ss))
      → Ran p w u (s ∷ ss) (slots_of w0 p (s ∷ ss))
  on_slot p s ss w u b e h =
      rw e h

  -- a turn of the guest, and one of another
  own_ran : (p : ℕ) (s : Slot) (ss xs : List Slot) (w u : World)
      → has (ancestry (ready plans w s).tree (actor (ready plans w s) (E.Poll s.cpu))) p ≡ true
      → turn_of (ready plans w s) s ≡ turn_of u s → Ran p (next_world plans w s) (after_acts u (turn_of u s)) ss xs
      → Ran p w u (s ∷ ss) (s ∷ xs)
  own_ran p s ss xs w u own same h = record {
    run = own_turn plans p s ss xs w u own same h.run;
    group = rw (after_step plans w s ss) h.group;
    one = rw (after_step plans w s ss) (subst (λ x. One p x
        (after_acts (next_world plans w s) (all_steps plans (next_world plans w s) ss)))
        (sym (after-append u (turn_of u s) (turns (after_acts u (turn_of u s)) xs))) h.one);
  }

  other_ran : (p : ℕ) (s : Slot) (ss xs : List Slot) (w u : World)
      → has (ancestry (ready plans w s).tree (actor (ready plans w s) (E.Poll s.cpu))) p ≡ false
      → Ran p (next_world plans w s) u ss xs → Ran p w u (s ∷ ss) xs
  other_ran p s ss xs w u others h = record {
    run = other_turn plans p s ss xs w u others h.run;
    group = rw (after_step plans w s ss) h.group;
    one = rw (after_step plans w s ss) h.one;
  }

  pub run_on : (ss : List Slot) (w : World) → Group w → AllByRecursion (λ s. AreRaised plans s.step) ss
      → AllByRecursion (IsOfGuests w0 ps) ss → (p : ℕ) → In p ps → (u : World) → One p u w
      → Ran p w u ss (slots_of w0 p ss)
  run_on [] w c rs os p i u a = record {
    run = record {
      acts = refl;
      guest = same_sym p u w a.sound c.sound (name_there p u w a.sound c.sound (c.names p i) a.guest) a.guest;
    };
    group = c;
    one = a;
  }
  run_on (s ∷ ss) w c rs os p i u a = elim os.0 [
    | inl x ↦ elim (eqb_tells p x.0) [
      | inl e ↦
          let o : runs_below w0 p s.cpu ≡ true = rw e.1 x.2 in
          let t = turn_on w0 ps B C vain_alone later_alone vain later p s u v i r.group one o in
          on_slot p s ss w u true o (own_ran p s ss (slots_of w0 p ss) w u (in_has p _ t.own) t.acts
          (run_on ss (next_world plans w s) t.company rs.1 os.1 p i (after_acts u (turn_of u s)) t.alone))
      | inr e ↦
          let (y, b) = r.group.alone x.0 x.1 in
          let t = turn_on w0 ps B C vain_alone later_alone vain later x.0 s y v x.1 r.group b x.2 in
          let others = not_both v p x.0 (actor v (E.Poll s.cpu)) r.group.sound
          (r.group.aside x.0 p x.1 i (λ f. e.1 (sym f))) t.own in
          on_slot p s ss w u false (owns_not p x.0 s i x.1 e.1 x.2) (other_ran p s ss (slots_of w0 p ss) w u others
          (run_on ss (next_world plans w s) t.company rs.1 os.1 p i u (alone_on w0 ps B C vain_alone later_alone vain
          later p u v
          (next_world plans w s) r.group.sound t.company.sound (r.group.names p i) one (t.others p i e.1))))
    ]
    | inr k ↦
        let still = idle_turn v s.cpu s.step (idle v s.cpu r.group.sound r.group.no_faults (r.group.idle s.cpu k)) in
        on_slot p s ss w u false (none_below w0 p s.cpu g.sound k) (other_ran p s ss (slots_of w0 p ss) w u
        (none_below v p s.cpu r.group.sound (r.group.idle s.cpu k))
        (run_on ss (next_world plans w s) (rw still r.group) rs.1 os.1 p i u
        (rw still one)))
  ]
    where
      v : World
      v = ready plans w s

      r : Ready w v
      r = raises_on plans s.step w c rs.0

      one : One p u v
      one = r.one p u i a

  -- each guest is in w0 as it is alone
  one_at : (p : ℕ) → In p ps → B p w0 → One p w0 w0
  one_at p i k =
      record { sound = g.sound; no_faults = k; guest = same_world p w0; stays = (g.each p i).stays }

  group_at : C w0 → ((p : ℕ) → In p ps → B p w0) → Group w0
  group_at k b = record {
    sound = g.sound;
    no_faults = k;
    names = λ q i. (g.each q i).name;
    not_root = λ q i. (g.each q i).not_root;
    aside = g.aside;
    alone = λ q i. (w0, one_at q i (b q i));
    idle = λ cpu e. e;
  }

  pub guests_hold : (ss : List Slot) → C w0 → ((p : ℕ) → In p ps → B p w0)
      → AllByRecursion (λ s. AreRaised plans s.step) ss
      → AllByRecursion (IsOfGuests w0 ps) ss → (p : ℕ) → In p ps → IsRunAsAlone plans p w0 ss (slots_of w0 p ss)
  guests_hold ss k b rs os p i =
      let h = (run_on ss w0 (group_at k b) rs os p i w0 (one_at p i (b p i))).run in
      search

  -- ---- the last of several turns

  -- the guests are a company after several turns
  group_on : (ss : List Slot) (w : World) → Group w → AllByRecursion (λ s. AreRaised plans s.step) ss
      → AllByRecursion (IsOfGuests w0 ps) ss → Group (after_acts w (all_steps plans w ss))
  group_on [] w c rs os = c
  group_on (s ∷ ss) w c rs os =
      rw (after_step plans w s ss) (group_on ss (next_world plans w s) (go os.0) rs.1 os.1)
    where
      v : World
      v = ready plans w s

      r : Ready w v
      r = raises_on plans s.step w c rs.0

      go : IsOfGuests w0 ps s → Group (next_world plans w s)
      go (inl x) = let (y, b) = r.group.alone x.0 x.1 in
          (turn_on w0 ps B C vain_alone later_alone vain later x.0 s y v x.1 r.group b x.2).company
      go (inr k) = rw (idle_turn v s.cpu s.step (idle v s.cpu r.group.sound r.group.no_faults (r.group.idle s.cpu k)))
          r.group

  -- a test leaves no more than there are
  fewer : (f : Slot → Bool) (ss : List Slot) → length (filter f ss) ≤ length ss
  fewer f [] = omega arith
  fewer f (s ∷ ss) = go (f s) (fewer f ss)
    where
      go : (b : Bool) → length (filter f ss) ≤ length ss
          → length (cond b (s ∷ filter f ss) (filter f ss)) ≤ length (s ∷ ss)
      go true h = grind (arith, h)
      go false h = grind (arith, h)

  -- no turn that shows something is of a processor that runs nothing
  shows_none : (w : World) (cpu t : ℕ) → event w (E.Poll cpu) ≡ nothing w → text_of (turn w cpu t) ≡ []
  shows_none w cpu t e = ap (λ h. text_of (Makes (E.Poll cpu) ∷ acts_after_poll h.world t cpu h.outcome)) e

  pub shown_alone : (ss : List Slot) (s : Slot) → C w0 → ((p : ℕ) → In p ps → B p w0)
      → AllByRecursion (λ s. AreRaised plans s.step) (s ∷ ss) → AllByRecursion (IsOfGuests w0 ps) (s ∷ ss)
      → text_of (turn (ready plans (after_acts w0 (all_steps plans w0 ss)) s) s.cpu 0) ≢ []
      → IsShownAlone plans w0 ps ss s
  shown_alone ss s k b rs os some = elim os.0 [
    | inl x ↦
        let h = run_on ss w0 (group_at k b) rs.1 os.1 x.0 x.1 w0 (one_at x.0 x.1 (b x.0 x.1)) in
        let r = raises_on plans s.step v h.group rs.0 in
        let u = after_acts w0 (turns w0 (slots_of w0 x.0 ss)) in
        record {
          guest = x.0;
          among = x.1;
          runs = x.2;
          few = fewer (λ s. runs_below w0 x.0 s.cpu) ss;
          acts = λ t. (turn_on w0 ps B C vain_alone later_alone vain later x.0 (record { step = t; cpu = s.cpu }) u
              (ready plans v s) x.1 r.group (r.one x.0 u x.1 h.one) x.2).acts;
        }
    | inr n ↦
        let c = group_on ss w0 (group_at k b) rs.1 os.1 in
        let r = raises_on plans s.step v c rs.0 in
        absurd (some (shows_none (ready plans v s) s.cpu 0 (idle (ready plans v s) s.cpu r.group.sound r.group.no_faults
        (r.group.idle s.cpu n))))
  ]
    where
      v : World
      v = after_acts w0 (all_steps plans w0 ss)

pub alone_is_an_order : AloneIsAnOrder
alone_is_an_order w [] = refl
alone_is_an_order w (s ∷ ss) = rw (alone_is_an_order (after_acts w (turn_of w s)) ss)
