-- Turns one after another: two guests side by side have the turns that each has alone, whatever turns others have.
use Rattle.std.proofs.Common.{◌≡◌, ◌≢◌, ℕ, zero, suc, ◌+◌, ◌<◌, add-zero, arith, zero-add, inl, inr, Bool, true, false}
use Rattle.std.proofs.Common.{cond, List, [], ◌∷◌, ◌++◌, append_assoc, refl, sym, ap, ap₂, ◌∙◌, subst, Some}
use Rattle.std.specs.List.{AllByRecursion}
use Rattle.std.proofs.lemmas.Bool.{false_from_ne_true}
use Rattle.pip_base.specs.declared.types.Plan.{Plan}
use Rattle.pip_model.specs.Acts.{Act, Makes, after_acts, events_made, text_of}
use Rattle.pip_model.specs.Due.{is_due}
use Rattle.pip_model.specs.Events.{Event, IsEvent}
use Rattle.pip_model.specs.Events as E
use Rattle.pip_model.specs.Happens.{after, event}
use Rattle.pip_model.specs.Lists.{has}
use Rattle.pip_model.specs.Local.{IsAside, actor}
use Rattle.pip_model.specs.Run.{raises, schedule, step, steps}
use Rattle.pip_model.specs.Tree.{ancestry}
use Rattle.pip_model.specs.Turn.{fetch_acts, turn}
use Rattle.pip_model.specs.Worlds.{IsSoundWorld, World, runs_on}
use Rattle.pip_model.specs.declared.processors.Occupant.{Occupant}
use Rattle.pip_model.proofs.OnLists.Acts.{after-append, after-events}
use Rattle.pip_model.proofs.OnLists.Members.{has_in, in_has}
use Rattle.pip_model.proofs.Events.Soundness.{event-sound}
use Rattle.pip_model.proofs.Locality.OneEvent.{to_trees}
use Rattle.pip_model.proofs.Trees.Free.{IsName}
use Rattle.pip_guests.specs.Guests.{IsSameGuest, PollsInVain}
use Rattle.pip_guests.specs.Programs.{AmongSlots, AllStayApart, AllStayInside, AreInsideTurns, AreOwnOrApartTurns}
use Rattle.pip_guests.specs.Programs.{AreTwoGuests, IsInsideTurn, IsRunAsAlone, LinesDoNotMatter, NoneDue, NoneTaken}
use Rattle.pip_guests.specs.Programs.{OtherTurnsDoNotMatter, ProgramsRunAsAlone, RunsAreSteps, RunsGoOn, Slot}
use Rattle.pip_guests.specs.Programs.{all_steps, left, next_world, none, own_slots, own_turns, ready, right, turn_of}
use Rattle.pip_guests.specs.Programs.{turns}
use Rattle.pip_guests.proofs.Lines.{below_before, lines_meet, not_top}
use Rattle.pip_guests.proofs.Elsewhere.{elsewhere_kept, name_kept, others_leave_guests_alone, same_sym, same_trans}
use Rattle.pip_guests.proofs.Elsewhere.{same_world}
use Rattle.pip_guests.proofs.Turns.{after_turn, fetch_same, poll_vain, quiet_after, turn_fetches, turn_name, turn_runs}
use Rattle.pip_guests.proofs.Turns.{turn_same, turn_sound}
use Rattle.pip_guests.proofs.Words.{fetch_are}
use Rattle.pip_guests.proofs.Together.{Both, guest_elsewhere, name_there, next, no_root, turned}

-- ---- two guests side by side

-- events of the first that stay inside
pub both_after : (p q : ℕ) (es : List Event) (w u v : World) → Both p q w u v → AllByRecursion IsEvent es
    → AllStayInside p u es → Both p q (after w es) (after u es) v
both_after p q [] w u v b all i = b
both_after p q (e ∷ es) w u v b all i =
    both_after p q es (event w e).world (event u e).world v (next p q e w u v b all.0 (inl i.0)).both all.1 i.1

-- a line that is raised
both_raise : (p q j : ℕ) (w u v : World) → Both p q w u v → IsEvent (E.Raise j)
    → Both p q (event w (E.Raise j)).world u v
both_raise p q j w u v b ev =
    let e = E.Raise j in
    let sw = event-sound w e b.sound ev in
    let m = no_root p q w u v b in
    let mq = no_root q p w v u (turned p q w u v b) in
    let x = elsewhere_kept w p e b.sound ev b.name m tt in
    let y = elsewhere_kept w q e b.sound ev b.aside.there mq tt in
    record {
      sound = sw;
      left_sound = b.left_sound;
      right_sound = b.right_sound;
      name = x.name;
      aside = record {
        there = y.name;
        not_below = λ h. b.aside.not_below (below_before w.tree (event w e).world.tree p q b.sound.tree sw.tree b.name
            (to_trees p w _ x.guest.below) h);
        not_above = λ h. b.aside.not_above (below_before w.tree (event w e).world.tree q p b.sound.tree sw.tree
            b.aside.there (to_trees q w _ y.guest.below) h);
      };
      left_guest = same_trans p u w (event w e).world b.left_sound b.sound sw
          (name_there p u w b.left_sound b.sound b.name b.left_guest) b.left_guest x.guest;
      right_guest = same_trans q v w (event w e).world b.right_sound b.sound sw
          (name_there q v w b.right_sound b.sound b.aside.there b.right_guest) b.right_guest y.guest;
    }

both_raised : (p q : ℕ) (plans : List Plan) (t : ℕ) (w u v : World) → Both p q w u v
    → AllByRecursion IsEvent (events_made (raises plans t)) → Both p q (after_acts w (raises plans t)) u v
both_raised p q [] t w u v b all = b
both_raised p q (x ∷ xs) t w u v b all = go (is_due x t) all (λ z. both_raised p q xs t z u v)
  where
    go : (d : Bool) → AllByRecursion IsEvent (events_made (cond d (Makes (E.Raise x.line) ∷ raises xs t) (raises xs t)))
        → ((z : World) → Both p q z u v → AllByRecursion IsEvent (events_made (raises xs t))
        → Both p q (after_acts z (raises xs t)) u v)
        → Both p q (after_acts w (cond d (Makes (E.Raise x.line) ∷ raises xs t) (raises xs t))) u v
    go true all rest = rest (event w (E.Raise x.line)).world (both_raise p q x.line w u v b all.0) all.1
    go false all rest = rest w b all

-- a turn of the first, in the world of both
record NextTurn (p q : ℕ) (s : Slot) (w u v : World) : Type 0 where
  own : has (ancestry w.tree (actor w (E.Poll s.cpu))) p ≡ true
  others : has (ancestry w.tree (actor w (E.Poll s.cpu))) q ≡ false
  acts : turn_of w s ≡ turn_of u s
  inside : IsInsideTurn p w s.cpu s.step
  both : Both p q (after_acts w (turn_of w s)) (after_acts u (turn_of u s)) v

next_turn : (p q : ℕ) (s : Slot) (w u v : World) → Both p q w u v → PollsInVain w s.cpu → PollsInVain u s.cpu
    → IsInsideTurn p u s.cpu s.step → NextTurn p q s w u v
next_turn p q s w u v b vain vain' i =
    let m = no_root p q w u v b in
    let mu = not_top w.tree u.tree b.sound.tree b.left_sound.tree p m in
    let k = turn_same u w p s.cpu s.step b.left_sound b.sound mu b.left_guest vain' vain i in
    let (r, c, h) = turn_runs u p s.cpu s.step b.left_sound i in
    let es = events_made (fetch_acts u s.step s.cpu) in
    let one = after_turn u s.cpu s.step vain' in
    let events = ap (λ acts. events_made acts) (fetch_same p s.cpu s.step u w r c h b.left_sound b.sound mu b.left_guest
    (fetch_are u s.cpu s.step b.left_sound) i.inside) in
    let two = after_turn w s.cpu s.step vain ∙ ap (after w) (sym events) in
    let n = both_after p q es w u v b (fetch_are u s.cpu s.step b.left_sound) i.inside in
    record {
      own = in_has p _ k.inside.below;
      others = false_from_ne_true _ (λ y. elim (lines_meet w.tree b.sound.tree p q _ k.inside.below (has_in q _ y))
          [ inl a ↦ b.aside.not_below a | inr a ↦ b.aside.not_above a ]);
      acts = sym k.acts;
      inside = k.inside;
      both = rw two (subst (λ x. Both p q (after w es) x v) (sym one) n);
    }

-- what runs where the first has its turn, in the world of both, too
runs_both : (p q : ℕ) (s : Slot) (w u v : World) → Both p q w u v → IsInsideTurn p u s.cpu s.step
    → (r : Occupant) × (runs_on w s.cpu ≡ Some r) × (runs_on u s.cpu ≡ Some r)
runs_both p q s w u v b i = let (r, k, h) = turn_runs u p s.cpu s.step b.left_sound i in
    (r, b.left_guest.runs s.cpu r h k, k)

-- ---- a guest's turns among others, and alone

module _ (plans : List Plan) where
  pub record RunAlone (p : ℕ) (w u : World) (ss xs : List Slot) : Type 0 where
    pub acts : own_turns plans p w ss ≡ turns u xs
    pub guest : IsSameGuest p (after_acts w (all_steps plans w ss)) (after_acts u (turns u xs))

  -- the world after a step and further ones
  pub after_step : (w : World) (s : Slot) (ss : List Slot) → after_acts w (all_steps plans w (s ∷ ss))
      ≡ after_acts (next_world plans w s) (all_steps plans (next_world plans w s) ss)
  after_step w s ss =
      let rest = all_steps plans (next_world plans w s) ss in
      after-append w (raises plans s.step ++ turn_of (ready plans w s) s) rest
      ∙ ap (λ v. after_acts v rest) (after-append w (raises plans s.step) (turn_of (ready plans w s) s))

  -- a turn of the guest, and one of another
  pub own_turn : (p : ℕ) (s : Slot) (ss xs : List Slot) (w u : World)
      → has (ancestry (ready plans w s).tree (actor (ready plans w s) (E.Poll s.cpu))) p ≡ true
      → turn_of (ready plans w s) s ≡ turn_of u s → RunAlone p (next_world plans w s) (after_acts u (turn_of u s)) ss xs
      → RunAlone p w u (s ∷ ss) (s ∷ xs)
  own_turn p s ss xs w u own same h = record {
    acts = rw (own, ap₂ (λ x l. x ++ l) same h.acts);
    guest = rw (after_step w s ss) (subst (IsSameGuest p
        (after_acts (next_world plans w s) (all_steps plans (next_world plans w s) ss)))
        (sym (after-append u (turn_of u s) (turns (after_acts u (turn_of u s)) xs))) h.guest);
  }

  pub other_turn : (p : ℕ) (s : Slot) (ss xs : List Slot) (w u : World)
      → has (ancestry (ready plans w s).tree (actor (ready plans w s) (E.Poll s.cpu))) p ≡ false
      → RunAlone p (next_world plans w s) u ss xs → RunAlone p w u (s ∷ ss) xs
  other_turn p s ss xs w u others h = record {
    acts = rw (others, h.acts);
    guest = rw (after_step w s ss) h.guest;
  }

-- why polls are in vain: I holds of the world and the slots to come. While it does raises are events, and a poll is in
-- vain where something runs, and I holds again after a turn that stays inside
module _ (plans : List Plan) (I : World → List Slot → Type 0)
    (are : (w : World) (s : Slot) (ss : List Slot) → I w (s ∷ ss)
    → AllByRecursion IsEvent (events_made (raises plans s.step)))
    (now : (w : World) (s : Slot) (ss : List Slot) (r : Occupant) → I w (s ∷ ss)
    → runs_on (ready plans w s) s.cpu ≡ Some r → PollsInVain (ready plans w s) s.cpu)
    (later : (w : World) (p : ℕ) (s : Slot) (ss : List Slot) → IsSoundWorld (ready plans w s)
    → p ≢ (ready plans w s).tree.root.name → I w (s ∷ ss) → IsInsideTurn p (ready plans w s) s.cpu s.step
    → I (next_world plans w s) ss) where
  run_together : (p q : ℕ) (ss xs ys : List Slot) → AmongSlots ss xs ys → (w u v : World) → Both p q w u v → I w ss
      → u.tree.root.pending ≡ [] → v.tree.root.pending ≡ [] → AreInsideTurns p u xs → AreInsideTurns q v ys
      → RunAlone plans p w u ss xs × RunAlone plans q w v ss ys
  run_together p q _ _ _ none w u v b z eu ev i j = (
    record {
      acts = refl;
      guest =
          same_sym p u w b.left_sound b.sound (name_there p u w b.left_sound b.sound b.name b.left_guest) b.left_guest;
    },
    record {
      acts = refl;
      guest = same_sym q v w b.right_sound b.sound
          (name_there q v w b.right_sound b.sound b.aside.there b.right_guest) b.right_guest;
    },
  )
  run_together p q _ _ _ (left {ss = ss} {xs = xs} {ys = ys} s a) w u v b z eu ev i j =
      let on = both_raised p q plans s.step w u v b (are w s ss z) in
      let (r, k, c) = runs_both p q s (ready plans w s) u v on i.0 in
      let n = next_turn p q s (ready plans w s) u v on (now w s ss r z k) (poll_vain u s.cpu r c eu) i.0 in
      let m = no_root p q (ready plans w s) u v on in
      let mu = not_top (ready plans w s).tree u.tree on.sound.tree on.left_sound.tree p m in
      let (h, l) = run_together p q ss xs ys a (next_world plans w s) (after_acts u (turn_of u s)) v n.both
      (later w p s ss on.sound m z n.inside) (quiet_after u p s.cpu s.step on.left_sound mu eu i.0) ev i.1 j in
      (own_turn plans p s ss xs w u n.own n.acts h, other_turn plans q s ss ys w v n.others l)
  run_together p q _ _ _ (right {ss = ss} {xs = xs} {ys = ys} s a) w u v b z eu ev i j =
      let on = both_raised q p plans s.step w v u (turned p q w u v b) (are w s ss z) in
      let (r, k, c) = runs_both q p s (ready plans w s) v u on j.0 in
      let n = next_turn q p s (ready plans w s) v u on (now w s ss r z k) (poll_vain v s.cpu r c ev) j.0 in
      let m = no_root q p (ready plans w s) v u on in
      let mv = not_top (ready plans w s).tree v.tree on.sound.tree on.left_sound.tree q m in
      let (h, l) = run_together p q ss xs ys a (next_world plans w s) u (after_acts v (turn_of v s))
      (turned q p (next_world plans w s) (after_acts v (turn_of v s)) u n.both)
      (later w q s ss on.sound m z n.inside) eu (quiet_after v q s.cpu s.step on.left_sound mv ev j.0) i j.1 in
      (other_turn plans p s ss xs w u n.others h, own_turn plans q s ss ys w v n.own n.acts l)

  both_run : (p q : ℕ) (w : World) (ss xs ys : List Slot) → AreTwoGuests p q w ss xs ys → I w ss
      → IsRunAsAlone plans p w ss xs × IsRunAsAlone plans q w ss ys
  both_run p q w ss xs ys g z =
      let b : Both p q w w w = assumption in
      let (h, k) = run_together p q ss xs ys g.among w w w b z g.pending g.pending g.first g.second in (
        search,
        search,
      )

-- ---- runs

pub runs_are_steps : RunsAreSteps
runs_are_steps w plans seed c zero t = refl
runs_are_steps w plans seed c (suc n) t =
    let s : Slot = record { step = t; cpu = schedule seed c t } in
    let first = raises plans t ++ turn_of (ready plans w s) s in
    ap (λ acts. first ++ acts) (ap (λ v. steps v plans seed c n (t + 1)) (after-append w (raises plans t)
    (turn_of (ready plans w s) s)) ∙ runs_are_steps (next_world plans w s) plans seed c n (t + 1))

pub runs_go_on : RunsGoOn
runs_go_on w plans seed c zero n t = ap₂ (λ k u. steps w plans seed c k u) (zero-add n) (sym (add-zero t))
runs_go_on w plans seed c (suc m) n t =
    let first = step w plans (schedule seed c t) t in
    let v = after_acts w first in
    let count : suc m + n ≡ suc (m + n) = omega arith in
    let number : t + 1 + m ≡ t + suc m = omega arith in
    rw (
      count,
      runs_go_on v plans seed c m n (t + 1),
      number,
      ← append_assoc first (steps v plans seed c m (t + 1))
          (steps (after_acts v (steps v plans seed c m (t + 1))) plans seed c n (t + suc m)),
      ← after-append w first (steps v plans seed c m (t + 1)),
    )

-- no line is pending, and none is due
abbrev IsQuiet : List Plan → World → List Slot → Type 0
IsQuiet plans w ss = (w.tree.root.pending ≡ []) × NoneDue plans ss

pub programs_run_as_alone : ProgramsRunAsAlone
programs_run_as_alone plans p q w ss xs ys g due =
    both_run plans (IsQuiet plans) are now later p q w ss xs ys g (g.pending, due)
  where
    are : (w : World) (s : Slot) (ss : List Slot) → IsQuiet plans w (s ∷ ss)
        → AllByRecursion IsEvent (events_made (raises plans s.step))
    are w s ss z = rw z.1.0 tt

    still : (w : World) (s : Slot) (ss : List Slot) → IsQuiet plans w (s ∷ ss)
        → (ready plans w s).tree.root.pending ≡ []
    still w s ss z = rw (z.1.0, z.0)

    now : (w : World) (s : Slot) (ss : List Slot) (r : Occupant) → IsQuiet plans w (s ∷ ss)
        → runs_on (ready plans w s) s.cpu ≡ Some r → PollsInVain (ready plans w s) s.cpu
    now w s ss r z k = poll_vain (ready plans w s) s.cpu r k (still w s ss z)

    later : (w : World) (p : ℕ) (s : Slot) (ss : List Slot) → IsSoundWorld (ready plans w s)
        → p ≢ (ready plans w s).tree.root.name → IsQuiet plans w (s ∷ ss)
        → IsInsideTurn p (ready plans w s) s.cpu s.step → IsQuiet plans (next_world plans w s) ss
    later w p s ss sound m z i = (quiet_after (ready plans w s) p s.cpu s.step sound m (still w s ss z) i, z.1.1)

-- ---- others left out

-- events that leave a guest the same
pub record KeptList (p : ℕ) (w v : World) : Type 0 where
  pub sound : IsSoundWorld v
  pub name : IsName v.tree p
  pub not_root : p ≢ v.tree.root.name
  pub guest : IsSameGuest p w v

apart_list : (p : ℕ) (es : List Event) (w : World) → IsSoundWorld w → IsName w.tree p → p ≢ w.tree.root.name
    → AllStayApart p w es → KeptList p w (after w es)
apart_list p [] w s n m h = record { sound = s; name = n; not_root = m; guest = same_world p w }
apart_list p (e ∷ es) w s n m h =
    let sw = event-sound w e s h.0 in
    let k = apart_list p es (event w e).world sw (name_kept w (event w e).world p s sw n h.1.same)
    (not_top w.tree (event w e).world.tree s.tree sw.tree p m) h.2 in
    record {
      sound = k.sound;
      name = k.name;
      not_root = k.not_root;
      guest = same_trans p w (event w e).world (after (event w e).world es) s sw k.sound n h.1.same k.guest;
    }

-- acts of others
pub apart_acts : (p : ℕ) (acts : List Act) (w : World) → IsSoundWorld w → IsName w.tree p → p ≢ w.tree.root.name
    → AllStayApart p w (events_made acts) → KeptList p w (after_acts w acts)
apart_acts p acts w s n m h =
    rw (after-events w acts) (apart_list p (events_made acts) w s n m h)

pub raises_apart : (p : ℕ) (plans : List Plan) (t : ℕ) (w : World) → IsSoundWorld w → IsName w.tree p
    → p ≢ w.tree.root.name
    → AllByRecursion (λ x. x.line < 16) plans → AllStayApart p w (events_made (raises plans t))
raises_apart p [] t w s n m all = tt
raises_apart p (x ∷ xs) t w s n m all = go (is_due x t) (λ z sz nz mz. raises_apart p xs t z sz nz mz all.1)
  where
    e : Event
    e = E.Raise x.line

    go : (d : Bool) → ((z : World) → IsSoundWorld z → IsName z.tree p → p ≢ z.tree.root.name
        → AllStayApart p z (events_made (raises xs t)))
        → AllStayApart p w (events_made (cond d (Makes (E.Raise x.line) ∷ raises xs t) (raises xs t)))
    go false rest = rest w s n m
    go true rest =
        let apart = others_leave_guests_alone w p (E.Raise x.line) s all.0 n m tt in
        let sw = event-sound w (E.Raise x.line) s all.0 in (
          all.0,
          apart,
          rest (event w (E.Raise x.line)).world sw (name_kept w (event w (E.Raise x.line)).world p s sw n
              apart.same) (not_top w.tree (event w (E.Raise x.line)).world.tree s.tree sw.tree p m),
        )

-- a slot of the guest, and one of another
on_own_slot : (plans : List Plan) (p : ℕ) (s : Slot) (ss : List Slot) (w v : World) (b : Bool)
    → has (ancestry (ready plans w s).tree (actor (ready plans w s) (E.Poll s.cpu))) p ≡ b → RunAlone plans p w v
    (s ∷ ss) (cond b (s ∷ own_slots plans p (next_world plans w s) ss) (own_slots plans p (next_world plans w s) ss))
    → RunAlone plans p w v (s ∷ ss) (own_slots plans p w (s ∷ ss))
on_own_slot plans p s ss w v b e h = rw e h

others_out : (plans : List Plan) (p : ℕ) (ss : List Slot) (w v : World) → IsSoundWorld w → IsSoundWorld v
    → IsName w.tree p → p ≢ w.tree.root.name → IsSameGuest p w v → v.tree.root.pending ≡ [] → AllByRecursion (λ x.
    x.line < 16) plans → AreOwnOrApartTurns plans p w ss → RunAlone plans p w v ss (own_slots plans p w ss)
others_out plans p [] w v s s' n m g quiet lines fit = record { acts = refl; guest = g }
others_out plans p (x ∷ ss) w v s s' n m g quiet lines fit = elim fit.0 [
  | inl i ↦
      let (r, c, h) = turn_runs u p x.cpu x.step k.sound i.1 in
      let z = turn_same u v p x.cpu x.step k.sound s' k.not_root g' i.0
      (poll_vain v x.cpu r (g'.runs x.cpu r h c) quiet) i.1 in
      let vain = poll_vain v x.cpu r (g'.runs x.cpu r h c) quiet in
      let sound = turn_sound u p x.cpu x.step k.sound i.0 i.1 in
      let name = turn_name u p x.cpu x.step k.sound k.name k.not_root i.0 i.1 in
      let m' =
      not_top v.tree (next_world plans w x).tree s'.tree sound.tree p (not_top w.tree v.tree s.tree s'.tree p m) in
      let mv = not_top w.tree v.tree s.tree s'.tree p m in
      let sv = turn_sound v p x.cpu x.step s' vain z.inside in
      let rest = others_out plans p ss (next_world plans w x) (after_acts v (turn_of v x)) sound sv name m' z.guest
      (quiet_after v p x.cpu x.step s' mv quiet z.inside) lines fit.1 in
      on_own_slot plans p x ss w v true (in_has p _ i.1.below)
      (own_turn plans p x ss (own_slots plans p (next_world plans w x) ss) w v (in_has p _ i.1.below) z.acts rest)
  | inr i ↦
      let a = apart_acts p (turn_of u x) u k.sound k.name k.not_root i.1 in
      let g2 = same_trans p (next_world plans w x) u v a.sound k.sound s' a.name
      (same_sym p u (next_world plans w x) k.sound a.sound k.name a.guest) g' in
      let rest = others_out plans p ss (next_world plans w x) v a.sound s' a.name a.not_root g2 quiet lines fit.1 in
      on_own_slot plans p x ss w v false i.0
      (other_turn plans p x ss (own_slots plans p (next_world plans w x) ss) w v i.0 rest)
]
  where
    u : World
    u = ready plans w x

    k : KeptList p w u
    k = apart_acts p (raises plans x.step) w s n m (raises_apart p plans x.step w s n m lines)

    g' : IsSameGuest p u v
    g' = same_trans p u w v k.sound s s' k.name (same_sym p w u s k.sound n k.guest) g

-- a turn of a guest aside that stays inside leaves the guest the same
inside_apart : (q p : ℕ) (es : List Event) (w v : World) → Both q p w w v → AllByRecursion IsEvent es
    → AllStayInside q w es → AllStayApart p w es
inside_apart q p [] w v b all i = tt
inside_apart q p (e ∷ es) w v b all i =
    let n = next q p e w w v b all.0 (inl i.0) in
    let f = guest_elsewhere w q p e b.sound b.aside i.0.own i.0.below in
    let k = elsewhere_kept w p e b.sound all.0 b.aside.there (no_root p q w v w (turned q p w w v b)) f in
    (all.0, record { others = n.others; same = k.guest }, inside_apart q p es (event w e).world v n.both all.1 i.1)

pub turn_apart : (q p cpu t : ℕ) (w : World) → IsSoundWorld w → IsName w.tree q → IsAside w.tree q p → PollsInVain w cpu
    → IsInsideTurn q w cpu t → AllStayApart p w (events_made (turn w cpu t))
turn_apart q p cpu t w s n a vain i =
    let b : Both q p w w w = record {
      sound = s;
      left_sound = s;
      right_sound = s;
      name = n;
      aside = a;
      left_guest = same_world q w;
      right_guest = same_world p w;
    } in
    let rest = inside_apart q p (events_made (fetch_acts w t cpu)) w w b (fetch_are w cpu t s) i.inside in
    subst (λ acts. AllStayApart p w (events_made acts)) (sym (turn_fetches w cpu t vain)) (
      tt,
      record { others = refl; same = subst (λ h. IsSameGuest p w h.world) (sym vain) (same_world p w) },
      subst (λ h. AllStayApart p h.world (events_made (fetch_acts w t cpu))) (sym vain) rest,
    )

pub other_turns_do_not_matter : OtherTurnsDoNotMatter
other_turns_do_not_matter plans p w ss s n m quiet lines fit =
    let h = others_out plans p ss w w s s n m (same_world p w) quiet lines fit in
    search

-- ---- lines that are not taken

-- lines below 16 are raised by events
pub raises_are : (plans : List Plan) (t : ℕ) → AllByRecursion (λ x. x.line < 16) plans
    → AllByRecursion IsEvent (events_made (raises plans t))
raises_are [] t all = tt
raises_are (x ∷ xs) t all = go (is_due x t) (raises_are xs t all.1)
  where
    go : (d : Bool) → AllByRecursion IsEvent (events_made (raises xs t))
        → AllByRecursion IsEvent (events_made (cond d (Makes (E.Raise x.line) ∷ raises xs t) (raises xs t)))
    go true rest = (all.0, rest)
    go false rest = rest

pub lines_do_not_matter : LinesDoNotMatter
lines_do_not_matter plans p q w ss xs ys g lines untaken =
    both_run plans (NoneTaken plans) (λ w s ss z. raises_are plans s.step lines)
    (λ w s ss r z k. z.0) (λ w p s ss sound m z i. z.1) p q w ss xs ys g untaken
