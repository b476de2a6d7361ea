-- One turn of a processor: in two worlds in which a guest is the same, and the poll is in vain, the guest's turn is the
-- same.
use Rattle.std.proofs.Common.{◌≡◌, ◌≢◌, ℕ, inl, Bool, true, false, cond, List, [], ◌∷◌, refl, sym, ap, ◌∙◌, subst}
use Rattle.std.proofs.Common.{None, Some}
use Rattle.std.specs.List.{AllByRecursion}
use Rattle.pip_base.specs.declared.outcome.Outcome.{Outcome}
use Rattle.pip_base.specs.declared.outcome.Outcome.TheVariants as O
use Rattle.pip_base.specs.declared.types.Access.TheVariants.{Fetch}
use Rattle.pip_base.specs.declared.types.Ctx.{Ctx}
use Rattle.pip_base.specs.declared.types.Size.TheVariants.{Word}
use Rattle.pip_model.specs.Acts.{Makes, Writes, after_acts, events_made}
use Rattle.pip_model.specs.Effects.{at_next, word_effect}
use Rattle.pip_model.specs.Events.{Event, IsEvent}
use Rattle.pip_model.specs.Events as E
use Rattle.pip_model.specs.Happens.{what_happens, after, event}
use Rattle.pip_model.specs.InstrRead.{instr_of}
use Rattle.pip_model.specs.Lists.{In}
use Rattle.pip_model.specs.Local.{Succeeded}
use Rattle.pip_model.specs.Poll.{lowest_line, may_take, none_taken, occupant_name, poll_line}
use Rattle.pip_model.specs.Reach.{reach}
use Rattle.pip_model.specs.Sound.{IsSound}
use Rattle.pip_model.specs.Tree.{Tree, ancestry}
use Rattle.pip_model.specs.Turn.{arguments, call_line, effect_acts, fetch_acts, acts_after_fetch, load_acts, move_acts}
use Rattle.pip_model.specs.Turn.{outcome_of, acts_after_poll, store_acts, turn, word_acts, world_of}
use Rattle.pip_model.specs.Worlds.{IsSoundWorld, World, runs_on, with_caches}
use Rattle.pip_model.specs.declared.effect.Effect.{Effect}
use Rattle.pip_model.specs.declared.effect.Effect.TheVariants as F
use Rattle.pip_model.specs.declared.processors.Occupant.{Occupant}
use Rattle.pip_model.proofs.OnLists.Acts.{after-events}
use Rattle.pip_model.proofs.Events.Soundness.{after-sound, event-sound}
use Rattle.pip_model.proofs.Locality.Leaves.{LeavesTree}
use Rattle.pip_model.proofs.Locality.OneEvent.{loaded_world, to_trees}
use Rattle.pip_model.proofs.Trees.Ancestors.{same_name}
use Rattle.pip_model.proofs.Trees.Ancestry.{root_is_one}
use Rattle.pip_model.proofs.Trees.Free.{IsName}
use Rattle.pip_guests.specs.Guests.{IsInside, IsSameGuest, IsSameInside, PollsInVain}
use Rattle.pip_guests.specs.Programs.{AllStayInside, IsInsideTurn, QuietPolls, TurnsDependOnGuests}
use Rattle.pip_guests.proofs.Lines.{line_alike, not_top, top_alone}
use Rattle.pip_guests.proofs.Moves.{fetch_by}
use Rattle.pip_guests.proofs.Inside.{actor_runs, inside_same}
use Rattle.pip_guests.proofs.Elsewhere.{same_world}
use Rattle.pip_guests.proofs.Words.{fetch_are}
use Rattle.pip_guests.proofs.Together.{step_leaves, step_name}

-- ---- lists of events that stay inside

-- what happens below p, which is not the root, leaves the root's node as it is
root_kept : (t u : Tree) (p : ℕ) → IsSound t → IsSound u → p ≢ t.root.name → LeavesTree p t u → u.root ≡ t.root
root_kept t u p s r m l =
    let o = (l.outside t.root).0 (inl refl, (λ h. m (top_alone t s p h))) in
    same_name u u.root t.root r (inl refl) o.0 (cc (root_is_one u r, root_is_one t s))

pub record SameList (p : ℕ) (es : List Event) (w v : World) : Type 0 where
  pub there : AllStayInside p v es
  pub guest : IsSameGuest p (after w es) (after v es)
  pub root : (after w es).tree.root ≡ w.tree.root
  pub name : IsName w.tree p → IsName (after w es).tree p

pub list_same : (p : ℕ) (es : List Event) (w v : World) → IsSoundWorld w → IsSoundWorld v → p ≢ w.tree.root.name
    → IsSameGuest p w v → AllByRecursion IsEvent es → AllStayInside p w es → SameList p es w v
list_same p [] w v s s' m g all i = record { there = tt; guest = g; root = refl; name = λ n. n }
list_same p (e ∷ es) w v s s' m g all i =
    let z = inside_same w v p e s s' all.0 m g i.0 in
    let sw = event-sound w e s all.0 in
    let h = list_same p es (event w e).world (event v e).world sw (event-sound v e s' all.0)
    (not_top w.tree (event w e).world.tree s.tree sw.tree p m) z.guest all.1 i.1 in
    record {
      there = (z.inside, h.there);
      guest = h.guest;
      root =
          h.root ∙ root_kept w.tree (event w e).world.tree p s.tree sw.tree m (step_leaves w p e s all.0 m (inl i.0));
      name = λ n. h.name (step_name w p e s all.0 m (inl i.0) n);
    }

-- ---- one turn

-- where the root has a handler for no pending line a poll changes nothing
pub poll_leaves : (w : World) (cpu : ℕ) (r : Occupant) → runs_on w cpu ≡ Some r
    → lowest_line w w.tree.root.pending ≡ None → PollsInVain w cpu
poll_leaves w cpu r k e = rw (go (may_take w cpu (runs_on w cpu)), k)
  where
    go : (b : Bool) → cond b (poll_line w cpu (runs_on w cpu) (lowest_line w w.tree.root.pending))
        (none_taken w (runs_on w cpu)) ≡ none_taken w (runs_on w cpu)
    go true = rw e
    go false = refl

-- so where none is pending
pub poll_vain : QuietPolls
poll_vain w cpu r k e = poll_leaves w cpu r k (rw e)

-- after such a poll a turn goes on to its fetch
pub turn_fetches : (w : World) (cpu t : ℕ) → PollsInVain w cpu → turn w cpu t ≡ Makes (E.Poll cpu) ∷ fetch_acts w t cpu
turn_fetches w cpu t vain = ap (λ h. Makes (E.Poll cpu) ∷ acts_after_poll h.world t cpu h.outcome) vain

pub after_turn : (w : World) (cpu t : ℕ) → PollsInVain w cpu
    → after_acts w (turn w cpu t) ≡ after w (events_made (fetch_acts w t cpu))
after_turn w cpu t vain =
    ap (after_acts w) (turn_fetches w cpu t vain)
    ∙ ap (λ h. after_acts h.world (fetch_acts w t cpu)) vain
    ∙ after-events w (fetch_acts w t cpu)

-- a fetch that gives a word leaves the tree and what runs there
pub fetch_stays : (w : World) (cpu u : ℕ) (r : Occupant) → runs_on w cpu ≡ Some r
    → (event w (E.Fetch cpu)).outcome ≡ O.Word u → (what_happens w (E.Fetch cpu)).world ≡ w
fetch_stays w cpu u r k e =
    let l = fetch_by w r cpu k in
    let q = ap (λ h. h.outcome) (sym l) ∙ e in
    ap (λ h. h.world) l ∙ loaded_world w cpu r r.ctx.pc Fetch Word (reach w.tree r.name r.ctx.pc Fetch Word)
    (subst Succeeded (sym q) tt)

-- the outcome of an event after another
second_same : (w v : World) (p : ℕ) (a e : Event) → IsSoundWorld w → IsSoundWorld v → p ≢ w.tree.root.name
    → IsSameGuest p w v → IsEvent a → IsEvent e → IsInside p w a → IsInside p (world_of w a) e
    → outcome_of (world_of w a) e ≡ outcome_of (world_of v a) e
second_same w v p a e s s' m g c d i j =
    let z = inside_same w v p a s s' c m g i in
    let sw = event-sound w a s c in
    (inside_same (event w a).world (event v a).world p e sw (event-sound v a s' c) d
    (not_top w.tree (event w a).world.tree s.tree sw.tree p m) z.guest j).outcome

module _ (p cpu t : ℕ) where
  -- what an instruction does
  effect_same : (w v : World) (x : Ctx) (f : Effect) → IsSoundWorld w → IsSoundWorld v → p ≢ w.tree.root.name
      → IsSameGuest p w v → AllByRecursion IsEvent (events_made (effect_acts w t cpu x f))
      → AllStayInside p w (events_made (effect_acts w t cpu x f))
      → effect_acts w t cpu x f ≡ effect_acts v t cpu x f
  effect_same w v x (F.Sets a n) s s' m g all i = refl
  effect_same w v x (F.Goes pc) s s' m g all i = refl
  effect_same w v x (F.Links a pc) s s' m g all i = refl
  effect_same w v x (F.Shows n) s s' m g all i = refl
  effect_same w v x (F.Loads a va z) s s' m g all i = ap (λ o. Makes (E.Load cpu va z) ∷ load_acts t cpu x a o)
      (inside_same w v p (E.Load cpu va z) s s' all.0 m g i.0).outcome
  effect_same w v x (F.Stores va n z) s s' m g all i = ap (λ o. Makes (E.Store cpu va z n) ∷ store_acts t cpu x o)
      (inside_same w v p (E.Store cpu va z n) s s' all.0 m g i.0).outcome
  effect_same w v x (F.Traps k a b) s s' m g all i = ap (λ o. Makes (E.Trap cpu k a b) ∷ move_acts t cpu o)
      (inside_same w v p (E.Trap cpu k a b) s s' all.0 m g i.0).outcome
  effect_same w v x (F.Interrupts k) s s' m g all i =
      let a = E.SetContext cpu (at_next x) in
      let e = E.Trap cpu k 0 0 in
      rw (second_same w v p a e s s' m g all.0 all.1.0 i.0 i.1.0)
  effect_same w v x (F.Calls n) s s' m g all i =
      let a = E.SetContext cpu (at_next x) in
      let e = E.Call cpu n (arguments x) in
      rw (second_same w v p a e s s' m g all.0 all.1.0 i.0 i.1.0)

  -- the fetch, and what comes after it
  pub fetch_same : (w v : World) (r : Occupant) → runs_on w cpu ≡ Some r → In p (ancestry w.tree r.name)
      → IsSoundWorld w → IsSoundWorld v → p ≢ w.tree.root.name → IsSameGuest p w v
      → AllByRecursion IsEvent (events_made (fetch_acts w t cpu)) → AllStayInside p w (events_made (fetch_acts w t cpu))
      → fetch_acts w t cpu ≡ fetch_acts v t cpu
  fetch_same w v r k h s s' m g all i = rw (go (outcome_of w (E.Fetch cpu)) refl all.1 i.1, z.outcome)
    where
      here : World
      here = world_of w (E.Fetch cpu)

      there : World
      there = world_of v (E.Fetch cpu)

      z : IsSameInside p (E.Fetch cpu) w v
      z = inside_same w v p (E.Fetch cpu) s s' all.0 m g i.0

      go : (o : Outcome) → outcome_of w (E.Fetch cpu) ≡ o → AllByRecursion IsEvent
          (events_made (acts_after_fetch here t cpu o))
          → AllStayInside p here (events_made (acts_after_fetch here t cpu o)) → acts_after_fetch here t cpu o
          ≡ acts_after_fetch there t cpu o
      go (O.Word u) q all i =
          let stays = fetch_stays w cpu u r k q in
          let k1 : runs_on here cpu ≡ Some r = cc in
          let h1 : In p (ancestry here.tree r.name) = rw (← stays) at h in
          let k2 : runs_on there cpu ≡ Some r = z.guest.runs cpu r h1 k1 in
          let sw = event-sound w (E.Fetch cpu) s tt in
          let sv = event-sound v (E.Fetch cpu) s' tt in
          let all1 = subst (λ o. AllByRecursion IsEvent (events_made (word_acts here t cpu u o))) k1 all in
          let i1 = subst (λ o. AllStayInside p here (events_made (word_acts here t cpu u o))) k1 i in
          cc (effect_same here there r.ctx (word_effect r.ctx u (instr_of u)) sw sv
          (not_top w.tree here.tree s.tree sw.tree p m) z.guest all1 i1)
      go O.Done q all i = refl
      go (O.Reply a b) q all i = refl
      go (O.Switched a b c) q all i = refl
      go (O.Parked a b) q all i = refl
      go O.Idle q all i = refl

-- what runs where a guest has its turn
pub turn_runs : (w : World) (p cpu t : ℕ) → IsSoundWorld w → IsInsideTurn p w cpu t
    → (r : Occupant) × (runs_on w cpu ≡ Some r) × In p (ancestry w.tree r.name)
turn_runs w p cpu t s i =
    let (r, k, q) = actor_runs w p (E.Poll cpu) s i.below in
    (r, k, rw (← q) i.below)

pub turn_same : TurnsDependOnGuests
turn_same w v p cpu t s s' m g vain vain' i =
    let (r, k, h) = turn_runs w p cpu t s i in
    let k' = g.runs cpu r h k in
    let same = fetch_same p cpu t w v r k h s s' m g (fetch_are w cpu t s) i.inside in
    let l = list_same p (events_made (fetch_acts w t cpu)) w v s s' m g (fetch_are w cpu t s) i.inside in
    let one = after_turn w cpu t vain in
    let two = after_turn v cpu t vain' ∙ ap (λ acts. after v (events_made acts)) (sym same) in
    record {
      acts = rw (turn_fetches w cpu t vain, same, ← turn_fetches v cpu t vain');
      inside = record {
        below = rw k' (line_alike w.tree v.tree p s.tree s'.tree (to_trees p w v g.below) r.name h);
        inside = subst (λ acts. AllStayInside p v (events_made acts)) same l.there;
      };
      guest = rw one (subst (IsSameGuest p (after w (events_made (fetch_acts w t cpu)))) (sym two) l.guest);
    }

-- where no line is pending, none is pending after the turn either
pub quiet_after : (w : World) (p cpu t : ℕ) → IsSoundWorld w → p ≢ w.tree.root.name → w.tree.root.pending ≡ []
    → IsInsideTurn p w cpu t → (after_acts w (turn w cpu t)).tree.root.pending ≡ []
quiet_after w p cpu t s m e i =
    let (r, k, h) = turn_runs w p cpu t s i in
    let l = list_same p (events_made (fetch_acts w t cpu)) w w s s m (same_world p w) (fetch_are w cpu t s) i.inside in
    rw (after_turn w cpu t (poll_vain w cpu r k e), l.root, e)

-- a turn that stays inside keeps the world sound, and the guest in it
pub turn_sound : (w : World) (p : ℕ) (cpu t : ℕ) → IsSoundWorld w → PollsInVain w cpu → IsInsideTurn p w cpu t
    → IsSoundWorld (after_acts w (turn w cpu t))
turn_sound w p cpu t sound vain i = rw (after_turn w cpu t vain)
    (after-sound w (events_made (fetch_acts w t cpu)) sound (fetch_are w cpu t sound))

pub turn_name : (w : World) (p : ℕ) (cpu t : ℕ) → IsSoundWorld w → IsName w.tree p → p ≢ w.tree.root.name
    → PollsInVain w cpu → IsInsideTurn p w cpu t → IsName (after_acts w (turn w cpu t)).tree p
turn_name w p cpu t sound n m vain i =
    let l = list_same p (events_made (fetch_acts w t cpu)) w w sound sound m (same_world p w) (fetch_are w cpu t sound)
    i.inside in
    rw (after_turn w cpu t vain) (l.name n)
