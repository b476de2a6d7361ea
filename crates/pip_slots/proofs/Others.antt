-- The slot of another child: it leaves p the same, whatever it does.
use Rattle.std.proofs.Common.{◌≡◌, ◌≢◌, ℕ, ◌+◌, inr, Bool, true, false, refl}
use Rattle.std.proofs.Common.{Some, arith}
use Rattle.pip_model.specs.Acts.{after_acts}
use Rattle.pip_model.specs.Events.{Event, IsEvent}
use Rattle.pip_model.specs.Events as E
use Rattle.pip_model.specs.Happens.{event}
use Rattle.pip_model.specs.Lists.{In}
use Rattle.pip_model.specs.Local.{IsAside, actor, cpu_of}
use Rattle.pip_model.specs.Sound.{IsWord}
use Rattle.pip_model.specs.Tree.{ancestry}
use Rattle.pip_model.specs.Worlds.{IsSoundWorld, World, runs_on}
use Rattle.pip_model.specs.declared.processors.Occupant.{Occupant}
use Rattle.pip_model.proofs.OnLists.Acts.{after-append}
use Rattle.pip_model.proofs.Events.Soundness.{event-sound, runs_named}
use Rattle.pip_model.proofs.Locality.OneEvent.{to_trees}
use Rattle.pip_guests.specs.Guests.{IsElsewhere, IsElsewhereBy, IsSameGuest, is_own}
use Rattle.pip_guests.proofs.Elsewhere.{others_leave_guests_alone, same_trans}
use Rattle.pip_guests.proofs.Lines.{below_before}
use Rattle.pip_slots.specs.declared.time_slot.TimeSlot.{TimeSlot}
use Rattle.pip_slots.specs.Slots.{IsBetweenSlots, after_slot, closing, slot_turns, opening, rest_acts}
use Rattle.pip_native.specs.Watching.{root_runs}
use Rattle.pip_slots.proofs.Kids.{Kid, kid_aside, kid_same}
use Rattle.pip_slots.proofs.Ready.{Ready, ready_own}
use Rattle.pip_slots.proofs.Opening.{other_opened}
use Rattle.pip_slots.proofs.Closing.{between_ready, closed_between, closed_kid, closed_sound, raise_apart, raised}
use Rattle.pip_slots.proofs.Closing.{taken}
use Rattle.pip_slots.proofs.Walk.{Stepped, Walked, inners_walked, not_root_runs}

-- an event of a partition aside, whatever it is
elsewhere_own : (p : ℕ) (w : World) (e : Event) → is_own e ≡ true → IsElsewhereBy p w e → IsElsewhere p w e
elsewhere_own p w (E.Load cpu va z) o h = h
elsewhere_own p w (E.Store cpu va z x) o h = h
elsewhere_own p w (E.Fetch cpu) o h = h
elsewhere_own p w (E.Trap cpu k a b) o h = h
elsewhere_own p w (E.Call cpu number a) o h = h
elsewhere_own p w (E.Raise j) o h = cc
elsewhere_own p w (E.Poll cpu) o h = cc
elsewhere_own p w (E.SetContext cpu c) o h = h

-- a moment of another's slot, which began in u; the second world is the first
record Other (d p : ℕ) (u w v : World) : Type 0 where
  same : w ≡ v
  ready : Ready w
  kid : Kid d p w.tree
  guest : IsSameGuest p u w
  off : (r : Occupant) → runs_on w 0 ≡ Some r → In p (ancestry w.tree r.name) → ⊥

-- what runs there, unless it is the root, is aside
aside_of : (d p : ℕ) (w : World) → Ready w → Kid d p w.tree → (r : Occupant) → runs_on w 0 ≡ Some r
    → (In p (ancestry w.tree r.name) → ⊥) → r.name ≢ w.tree.root.name → IsAside w.tree p r.name
aside_of d p w y kid r k off m = kid_aside d p w.tree y.sound.tree kid r.name
    (y.sound.names_nodes r.name (runs_named w 0 r y.sound k)) off m

module _ (d p : ℕ) (u : World) (su : IsSoundWorld u) (kid_u : Kid d p u.tree) where
  other_step : (w v : World) → Other d p u w v → (e : Event) (r : Occupant) → IsEvent e → is_own e ≡ true
      → cpu_of e ≡ 0 → runs_on w 0 ≡ Some r → r.name ≢ w.tree.root.name → Stepped (Other d p u) e w v
  other_step w v b e r ev o c k m =
      let s = b.ready.sound in
      let w1 = (event w e).world in
      let s1 = event-sound w e s ev in
      let q : r.name ≡ actor w e = cc in
      let aside = aside_of d p w b.ready b.kid r k (b.off r k) m in
      let a = others_leave_guests_alone w p e s ev b.kid.name b.kid.low
      (elsewhere_own p w e o (inr (rw (← q) aside))) in
      let agrees = to_trees p w w1 a.same.below in
      record {
        outcome = rw b.same;
        next = record {
          same = rw b.same;
          ready = ready_own w e r b.ready ev o c k m;
          kid = kid_same d p w.tree w1.tree s.tree s1.tree b.kid agrees;
          guest = same_trans p u w w1 su s s1 kid_u.name b.guest a.same;
          off = λ z kz h. b.off z (a.same.runs_back 0 z h kz)
              (below_before w.tree w1.tree p z.name s.tree s1.tree b.kid.name agrees h);
        };
      }

  other_inners : (n t : ℕ) (w : World) → Other d p u w w → Walked (Other d p u) w w (slot_turns w n t) (slot_turns w n
      t)
  other_inners n t w b = inners_walked (Other d p u) (λ w v b. b.ready) (λ w v b. rw (← b.same) b.ready)
      (λ w v b r k m. rw (← b.same) k) (λ w v b. rw b.same) other_step n t w w b

-- after another's slot
pub record SlotApart (d p : ℕ) (w u : World) : Type 0 where
  pub between : IsBetweenSlots u
  pub kid : Kid d p u.tree
  pub guest : IsSameGuest p w u

-- its last step
other_closed : (d p t : ℕ) (u w v : World) → IsSoundWorld u → Kid d p u.tree → Other d p u w v
    → SlotApart d p u (after_acts w (closing w t))
other_closed d p t u w v su kid_u b = go (root_runs w) refl
  where
    s : IsSoundWorld w
    s = b.ready.sound

    go : (x : Bool) → root_runs w ≡ x → SlotApart d p u (after_acts w (closing w t))
    go true e = rw e (record { between = between_ready w b.ready e; kid = b.kid; guest = b.guest })
    go false e =
        let (r, k) = b.ready.runs in
        let m = not_root_runs w r e k in
        let a = raise_apart d p w s b.kid in
        let sr = event-sound w (E.Raise 0) s (omega arith) in
        let st = closed_sound w r b.ready k m in
        let agrees = to_trees p w (raised w) a.same.below in
        let kid1 = kid_same d p w.tree (raised w).tree s.tree sr.tree b.kid agrees in
        let off = λ (h : In p (ancestry (raised w).tree r.name)).
        b.off r k (below_before w.tree (raised w).tree p r.name s.tree sr.tree b.kid.name agrees h) in
        let aside = kid_aside d p (raised w).tree sr.tree kid1 r.name
        (sr.names_nodes r.name (runs_named (raised w) 0 r sr k)) off m in
        let c = others_leave_guests_alone (raised w) p (E.Poll 0) sr tt kid1.name kid1.low
        (inr (inr (rw k aside))) in
        rw e (record {
          between = closed_between w r b.ready k m;
          kid = closed_kid w r b.ready k m d p b.kid;
          guest
              = same_trans p u (raised w) (taken w) su sr st kid_u.name
              (same_trans p u w (raised w) su s sr kid_u.name b.guest a.same) c.same;
        })

-- the whole slot
pub other_slot : (d p t : ℕ) (w : World) (x : TimeSlot) → IsBetweenSlots w → Kid d p w.tree → IsWord x.child
    → x.child ≢ d → SlotApart d p w (after_slot w x t)
other_slot d p t w x b kid wb n =
    let w1 = after_acts w (opening w x.child t) in
    let o = other_opened d p x.child w b kid wb n in
    let start : Other d p w w1 w1 = assumption in
    let z = other_inners d p w b.sound kid x.turns (t + 1) w1 start in
    let w2 = after_acts w1 (slot_turns w1 x.turns (t + 1)) in
    let c = other_closed d p (t + 1 + x.turns) w w2 w2 b.sound kid z.next in
    rw (
      after-append w (opening w x.child t) (rest_acts w1 x.turns (t + 1)),
      after-append w1
          (slot_turns w1 x.turns (t + 1)) (closing w2 (t + 1 + x.turns)),
    ) c
