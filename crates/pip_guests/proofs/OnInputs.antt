-- Two runs in which a guest has turns of the same slots, and the same inputs: its turns are the same.
use Rattle.std.proofs.Common.{◌≡◌, ◌≢◌, ℕ, Bool, true, false, cond, List, [], ◌∷◌, ◌++◌, refl, sym, ap, ap₂, ◌∙◌, subst}
use Rattle.std.proofs.Common.{append_assoc, append-nil}
use Rattle.pip_base.specs.declared.types.Plan.{Plan}
use Rattle.pip_model.specs.Acts.{Act, after_acts, events_made}
use Rattle.pip_model.specs.Events.{Event}
use Rattle.pip_model.specs.Events as E
use Rattle.pip_model.specs.Happens.{after, event}
use Rattle.pip_model.specs.Lists.{has}
use Rattle.pip_model.specs.Local.{actor}
use Rattle.pip_model.specs.Run.{raises}
use Rattle.pip_model.specs.Tree.{ancestry}
use Rattle.pip_model.specs.Worlds.{IsSoundWorld, World}
use Rattle.pip_model.proofs.OnLists.Acts.{after-append, after-events}
use Rattle.pip_model.proofs.Events.Soundness.{after-sound, event-sound}
use Rattle.pip_model.proofs.Trees.Free.{IsName}
use Rattle.pip_guests.specs.Guests.{IsSameGuest}
use Rattle.pip_guests.specs.Programs.{Item, Other, ProgramsDependOnInputs, RunOnInputs, Slot, StepsAreItems}
use Rattle.pip_guests.specs.Programs.{StepsDependOnInputs, Turn, acts_of, alike, all_steps, as_others, ended, first}
use Rattle.pip_guests.specs.Programs.{input, items_of, items_of_step, next_world, own}
use Rattle.pip_guests.specs.Programs.{own_turns, ready, second, turn_of}
use Rattle.pip_guests.specs.Programs.{turns_among}
use Rattle.pip_guests.proofs.Lines.{not_top}
use Rattle.pip_guests.proofs.Words.{turn_are}
use Rattle.pip_guests.proofs.Elsewhere.{name_kept, same_sym, same_trans}
use Rattle.pip_guests.proofs.Inputs.{guests_depend_on_inputs}
use Rattle.pip_guests.proofs.Turns.{turn_name, turn_same, turn_sound}

record Alike (p : ℕ) (w : World) (is : List Item) (v : World) (js : List Item) : Type 0 where
  turns : turns_among w is ≡ turns_among v js
  guest : IsSameGuest p (after_acts w (acts_of w is)) (after_acts v (acts_of v js))

on_inputs : (p : ℕ) (w : World) (is : List Item) (v : World) (js : List Item) → RunOnInputs p w is v js → IsSoundWorld w
    → IsSoundWorld v → IsName w.tree p → p ≢ w.tree.root.name → IsSameGuest p w v → Alike p w is v js
on_inputs p _ _ _ _ (ended {w = w} {v = v}) s s' n m g = record { turns = refl; guest = g }
on_inputs p _ _ _ _ (own {w = w} {v = v} {is = is} {js = js} x i vain vain' rest) s s' n m g =
    let z = turn_same w v p x.cpu x.step s s' m g vain vain' i in
    let sw = turn_sound w p x.cpu x.step s vain i in
    let sv = turn_sound v p x.cpu x.step s' vain' z.inside in
    let h = on_inputs p (after_acts w (turn_of w x)) is (after_acts v (turn_of v x)) js rest sw sv (turn_name w p x.cpu
    x.step s n m vain i) (not_top w.tree (after_acts w (turn_of w x)).tree s.tree sw.tree p m) z.guest in
    record {
      turns = ap₂ (λ x y. x ++ y) z.acts h.turns;
      guest = rw (after-append w (turn_of w x) (acts_of (after_acts w (turn_of w x)) is))
          (subst (IsSameGuest p (after_acts (after_acts w (turn_of w x)) (acts_of (after_acts w (turn_of w x)) is)))
          (sym (after-append v (turn_of v x) (acts_of (after_acts v (turn_of v x)) js))) h.guest);
    }
on_inputs p _ _ _ _ (alike {w = w} {v = v} {is = is} {js = js} x i rest) s s' n m g =
    let all = turn_are w x.cpu x.step s in
    let all' = turn_are v x.cpu x.step s' in
    let one = after-events w (turn_of w x) in
    let two = after-events v (turn_of v x) in
    let sw = subst IsSoundWorld (sym one) (after-sound w (events_made (turn_of w x)) s all) in
    let sv = subst IsSoundWorld (sym two) (after-sound v (events_made (turn_of v x)) s' all') in
    let z = guests_depend_on_inputs w v p (events_made (turn_of w x)) (events_made (turn_of v x)) s s' n m g all all'
    i.events in
    let same = subst (λ y. IsSameGuest p y (after_acts v (turn_of v x))) (sym one)
    (rw two z.1) in
    let h = on_inputs p (after_acts w (turn_of w x)) is (after_acts v (turn_of v x)) js rest sw sv i.name
    (not_top w.tree (after_acts w (turn_of w x)).tree s.tree sw.tree p m) same in
    record {
      turns = ap₂ (λ x y. x ++ y) i.acts h.turns;
      guest = rw (after-append w (turn_of w x) (acts_of (after_acts w (turn_of w x)) is))
          (subst (IsSameGuest p (after_acts (after_acts w (turn_of w x)) (acts_of (after_acts w (turn_of w x)) is)))
          (sym (after-append v (turn_of v x) (acts_of (after_acts v (turn_of v x)) js))) h.guest);
    }
on_inputs p _ _ _ _ (input {w = w} {v = v} {is = is} {js = js} e f ev ev' i rest) s s' n m g =
    let sw = event-sound w e s ev in
    let h = on_inputs p (event w e).world is (event v f).world js rest sw (event-sound v f s' ev') i.name
    (not_top w.tree (event w e).world.tree s.tree sw.tree p m) i.guest in
    assumption
on_inputs p _ _ _ _ (first {w = w} {v = v} {is = is} {js = js} e ev i rest) s s' n m g =
    let sw = event-sound w e s ev in
    let n' = name_kept w (event w e).world p s sw n i.same in
    let back = same_trans p (event w e).world w v sw s s' n' (same_sym p w (event w e).world s sw n i.same) g in
    let h = on_inputs p (event w e).world is v js rest sw s' n'
    (not_top w.tree (event w e).world.tree s.tree sw.tree p m) back in
    assumption
on_inputs p _ _ _ _ (second {w = w} {v = v} {is = is} {js = js} f ev i rest) s s' n m g =
    let sv = event-sound v f s' ev in
    let h =
    on_inputs p w is (event v f).world js rest s sv n m (same_trans p w v (event v f).world s s' sv n g i.same) in
    assumption

pub programs_depend_on_inputs : ProgramsDependOnInputs
programs_depend_on_inputs w v p is js s s' n m g r = let h = on_inputs p w is v js r s s' n m g in (h.turns, h.guest)

-- ---- the steps of a run as items

-- the world after items
abbrev world_after : World → List Item → World
world_after w [] = w
world_after w (Turn s ∷ is) = world_after (after_acts w (turn_of w s)) is
world_after w (Other e ∷ is) = world_after (event w e).world is

acts_lead : (w : World) (is : List Item) → after_acts w (acts_of w is) ≡ world_after w is
acts_lead w [] = refl
acts_lead w (Turn s ∷ is) = after-append w (turn_of w s) (acts_of (after_acts w (turn_of w s)) is)
    ∙ acts_lead (after_acts w (turn_of w s)) is
acts_lead w (Other e ∷ is) = acts_lead (event w e).world is

world_append : (w : World) (is js : List Item) → world_after w (is ++ js) ≡ world_after (world_after w is) js
world_append w [] js = refl
world_append w (Turn s ∷ is) js = world_append (after_acts w (turn_of w s)) is js
world_append w (Other e ∷ is) js = world_append (event w e).world is js

turns_append : (w : World) (is js : List Item)
    → turns_among w (is ++ js) ≡ turns_among w is ++ turns_among (world_after w is) js
turns_append w [] js = refl
turns_append w (Turn s ∷ is) js = ap (λ l. turn_of w s ++ l) (turns_append (after_acts w (turn_of w s)) is js)
    ∙ sym (append_assoc (turn_of w s) (turns_among (after_acts w (turn_of w s)) is)
    (turns_among (world_after (after_acts w (turn_of w s)) is) js))
turns_append w (Other e ∷ is) js = turns_append (event w e).world is js

-- the events of others lead where they lead, and have none of the guest's turns
others_lead : (w : World) (es : List Event) → world_after w (as_others es) ≡ after w es
others_lead w [] = refl
others_lead w (e ∷ es) = others_lead (event w e).world es

others_turn : (w : World) (es : List Event) → turns_among w (as_others es) ≡ []
others_turn w [] = refl
others_turn w (e ∷ es) = others_turn (event w e).world es

-- the acts of others lead where they lead
acts_others : (w : World) (acts : List Act) → world_after w (as_others (events_made acts)) ≡ after_acts w acts
acts_others w acts = cc (others_lead w (events_made acts), after-events w acts)

-- what a turn is as items: the guest's turn, or the events of another's
abbrev item_or : Bool → World → Slot → List Item
item_or b w s = cond b (Turn s ∷ []) (as_others (events_made (turn_of w s)))

turn_leads : (b : Bool) (w : World) (s : Slot) → world_after w (item_or b w s) ≡ after_acts w (turn_of w s)
turn_leads true w s = refl
turn_leads false w s = acts_others w (turn_of w s)

turn_turns : (b : Bool) (w : World) (s : Slot) (more : List Act)
    → turns_among w (item_or b w s) ++ more ≡ cond b (turn_of w s ++ more) more
turn_turns true w s more = cc (append-nil (turn_of w s))
turn_turns false w s more = rw (others_turn w (events_made (turn_of w s)))

module _ (plans : List Plan) (p : ℕ) where
  abbrev own_turn : World → Slot → Bool
  own_turn w s = has (ancestry (ready plans w s).tree (actor (ready plans w s) (E.Poll s.cpu))) p

  step_leads : (w : World) (s : Slot) → world_after w (items_of_step plans p w s) ≡ next_world plans w s
  step_leads w s =
      let raised = as_others (events_made (raises plans s.step)) in
      world_append w raised (item_or (own_turn w s) (ready plans w s) s)
      ∙ ap (λ v. world_after v (item_or (own_turn w s) (ready plans w s) s)) (acts_others w (raises plans s.step))
      ∙ turn_leads (own_turn w s) (ready plans w s) s

  step_turns : (w : World) (s : Slot) (more : List Act) → turns_among w (items_of_step plans p w s) ++ more
      ≡ cond (own_turn w s) (turn_of (ready plans w s) s ++ more) more
  step_turns w s more =
      let raised = as_others (events_made (raises plans s.step)) in
      let it = item_or (own_turn w s) (ready plans w s) s in
      ap (λ l. l ++ more) (turns_append w raised it
      ∙ ap₂ (λ l v. l ++ turns_among v it) (others_turn w (events_made (raises plans s.step)))
      (acts_others w (raises plans s.step)))
      ∙ turn_turns (own_turn w s) (ready plans w s) s more

  items_lead : (w : World) (ss : List Slot)
      → world_after w (items_of plans p w ss) ≡ after_acts w (all_steps plans w ss)
  items_lead w [] = refl
  items_lead w (s ∷ ss) =
      let first = raises plans s.step ++ turn_of (ready plans w s) s in
      let next = next_world plans w s in
      let there : after_acts w first ≡ next = after-append w (raises plans s.step) (turn_of (ready plans w s) s) in
      world_append w (items_of_step plans p w s) (items_of plans p next ss)
      ∙ ap (λ v. world_after v (items_of plans p next ss)) (step_leads w s)
      ∙ items_lead next ss
      ∙ sym (after-append w first (all_steps plans next ss) ∙ ap (λ v. after_acts v (all_steps plans next ss)) there)

  items_turn : (w : World) (ss : List Slot) → turns_among w (items_of plans p w ss) ≡ own_turns plans p w ss
  items_turn w [] = refl
  items_turn w (s ∷ ss) =
      let next = next_world plans w s in
      turns_append w (items_of_step plans p w s) (items_of plans p next ss)
      ∙ ap (λ l. turns_among w (items_of_step plans p w s) ++ l)
      (ap (λ v. turns_among v (items_of plans p next ss)) (step_leads w s) ∙ items_turn next ss)
      ∙ step_turns w s (own_turns plans p next ss)

pub steps_are_items : StepsAreItems
steps_are_items plans p w ss = (
  items_turn plans p w ss,
  acts_lead w (items_of plans p w ss) ∙ items_lead plans p w ss,
)

pub steps_depend_on_inputs : StepsDependOnInputs
steps_depend_on_inputs w v p plans plans2 ss rs s s' n m g r =
    let h = on_inputs p w (items_of plans p w ss) v (items_of plans2 p v rs) r s s' n m g in
    let one = steps_are_items plans p w ss in
    let two = steps_are_items plans2 p v rs in (
      cc (one.0, h.turns, two.0),
      rw (← one.1) (subst (IsSameGuest p (after_acts w (acts_of w (items_of plans p w ss)))) two.1 h.guest),
    )
