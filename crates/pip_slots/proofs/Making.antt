-- The acts of a slot's steps, made or cut at a line.
use Rattle.std.proofs.Common.{◌≡◌, ℕ, Bool, false, List, [], ◌∷◌, ◌++◌}
use Rattle.std.proofs.Common.{◌+◌, append_assoc}
use Rattle.std.specs.Prelude.{Result, Ok, Err}
use Rattle.pip_base.specs.declared.outcome.Outcome.{Outcome}
use Rattle.pip_cpu.specs.Made.{Cut, Made, MadeOrCut}
use Rattle.pip_cpu.proofs.Makings.{after_event, cut_before, line_alone}
use Rattle.pip_io.specs.Taken.{Taken, Wrote}
use Rattle.pip_io.proofs.Taken.{Appends-trans}
use Rattle.pip_model.proofs.OnLists.Acts.{after-append, text-append}
use Rattle.pip_model.specs.Acts.{Act, Makes, Writes, after_acts, text_of}
use Rattle.pip_model.specs.Events.{Event}
use Rattle.pip_model.specs.Events as E
use Rattle.pip_model.specs.Happens.{event}
use Rattle.pip_model.specs.Turn.{call_line, moved_line, outcome_of, world_of}
use Rattle.pip_model.specs.Worlds.{World}
use Rattle.pip_slots.specs.declared.time_slot.TimeSlot.{TimeSlot}
use Rattle.pip_slots.specs.Slots.{closing, slot_entry, slot_turns, opening, polling, rest_acts}
use Rattle.pip_native.specs.Watching.{root_runs}
use Rattle.pip_slots.specs.Slots.{slot_acts}

-- an event, and the line of its outcome
event_line : {T X : Type 0} (S : World → Type 0) (old new : Taken) (w : World) (r : Result T X) (e : Event)
    (f : Outcome → List ℕ) (o : Outcome) → (o ≡ outcome_of w e) × S (world_of w e) → Wrote r old new (f o)
    → MadeOrCut r S old new w (Makes e ∷ Writes (f (outcome_of w e)) ∷ [])
event_line S old new w r e f o h a = after_event S old new w r e (Writes (f (outcome_of w e)) ∷ [])
    (line_alone S old new (event w e).world r (f (outcome_of w e)) h.1 (rw (← h.0) a))

pub opened : {T X : Type 0} (S : World → Type 0) (old new : Taken) (w : World) (r : Result T X) (d t : ℕ) (o : Outcome)
    → (o ≡ outcome_of w (slot_entry d)) × S (world_of w (slot_entry d)) → Wrote r old new (call_line t 0 8 o)
    → MadeOrCut r S old new w (opening w d t)
opened S old new w r d t o h a = event_line S old new w r (slot_entry d) (call_line t 0 8) o h a

module _ (w : World) (t : ℕ) (here : Bool) (is : here ≡ root_runs w) where
  pub closed_taken : {T X : Type 0} (S : World → Type 0) (old new : Taken) (r : Result T X) (o : Outcome)
      → here ≡ false → (o ≡ outcome_of (world_of w (E.Raise 0)) (E.Poll 0))
      × S (world_of (world_of w (E.Raise 0)) (E.Poll 0)) → Wrote r old new (moved_line t 0 o)
      → MadeOrCut r S old new w (closing w t)
  closed_taken S old new r o e h a =
      rw (← is, e) (after_event S old new w r (E.Raise 0) (polling (world_of w (E.Raise 0)) t)
      (event_line S old new (world_of w (E.Raise 0)) r (E.Poll 0) (moved_line t 0) o h a))

-- acts that were made, and then more, which are made or cut
pub made_then : {T X : Type 0} (r : Result T X) (S U : World → Type 0) (old mid new : Taken) (w : World)
    (xs ys : List Act) → Made S old mid w xs → MadeOrCut r U mid new (after_acts w xs) ys
    → MadeOrCut r U old new w (xs ++ ys)
made_then (Ok v) S U old mid new w xs ys m h = record {
  world = rw (after-append w xs ys) h.world;
  text = rw (text-append xs ys) (Appends-trans old mid new (text_of xs) (text_of ys) m.text h.text);
}
made_then (Err x) S U old mid new w xs ys m h = record {
  front = xs ++ h.front;
  line = h.line;
  rest = h.rest;
  whole = rw (append_assoc xs h.front (Writes h.line ∷ h.rest), h.whole);
  world = rw (after-append w xs h.front) h.world;
  part = h.part;
  missing = h.missing;
  split = h.split;
  some = h.some;
  text = rw (text-append xs h.front, append_assoc (text_of xs) (text_of h.front) h.part)
      (Appends-trans old mid new (text_of xs) (text_of h.front ++ h.part) m.text h.text);
}

-- ---- a whole slot

module _ (w : World) (s : TimeSlot) (t : ℕ) where
  abbrev first : List Act
  first = opening w s.child t

  abbrev one : World
  one = after_acts w (opening w s.child t)

  abbrev middle : List Act
  middle = slot_turns one s.turns (t + 1)

  abbrev two : World
  two = after_acts one middle

  -- it is cut at its first line
  pub slot_cut_first : (S : World → Type 0) (old new : Taken) → Cut S old new w (opening w s.child t)
      → Cut S old new w (slot_acts w s t)
  slot_cut_first S old new h = cut_before S old new w first (rest_acts one s.turns (t + 1)) h

  -- within
  pub slot_cut_within : (S U : World → Type 0) (old mid new : Taken) → Made S old mid w (opening w s.child t)
      → Cut U mid new (after_acts w (opening w s.child t))
      (slot_turns (after_acts w (opening w s.child t)) s.turns (t + 1)) → Cut U old new w (slot_acts w s t)
  slot_cut_within S U old mid new m h = made_then {T = Unit {0}} {X = Unit {0}} (Err tt) S U old mid new w first
      (rest_acts one s.turns (t + 1)) m (cut_before U mid new one middle (closing two (t + 1 + s.turns)) h)

  -- or it is made to its last step
  pub slot_made : {T X : Type 0} (r : Result T X) (S V U : World → Type 0) (old mid low new : Taken)
      → Made S old mid w (opening w s.child t)
      → Made V mid low (after_acts w (opening w s.child t))
      (slot_turns (after_acts w (opening w s.child t)) s.turns (t + 1))
      → MadeOrCut r U low new
      (after_acts (after_acts w (opening w s.child t)) (slot_turns (after_acts w (opening w s.child t)) s.turns (t +
      1)))
      (closing (after_acts (after_acts w (opening w s.child t))
      (slot_turns (after_acts w (opening w s.child t)) s.turns (t + 1))) (t + 1 + s.turns))
      → MadeOrCut r U old new w (slot_acts w s t)
  slot_made r S V U old mid low new a b h = made_then r S U old mid new w first (rest_acts one s.turns (t + 1)) a
      (made_then r V U mid low new one middle (closing two (t + 1 + s.turns)) b h)
