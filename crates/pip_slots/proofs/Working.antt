-- In how many steps a plan of slots is run.
use Rattle.std.proofs.Common.{◌≡◌, ℕ, suc, ◌+◌, ◌-◌, ◌<◌, ◌≤◌, Bool, false, List, ◌∷◌, ◌++◌, drop}
use Rattle.std.proofs.Common.{arith}
use Rattle.pip_base.specs.declared.outcome.Outcome.TheVariants as O
use Rattle.pip_lines.proofs.Working.{Working, both_take, working_begun, working_cut, working_on}
use Rattle.pip_model.specs.Acts.{Act, after_acts, events_made}
use Rattle.pip_model.specs.Events as E
use Rattle.pip_model.specs.Port.{Follows, TakesAtMost, TakesNoMore}
use Rattle.pip_model.specs.Turn.{world_of}
use Rattle.pip_model.specs.Work.{events_work}
use Rattle.pip_model.specs.Worlds.{World}
use Rattle.pip_native.specs.Watching.{root_runs}
use Rattle.pip_slots.specs.declared.time_slot.TimeSlot.{TimeSlot}
use Rattle.pip_slots.specs.Slots.{closing, next_step, opening, plan_steps, rest_acts, rounds, slot_acts}
use Rattle.pip_slots.specs.Slots.{slot_run, slot_turn, slot_turns}
use Rattle.pip_slots.proofs.Progressing.{inners_first, inners_next, inners_rest, rounds_first, rounds_next, slots_next}
use Rattle.pip_slots.proofs.Progressing.{slots_rest}

-- ---- a slot

-- line 0 is raised, and polled
pub closed_takes : (S T : World → Type 0) (t : ℕ) (here : Bool) (a b c : ℕ) → ((w : World) → S w → here ≡ root_runs w)
    → here ≡ false → Follows S T (E.Raise 0) O.Done → TakesAtMost S (E.Raise 0) a b → TakesAtMost T (E.Poll 0) b c
    → TakesNoMore S (λ w. closing w t) a c
closed_takes S T t here a b c is e follows raise poll w h =
    let x = raise w h in
    let y = poll (world_of w (E.Raise 0)) (follows w h).1 in
    rw (← is w h, e) (omega arith)

-- acts of which only the first part was made
first_takes : (S : World → Type 0) (first more : World → List Act) (a b : ℕ) → TakesNoMore S first a b
    → TakesNoMore S (λ v. first v ++ more (after_acts v (first v))) a b
first_takes S first more a b one =
    both_take S (λ v. Unit {0}) first more a b b (λ v h. tt) one (λ v h. omega arith)

module _ (S : World → Type 0) (s : TimeSlot) (t a b : ℕ) (opens : TakesNoMore S (λ v. opening v s.child t) a b) where
  -- it is cut at its first line
  pub slot_takes_first : TakesNoMore S (λ v. slot_acts v s t) a b
  slot_takes_first = first_takes S (λ v. opening v s.child t) (λ v. rest_acts v s.turns (t + 1)) a b opens

  module _ (T : World → Type 0) (made : (v : World) → S v → T (after_acts v (opening v s.child t))) (c : ℕ)
      (turns : TakesNoMore T (λ v. slot_turns v s.turns (t + 1)) b c) where
    -- within
    pub slot_takes_within : TakesNoMore S (λ v. slot_acts v s t) a c
    slot_takes_within = both_take S T (λ v. opening v s.child t) (λ v. rest_acts v s.turns (t + 1)) a b c made opens
        (first_takes T (λ v. slot_turns v s.turns (t + 1)) (λ v. closing v (t + 1 + s.turns)) b c turns)

    -- or it comes to its last step
    pub slot_takes : (U : World → Type 0) (d : ℕ)
        → ((v : World) → T v → U (after_acts v (slot_turns v s.turns (t + 1))))
        → TakesNoMore U (λ v. closing v (t + 1 + s.turns)) c d → TakesNoMore S (λ v. slot_acts v s t) a d
    slot_takes U d went closes = both_take S T (λ v. opening v s.child t) (λ v. rest_acts v s.turns (t + 1)) a b d made
        opens (both_take T U (λ v. slot_turns v s.turns (t + 1)) (λ v. closing v (t + 1 + s.turns)) b c d went turns
        closes)

-- ---- how far a plan is

pub inners_work : (S : World → Type 0) (a : ℕ) (w : World) (n t : ℕ) → S w
    → Working S a a w (slot_turns w n t) (λ v. slot_turns v (n - 0) (t + 0))
inners_work S a w n t h = inners_first (Working S a a w (slot_turns w n t)) n t
    (working_begun S a w (λ v. slot_turns v n t) h)

pub slots_work : (S : World → Type 0) (a : ℕ) (w : World) (ss : List TimeSlot) (t : ℕ) → S w
    → Working S a a w (slot_run w ss t) (λ v. slot_run v (drop 0 ss) t)
slots_work S a w ss t h = working_begun S a w (λ v. slot_run v ss t) h

pub rounds_work : (S : World → Type 0) (a : ℕ) (w : World) (ss : List TimeSlot) (c : ℕ) → S w
    → Working S a a w (slot_run w (rounds ss c) 0) (λ v. slot_run v (rounds ss (c - 0)) 0)
rounds_work S a w ss c h = rounds_first (Working S a a w (slot_run w (rounds ss c) 0)) ss c
    (working_begun S a w (λ v. slot_run v (rounds ss c) 0) h)

module _ (before now after : ℕ) (w : World) (all : List Act) (S : World → Type 0) where
  module _ (n t k : ℕ) (inside : k < n) (p : Working S before now w all (λ v. slot_turns v (n - k) (t + k)))
      (takes : TakesNoMore S (λ v. slot_turn v (t + k)) now after) where
    pub inners_work_cut : after ≤ before + events_work w (events_made all)
    inners_work_cut = working_cut S before now after w all (λ v. slot_turn v (t + k))
        (λ v. slot_turns v (n - (k + 1)) (t + k + 1)) takes (inners_next (Working S before now w all) n t k inside p)

    pub inners_work_on : (U : World → Type 0) → ((v : World) → S v → U (after_acts v (slot_turn v (t + k))))
        → Working U before after w all (λ v. slot_turns v (n - (k + 1)) (t + (k + 1)))
    inners_work_on U made = inners_rest (Working U before after w all) n t k
        (working_on S before now after w all (λ v. slot_turn v (t + k)) (λ v. slot_turns v (n - (k + 1)) (t + k + 1))
        takes (inners_next (Working S before now w all) n t k inside p) U made)

  module _ (ss : List TimeSlot) (i t : ℕ) (s : TimeSlot) (here : drop i ss ≡ s ∷ drop (suc i) ss)
      (p : Working S before now w all (λ v. slot_run v (drop i ss) t))
      (takes : TakesNoMore S (λ v. slot_acts v s t) now after) where
    pub slots_work_cut : after ≤ before + events_work w (events_made all)
    slots_work_cut = working_cut S before now after w all (λ v. slot_acts v s t)
        (λ v. slot_run v (drop (suc i) ss) (next_step s t)) takes
        (slots_next (Working S before now w all) ss i t s here p)

    pub slots_work_on : (U : World → Type 0) → ((v : World) → S v → U (after_acts v (slot_acts v s t)))
        → Working U before after w all (λ v. slot_run v (drop (i + 1) ss) (t + (s.turns + 2)))
    slots_work_on U made = slots_rest (Working U before after w all) ss i t s
        (working_on S before now after w all (λ v. slot_acts v s t) (λ v. slot_run v (drop (suc i) ss) (next_step s t))
        takes (slots_next (Working S before now w all) ss i t s here p) U made)

  module _ (ss : List TimeSlot) (c j t : ℕ) (inside : j < c)
      (p : Working S before now w all (λ v. slot_run v (rounds ss (c - j)) t))
      (takes : TakesNoMore S (λ v. slot_run v ss t) now after) where
    pub rounds_work_cut : after ≤ before + events_work w (events_made all)
    rounds_work_cut = working_cut S before now after w all (λ v. slot_run v ss t)
        (λ v. slot_run v (rounds ss (c - (j + 1))) (t + plan_steps ss))
        takes (rounds_next (Working S before now w all) ss c j t inside p)

    pub rounds_work_on : (U : World → Type 0) → ((v : World) → S v → U (after_acts v (slot_run v ss t))) → (u : ℕ)
        → u ≡ t + plan_steps ss → Working U before after w all (λ v. slot_run v (rounds ss (c - (j + 1))) u)
    rounds_work_on U made u e =
        rw e (working_on S before now after w all (λ v. slot_run v ss t)
        (λ v. slot_run v (rounds ss (c - (j + 1))) (t + plan_steps ss)) takes
        (rounds_next (Working S before now w all) ss c j t inside p) U made)
