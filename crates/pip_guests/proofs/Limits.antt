-- Two worlds that differ only in whether the root runs on processor 1, while its child 13 runs on processor 0.
use Rattle.std.proofs.Common.{◌≡◌, ◌≢◌, ℕ, ◌<◌, zero, suc, inl, inr, [], ◌∷◌, refl, sym, ap, subst, arith, Some}
use Rattle.pip_base.specs.declared.outcome.Outcome.TheVariants as O
use Rattle.pip_base.specs.declared.outcome.Status.TheVariants as S
use Rattle.pip_model.specs.Answers.{Five}
use Rattle.pip_model.specs.Events.{Event, IsEvent}
use Rattle.pip_model.specs.Events as E
use Rattle.pip_model.specs.Happens.{event}
use Rattle.pip_model.specs.Lists.{In}
use Rattle.pip_model.specs.Poll.{occupant_name}
use Rattle.pip_model.specs.Tree.{ancestry}
use Rattle.pip_model.specs.Worlds.{IsSoundWorld, World, boot_world_with, first_ctx, with_running, runs_on}
use Rattle.pip_model.specs.declared.processors.Occupant.{Occupant}
use Rattle.pip_model.proofs.Events.Soundness.{boot_world-sound_with, cpu_runs, event-sound, first_context}
use Rattle.pip_guests.specs.Guests.{IsInside, IsLeaving, IsSameGuest, IsSameLeaving}
use Rattle.pip_guests.specs.Inputs.{Interrupts, IsAsking, IsInput, RunAlike, asked, ended, input}
use Rattle.pip_guests.specs.Limits.{AsksIsNotInside, IsInsideOrAsks, IsInsideOrParked, OutcomesDepend}
use Rattle.pip_guests.specs.Limits.{ParkedIsNotInside, PollsAreNotApart}
use Rattle.pip_guests.specs.Programs.{HasSameEvents, IsAlikeTurn, IsGuestTurn}
use Rattle.pip_guests.proofs.Inside.{inside_same}
use Rattle.pip_guests.proofs.Elsewhere.{others_leave_guests_alone, same_sym, same_trans}
use Rattle.pip_guests.proofs.Interrupts.{interrupts_are_inputs}
use Rattle.pip_guests.proofs.Leaving.{guests_are_left_alike}
use Rattle.pip_guests.proofs.Turns.{poll_vain}
use Rattle.pip_guests.proofs.TurnsLeaving.{turns_leave_alike}

abbrev five : ℕ → ℕ → ℕ → ℕ → ℕ → Five
five a b c d e = record { x0 = a; x1 = b; x2 = c; x3 = d; x4 = e }

abbrev pages : Five
pages = five 0x401000 0x402000 0x403000 0x404000 0x405000

-- the root handles all vectors, with a block at 0x400000, and has made the child 13
abbrev booted : World
booted = boot_world_with (λ g i. 0x400000) 32 2

abbrev made : World
made = (event booted (E.Call 0 0 pages)).world

abbrev child : Occupant
child = record { name = 13; ctx = first_ctx }

abbrev root : Occupant
root = record { name = 1; ctx = first_ctx }

-- 13 runs on processor 0; and the root on processor 1
abbrev alone : World
alone = with_running made 0 (Some child)

abbrev busy : World
busy = with_running alone 1 (Some root)

made_is : IsEvent (E.Call 0 0 pages)
made_is = (omega arith, (omega arith, (omega arith, (omega arith, (omega arith, (omega arith, tt))))))

made_sound : IsSoundWorld made
made_sound = event-sound booted (E.Call 0 0 pages) (boot_world-sound_with (λ g i. 0x400000) 32 2 (omega arith)
    (omega arith) (omega arith) (omega arith) (λ g i l. omega arith)) made_is

alone_sound : IsSoundWorld alone
alone_sound = cpu_runs made 0 child made_sound (inr (inl refl))
    (inl (λ i. elim i [ inl e ↦ omega arith | inr j ↦ j ])) first_context

busy_sound : IsSoundWorld busy
busy_sound = cpu_runs alone 1 root alone_sound (inl refl) (inl (λ i. elim i [ inl e ↦ omega arith | inr j ↦ j ]))
    first_context

not_root : 13 ≢ alone.tree.root.name
not_root e = omega arith

same : IsSameGuest 13 busy alone
same = record {
  below = record { nodes = λ x. ((λ h. h), (λ h. h)); words = λ g i j l. refl };
  runs = to;
  runs_back = back;
}
  where
    to : (i : ℕ) (r : Occupant) → In 13 (ancestry busy.tree r.name) → runs_on busy i ≡ Some r → runs_on alone i ≡ Some r
    to zero r h e = e
    to (suc zero) r h e =
        let d : root ≡ r = cc in
        let k : In 13 (ancestry busy.tree 1) = rw (← d) at h in
        absurd (elim k [ inl q ↦ omega arith | inr j ↦ j ])
    to (suc (suc i)) r h e = e

    back : (i : ℕ) (r : Occupant) → In 13 (ancestry alone.tree r.name) → runs_on alone i ≡ Some r
        → runs_on busy i ≡ Some r
    back zero r h e = e
    back (suc zero) r h e = cc
    back (suc (suc i)) r h e = e

-- a trap of 13 leaves the guest in both: it is parked in the one, and the root takes it in the other
busy_left : IsLeaving 13 busy (E.Trap 0 64 0 0)
busy_left = record { faults = refl; below = inl refl; leaves = tt }

alone_left : IsLeaving 13 alone (E.Trap 0 64 0 0)
alone_left = record { faults = refl; below = inl refl; leaves = λ i. elim i [ inl e ↦ omega arith | inr j ↦ j ] }

pub outcomes_of_inside : OutcomesDepend IsInside
outcomes_of_inside w v p e s s' ev m g i = (inside_same w v p e s s' ev m g i).outcome

pub parked_is_not_inside : ParkedIsNotInside
parked_is_not_inside law =
    let e = E.Trap 0 64 0 0 in
    let inside : IsInsideOrParked 13 busy e = record { own = refl; below = inl refl; stays = inr tt; asks = λ h. h } in
    let same_outcome : O.Parked 13 64 ≡ O.Switched 13 1 64 =
    law busy alone 13 e busy_sound alone_sound (omega arith, omega arith, omega arith) not_root same inside in
    cc

pub asks_is_not_inside : AsksIsNotInside
asks_is_not_inside law =
    let e = E.Call 0 8 (five 0 64 256 0 0) in
    let is : IsEvent e = (omega arith, (omega arith, (omega arith, (omega arith, (omega arith, (omega arith, tt)))))) in
    let inside : IsInsideOrAsks 13 busy e = record { own = refl; below = inl refl; stays = tt } in
    let same_outcome : O.Reply S.Running 0 ≡ O.Switched 13 1 64 =
    law busy alone 13 e busy_sound alone_sound is not_root same inside in
    cc

-- line j is pending, which the root handles
abbrev line : ℕ → World
line j = (event alone (E.Raise j)).world

line_sound : (j : ℕ) → j < 16 → IsSoundWorld (line j)
line_sound j l = event-sound alone (E.Raise j) alone_sound l

pub polls_are_not_apart : PollsAreNotApart
polls_are_not_apart law =
    let g = law (line 0) 13 0 (line_sound 0 (omega arith)) (inr (inl refl)) not_root in
    let runs = g.runs 0 child (inl refl) refl in
    let name : ◌≡◌ {A = ℕ} 1 13 = ap occupant_name runs in
    omega arith

-- ---- the premises of the law of interrupts: line 0 or line 1 takes the processor from 13

line_same : (j : ℕ) → j < 16 → IsSameGuest 13 alone (line j)
line_same j l = (others_leave_guests_alone alone 13 (E.Raise j) alone_sound l (inr (inl refl)) not_root tt).same

first_taken : Interrupts 13 0 32 (line 0)
first_taken = record { below = inl refl; taken = refl }

second_taken : Interrupts 13 0 33 (line 1)
second_taken = record { below = inl refl; taken = refl }

interrupted : IsInput 13 (E.Poll 0) (E.Poll 0) (line 0) (line 1)
interrupted =
    let zero = line_sound 0 (omega arith) in
    let one = line_sound 1 (omega arith) in
    let same = same_trans 13 (line 0) alone (line 1) zero alone_sound one (inr (inl refl)) (same_sym 13 alone (line 0)
    alone_sound zero (inr (inl refl)) (line_same 0 (omega arith))) (line_same 1 (omega arith)) in
    interrupts_are_inputs (line 0) (line 1) 13 0 32 33 zero one not_root same first_taken second_taken

-- ---- the premise of the law of inputs on a yield of p to its parent: it is accepted in both
asking : IsAsking 13 (E.Call 0 8 (five 0 64 256 0 0)) alone (line 1)
asking = record { own = refl; asks = (refl, refl, refl); answer = refl }

-- ---- the premises of the laws on what leaves: a trap of 13, and a turn of 13, whose fetch faults
left_alike : IsSameLeaving 13 (E.Trap 0 64 0 0) busy alone
left_alike = guests_are_left_alike busy alone 13 (E.Trap 0 64 0 0) busy_sound alone_sound
    (omega arith, omega arith, omega arith) not_root same busy_left

turn_leaves : IsGuestTurn 13 busy 0 0
turn_leaves =
    record { below = inl refl; fits = (inr (record { faults = refl; below = inl refl; leaves = tt }), tt) }

turn_left : HasSameEvents 13 0 0 busy alone
turn_left = turns_leave_alike busy alone 13 0 0 busy_sound alone_sound not_root same (poll_vain busy 0 child refl refl)
    (poll_vain alone 0 child refl refl) turn_leaves

-- ---- the premise of the law of turns on inputs, of a turn that is alike: line 0 is taken, and in the second world
-- line 2 is pending, too
abbrev lines : World
lines = (event (line 0) (E.Raise 2)).world

lines_sound : IsSoundWorld lines
lines_sound = event-sound (line 0) (E.Raise 2) (line_sound 0 (omega arith)) (omega arith)

lines_same : IsSameGuest 13 (line 0) lines
lines_same = (others_leave_guests_alone (line 0) 13 (E.Raise 2) (line_sound 0 (omega arith)) (omega arith)
    (inr (inl refl)) not_root tt).same

lines_taken : Interrupts 13 0 32 lines
lines_taken = record { below = inl refl; taken = refl }

turn_alike : IsAlikeTurn 13 (line 0) lines (record { step = 0; cpu = 0 })
turn_alike = record {
  acts = refl;
  events = input (E.Poll 0) (E.Poll 0) (interrupts_are_inputs (line 0) lines 13 0 32 32 (line_sound 0 (omega arith))
      lines_sound not_root lines_same first_taken lines_taken) ended;
  name = inr (inl refl);
}

-- ---- the premise of the law of inputs, of a run with a yield to the parent
asked_run : RunAlike 13 alone (E.Call 0 8 (five 0 64 256 0 0) ∷ []) (line 1) (E.Call 0 8 (five 0 64 256 0 0) ∷ [])
asked_run = asked (E.Call 0 8 (five 0 64 256 0 0)) asking ended
