-- What the premises ask of the worlds, computed.
use Rattle.std.proofs.Common.{◌≡◌, ◌≢◌, ℕ, ◌<◌, inl, inr, List, [], ◌∷◌, refl, sym, ap, ◌∙◌, subst, arith}
use Rattle.pip_base.specs.declared.outcome.Outcome.TheVariants as O
use Rattle.pip_base.specs.declared.types.Ctx.{Ctx}
use Rattle.pip_model.specs.Acts.{events_made}
use Rattle.pip_model.specs.Events.{Event, IsEvent}
use Rattle.pip_model.specs.Events as E
use Rattle.pip_model.specs.Happens.{after, event}
use Rattle.pip_model.specs.Lists.{In}
use Rattle.pip_model.specs.Local.{IsAside, actor}
use Rattle.pip_model.specs.Reach.{Faulted, Place, Reached, Unmapped}
use Rattle.pip_model.specs.Soak.{five}
use Rattle.pip_model.specs.Sound.{IsWord}
use Rattle.pip_model.specs.Tree.{ancestry, names_of, nodes}
use Rattle.pip_model.specs.Turn.{turn}
use Rattle.pip_model.specs.Worlds.{IsSoundWorld, World}
use Rattle.pip_model.specs.declared.processors.Occupant.{Occupant}
use Rattle.pip_model.proofs.Events.Soundness.{event-sound}
use Rattle.pip_guests.specs.Guests.{AreOwnOrApart, IsApart, IsInside, IsLeaving, IsSameGuest, PollsInVain}
use Rattle.pip_guests.specs.Inputs.{Enters, IsInput, RunAlike, ended, input, own, second}
use Rattle.pip_guests.specs.Programs.{AllStayApart, IsInsideTurn, Item, Other, RunOnInputs, Slot, StepsOnInputs, Turn}
use Rattle.pip_guests.specs.Programs.{turn_of}
use Rattle.pip_guests.specs.Programs as P
use Rattle.pip_guests.proofs.Ancestors.{ancestors_leave_guests_alone}
use Rattle.pip_guests.proofs.Elsewhere.{others_leave_guests_alone}
use Rattle.pip_guests.proofs.Inputs.{entries_are_inputs}
use Rattle.pip_guests.proofs.Programs.{turn_apart}
use Rattle.pip_guests.proofs.Turns.{poll_vain}
use Rattle.pip_test_every.specs.Prepared.{later_slot, masked_world, other_slot, own_load, own_store, own_trap}
use Rattle.pip_test_every.specs.Prepared.{pair_world, root_removal, root_store, root_world, root_yield, their_mask}
use Rattle.pip_test_every.specs.Prepared.{their_store}

-- ---- events

words : (n : ℕ) → n < 4096 → IsWord n
words n l = omega (arith, l)

pub load_is : IsEvent own_load
load_is = omega arith

pub store_is : IsEvent own_store
store_is = (omega arith, omega arith)

pub trap_is : IsEvent own_trap
trap_is = (omega arith, omega arith, omega arith)

pub their_store_is : IsEvent their_store
their_store_is = (omega arith, omega arith)

pub root_store_is : IsEvent root_store
root_store_is = (omega arith, omega arith)

their_mask_is : IsEvent their_mask
their_mask_is = let z = words 0 (omega arith) in (words 10 (omega arith), (z, (z, (z, (z, (z, tt))))))

pub entry_is : IsEvent root_yield
entry_is = let z = words 0 (omega arith) in
    (words 8 (omega arith), (omega arith, (words 64 (omega arith), (words 256 (omega arith), (z, (z, tt))))))

pub removal_is : IsEvent root_removal
removal_is = let z = words 0 (omega arith) in
    (words 6 (omega arith), (omega arith, (omega arith, (z, (z, (z, tt))))))

-- ---- who is where

not_one : (w : World) → w.tree.root.name ≡ 1 → 13 ≢ w.tree.root.name
not_one w root e = let one : ◌≡◌ {A = ℕ} 13 1 = e ∙ root in omega (arith, one)

off_root : In {A = ℕ} 13 (1 ∷ []) → ⊥
off_root i = elim i [ inl e ↦ omega (arith, e) | inr j ↦ j ]

off_22 : In {A = ℕ} 13 (22 ∷ 1 ∷ []) → ⊥
off_22 i = elim i [ inl e ↦ omega (arith, e) | inr j ↦ elim j [ inl e ↦ omega (arith, e) | inr k ↦ k ] ]

pub off_13 : In {A = ℕ} 22 (13 ∷ 1 ∷ []) → ⊥
off_13 i = elim i [ inl e ↦ omega (arith, e) | inr j ↦ elim j [ inl e ↦ omega (arith, e) | inr k ↦ k ] ]

pub pair_not_root : 13 ≢ pair_world.tree.root.name
pair_not_root = not_one pair_world refl

pub root_not_root : 13 ≢ root_world.tree.root.name
root_not_root = not_one root_world refl

pub pair_there : In 13 (names_of (nodes pair_world.tree))
pair_there = inr (inr (inl refl))

pub root_there : In 13 (names_of (nodes root_world.tree))
root_there = inr (inr (inl refl))

pub aside : IsAside pair_world.tree 13 22
aside = record { there = inr (inl refl); not_below = off_22; not_above = off_13 }

aside_there : IsAside pair_world.tree 22 13
aside_there = record { there = inr (inr (inl refl)); not_below = off_13; not_above = off_22 }

-- the root's line of descent is itself
pub off_line : (w : World) (e : Event) → actor w e ≡ 1 → ancestry w.tree 1 ≡ 1 ∷ []
    → In 13 (ancestry w.tree (actor w e)) → ⊥
off_line w e who line h = off_root (subst (In 13) (ap (ancestry w.tree) who ∙ line) h)

-- and it is there
pub runs_root : (w : World) (e : Event) → actor w e ≡ 1 → w.tree.root.name ≡ 1
    → In (actor w e) (names_of (nodes w.tree))
runs_root w e who root = inl (who ∙ sym root)

-- ---- events of each child

pub load_inside : IsInside 13 pair_world own_load
load_inside = record { own = refl; below = inl refl; stays = tt; asks = λ h. h }

pub store_inside : IsInside 13 pair_world own_store
store_inside = record { own = refl; below = inl refl; stays = tt; asks = λ h. h }

pub their_store_inside : IsInside 22 pair_world their_store
their_store_inside = record { own = refl; below = inl refl; stays = tt; asks = λ h. h }

pub trap_leaves : IsLeaving 13 pair_world own_trap
trap_leaves = record { faults = refl; below = inl refl; leaves = tt }

pub their_store_apart : IsSoundWorld pair_world → IsApart 13 pair_world their_store
their_store_apart s = others_leave_guests_alone pair_world 13 their_store s their_store_is pair_there pair_not_root
    (inr aside)

-- 13 is the same where 22 is masked
pub masked_same : IsSoundWorld pair_world → IsSameGuest 13 pair_world masked_world
masked_same s =
    (others_leave_guests_alone pair_world 13 their_mask s their_mask_is pair_there pair_not_root (inr aside)).same

-- after a store of 22, one of 13 stays inside
pub fits : IsSoundWorld pair_world → AreOwnOrApart 13 pair_world (their_store ∷ own_store ∷ [])
fits s = (
  inr (their_store_apart s),
  (inl (inl (record { own = refl; below = inl refl; stays = tt; asks = λ h. h })), tt),
)

-- ---- inputs

abbrev page_reached : Reached → ℕ
page_reached (Place g i) = g
page_reached (Faulted f) = 0

root_store_apart : IsSoundWorld root_world → IsApart 13 root_world root_store
root_store_apart s = ancestors_leave_guests_alone root_world 13 root_store s root_store_is root_there root_not_root
    (runs_root root_world root_store refl refl) (off_line root_world root_store refl refl) (stored, saved)
  where
    stored : (g i : ℕ) → Place 12 0 ≡ Place g i → In {A = ℕ} g (21 ∷ []) → ⊥
    stored g i e h =
        let page : ◌≡◌ {A = ℕ} 12 g = ap page_reached e in
        elim h [ inl k ↦ let other : ◌≡◌ {A = ℕ} g 21 = k in omega (arith, page, other) | inr j ↦ j ]

    saved : (g i : ℕ) → Faulted Unmapped ≡ Place g i → In {A = ℕ} g (21 ∷ []) → ⊥
    saved g i e h = cc

-- a yield of the root to 13 that saves nothing
enters_13 : (w : World) → actor w root_yield ≡ 1 → ancestry w.tree 1 ≡ 1 ∷ [] → In 13 (ancestry w.tree 13)
    → (event w root_yield).outcome ≡ O.Switched 1 13 64 → Enters 13 13 64 w 0 8 (five 0x401000 64 256 0 0)
enters_13 w who line there comes = record {
  yields = refl;
  outside = off_line w root_yield who line;
  target = there;
  switched = comes ∙ ap (λ r. O.Switched r 13 64) (sym who);
  saved = λ g i e h. cc;
}

-- the root's world after the store
abbrev stored_world : World
stored_world = (event root_world root_store).world

entry_same : (s : IsSoundWorld root_world) → IsInput 13 root_yield root_yield root_world stored_world
entry_same s = entries_are_inputs root_world stored_world 13 13 64 0 8 8 (five 0x401000 64 256 0 0)
    (five 0x401000 64 256 0 0) s (event-sound root_world root_store s root_store_is) entry_is entry_is root_not_root
    (root_store_apart s).same (enters_13 root_world refl refl (inl refl) refl)
    (enters_13 stored_world refl refl (inl refl) refl)

in_step : (w v : World) (a b c : Event) → IsApart 13 v a → IsInput 13 b b w (event v a).world
    → IsInside 13 (event w b).world c → RunAlike 13 w (b ∷ c ∷ []) v (a ∷ b ∷ c ∷ [])
in_step w v a b c h i k = second a h (input b b i (own c (inl k) ended))

pub runs_alike : IsSoundWorld root_world
    → RunAlike 13 root_world (root_yield ∷ own_store ∷ []) root_world (root_store ∷ root_yield ∷ own_store ∷ [])
runs_alike s = in_step root_world root_world root_store root_yield own_store (root_store_apart s) (entry_same s)
    (record { own = refl; below = inl refl; stays = tt; asks = λ h. h })

-- ---- turns

-- a child's context, at an address of its page
abbrev ctx : ℕ → Ctx
ctx pc = record { pc = pc; regs = 0 ∷ 0 ∷ 0 ∷ 0 ∷ 0 ∷ 0 ∷ 0 ∷ 0 ∷ 0 ∷ 0 ∷ 0 ∷ 0 ∷ 0 ∷ 0 ∷ 0 ∷ 0 ∷ [] }

abbrev child : ℕ → Occupant
child n = record { name = n; ctx = ctx 0xfffff000 }

-- the events of a turn
abbrev pub turn_events : ℕ → List Event
turn_events cpu = E.Poll cpu ∷ E.Fetch cpu ∷ E.SetContext cpu (ctx 0xfffff004) ∷ []

inside_13 : IsInsideTurn 13 pair_world 0 1
inside_13 = record {
  below = inl refl;
  inside = (
    record { own = refl; below = inl refl; stays = tt; asks = λ h. h },
    (record { own = refl; below = inl refl; stays = tt; asks = λ h. h }, tt),
  );
}

inside_22 : IsInsideTurn 22 pair_world 1 0
inside_22 = record {
  below = inl refl;
  inside = (
    record { own = refl; below = inl refl; stays = tt; asks = λ h. h },
    (record { own = refl; below = inl refl; stays = tt; asks = λ h. h }, tt),
  );
}

turn_is : events_made (turn pair_world 1 0) ≡ turn_events 1
turn_is = refl

other_turn : IsSoundWorld pair_world → AllStayApart 13 pair_world (turn_events 1)
other_turn s = subst (AllStayApart 13 pair_world) turn_is
    (turn_apart 22 13 1 0 pair_world s (inr (inl refl)) aside_there (poll_vain pair_world 1 (child 22) refl refl)
    inside_22)

pair_polls : PollsInVain pair_world 0
pair_polls = poll_vain pair_world 0 (child 13) refl refl

later_polls : PollsInVain (after pair_world (turn_events 1)) 0
later_polls = poll_vain (after pair_world (turn_events 1)) 0 (child 13) refl refl

after_three : (w v : World) (a b c : Event) (s : Slot) → AllStayApart 13 v (a ∷ b ∷ c ∷ [])
    → IsInsideTurn 13 w s.cpu s.step → PollsInVain w s.cpu → PollsInVain (after v (a ∷ b ∷ c ∷ [])) s.cpu
    → RunOnInputs 13 w (Turn s ∷ []) v (Other a ∷ Other b ∷ Other c ∷ Turn s ∷ [])
after_three w v a b c s apart i vain vain' =
    let (ia, aa, more) = apart in
    let (ib, ab, last) = more in
    let (ic, ac, end) = last in
    P.second a ia aa (P.second b ib ab (P.second c ic ac (P.own s i vain vain' P.ended)))

pub steps_alike : IsSoundWorld pair_world
    → StepsOnInputs 13 pair_world [] (later_slot ∷ []) pair_world [] (other_slot ∷ later_slot ∷ [])
steps_alike s = after_three pair_world pair_world (E.Poll 1) (E.Fetch 1) (E.SetContext 1 (ctx 0xfffff004)) later_slot
    (other_turn s) inside_13 pair_polls later_polls
