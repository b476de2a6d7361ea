-- The premises of the laws are met: two children of the root, 13 and 18, run on two processors.
use Rattle.std.proofs.Common.{◌≡◌, ℕ, zero, suc, ◌+◌, ◌<◌, true, inl, inr, List, [], ◌∷◌, refl, sym, ap, ◌∙◌, subst}
use Rattle.std.proofs.Common.{arith, None, Some}
use Rattle.std.specs.List.{AllByRecursion}
use Rattle.pip_base.specs.declared.outcome.Outcome.TheVariants as O
use Rattle.pip_base.specs.declared.outcome.Status.TheVariants as S
use Rattle.pip_base.specs.declared.types.Access.TheVariants.{Store}
use Rattle.pip_base.specs.declared.types.Ctx.{Ctx}
use Rattle.pip_base.specs.declared.types.Size.TheVariants.{Word}
use Rattle.pip_model.specs.Acts.{events_made}
use Rattle.pip_model.specs.AddVAddr.{add_refusals}
use Rattle.pip_model.specs.Answers.{Five, child_name, first_met, page_of}
use Rattle.pip_model.specs.Events.{Event, IsEvent}
use Rattle.pip_model.specs.Events as E
use Rattle.pip_model.specs.Generator.{next_state}
use Rattle.pip_model.specs.Happens.{after, event}
use Rattle.pip_model.specs.Lists.{In}
use Rattle.pip_model.specs.Local.{AgreeBelow, IsAside, actor}
use Rattle.pip_model.specs.Poll.{occupant_name}
use Rattle.pip_model.specs.Reach.{Place, reach}
use Rattle.pip_model.specs.Sound.{IsContext, IsWord}
use Rattle.pip_model.specs.Tree.{ancestry, names_of, nodes, word_of}
use Rattle.pip_model.specs.Worlds.{IsSoundWorld, World, boot_world_with, with_running, runs_on}
use Rattle.pip_model.specs.declared.processors.Occupant.{Occupant}
use Rattle.pip_model.proofs.Events.Soundness.{after-sound, boot_world-sound_with, cpu_runs, event-sound}
use Rattle.pip_guests.specs.Guests.{AsksParent, IsApart, IsInside, IsSameGuest, StaysBelow, is_own, learns_own}
use Rattle.pip_guests.specs.Inputs.{CallsOn, Enters, IsInput, LendsPage, RunAlike, StoresTo, ended, input, own, second}
use Rattle.pip_guests.specs.Programs.{AmongSlots, AreInsideTurns, IsRunAsAlone, Slot, left, none, right, run_slots}
use Rattle.pip_guests.specs.Programs.{turns}
use Rattle.pip_guests.proofs.Elsewhere.{same_world}
use Rattle.pip_guests.proofs.Inputs.{calls_are_inputs, entries_are_inputs, guests_depend_on_inputs, stores_are_inputs}
use Rattle.pip_guests.proofs.Lending.{lendings_are_inputs}
use Rattle.pip_guests.proofs.Programs.{programs_run_as_alone}

abbrev pub five : ℕ → ℕ → ℕ → ℕ → ℕ → Five
five a b c d e = record { x0 = a; x1 = b; x2 = c; x3 = d; x4 = e }

-- every word of the root's pages is 0xfffff000, so that a partition with a page there handles all vectors
abbrev pub booted : World
booted = boot_world_with (λ g i. 0xfffff000) 64 2

-- a child of five pages from an address on, with a table for the last 4 MiB, and a page at 0xfffff000
abbrev pub born : ℕ → List Event
born a =
    E.Call 0 0 (five a (a + 0x1000) (a + 0x2000) (a + 0x3000) (a + 0x4000))
    ∷ E.Store 0 (a + 0x5000) Word (a + 0x6000)
    ∷ E.Store 0 (a + 0x6000) Word (a + 0x7000)
    ∷ E.Call 0 3 (five a 0xfffff000 (a + 0x5000) 0 0)
    ∷ E.Call 0 5 (five (a + 0x8000) a 0xfffff000 7 0)
    ∷ []

-- two of them, whose pages hold a program each: `out r1`, and then call 8
abbrev pub programs : List Event
programs = E.Store 0 0x409000 Word 0x22100000 ∷ E.Store 0 0x409004 Word 0x20000008 ∷ E.Store 0 0x412000 Word 0x22100000
    ∷ E.Store 0 0x412004 Word 0x20000008 ∷ []

abbrev pub one : World
one = after booted (born 0x401000)

abbrev pub two : World
two = after one (born 0x40a000)

abbrev pub made : World
made = after two programs

-- r1 to r3 are the arguments of the call: a yield to the caller itself, with vector 64, which saves nothing
abbrev pub ctx : ℕ → Ctx
ctx pc = record { pc = pc; regs = 0 ∷ 1 ∷ 64 ∷ 256 ∷ 0 ∷ 0 ∷ 0 ∷ 0 ∷ 0 ∷ 0 ∷ 0 ∷ 0 ∷ 0 ∷ 0 ∷ 0 ∷ 0 ∷ [] }

abbrev pub guest : ℕ → Occupant
guest n = record { name = n; ctx = ctx 0xfffff000 }

abbrev pub pair : World
pair = with_running (with_running made 0 (Some (guest 13))) 1 (Some (guest 22))

-- ---- the world is sound

pub words : (n : ℕ) → n < 4096 → IsWord n
words n l = omega arith

pub context : (pc : ℕ) → IsWord pc → IsContext (ctx pc)
context pc l =
    let z = words 0 (omega arith) in
    record {
      pc = l;
      count = refl;
      regs = (
        z,
        (
          words 1 (omega arith),
          (
            words 64 (omega arith),
            (words 256 (omega arith), (z, (z, (z, (z, (z, (z, (z, (z, (z, (z, (z, (z, tt))))))))))))),
          ),
        ),
      );
    }

born_are : (a : ℕ) → a < 0x500000 → AllByRecursion IsEvent (born a)
born_are a l = (
  (
    w 0 (omega arith),
    (omega arith, (omega arith, (omega arith, (omega arith, (omega arith, tt))))),
  ),
  (
    (omega arith, omega arith),
    (
      (omega arith, omega arith),
      (
        (
          w 3 (omega arith),
          (omega arith, (omega arith, (omega arith, (w 0 (omega arith), (w 0 (omega arith), tt))))),
        ),
        (
          (
            w 5 (omega arith),
            (omega arith, (omega arith, (omega arith, (w 7 (omega arith), (w 0 (omega arith), tt))))),
          ),
          tt,
        ),
      ),
    ),
  ),
)
  where
    w : (n : ℕ) → n < 4096 → IsWord n
    w = words

names : names_of (nodes made.tree) ≡ 1 ∷ 22 ∷ 13 ∷ []
names = refl

pub made_sound : IsSoundWorld made
made_sound =
    let boot = boot_world-sound_with (λ g i. 0xfffff000) 64 2 (omega arith) (omega arith) (omega arith) (omega arith)
    (λ g i l. omega arith) in
    let first = after-sound booted (born 0x401000) boot (born_are 0x401000 (omega arith)) in
    let second = after-sound one (born 0x40a000) first (born_are 0x40a000 (omega arith)) in
    after-sound two programs second (
      (omega arith, omega arith),
      ((omega arith, omega arith), ((omega arith, omega arith), ((omega arith, omega arith), tt))),
    )

pub pair_sound : IsSoundWorld pair
pair_sound =
    let one = cpu_runs made 0 (guest 13) made_sound (inr (inr (inl refl)))
    (inl (λ i. elim i [ inl e ↦ omega arith | inr j ↦ j ])) (context 0xfffff000 (omega arith)) in
    cpu_runs (with_running made 0 (Some (guest 13))) 1 (guest 22) one (inr (inl refl))
    (inl (λ i. elim i [ inl e ↦ omega arith | inr j ↦ j ])) (context 0xfffff000 (omega arith))

pub off_22 : In {A = ℕ} 13 (22 ∷ 1 ∷ []) → ⊥
off_22 i = elim i [ inl e ↦ omega arith | inr j ↦ elim j [ inl e ↦ omega arith | inr k ↦ k ] ]

pub off_13 : In {A = ℕ} 22 (13 ∷ 1 ∷ []) → ⊥
off_13 i = elim i [ inl e ↦ omega arith | inr j ↦ elim j [ inl e ↦ omega arith | inr k ↦ k ] ]

pub aside : IsAside pair.tree 13 22
aside = record { there = inr (inl refl); not_below = off_22; not_above = off_13 }

-- ---- the turns of each, where it runs alone

abbrev pub at : ℕ → ℕ → Slot
at step cpu = record { step = step; cpu = cpu }

-- an event of the first turn stays inside: it is answered
abbrev pub Answered : ℕ → World → Event → Type 0
Answered n w e = (is_own e ≡ true) × In n (ancestry w.tree (actor w e)) × StaysBelow w.tree n (event w e).outcome
    × (AsksParent n (actor w e) e → ⊥)

pub stays : (n : ℕ) (w : World) (e : Event) → Answered n w e → IsInside n w e
stays n w e (o, b, s, a) = record { own = o; below = b; stays = s; asks = a }

-- 13 shows a word, and then yields to itself
pub inside_13 : AreInsideTurns 13 pair (at 0 0 ∷ at 2 0 ∷ [])
inside_13 = (
  record {
    below = inl refl;
    inside = (stays 13 _ _ (refl, inl refl, tt, (λ h. h)), (stays 13 _ _ (refl, inl refl, tt, (λ h. h)), tt));
  },
  (
    record {
      below = inl refl;
      inside = (
        stays 13 _ _ (refl, inl refl, tt, (λ h. h)),
        (
          stays 13 _ _ (refl, inl refl, tt, (λ h. h)),
          (stays 13 _ _ (refl, inl refl, inl refl, (λ h. omega arith)), tt),
        ),
      );
    },
    tt,
  ),
)

-- so does 22
pub inside_22 : AreInsideTurns 22 pair (at 1 1 ∷ at 3 1 ∷ [])
inside_22 = (
  record {
    below = inl refl;
    inside = (stays 22 _ _ (refl, inl refl, tt, (λ h. h)), (stays 22 _ _ (refl, inl refl, tt, (λ h. h)), tt));
  },
  (
    record {
      below = inl refl;
      inside = (
        stays 22 _ _ (refl, inl refl, tt, (λ h. h)),
        (
          stays 22 _ _ (refl, inl refl, tt, (λ h. h)),
          (stays 22 _ _ (refl, inl refl, inl refl, (λ h. omega arith)), tt),
        ),
      );
    },
    tt,
  ),
)

-- by the schedule of this seed they come one among the other
among : AmongSlots (run_slots 264 2 4 0) (at 0 0 ∷ at 2 0 ∷ []) (at 1 1 ∷ at 3 1 ∷ [])
unfolding next_state
among = left (at 0 0) (right (at 1 1) (left (at 2 0) (right (at 3 1) none)))

-- each runs as alone
as_alone : IsRunAsAlone [] 13 pair (run_slots 264 2 4 0) (at 0 0 ∷ at 2 0 ∷ [])
    × IsRunAsAlone [] 22 pair (run_slots 264 2 4 0) (at 1 1 ∷ at 3 1 ∷ [])
as_alone = programs_run_as_alone [] 13 22 pair (run_slots 264 2 4 0)
    (at 0 0 ∷ at 2 0 ∷ []) (at 1 1 ∷ at 3 1 ∷ []) (record {
      sound = pair_sound;
      name = inr (inr (inl refl));
      aside =
          aside;
      pending = refl;
      among = among;
      first = inside_13;
      second = inside_22;
    }) (refl, (refl, (refl, (refl, tt))))

-- the events of 13's turns: it shows a word, and calls
events_13 : events_made (turns pair (at 0 0 ∷ at 2 0 ∷ [])) ≡ E.Poll 0 ∷ E.Fetch 0 ∷ E.SetContext 0 (ctx 0xfffff004)
    ∷ E.Poll 0 ∷ E.Fetch 0 ∷ E.SetContext 0 (ctx 0xfffff008) ∷ E.Call 0 8 (five 1 64 256 0 0) ∷ []
events_13 = refl

-- ---- inputs of 13, from the root, which runs

-- the root writes a page of its own in one run, which is no matter of 13
abbrev writes : Event
writes = E.Store 0 0x400000 Word 7

abbrev other : World
other = (event made writes).world

same_13 : IsSameGuest 13 made other
same_13 = record {
  below = record {
    nodes = λ x. ((λ h. h), (λ h. h));
    words = λ g i j l. elim j [
      | inl e ↦
          cc
      | inr k ↦ absurd k
    ];
  };
  runs = λ i r h e. absurd (off i r h e);
  runs_back = λ i r h e. absurd (off i r h e);
}
  where
    off : (i : ℕ) (r : Occupant) → In 13 (ancestry made.tree r.name) → runs_on made i ≡ Some r → ⊥
    off zero r h e =
        let n : ◌≡◌ {A = ℕ} 1 r.name = cc in
        let k : In {A = ℕ} 13 (1 ∷ []) = subst (λ n. In 13 (ancestry made.tree n)) (sym n) h in
        elim k [ inl q ↦ omega arith | inr j ↦ j ]
    off (suc zero) r h e = cc
    off (suc (suc i)) r h e = cc

-- in both it writes a word of 13's page, and yields to 13, which then makes a call
abbrev pub gives : Event
gives = E.Store 0 0x409008 Word 5

abbrev pub enters : Five
enters = five 0x401000 64 256 0 0

abbrev given : World → World
given w = (event w gives).world

pub gives_are : IsEvent gives
gives_are = (omega arith, omega arith)

other_sound : IsSoundWorld other
other_sound = event-sound made writes made_sound (omega arith, omega arith)

-- what the root, which runs on processor 0, stores to a word of page 21, which is 13's
stores_to : (w : World) → actor w gives ≡ 1 → w.tree.root.name ≡ 1 → ancestry w.tree 1 ≡ 1 ∷ []
    → reach w.tree 1 0x409008 Store Word ≡ Place 21 2 → StoresTo 13 21 2 w 0 0x409008 Word 5
stores_to w who root line place = record {
  outside = λ h.
      let k : In {A = ℕ} 13 (1 ∷ []) = rw (who, line) at h in
      elim k [ inl q ↦ omega arith | inr j ↦ j ];
  runs = inl (cc);
  place = cc;
}

made_stores : StoresTo 13 21 2 made 0 0x409008 Word 5
made_stores = stores_to made refl refl refl refl

other_stores : StoresTo 13 21 2 other 0 0x409008 Word 5
other_stores = stores_to other refl refl refl refl

gives_13 : IsInput 13 gives gives made other
gives_13 = stores_are_inputs made other 13 21 2 0 0 0x409008 0x409008 Word 5 made_sound other_sound gives_are gives_are
    refl (inr (inr (inl refl))) (λ e. omega arith) same_13 made_stores other_stores

-- an entry that saves nothing
enters_13 : (w : World) → actor w (E.Call 0 8 enters) ≡ 1 → ancestry w.tree 1 ≡ 1 ∷ [] → In 13 (ancestry w.tree 13)
    → (event w (E.Call 0 8 enters)).outcome ≡ O.Switched 1 13 64 → Enters 13 13 64 w 0 8 enters
enters_13 w who line there comes = record {
  yields = refl;
  outside = λ h.
      let k : In {A = ℕ} 13 (1 ∷ []) = rw (who, line) at h in
      elim k [ inl q ↦ omega arith | inr j ↦ j ];
  target = there;
  switched = rw (comes, ← who);
  saved = λ g i e h. cc;
}

made_enters : Enters 13 13 64 (given made) 0 8 enters
made_enters = enters_13 (given made) refl refl (inl refl) refl

other_enters : Enters 13 13 64 (given other) 0 8 enters
other_enters = enters_13 (given other) refl refl (inl refl) refl

pub enters_are : IsEvent (E.Call 0 8 enters)
enters_are = let z = words 0 (omega arith) in
    (words 8 (omega arith), (omega arith, (words 64 (omega arith), (words 256 (omega arith), (z, (z, tt))))))

enters_same : IsInput 13 (E.Call 0 8 enters) (E.Call 0 8 enters) (given made) (given other)
enters_same = entries_are_inputs (given made) (given other) 13 13 64 0 8 8 enters enters
    (event-sound made gives made_sound gives_are) (event-sound other gives other_sound gives_are) enters_are enters_are
    (λ e. omega arith) gives_13.guest made_enters other_enters

-- 13 masks itself then, by call 10
abbrev last : Event
last = E.Call 0 10 enters

last_is : IsEvent last
last_is = (words 10 (omega arith), enters_are.1)

last_inside : IsInside 13 (event (given made) (E.Call 0 8 enters)).world last
last_inside = record { own = refl; below = inl refl; stays = tt; asks = λ h. cc }

in_step : (w v : World) (a b c d : Event) → IsApart 13 v a → IsInput 13 b b w (event v a).world
    → IsInput 13 c c (event w b).world (event (event v a).world b).world
    → IsInside 13 (event (event w b).world c).world d → RunAlike 13 w (b ∷ c ∷ d ∷ []) v (a ∷ b ∷ c ∷ d ∷ [])
in_step w v a b c d h i j k = second a h (input b b i (input c c j (own d (inl k) ended)))

writes_apart : IsApart 13 made writes
writes_apart = record { others = refl; same = same_13 }

alike : RunAlike 13 made (gives ∷ E.Call 0 8 enters ∷ last ∷ []) made (writes ∷ gives ∷ E.Call 0 8 enters ∷ last ∷ [])
alike = in_step made made writes gives (E.Call 0 8 enters) last writes_apart gives_13 enters_same last_inside

-- it learns the same in both, which is that its call was answered
learns_13 : learns_own 13 made (gives ∷ E.Call 0 8 enters ∷ last ∷ []) ≡ Some (O.Reply S.Ok 0) ∷ []
learns_13 = refl

learns_same : learns_own 13 made (gives ∷ E.Call 0 8 enters ∷ last ∷ [])
    ≡ learns_own 13 made (writes ∷ gives ∷ E.Call 0 8 enters ∷ last ∷ [])
learns_same = (guests_depend_on_inputs made made 13 _ _ made_sound made_sound (inr (inr (inl refl)))
    (λ e. omega arith) (same_world 13 made) (gives_are, (enters_are, (last_is, tt))) (
      (omega arith, omega arith),
      (gives_are, (enters_are, (last_is, tt))),
    ) alike).0

-- ---- a call of the root takes the page of 13 away, in both

abbrev takes : Five
takes = five 0x401000 0xfffff000 0 0 0

calls_on : (w : World) → actor w (E.Call 0 6 takes) ≡ 1 → ancestry w.tree 1 ≡ 1 ∷ [] → In 1 (names_of (nodes w.tree))
    → In 13 (names_of (nodes (event w (E.Call 0 6 takes)).world.tree)) → CallsOn 13 w 0 6 takes
calls_on w who line root name = record {
  plain = λ z. z;
  outside = λ h.
      let k : In {A = ℕ} 13 (1 ∷ []) = rw (who, line) at h in
      elim k [ inl q ↦ omega arith | inr j ↦ j ];
  runs = subst (λ n. In n (names_of (nodes w.tree))) (sym who) root;
  name = name;
}

made_calls : CallsOn 13 made 0 6 takes
made_calls = calls_on made refl refl (inl refl) (inr (inr (inl refl)))

other_calls : CallsOn 13 other 0 6 takes
other_calls = calls_on other refl refl (inl refl) (inr (inr (inl refl)))

taken_same : AgreeBelow 13 (event made (E.Call 0 6 takes)).world (event other (E.Call 0 6 takes)).world
taken_same = record { nodes = λ x. ((λ h. h), (λ h. h)); words = λ g i j l. absurd j }

takes_13 : IsInput 13 (E.Call 0 6 takes) (E.Call 0 6 takes) made other
takes_13 = calls_are_inputs made other 13 0 0 6 6 takes takes made_sound other_sound (inr (inr (inl refl))) same_13
    made_calls other_calls taken_same

-- ---- a call of the root lends 13 a page, in both

abbrev lends : Five
lends = five 0x413000 0x401000 0xffffe000 7 0

lends_are : IsEvent (E.Call 0 5 lends)
lends_are =
    let z = words 0 (omega arith) in
    (words 5 (omega arith), (omega arith, (omega arith, (omega arith, (words 7 (omega arith), (z, tt))))))

lent_by : (w : World) → actor w (E.Call 0 5 lends) ≡ 1 → ancestry w.tree 1 ≡ 1 ∷ [] → In 1 (names_of (nodes w.tree))
    → child_name w.tree 1 0x401000 ≡ 13 → page_of w.tree 1 0x413000 ≡ 31
    → first_met (add_refusals w.tree 1 0x413000 0x401000 0xffffe000 7) ≡ None
    → LendsPage 13 31 0xffffe000 7 w 0 5 lends
lent_by w who line root child page accepted = record {
  adds = refl;
  outside = λ h.
      let k : In {A = ℕ} 13 (1 ∷ []) = rw (who, line) at h in
      elim k [ inl q ↦ omega arith | inr j ↦ j ];
  runs = subst (λ n. In n (names_of (nodes w.tree))) (sym who) root;
  child = rw (who, child);
  page = cc;
  address = refl;
  rights_are = refl;
  accepted = cc;
}

made_lends : LendsPage 13 31 0xffffe000 7 made 0 5 lends
made_lends = lent_by made refl refl (inl refl) refl refl refl

other_lends : LendsPage 13 31 0xffffe000 7 other 0 5 lends
other_lends = lent_by other refl refl (inl refl) refl refl refl

lends_13 : IsInput 13 (E.Call 0 5 lends) (E.Call 0 5 lends) made other
lends_13 = lendings_are_inputs made other 13 31 0xffffe000 7 0 0 5 5 lends lends made_sound other_sound lends_are
    lends_are (inr (inr (inl refl))) same_13 made_lends other_lends (λ i l. refl)
