-- Time slots: which steps each child of the root has is fixed before the run. A monitor outside the machine opens
-- each slot by a yield of the root, and takes the processor back at its end by an interrupt line. What a child does in
-- its slots, and at which steps, depends on that child alone.
use Rattle.std.specs.Prelude.{◌≡◌, ◌≢◌, ℕ, zero, suc, ◌+◌, ◌*◌, ◌<◌, ◌==◌, true, cond, List, [], ◌∷◌, ◌++◌}
use Rattle.std.specs.Prelude.{Some, None, slice_get}
use Rattle.std.specs.List.{AllByRecursion}
use Rattle.pip_base.specs.declared.types.Access.TheVariants.{Load}
use Rattle.pip_base.specs.declared.types.Size.TheVariants.{Word}
use Rattle.pip_model.specs.Acts.{Act, Makes, Writes, after_acts, text_of}
use Rattle.pip_model.specs.Events as E
use Rattle.pip_model.specs.Events.{Event}
use Rattle.pip_model.specs.Handlers.{block}
use Rattle.pip_model.specs.Lists.{In}
use Rattle.pip_model.specs.Reach.{Place, reach}
use Rattle.pip_model.specs.Sound.{IsWord}
use Rattle.pip_model.specs.Tree.{Node, Tree, child_at, held_pages, word_of}
use Rattle.pip_model.specs.Turn.{call_line, moved_line, outcome_of, turn, world_of}
use Rattle.pip_model.specs.Worlds.{IsSoundWorld, World, runs_on}
use Rattle.pip_guests.specs.Guests.{IsSameGuest}
use Rattle.pip_native.specs.Watching.{root_runs}
use Rattle.pip_slots.specs.declared.time_slot.TimeSlot.{TimeSlot}

-- ---- the steps of a slot, on processor 0

-- the root yields into the child at an address, with vector 63, and saves nothing
abbrev pub slot_entry : ℕ → Event
slot_entry d = E.Call 0 8 (record { x0 = d; x1 = 63; x2 = 256; x3 = 0; x4 = 0 })

-- the first step of a slot, at step t: the child is entered, or the yield is refused
abbrev pub opening : World → ℕ → ℕ → List Act
opening w d t = Makes (slot_entry d) ∷ Writes (call_line t 0 8 (outcome_of w (slot_entry d))) ∷ []

-- a step within a slot: the processor has its turn. Where the root runs, since the child wasn't entered or left its
-- slot early, the step is wasted
abbrev pub slot_turn : World → ℕ → List Act
slot_turn w t = cond (root_runs w) [] (turn w 0 t)

-- that many of them from step t on
abbrev pub slot_turns : World → ℕ → ℕ → List Act
slot_turns w zero t = []
slot_turns w (suc n) t = slot_turn w t ++ slot_turns (after_acts w (slot_turn w t)) n (t + 1)

-- the processor polls, and writes the line of what comes of it
abbrev pub polling : World → ℕ → List Act
polling w t = Makes (E.Poll 0) ∷ Writes (moved_line t 0 (outcome_of w (E.Poll 0))) ∷ []

-- the last step of a slot: unless the root runs, line 0 is raised and polled, and the root takes the processor by it
abbrev pub closing : World → ℕ → List Act
closing w t = cond (root_runs w) [] (Makes (E.Raise 0) ∷ polling (world_of w (E.Raise 0)) t)

-- the steps after the first
abbrev pub rest_acts : World → ℕ → ℕ → List Act
rest_acts w n t = slot_turns w n t ++ closing (after_acts w (slot_turns w n t)) (t + n)

-- all steps of a slot from step t on
abbrev pub slot_acts : World → TimeSlot → ℕ → List Act
slot_acts w s t = opening w s.child t ++ rest_acts (after_acts w (opening w s.child t)) s.turns (t + 1)

-- ---- slots one after another

-- the step at which the next slot begins
abbrev pub next_step : TimeSlot → ℕ → ℕ
next_step s t = t + (s.turns + 2)

-- the world after a slot
abbrev pub after_slot : World → TimeSlot → ℕ → World
after_slot w s t = after_acts w (slot_acts w s t)

-- the slots of a plan from step t on
abbrev pub slot_run : World → List TimeSlot → ℕ → List Act
slot_run w [] t = []
slot_run w (s ∷ ss) t = slot_acts w s t ++ slot_run (after_slot w s t) ss (next_step s t)

-- how many steps a plan has
abbrev pub plan_steps : List TimeSlot → ℕ
plan_steps [] = 0
plan_steps (s ∷ ss) = (s.turns + 2) + plan_steps ss

-- a round of slots, that many times
abbrev pub rounds : List TimeSlot → ℕ → List TimeSlot
rounds ss zero = []
rounds ss (suc c) = ss ++ rounds ss c

-- what each slot of a plan writes
abbrev pub slot_texts : World → List TimeSlot → ℕ → List (List ℕ)
slot_texts w [] t = []
slot_texts w (s ∷ ss) t = text_of (slot_acts w s t) ∷ slot_texts (after_slot w s t) ss (next_step s t)

-- what of this happens in the slots of the child at an address: events, and lines with the numbers of their steps
abbrev pub acts_of_child : ℕ → World → List TimeSlot → ℕ → List Act
acts_of_child d w [] t = []
acts_of_child d w (s ∷ ss) t = cond (s.child == d)
    (slot_acts w s t ++ acts_of_child d (after_slot w s t) ss (next_step s t))
    (acts_of_child d (after_slot w s t) ss (next_step s t))

-- the lines of the child at an address
abbrev pub lines_of_child : ℕ → World → List TimeSlot → ℕ → List ℕ
lines_of_child d w ss t = text_of (acts_of_child d w ss t)

-- ---- the root, which only takes

-- a page that no partition but the root holds
abbrev pub IsUnlent : Tree → ℕ → Type 0
IsUnlent t g = (x : Node) → In x t.others → In g (held_pages x) → ⊥

-- the root has a handler of vector k: entry k of its table, in page g, names a block in page h, and it lent neither
-- page
pub record HandlesAlone (t : Tree) (k : ℕ) : Type 0 where
  pub g : ℕ
  pub i : ℕ
  pub h : ℕ
  pub j : ℕ
  pub table : reach t t.root.name (0xfffff000 + 4 * k) Load Word ≡ Place g i
  pub names : block t t.root.name k ≡ Some (word_of (t.words g) i)
  pub place : reach t t.root.name (word_of (t.words g) i) Load Word ≡ Place h j
  pub table_unlent : IsUnlent t g
  pub block_unlent : IsUnlent t h

-- that is so of every vector
abbrev pub TakesEachVector : Tree → Type 0
TakesEachVector t = (k : ℕ) → k < 256 → HandlesAlone t k

-- a world at the beginning of a slot: the root runs on processor 0, and nothing on others; no line is pending
pub record IsBetweenSlots (w : World) : Type 0 where
  pub sound : IsSoundWorld w
  pub root : root_runs w ≡ true
  pub alone : (i : ℕ) → i ≢ 0 → runs_on w i ≡ None
  pub quiet : w.tree.root.pending ≡ []
  pub takes : TakesEachVector w.tree

-- p is the root's child at an address
pub record IsRootsChild (w : World) (d p : ℕ) : Type 0 where
  pub node : Node
  pub child : child_at w.tree w.tree.root.name d ≡ Some node
  pub name : node.name ≡ p

-- ---- the law

-- the child's slots are the same, event by event and line by line, with the numbers of the steps, also each of them by
-- itself, and it is the same in the end
pub record IsSameInSlots (d p : ℕ) (w v : World) (ss : List TimeSlot) (t : ℕ) : Type 0 where
  pub acts : acts_of_child d w ss t ≡ acts_of_child d v ss t
  pub lines : lines_of_child d w ss t ≡ lines_of_child d v ss t
  pub texts : (j : ℕ) (s : TimeSlot) → slice_get ss j ≡ Some s → s.child ≡ d
      → slice_get (slot_texts w ss t) j ≡ slice_get (slot_texts v ss t) j
  pub guest : IsSameGuest p (after_acts w (slot_run w ss t)) (after_acts v (slot_run v ss t))

-- that is so in any two worlds that have the child in common, whatever the other children are, and whatever any of them
-- does: run, fault, trap, make calls, yield, or leave its slot early
abbrev pub SlotsSeparate : Type 0
SlotsSeparate = (w v : World) (d p : ℕ) (ss : List TimeSlot) (t : ℕ) → IsBetweenSlots w → IsBetweenSlots v
    → IsRootsChild w d p → IsSameGuest p w v → AllByRecursion (λ s. IsWord s.child) ss
    → IsSameInSlots d p w v ss t
