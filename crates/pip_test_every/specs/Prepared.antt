-- The worlds in which the premises are met, and the events there: a root that makes two children, 13 and 22, and lends
-- each a page; then each child runs on a processor of its own.
use Rattle.std.specs.Prelude.{ℕ, ◌+◌, List, [], ◌∷◌, ◌++◌}
use Rattle.pip_base.specs.declared.types.Size.TheVariants.{Word}
use Rattle.pip_model.specs.Events as E
use Rattle.pip_model.specs.Events.{Event}
use Rattle.pip_model.specs.Happens.{after, event}
use Rattle.pip_model.specs.Soak.{five}
use Rattle.pip_model.specs.Worlds.{World, boot_world}
use Rattle.pip_guests.specs.Programs.{Slot}

-- a child of five pages from an address on, with a table for the last 4 MiB, and a page at 0xfffff000. That page has
-- its program, `out r1`, and the block with which it begins there by vector 64
abbrev pub child_made : ℕ → List Event
child_made a =
    E.Call 0 0 (five a (a + 0x1000) (a + 0x2000) (a + 0x3000) (a + 0x4000))
    ∷ E.Store 0 (a + 0x5000) Word (a + 0x6000)
    ∷ E.Store 0 (a + 0x6000) Word (a + 0x7000)
    ∷ E.Call 0 3 (five a 0xfffff000 (a + 0x5000) 0 0)
    ∷ E.Store 0 (a + 0x8000) Word 0x22100000
    ∷ E.Store 0 (a + 0x8100) Word 0xfffff400
    ∷ E.Store 0 (a + 0x8400) Word 0xfffff000
    ∷ E.Call 0 5 (five (a + 0x8000) a 0xfffff000 7 0)
    ∷ []

-- the root runs on processor 0, and has the two children
abbrev pub root_world : World
root_world = after (boot_world 64 2) (child_made 0x401000 ++ child_made 0x40a000)

-- the root yields to 13, by vector 64, and what it does isn't saved
abbrev pub root_yield : Event
root_yield = E.Call 0 8 (five 0x401000 64 256 0 0)

-- it lets 13 run on processor 0, takes line 0 on processor 1, and lets 22 run there
abbrev pub both_entered : List Event
both_entered = E.Store 0 0xfffff080 Word 0xfffff400 ∷ root_yield ∷ E.Raise 0 ∷ E.Poll 1
    ∷ E.Call 1 8 (five 0x40a000 64 256 0 0) ∷ []

-- 13 runs on processor 0, and 22 on processor 1
abbrev pub pair_world : World
pair_world = after root_world both_entered

-- 22 masks itself
abbrev pub their_mask : Event
their_mask = E.Call 1 10 (five 0 0 0 0 0)

-- the same, where 22 is masked
abbrev pub masked_world : World
masked_world = (event pair_world their_mask).world

-- 13 loads a word of its page
abbrev pub own_load : Event
own_load = E.Load 0 0xfffff100 Word

-- 13 stores to its page
abbrev pub own_store : Event
own_store = E.Store 0 0xfffff800 Word 5

-- 13 traps
abbrev pub own_trap : Event
own_trap = E.Trap 0 3 0 0

-- 22 stores to its page
abbrev pub their_store : Event
their_store = E.Store 1 0xfffff800 Word 7

-- the root stores to a page that it lends to none
abbrev pub root_store : Event
root_store = E.Store 0 0x400000 Word 7

-- the root takes the page of 22 away
abbrev pub root_removal : Event
root_removal = E.Call 0 6 (five 0x40a000 0xfffff000 0 0 0)

-- a turn of 22, at step 0
abbrev pub other_slot : Slot
other_slot = record { step = 0; cpu = 1 }

-- a turn of 13, at step 1
abbrev pub later_slot : Slot
later_slot = record { step = 1; cpu = 0 }
