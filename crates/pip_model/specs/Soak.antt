-- A generated load: the events that are drawn from a seed, and the text of what comes of them.
use Rattle.std.specs.Prelude.{ℕ, zero, suc, ◌+◌, ◌*◌, ◌%◌, ◌==◌, Bool, true, false, if◌then◌else◌, List, [], ◌∷◌, ◌++◌}
use Rattle.std.specs.Prelude.{length, flat_map, count_by, slice_index_or, codes, decimal}
use Rattle.pip_base.specs.declared.outcome.Outcome.{Outcome}
use Rattle.pip_base.specs.declared.outcome.Outcome.TheVariants as O
use Rattle.pip_base.specs.declared.types.Size.TheVariants.{Word}
use Rattle.pip_base.specs.Status.{status_number}
use Rattle.pip_model.specs.Answers.{Five}
use Rattle.pip_model.specs.Dump.{numbers_from, parts_of, rows_of, hidden_of}
use Rattle.pip_model.specs.Events as E
use Rattle.pip_model.specs.Events.{Event}
use Rattle.pip_model.specs.Generator.{next_state}
use Rattle.pip_model.specs.Happens.{after, outcomes}
use Rattle.pip_model.specs.Text.{line_text}
use Rattle.pip_model.specs.Tree.{Tree}
use Rattle.pip_model.specs.Worlds.{World, boot_world}

-- ---- the events

-- events, and the generator's state when they are drawn
pub record Drawn : Type 0 where
  pub events : List Event
  pub state : ℕ

-- nothing more is drawn than these events
abbrev pub drawn : List Event → ℕ → Drawn
drawn es s = record { events = es; state = s }

-- a number below n is drawn, and then what f draws with it
abbrev pub draw : ℕ → (ℕ → ℕ → Drawn) → ℕ → Drawn
draw n f s = f (next_state s % n) (next_state s)

-- the address of one of the root's first 16 pages
abbrev pub draw_page : (ℕ → ℕ → Drawn) → ℕ → Drawn
draw_page f = draw 16 (λ d. f (0x400000 + 4096 * d))

-- an address in a child: one of four pages, or that of its handlers
abbrev pub draw_place : (ℕ → ℕ → Drawn) → ℕ → Drawn
draw_place f = draw 4 (λ d. draw 2 (λ e. f (if e == 0 then 0x10000000 + 4096 * d else 0xfffff000)))

-- a page of the root and an address in a child are drawn
abbrev pub draw_both : (ℕ → ℕ → ℕ → Drawn) → ℕ → Drawn
draw_both f = draw_page (λ page. draw_place (f page))

-- to whom control goes: to the parent, or to a child
abbrev pub draw_goal : (ℕ → ℕ → Drawn) → ℕ → Drawn
draw_goal f = draw 4 (λ d s. if d == 0 then f 0 s else draw_page f s)

-- one call with these five words
abbrev pub drawn_call : ℕ → ℕ → Five → ℕ → Drawn
drawn_call cpu number a s = drawn (E.Call cpu number a ∷ []) s

-- five words, as what a call is given
abbrev pub five : ℕ → ℕ → ℕ → ℕ → ℕ → Five
five a b c d e = record { x0 = a; x1 = b; x2 = c; x3 = d; x4 = e }

-- the pages at x, x + 4096 and x + 8192 are linked, and a child is prepared with them
abbrev pub drawn_prepare : ℕ → ℕ → ℕ → ℕ → ℕ → Drawn
drawn_prepare cpu x page place s =
    drawn (E.Store cpu x Word (x + 4096) ∷ E.Store cpu (x + 4096) Word (x + 8192) ∷ E.Call cpu 3 (five page place x 0 0)
    ∷ []) s

-- what is drawn for each kind from 0 to 14
abbrev pub by_kind : ℕ → List (ℕ → Drawn)
by_kind cpu =
    draw_page (λ page. drawn (E.Load cpu page Word ∷ []))
    ∷ draw_page (λ page. drawn (E.Load cpu page Word ∷ []))
    ∷ draw_place (λ place. drawn (E.Load cpu place Word ∷ []))
    ∷ draw_page (λ page. draw_page (λ word. drawn (E.Store cpu page Word word ∷ [])))
    ∷ draw 11 (λ j. drawn_call cpu 0 (five (0x401000 + 4096 * j) (0x402000 + 4096 * j) (0x403000 + 4096 * j) (0x404000
    + 4096 * j) (0x405000 + 4096 * j)))
    ∷ draw 13 (λ j. draw_both (drawn_prepare cpu (0x400000 + 4096 * j)))
    ∷ draw 17 (λ v.
    draw_both (λ page place. draw 7 (λ r. drawn_call cpu 5 (five (0x400000 + 4096 * v) page place (1 + r) 0))))
    ∷ draw_both (λ page place. drawn_call cpu 6 (five page place 0 0 0))
    ∷ draw_page (λ page. drawn_call cpu 7 (five page 0 0 0 0))
    ∷ draw_both (λ page place. drawn_call cpu 2 (five page place 0 0 0))
    ∷ draw_both (λ page place. drawn_call cpu 4 (five page place 0 0 0))
    ∷ draw_page (λ page. drawn_call cpu 1 (five page 0 0 0 0))
    ∷ draw_goal (λ goal. drawn_call cpu 8 (five goal 64 63 0 0))
    ∷ draw_goal (λ goal. drawn_call cpu 8 (five goal 63 256 0 0))
    ∷ draw 2 (λ line. drawn (E.Raise line ∷ []))
    ∷ []

-- and for the kind 15
abbrev pub drawn_poll : ℕ → ℕ → Drawn
drawn_poll cpu = drawn (E.Poll cpu ∷ [])

-- a step: a processor is drawn, then a kind, then what belongs to it
abbrev pub soak_step : ℕ → Drawn
soak_step = draw 2 (λ cpu. draw 16 (λ kind. slice_index_or (by_kind cpu) kind (drawn_poll cpu)))

-- the events of a number of steps, from a state on
abbrev pub soak_events : ℕ → ℕ → List Event
soak_events zero s = []
soak_events (suc n) s = (soak_step s).events ++ soak_events n (soak_step s).state

-- ---- the machine

-- before the steps the root gets a block for the vectors 14, 32, 33 and 64, and another for 63, and so does a page that
-- may become a child's last one, for 64 and 63
abbrev pub soak_stores : List Event
soak_stores =
    E.Store 0 0xfffff038 Word 0xfffff400
    ∷ E.Store 0 0xfffff080 Word 0xfffff400
    ∷ E.Store 0 0xfffff084 Word 0xfffff400
    ∷ E.Store 0 0xfffff100 Word 0xfffff400
    ∷ E.Store 0 0x410100 Word 0xfffff400
    ∷ E.Store 0 0xfffff0fc Word 0xfffff444
    ∷ E.Store 0 0x4100fc Word 0xfffff444
    ∷ []

-- the world in which a load begins
abbrev pub soak_start : World
soak_start = after (boot_world 64 2) soak_stores

-- the world after a number of steps of a load
abbrev pub soak_world : ℕ → ℕ → World
soak_world count seed = after soak_start (soak_events count seed)

-- ---- the text

-- an outcome is a word
abbrev pub is_word : Outcome → Bool
is_word (O.Word w) = true
is_word o = false

-- an outcome is that of a store or a set
abbrev pub is_done : Outcome → Bool
is_done O.Done = true
is_done o = false

-- an outcome is a switch of control
abbrev pub is_switched : Outcome → Bool
is_switched (O.Switched from to vector) = true
is_switched o = false

-- an outcome is a parked processor
abbrev pub is_parked : Outcome → Bool
is_parked (O.Parked from vector) = true
is_parked o = false

-- an outcome is that of a processor that runs nothing
abbrev pub is_idle : Outcome → Bool
is_idle O.Idle = true
is_idle o = false

-- an outcome is a reply with this status
abbrev pub is_reply : ℕ → Outcome → Bool
is_reply s (O.Reply status value) = status_number status == s
is_reply s o = false

-- a name and a number as a line
abbrev pub counted_text : List ℕ → ℕ → List ℕ
counted_text name n = line_text (name ++ codes " " ++ decimal n)

-- how many outcomes there are in all, and of each kind; replies by their status
abbrev pub outcomes_text : List Outcome → List ℕ
outcomes_text os =
    counted_text (codes "events") (length os)
    ++ counted_text (codes "word") (count_by is_word os)
    ++ counted_text (codes "done") (count_by is_done os)
    ++ counted_text (codes "switch") (count_by is_switched os)
    ++ counted_text (codes "park") (count_by is_parked os)
    ++ counted_text (codes "idle") (count_by is_idle os)
    ++ flat_map (λ s. counted_text (codes "reply " ++ decimal s) (count_by (is_reply s) os)) (numbers_from 0 19)

-- the lines of a tree's totals: its partitions, its rows and its hidden pages
abbrev pub totals_text : Tree → List ℕ
totals_text t = counted_text (codes "parts") (parts_of t) ++ counted_text (codes "rows") (rows_of t)
    ++ counted_text (codes "hidden") (hidden_of t)

-- the text of `soak`: the outcomes counted, the totals of the last tree, and a last line
abbrev pub soak_text : ℕ → ℕ → List ℕ
soak_text count seed =
    outcomes_text (outcomes soak_start (soak_events count seed))
    ++ totals_text (soak_world count seed).tree
    ++ counted_text (codes "end") count
