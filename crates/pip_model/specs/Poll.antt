-- Interrupt lines: how the root takes one.
use Rattle.std.specs.Prelude.{ℕ, ◌+◌, ◌==◌, ◌&&◌, ◌||◌, nat_lt, Bool, true, not, if◌then◌else◌, List, [], ◌∷◌, filter}
use Rattle.std.specs.Prelude.{find, length, Option, Some, None, is_some}
use Rattle.pip_base.specs.declared.outcome.Outcome.TheVariants as O
use Rattle.pip_base.specs.declared.types.Ctx.{Ctx}
use Rattle.pip_model.specs.Lists.{has}
use Rattle.pip_model.specs.Handlers.{handler}
use Rattle.pip_model.specs.Worlds.{World, Happened, nothing, done, running, with_running, enter, save_running}
use Rattle.pip_model.specs.Worlds.{handler_context, with_masked, with_pending}
use Rattle.pip_model.specs.declared.processors.Occupant.{Occupant}

-- a line joins the rising list of pending lines
abbrev pub lines_with : ℕ → List ℕ → List ℕ
lines_with j [] = j ∷ []
lines_with j (i ∷ is) = if nat_lt j i then j ∷ i ∷ is else if j == i then i ∷ is else i ∷ lines_with j is

-- the lowest pending line for whose vector, 32 + j, the root has a handler
abbrev pub lowest_line : World → List ℕ → Option ℕ
lowest_line w js = find (λ j. is_some (handler w.tree w.tree.root.name (32 + j))) js

-- the name of what runs on a processor; 0 where nothing runs
abbrev pub occupant_name : Option Occupant → ℕ
occupant_name None = 0
occupant_name (Some r) = r.name

-- no line is taken
abbrev pub none_taken : World → Option Occupant → Happened
none_taken w None = nothing w
none_taken w (Some r) = done w

-- p runs on another processor than cpu
abbrev pub runs_elsewhere : World → ℕ → ℕ → Bool
runs_elsewhere w cpu p = has (running (with_running w cpu None)) p

-- the root runs on no other processor, it is unmasked or does not run on cpu, and cpu is there
abbrev pub may_take : World → ℕ → Option Occupant → Bool
may_take w cpu r = not (runs_elsewhere w cpu w.tree.root.name)
    && ((not w.tree.root.masked || not (occupant_name r == w.tree.root.name)) && nat_lt cpu (length w.cpus))

-- line j is taken: it is pending no more, what runs here is saved, the root is masked and entered.
-- (None does not come: the line was chosen for its handler)
abbrev pub take_line : World → ℕ → Option Occupant → ℕ → Option Ctx → Happened
take_line w cpu r j None = none_taken w r
take_line w cpu r j (Some c) = record {
  outcome = O.Switched (occupant_name r) w.tree.root.name (32 + j);
  world = enter (record w {
    tree = with_pending (filter (λ i. not (i == j)) w.tree.root.pending)
        (with_masked w.tree.root.name true (save_running w.tree r));
  }) cpu w.tree.root.name
      (handler_context c (32 + j) 0 0 0);
}

-- a processor takes an interrupt line, if one was chosen
abbrev pub poll_line : World → ℕ → Option Occupant → Option ℕ → Happened
poll_line w cpu r None = none_taken w r
poll_line w cpu r (Some j) = take_line w cpu r j (handler w.tree w.tree.root.name (32 + j))

-- r runs on cpu
abbrev pub poll : World → ℕ → Option Occupant → Happened
poll w cpu r = if may_take w cpu r then poll_line w cpu r (lowest_line w w.tree.root.pending) else none_taken w r
