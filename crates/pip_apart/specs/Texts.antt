-- The text of what is known of guests.
use Rattle.std.specs.Prelude.{ℕ, ◌-◌, Bool, true, false, if◌then◌else◌, List, [], ◌++◌, length, drop, flat_map}
use Rattle.std.specs.Prelude.{reverse, slice_index, Option, Some, None, codes, decimal}
use Rattle.pip_search.specs.Summary.{Witness}
use Rattle.pip_search.specs.Ways.{runs_of}
use Rattle.pip_search.specs.declared.ways.Run.{Run}
use Rattle.pip_every.specs.Texts.{inner, times_text, verdict_line}
use Rattle.pip_apart.specs.Found.{GuestAlone, Known, hold_apart, is_marked}

-- ---- one guest

-- a processor after a space
abbrev pub spaced : ℕ → List ℕ
spaced cpu = codes " " ++ decimal cpu

-- the first line of a guest: its top, and the processors on which it runs
abbrev pub guest_line : ℕ → List ℕ → List ℕ
guest_line top cpus = codes "guest " ++ decimal top ++ codes " on" ++ flat_map spaced cpus ++ codes "\n"

-- a run of turns of one of these processors, which is written by its own number
abbrev pub turns_text : List ℕ → Run → List ℕ
turns_text cpus r = spaced (slice_index cpus r.choice) ++ times_text r.count

-- a way of turns of these processors, in the order in which they are made
abbrev pub turns_way : List ℕ → List ℕ → List ℕ
turns_way cpus way = flat_map (turns_text cpus) (reverse (runs_of way))

-- what comes before the line of a turn: nothing, or that the guest leaves
abbrev pub leaving_text : List ℕ → List ℕ
leaving_text label = if is_marked label then codes "leaves " else []

-- a label without the mark
abbrev pub unmarked : List ℕ → List ℕ
unmarked label = if is_marked label then drop 1 label else label

-- the line of a trace at a step, a colon, the way, and the newline
abbrev pub shown_text : ℕ → List ℕ → List ℕ → List ℕ
shown_text step label way = decimal step ++ inner label ++ codes ":" ++ way ++ codes "\n"

-- the line of a label at the step at which its way shows it, and the way
abbrev pub turn_line : List ℕ → Witness → List ℕ
turn_line cpus x =
    leaving_text x.label ++ shown_text (length x.way - 1) (unmarked x.label) (turns_way cpus x.way)

-- all that was found of a guest: its first line, a line for each label, and how the search ended
abbrev pub guest_text : GuestAlone → List ℕ
guest_text g = guest_line g.top g.cpus ++ flat_map (turn_line g.cpus) g.lines ++ verdict_line g.count g.end

-- ---- all guests

-- that the root runs, and where
abbrev pub root_line : Option ℕ → List ℕ
root_line None = []
root_line (Some cpu) = codes "root on " ++ decimal cpu ++ codes "\n"

-- that the root might take a line, and which
abbrev pub taken_line : Option ℕ → List ℕ
taken_line None = []
taken_line (Some line) = codes "line " ++ decimal line ++ codes "\n"

-- the last line: whether the guests hold in company
abbrev pub apart_line : Bool → List ℕ
apart_line true = codes "apart yes\n"
apart_line false = codes "apart no\n"

-- guest by guest, then what the root might do, and the last line
abbrev pub known_text : Known → List ℕ
known_text k =
    flat_map guest_text k.guests ++ (root_line k.root ++ taken_line k.line ++ apart_line (hold_apart k))
