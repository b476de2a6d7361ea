-- The text of what a search found, for this many processors and these lines of plans.
use Rattle.std.specs.Prelude.{ℕ, ◌+◌, ◌-◌, ◌/◌, ◌%◌, ◌==◌, nat_lt, if◌then◌else◌, List, [], ◌++◌, length, take, drop}
use Rattle.std.specs.Prelude.{flat_map}
use Rattle.std.specs.Prelude.{reverse, slice_index, codes, decimal}
use Rattle.pip_search.specs.Summary.{Witness}
use Rattle.pip_search.specs.Ways.{runs_of}
use Rattle.pip_search.specs.declared.searching.Extent.{Extent}
use Rattle.pip_search.specs.declared.searching.Extent.TheVariants.{Closed, Stopped, Within}
use Rattle.pip_search.specs.declared.ways.Run.{Run}

-- a deed on a processor: those of a menu are numbered from 1, and each is on all processors before the next
abbrev pub deed_text : ℕ → ℕ → List ℕ
deed_text cpus k = decimal (k % cpus) ++ codes ":d" ++ decimal (k / cpus + 1)

-- a choice: the processor whose turn it is, or the line that is raised, or after these a deed on a processor
abbrev pub choice_text : ℕ → List ℕ → ℕ → List ℕ
choice_text cpus lines k =
    if nat_lt k cpus then decimal k
    else if nat_lt (k - cpus) (length lines) then codes "raise" ++ decimal (slice_index lines (k - cpus))
    else deed_text cpus (k - cpus - length lines)

-- how often, if more than once
abbrev pub times_text : ℕ → List ℕ
times_text n = if n == 1 then [] else codes "x" ++ decimal n

-- a run after a space
abbrev pub spaced_run : ℕ → List ℕ → Run → List ℕ
spaced_run cpus lines r = codes " " ++ choice_text cpus lines r.choice ++ times_text r.count

-- the runs of a way, in the order in which they are made
abbrev pub way_text : ℕ → List ℕ → List ℕ → List ℕ
way_text cpus lines way = flat_map (spaced_run cpus lines) (reverse (runs_of way))

-- a line of a trace without its first byte, which is the step 0, and its last, the newline
abbrev pub inner : List ℕ → List ℕ
inner label = take (length label - 2) (drop 1 label)

-- the line of a trace at the step at which its way shows it, and the way
abbrev pub witness_line : ℕ → List ℕ → Witness → List ℕ
witness_line cpus lines w = decimal (length w.way - 1) ++ inner w.label ++ codes ":" ++ way_text cpus lines w.way
    ++ codes "\n"

-- the last line: how many states there are, how deep they lie, and why the search ended
abbrev pub verdict_line : ℕ → Extent → List ℕ
verdict_line count (Closed depth) =
    codes "states " ++ decimal count ++ codes " depth " ++ decimal depth ++ codes " closed\n"
verdict_line count (Within depth) = codes "states " ++ decimal count ++ codes " within " ++ decimal depth ++ codes "\n"
verdict_line count (Stopped depth) =
    codes "states " ++ decimal count ++ codes " depth " ++ decimal depth ++ codes " stopped\n"

-- a line for each label that was found, and the last line
abbrev pub search_text : ℕ → List ℕ → List Witness → ℕ → Extent → List ℕ
search_text cpus lines ws count verdict = flat_map (witness_line cpus lines) ws ++ verdict_line count verdict
