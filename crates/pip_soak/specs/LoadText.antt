-- The text of a load by its numbers: the counts, the totals, and how many steps there were.
use Rattle.std.specs.Prelude.{ℕ, List, ◌++◌, codes, decimal, flat_map, slice_index}
use Rattle.pip_dump.specs.declared.numbers.Totals.{Totals}
use Rattle.pip_model.specs.Dump.{numbers_from}
use Rattle.pip_model.specs.Soak.{counted_text}
use Rattle.pip_soak.specs.declared.counts.Counts.{Counts}

-- how many events there were of each outcome
abbrev pub kinds_text : Counts → List ℕ
kinds_text c =
    counted_text (codes "events") c.events ++ counted_text (codes "word") c.words ++ counted_text (codes "done") c.done
    ++ counted_text (codes "switch") c.switched ++ counted_text (codes "park") c.parked
    ++ counted_text (codes "idle") c.idle

-- how many replies there were of each status
abbrev pub replies_text : List ℕ → List ℕ
replies_text replies =
    flat_map (λ s. counted_text (codes "reply " ++ decimal s) (slice_index replies s)) (numbers_from 0 19)

-- the sums of the tree at the end
abbrev pub sums_text : Totals → List ℕ
sums_text n =
    counted_text (codes "parts") n.parts ++ counted_text (codes "rows") n.rows ++ counted_text (codes "hidden") n.hidden

-- the whole text: outcomes, replies, sums, and the number of steps
abbrev pub load_text : Counts → Totals → ℕ → List ℕ
load_text c n count = (kinds_text c ++ replies_text c.replies) ++ sums_text n ++ counted_text (codes "end") count
