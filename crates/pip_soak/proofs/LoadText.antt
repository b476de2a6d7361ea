-- The text of a load: that of the model, and written line by line.
use Rattle.std.proofs.Common.{◌≡◌, ℕ, zero, suc, ◌+◌, ◌<◌, List, ◌++◌, refl, ap, append_assoc, arith, Result}
use Rattle.std.specs.Prelude.{codes, count_by, decimal, flat_map, slice_index}
use Rattle.pip_io.proofs.Taken.{Appends-trans}
use Rattle.pip_io.specs.Taken.{Taken, Appends, AppendsPart, Wrote}
use Rattle.pip_base.specs.declared.outcome.Outcome.{Outcome}
use Rattle.pip_dump.specs.Totals.{TotalsOf}
use Rattle.pip_dump.specs.declared.numbers.Totals.{Totals}
use Rattle.pip_io.proofs.Piecewise.{part_after, part_longer, wrote_of}
use Rattle.pip_model.specs.Dump.{numbers_from}
use Rattle.pip_model.specs.Happens.{outcomes}
use Rattle.pip_model.specs.Soak.{counted_text, is_reply, outcomes_text, soak_events, soak_start, soak_text, soak_world}
use Rattle.pip_model.specs.Soak.{totals_text}
use Rattle.pip_soak.specs.LoadText.{kinds_text, load_text, replies_text, sums_text}
use Rattle.pip_model.specs.Tree.{Tree}
use Rattle.pip_soak.specs.Counts.{CountsOf}
use Rattle.pip_soak.specs.declared.counts.Counts.{Counts}

-- ---- the counts are those of outcomes

flat_same : (f g : ℕ → List ℕ) (i n : ℕ) → ((s : ℕ) → s < i + n → f s ≡ g s)
    → flat_map f (numbers_from i n) ≡ flat_map g (numbers_from i n)
flat_same f g i zero h = refl
flat_same f g i (suc n) h = λ d. h i (omega arith) d ++ flat_same f g (i + 1) n (λ s k. h s (omega (arith, k))) d

outcomes_are : (c : Counts) (os : List Outcome) → CountsOf c os
    → kinds_text c ++ replies_text c.replies ≡ outcomes_text os
unfolding flat_same
outcomes_are c os h = λ d.
    (counted_text (codes "events") (h.events d) ++ counted_text (codes "word") (h.words d)
    ++ counted_text (codes "done") (h.done d) ++ counted_text (codes "switch") (h.switched d)
    ++ counted_text (codes "park") (h.parked d) ++ counted_text (codes "idle") (h.idle d))
    ++ flat_same (λ s. counted_text (codes "reply " ++ decimal s) (slice_index c.replies s))
    (λ s. counted_text (codes "reply " ++ decimal s) (count_by (is_reply s) os)) 0 19
    (λ s k. ap (counted_text (codes "reply " ++ decimal s)) (h.replies s k)) d

totals_are : (n : Totals) (t : Tree) → TotalsOf n t → sums_text n ≡ totals_text t
totals_are n t h = λ d. counted_text (codes "parts") (h.parts d) ++ counted_text (codes "rows") (h.rows d)
    ++ counted_text (codes "hidden") (h.hidden d)

-- so the text of a load is the model's
pub soak_text_is : (c : Counts) (n : Totals) (count seed : ℕ)
    → CountsOf c (outcomes soak_start (soak_events count seed)) → TotalsOf n (soak_world count seed).tree
    → load_text c n count ≡ soak_text count seed
unfolding outcomes_are totals_are
soak_text_is c n count seed counts totals = λ d. outcomes_are c (outcomes soak_start (soak_events count seed)) counts d
    ++ totals_are n (soak_world count seed).tree totals d ++ counted_text (codes "end") count

-- ---- pieces

pub regrouped : (a b c d : List ℕ) → a ++ (b ++ c ++ d) ≡ a ++ b ++ c ++ d
regrouped a b c d = simp append_assoc

module _ (a b c : List ℕ) where
  pub first_of_three : (old new : Taken) → AppendsPart old new a → AppendsPart old new (a ++ b ++ c)
  first_of_three old new h = part_longer old new (a ++ b) c (part_longer old new a b h)

  pub second_of_three : (old mid new : Taken) → Appends old mid a → AppendsPart mid new b
      → AppendsPart old new (a ++ b ++ c)
  second_of_three old mid new h k = part_longer old new (a ++ b) c (part_after old mid new a b h k)

  pub all_of_three : {T E : Type 0} (old mid late new : Taken) (r : Result T E) → Appends old mid a → Appends mid late b
      → Wrote r late new c → Wrote r old new (a ++ b ++ c)
  all_of_three old mid late new r h k l = wrote_of old late new (a ++ b) c r (Appends-trans old mid late a b h k) l
