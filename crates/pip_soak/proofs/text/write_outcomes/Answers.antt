use Rattle.std.proofs.Common.{◌++◌, subst}
use Rattle.std.specs.Prelude.{codes}
use Rattle.pip_io.specs.Taken.{Wrote}
use Rattle.pip_io.proofs.Piecewise.{part_longer, wrote_of}
use Rattle.pip_dump.proofs.Pieces.{wrote_err}
use Rattle.pip_model.specs.Soak.{counted_text}
use Rattle.pip_soak.proofs.LoadText.{regrouped}
use Rattle.pip_soak.proofs.text.write_outcomes.Goals as goal

pub returns-in_err-write_three-clause-text : goal.returns-in_err-write_three-clause-text
returns-in_err-write_three-clause-text g c =
    let n = c.args.counts.now in
    let first = counted_text (codes "events") n.events ++ counted_text (codes "word") n.words
    ++ counted_text (codes "done") n.done in
    let switch = counted_text (codes "switch") n.switched in
    let park = counted_text (codes "park") n.parked in
    wrote_err _ _ _ c.from_residual.result c.from_residual.ensures.0
    (part_longer _ _ (first ++ switch ++ park) (counted_text (codes "idle") n.idle)
    (part_longer _ _ (first ++ switch) park (part_longer _ _ first switch c.in_err-write_three.ensures.text)))

pub returns-clause-text : goal.returns-clause-text
returns-clause-text g c =
    let n = c.args.counts.now in
    let first = counted_text (codes "events") n.events ++ counted_text (codes "word") n.words
    ++ counted_text (codes "done") n.done in
    let switch = counted_text (codes "switch") n.switched in
    let park = counted_text (codes "park") n.parked in
    let idle = counted_text (codes "idle") n.idle in
    subst (Wrote c.write_three-2.result (g.K.Sink.history c.args.sink.now).written
    (g.K.Sink.history c.write_three-2.new.sink).written) (regrouped first switch park idle)
    (wrote_of _ _ _ first (switch ++ park ++ idle) c.write_three-2.result c.in_ok-write_three.ensures.text
    c.write_three-2.ensures.text)
