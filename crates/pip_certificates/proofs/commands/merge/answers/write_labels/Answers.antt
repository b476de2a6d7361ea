use Rattle.std.proofs.Common.{rules, ◌<◌, ◌≤◌, ◌≡◌, ◌∙◌, refl, arith, length, Some, slice_get}
use Rattle.std.proofs.lemmas.List.{length-map, take_all}
use Rattle.std.proofs.lemmas.Option.{slice_get-map, slice_get_read}
use Rattle.std.proofs.lemmas.Result.{MatchResult-from_err}
use Rattle.pip_certificates.specs.Seen.{label_texts}
use Rattle.pip_io.proofs.Piecewise.{cut_here, one_more}
use Rattle.pip_certificates.specs.MergeDues.{label_line}
use Rattle.pip_certificates.proofs.commands.merge.answers.write_labels.Goals as goal

pub returns-in_err-write_label : goal.returns-in_err-write_label
returns-in_err-write_label g c =
    let labels = c.args.labels.now in
    let k = c.loop-k.k in
    let here : k < length labels = c.loop-k-test.true in
    let label : slice_get (label_texts labels) k ≡ Some c.as_slice.result.now = rw (
      slice_get-map (λ l. l.items) labels k,
      slice_get_read labels (length labels) k c.index-labels-k.result refl here
          c.index-labels-k.is,
      ← c.as_slice.ensures.value,
    ) in
    record {
      wrote = MatchResult-from_err c.from_residual.result _ _ c.from_residual.ensures.0 (λ _.
          cut_here label_line _ _ _ (label_texts labels) k c.as_slice.result.now label c.loop-k.invariant.wrote
          c.in_err-write_label.ensures.wrote);
      cause = search rules;
    }

pub loop-k-preserved : goal.loop-k-preserved
loop-k-preserved g c =
    let labels = c.args.labels.now in
    let k = c.loop-k.k in
    let here : k < length labels = c.loop-k-test.true in
    let label : slice_get (label_texts labels) k ≡ Some c.as_slice.result.now = rw (
      slice_get-map (λ l. l.items) labels k,
      slice_get_read labels (length labels) k c.index-labels-k.result refl here
          c.index-labels-k.is,
      ← c.as_slice.ensures.value,
    ) in
    record {
      wrote = one_more label_line _ _ _ (label_texts labels) k c.as_slice.result.now label c.loop-k.invariant.wrote
          c.in_ok-write_label.ensures.wrote;
      no_faults = c.in_ok-write_label.ensures.cause.no_faults ∙ c.loop-k.invariant.no_faults;
    }

pub returns : goal.returns
returns g c =
    let labels = c.args.labels.now in
    let size : length (label_texts labels) ≡ length labels = length-map labels (λ l. l.items) in
    let done : length labels ≤ c.loop-k.k = search (rules, arith) in
    record {
      wrote = rw (← take_all c.loop-k.k (label_texts labels) (omega (arith, size, done))) c.loop-k.invariant.wrote;
      cause = search rules;
    }
