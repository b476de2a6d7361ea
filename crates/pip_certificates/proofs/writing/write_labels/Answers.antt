use Rattle.std.proofs.Common.{rules, arith, ◌<◌, ◌≡◌, ◌∙◌, refl, length, Some, slice_get}
use Rattle.std.proofs.lemmas.Option.{slice_get-map, slice_get_read}
use Rattle.std.proofs.lemmas.Result.{MatchResult-from_err}
use Rattle.pip_search.specs.Keys.{labels}
use Rattle.pip_io.proofs.Piecewise.{cut_here, one_more}
use Rattle.pip_certificates.proofs.Lines.{all_taken, label_line}
use Rattle.pip_certificates.proofs.writing.write_labels.Goals as goal

pub returns-in_err-write_label : goal.returns-in_err-write_label
returns-in_err-write_label g c =
    let found = c.args.found.now in
    let k = c.loop-k.k in
    let x = c.index-found-k.result in
    let here : k < length found = c.loop-k-test.true in
    let at : slice_get (labels found) k ≡ Some x.label.items = rw
    (slice_get-map (λ f. f.label.items) found k, slice_get_read found (length found) k x refl here c.index-found-k.is)
    in
    record {
      wrote = MatchResult-from_err c.from_residual.result _ _ c.from_residual.ensures.0 (λ _.
          cut_here label_line _ _ _ (labels found) k x.label.items at c.loop-k.invariant.wrote
          (rw (c.index-found-k.is, ← c.deref.ensures.value) c.in_err-write_label.ensures.wrote));
      cause = search rules;
    }

pub loop-k-preserved : goal.loop-k-preserved
loop-k-preserved g c =
    let found = c.args.found.now in
    let k = c.loop-k.k in
    let x = c.index-found-k.result in
    let here : k < length found = c.loop-k-test.true in
    let at : slice_get (labels found) k ≡ Some x.label.items = rw
    (slice_get-map (λ f. f.label.items) found k, slice_get_read found (length found) k x refl here c.index-found-k.is)
    in
    record {
      wrote = one_more label_line _ _ _ (labels found) k x.label.items at c.loop-k.invariant.wrote
          (rw (c.index-found-k.is, ← c.deref.ensures.value) c.in_ok-write_label.ensures.wrote);
      no_faults = c.in_ok-write_label.ensures.cause.no_faults ∙ c.loop-k.invariant.no_faults;
    }

pub returns : goal.returns
returns g c = record {
  wrote = rw (← all_taken (λ f. f.label.items) c.args.found.now c.loop-k.k (search (rules, arith)))
      c.loop-k.invariant.wrote;
  cause = search rules;
}
