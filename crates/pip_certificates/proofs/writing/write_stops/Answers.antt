use Rattle.std.proofs.Common.{rules, arith, ◌<◌, ◌≡◌, ◌∙◌, refl, length, Some, slice_get}
use Rattle.std.proofs.lemmas.Option.{slice_get-map, slice_get_read}
use Rattle.std.proofs.lemmas.Result.{MatchResult-from_err}
use Rattle.pip_search.specs.Parts.{stop_of, stops}
use Rattle.pip_io.proofs.Piecewise.{cut_here, one_more}
use Rattle.pip_certificates.specs.PartShown.{stop_line}
use Rattle.pip_certificates.proofs.Lines.{all_taken}
use Rattle.pip_certificates.proofs.writing.write_stops.Goals as goal

pub returns-in_err-write_stop : goal.returns-in_err-write_stop
returns-in_err-write_stop g c =
    let keys = c.args.keys.now in
    let k = c.loop-k.k in
    let x = c.index-keys-k.result in
    let here : k < length keys = c.loop-k-test.true in
    let at : slice_get (stops keys) k ≡ Some (stop_of x) = rw
    (slice_get-map stop_of keys k, slice_get_read keys (length keys) k x refl here c.index-keys-k.is) in
    record {
      wrote = MatchResult-from_err c.from_residual.result _ _ c.from_residual.ensures.0 (λ _.
          cut_here (stop_line c.args.kind.now) _ _ _ (stops keys) k (stop_of x) at c.loop-k.invariant.wrote
          c.in_err-write_stop.ensures.wrote);
      cause = search rules;
    }

pub loop-k-preserved : goal.loop-k-preserved
loop-k-preserved g c =
    let keys = c.args.keys.now in
    let k = c.loop-k.k in
    let x = c.index-keys-k.result in
    let here : k < length keys = c.loop-k-test.true in
    let at : slice_get (stops keys) k ≡ Some (stop_of x) = rw
    (slice_get-map stop_of keys k, slice_get_read keys (length keys) k x refl here c.index-keys-k.is) in
    record {
      wrote = one_more (stop_line c.args.kind.now) _ _ _ (stops keys) k (stop_of x) at c.loop-k.invariant.wrote
          c.in_ok-write_stop.ensures.wrote;
      no_faults = c.in_ok-write_stop.ensures.cause.no_faults ∙ c.loop-k.invariant.no_faults;
    }

pub returns : goal.returns
returns g c = record {
  wrote = rw (← all_taken stop_of c.args.keys.now c.loop-k.k (search (rules, arith))) c.loop-k.invariant.wrote;
  cause = search rules;
}
