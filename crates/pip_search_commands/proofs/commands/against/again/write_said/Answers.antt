use Rattle.std.proofs.Common.{rules, ◌<◌, ◌≡◌, ◌∙◌, refl, arith, length, Some}
use Rattle.std.proofs.Common.{slice_get}
use Rattle.std.specs.List.{zip}
use Rattle.std.proofs.lemmas.Option.{slice_get-map, slice_get_read}
use Rattle.std.proofs.lemmas.Result.{MatchResult-from_err}
use Rattle.pip_io.proofs.Piecewise.{cut_here, one_more}
use Rattle.pip_search_commands.specs.EveryText.{label_bytes, said_line}
use Rattle.pip_search_commands.proofs.SaidLines.{all_beside, zip_at}
use Rattle.pip_search_commands.proofs.commands.against.again.write_said.Goals as goal

pub returns-in_err-write_one : goal.returns-in_err-write_one
returns-in_err-write_one g c =
    let labels = c.args.labels.now in
    let said = c.args.said.now in
    let k = c.loop-k.k in
    let here : k < length said = c.loop-k-test.true in
    let count = c.requires.count in
    let there : k < length labels = omega arith in
    let label : slice_get (label_bytes labels) k ≡ Some c.as_slice.result.now = rw (
      slice_get-map (λ l. l.items) labels k,
      slice_get_read labels (length labels) k c.index-labels-k.result refl there
          c.index-labels-k.is,
      ← c.as_slice.ensures.value,
    ) in
    let own : slice_get said k ≡ Some c.index-said-k.result =
    slice_get_read said (length said) k c.index-said-k.result refl here c.index-said-k.is in
    record {
      wrote = MatchResult-from_err c.from_residual.result _ _ c.from_residual.ensures.0 (λ _.
          cut_here (λ p. said_line c.args.cpus c.args.lines.now p.0 p.1) _ _ _ (zip (label_bytes labels) said) k
          (c.as_slice.result.now, c.index-said-k.result)
          (zip_at (label_bytes labels) said k c.as_slice.result.now c.index-said-k.result label own)
          c.loop-k.invariant.wrote c.in_err-write_one.ensures.wrote);
      cause = search rules;
    }

pub loop-k-preserved : goal.loop-k-preserved
loop-k-preserved g c =
    let labels = c.args.labels.now in
    let said = c.args.said.now in
    let k = c.loop-k.k in
    let here : k < length said = c.loop-k-test.true in
    let count = c.requires.count in
    let there : k < length labels = omega arith in
    let label : slice_get (label_bytes labels) k ≡ Some c.as_slice.result.now = rw (
      slice_get-map (λ l. l.items) labels k,
      slice_get_read labels (length labels) k c.index-labels-k.result refl there
          c.index-labels-k.is,
      ← c.as_slice.ensures.value,
    ) in
    let own : slice_get said k ≡ Some c.index-said-k.result =
    slice_get_read said (length said) k c.index-said-k.result refl here c.index-said-k.is in
    record {
      wrote = one_more (λ p. said_line c.args.cpus c.args.lines.now p.0 p.1) _ _ _ (zip (label_bytes labels) said) k
          (c.as_slice.result.now, c.index-said-k.result)
          (zip_at (label_bytes labels) said k c.as_slice.result.now c.index-said-k.result label own)
          c.loop-k.invariant.wrote c.in_ok-write_one.ensures.wrote;
      no_faults = c.in_ok-write_one.ensures.cause.no_faults ∙ c.loop-k.invariant.no_faults;
    }

pub returns : goal.returns
returns g c = record {
  wrote = rw (← all_beside (label_bytes c.args.labels.now) c.args.said.now c.loop-k.k (search (rules, arith)))
      c.loop-k.invariant.wrote;
  cause = search rules;
}
