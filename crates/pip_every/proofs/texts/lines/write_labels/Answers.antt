use Rattle.std.proofs.Common.{rules, ◌<◌, ◌≤◌, ◌∙◌, ap, subst, arith, length}
use Rattle.std.specs.List.{flat_map}
use Rattle.std.proofs.lemmas.Result.{MatchResult-from_err}
use Rattle.pip_io.specs.Taken.{Appends, AppendsPart}
use Rattle.pip_every.proofs.LabelLines.{all_taken, found_at, found_line, found_lines, line_here, some_here}
use Rattle.pip_io.proofs.Piecewise.{cut_here, one_more}
use Rattle.pip_every.proofs.texts.lines.write_labels.Goals as goal

pub write_label-requires-clause-some : goal.write_label-requires-clause-some
write_label-requires-clause-some g c =
    let less : c.loop-k.k < length c.args.search.now.found.items =
    omega (arith, c.loop-k-test.true, c.len-k-end.ensures) in
    some_here (λ way. way.items) c.args.search.now.visits.items c.args.search.now.found.items c.args.ways.now
    c.requires.ways c.loop-k.k less c.index-found.result.now c.index-found.ensures c.index-ways-k.result
    c.index-ways-k.is c.requires.traced

pub returns-in_err-write_label : goal.returns-in_err-write_label
returns-in_err-write_label g c = record {
  wrote = MatchResult-from_err c.from_residual.result _ _ c.from_residual.ensures.0 (λ _.
      let less : c.loop-k.k < length c.args.search.now.found.items =
      omega (arith, c.loop-k-test.true, c.len-k-end.ensures) in
      let vs = c.args.search.now.visits.items in
      let fs = c.args.search.now.found.items in
      subst (AppendsPart (g.K.Sink.history c.args.sink.now).written (g.K.Sink.history c.write_label.new.sink).written)
      (found_lines c.args.cpus c.args.lines.now c.args.verdict vs fs)
      (cut_here (found_line c.args.cpus c.args.lines.now c.args.verdict vs) _ _ _ fs c.loop-k.k
      c.index-found.result.now
      (found_at (λ way. way.items) vs fs c.args.ways.now c.requires.ways c.loop-k.k less c.index-found.result.now
      c.index-found.ensures c.index-ways-k.result c.index-ways-k.is) c.loop-k.invariant.wrote
      (subst (AppendsPart (g.K.Sink.history c.loop-k.sink).written (g.K.Sink.history c.write_label.new.sink).written)
      (line_here (λ way. way.items) vs fs c.args.ways.now c.requires.ways c.loop-k.k less c.index-found.result.now
      c.index-found.ensures c.index-ways-k.result c.index-ways-k.is c.args.verdict c.if-not-covers.ensures
      c.requires.traced c.args.cpus c.args.lines.now c.deref.result.now c.deref-in-loop-k.result.now
      c.deref.ensures.value c.deref-in-loop-k.ensures.value) c.in_err-write_label.ensures.wrote)));
  cause = search rules;
}

pub loop-k-preserved : goal.loop-k-preserved
loop-k-preserved g c =
    let less : c.loop-k.k < length c.args.search.now.found.items =
    omega (arith, c.loop-k-test.true, c.len-k-end.ensures) in
    let vs = c.args.search.now.visits.items in
    let fs = c.args.search.now.found.items in record {
      wrote = one_more (found_line c.args.cpus c.args.lines.now c.args.verdict vs) _ _ _ fs c.loop-k.k
          c.index-found.result.now
          (found_at (λ way. way.items) vs fs c.args.ways.now c.requires.ways c.loop-k.k less
          c.index-found.result.now c.index-found.ensures c.index-ways-k.result c.index-ways-k.is)
          c.loop-k.invariant.wrote
          (subst (Appends (g.K.Sink.history c.loop-k.sink).written (g.K.Sink.history c.write_label.new.sink).written)
          (line_here (λ way. way.items) vs fs c.args.ways.now c.requires.ways c.loop-k.k less
          c.index-found.result.now c.index-found.ensures c.index-ways-k.result c.index-ways-k.is c.args.verdict
          c.if-not-covers.ensures c.requires.traced c.args.cpus c.args.lines.now c.deref.result.now
          c.deref-in-loop-k.result.now c.deref.ensures.value c.deref-in-loop-k.ensures.value)
          c.in_ok-write_label.ensures.wrote);
      no_faults = c.in_ok-write_label.ensures.cause.no_faults ∙ c.loop-k.invariant.no_faults;
    }

pub returns : goal.returns
returns g c = record {
  wrote = let most : length c.args.search.now.found.items ≤ c.loop-k.k =
      omega (arith, c.loop-k-test.false, c.len-k-end.ensures) in
      let vs = c.args.search.now.visits.items in
      let fs = c.args.search.now.found.items in
      subst (Appends (g.K.Sink.history c.args.sink.now).written (g.K.Sink.history c.loop-k.sink).written)
      (ap (flat_map (found_line c.args.cpus c.args.lines.now c.args.verdict vs)) (all_taken fs c.loop-k.k most)
      ∙ found_lines c.args.cpus c.args.lines.now c.args.verdict vs fs) c.loop-k.invariant.wrote;
  cause = search rules;
}
