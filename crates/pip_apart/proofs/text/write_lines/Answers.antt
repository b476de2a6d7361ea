use Rattle.std.proofs.Common.{rules, ◌<◌, ◌≤◌, ◌∙◌, sym, subst, arith, length}
use Rattle.std.specs.List.{AllByRecursion}
use Rattle.std.proofs.lemmas.Result.{MatchResult-from_err}
use Rattle.pip_io.specs.Taken.{AppendsPart}
use Rattle.pip_every.proofs.LabelLines.{all_taken, found_at, some_here}
use Rattle.pip_io.proofs.Piecewise.{cut_here, one_more}
use Rattle.pip_apart.proofs.KnownWays.{known_here}
use Rattle.pip_apart.proofs.Writing.{found_line, found_lines, line_here}
use Rattle.pip_apart.proofs.text.write_lines.Goals as goal

pub write_turn-requires-clause-some : goal.write_turn-requires-clause-some
write_turn-requires-clause-some g c =
    let s = c.args.guest.now in
    let less : c.loop-k.k < length s.search.found.items = omega arith in
    some_here (λ way. way.items) s.search.visits.items s.search.found.items s.ways.items c.requires.ways c.loop-k.k less
    c.index-found.result.now c.index-found.ensures c.index.result.now c.index.ensures c.requires.traced

pub write_turn-requires-clause-known : goal.write_turn-requires-clause-known
write_turn-requires-clause-known g c =
    let s = c.args.guest.now in
    let less : c.loop-k.k < length s.search.found.items = omega arith in
    rw c.deref.ensures.value (subst (λ rs. AllByRecursion (λ r. r.choice < length s.cpus.items) rs)
    (sym c.deref-in-loop-k-2.ensures.value) (known_here (λ way. way.items) s.search.visits.items s.search.found.items
    s.ways.items c.requires.ways c.loop-k.k less c.index-found.result.now c.index-found.ensures c.index.result.now
    c.index.ensures s.end c.if-not-covers.ensures (length s.cpus.items) c.requires.known))

pub returns-in_err-write_turn : goal.returns-in_err-write_turn
returns-in_err-write_turn g c = record {
  wrote = MatchResult-from_err c.from_residual.result _ _ c.from_residual.ensures.0 (λ _.
      let s = c.args.guest.now in
      let less : c.loop-k.k < length s.search.found.items = omega arith in
      let vs = s.search.visits.items in
      let fs = s.search.found.items in
      rw (← found_lines s.cpus.items s.end vs fs) (cut_here (found_line s.cpus.items s.end vs) _ _ _ fs c.loop-k.k
      c.index-found.result.now (found_at (λ way. way.items) vs fs s.ways.items c.requires.ways c.loop-k.k less
      c.index-found.result.now c.index-found.ensures c.index.result.now c.index.ensures) c.loop-k.invariant.wrote
      (subst (AppendsPart (g.K.Sink.history c.loop-k.sink).written (g.K.Sink.history c.write_turn.new.sink).written)
      (line_here (λ way. way.items) vs fs s.ways.items c.requires.ways c.loop-k.k less c.index-found.result.now
      c.index-found.ensures c.index.result.now c.index.ensures s.end c.if-not-covers.ensures c.requires.traced
      s.cpus.items c.deref.result.now c.deref-in-loop-k.result.now c.deref-in-loop-k-2.result.now c.deref.ensures.value
      c.deref-in-loop-k.ensures.value c.deref-in-loop-k-2.ensures.value) c.in_err-write_turn.ensures.wrote)));
  cause = search rules;
}

pub loop-k-preserved : goal.loop-k-preserved
loop-k-preserved g c =
    let s = c.args.guest.now in
    let less : c.loop-k.k < length s.search.found.items = omega arith in
    let vs = s.search.visits.items in
    let fs = s.search.found.items in record {
      wrote = one_more (found_line s.cpus.items s.end vs) _ _ _ fs c.loop-k.k c.index-found.result.now
          (found_at (λ way. way.items) vs fs s.ways.items c.requires.ways c.loop-k.k less c.index-found.result.now
          c.index-found.ensures c.index.result.now c.index.ensures) c.loop-k.invariant.wrote
          (rw (← line_here (λ way. way.items) vs fs s.ways.items c.requires.ways c.loop-k.k less
          c.index-found.result.now c.index-found.ensures c.index.result.now c.index.ensures s.end
          c.if-not-covers.ensures c.requires.traced s.cpus.items c.deref.result.now c.deref-in-loop-k.result.now
          c.deref-in-loop-k-2.result.now c.deref.ensures.value c.deref-in-loop-k.ensures.value
          c.deref-in-loop-k-2.ensures.value) c.in_ok-write_turn.ensures.wrote);
      no_faults = c.in_ok-write_turn.ensures.cause.no_faults ∙ c.loop-k.invariant.no_faults;
    }

pub returns : goal.returns
returns g c = record {
  wrote =
      let s = c.args.guest.now in
      let most : length s.search.found.items ≤ c.loop-k.k = omega arith in
      let vs = s.search.visits.items in
      let fs = s.search.found.items in
      rw (← found_lines s.cpus.items s.end vs fs, ← all_taken fs c.loop-k.k most) c.loop-k.invariant.wrote;
  cause = search rules;
}
