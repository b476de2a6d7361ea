use Rattle.std.proofs.Common.{rules, ◌∙◌}
use Rattle.std.proofs.lemmas.Result.{MatchResult-from_err}
use Rattle.pip_native.proofs.ChildLines.{cut_here, one_more}
use Rattle.pip_native.proofs.lines.write_children.Goals as goal

pub returns-in_err-write_child : goal.returns-in_err-write_child
returns-in_err-write_child g c = record {
  wrote = MatchResult-from_err c.from_residual.result _ _ c.from_residual.ensures.0 (λ _.
      cut_here _ _ _ c.args.children.now c.loop-i.i c.loop-i-test.true c.loop-i.invariant.wrote
      c.in_err-write_child.ensures.wrote);
  cause = search rules;
}

pub loop-i-preserved : goal.loop-i-preserved
loop-i-preserved g c = record {
  wrote =
      one_more _ _ _ c.args.children.now c.loop-i.i c.loop-i-test.true c.loop-i.invariant.wrote
      c.in_ok-write_child.ensures.wrote;
  no_faults = c.in_ok-write_child.ensures.cause.no_faults ∙ c.loop-i.invariant.no_faults;
}
