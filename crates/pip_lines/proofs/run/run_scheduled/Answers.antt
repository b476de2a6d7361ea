use Rattle.std.proofs.Common.{rules, ap, ◌∙◌}
use Rattle.std.proofs.lemmas.Result.{MatchResult-from_err}
use Rattle.pip_lines.proofs.Progress.{begun, run_cut, run_on}
use Rattle.pip_lines.proofs.Working.{run_begun, step_cut, step_on}
use Rattle.pip_model.specs.Run.{schedule}
use Rattle.pip_lines.proofs.run.run_scheduled.Goals as goal

pub loop-i-init : goal.loop-i-init
loop-i-init g c = record {
  count = search rules;
  cpus = c.requires.cpus;
  no_faults = search rules;
  drawn = λ seed at. at;
  work = λ seed at w h. run_begun _ _ w _ seed _ c.args.count h;
  progress = λ seed at w h. begun _ _ w _ seed _ c.args.count h;
}

pub returns-in_err-turn-clause-acts : goal.returns-in_err-turn-clause-acts
returns-in_err-turn-clause-acts g c = λ seed at w h.
    MatchResult-from_err c.from_residual.result _ _ c.from_residual.ensures.0 (λ _.
    run_cut _ _ _ w _ _ seed _ c.args.count c.loop-i.i c.next.result c.loop-i-test.true (c.next.ensures.drawn seed
    c.loop-i.i (c.loop-i.invariant.drawn seed at) ∙ ap (λ n. schedule seed n c.loop-i.i) c.loop-i.invariant.cpus)
    _ _ _ (c.loop-i.invariant.progress seed at w h) c.raise_due.ensures.acts c.in_err-turn.ensures.acts)

pub returns-in_err-turn-clause-work : goal.returns-in_err-turn-clause-work
returns-in_err-turn-clause-work g c = λ seed at w h.
    let drawn = c.next.ensures.drawn seed c.loop-i.i (c.loop-i.invariant.drawn seed at)
    ∙ ap (λ n. schedule seed n c.loop-i.i) c.loop-i.invariant.cpus in
    step_cut _ _ w _ _ seed _ c.args.count c.loop-i.i c.next.result c.loop-i-test.true drawn _ _
    (c.loop-i.invariant.work seed at w h) c.raise_due.ensures.acts _ _ c.raise_due.ensures.work
    c.in_err-turn.ensures.work

pub loop-i-preserved : goal.loop-i-preserved
loop-i-preserved g c = record {
  count = search rules;
  cpus = search rules;
  no_faults = search rules;
  drawn = λ seed at. c.next.ensures.on seed c.loop-i.i (c.loop-i.invariant.drawn seed at);
  work = λ seed at w h.
      let drawn = c.next.ensures.drawn seed c.loop-i.i (c.loop-i.invariant.drawn seed at)
      ∙ ap (λ n. schedule seed n c.loop-i.i) c.loop-i.invariant.cpus in
      let k = c.loop-i.invariant.work seed at w h in
      step_on _ _ w _ _ seed _ c.args.count c.loop-i.i c.next.result c.loop-i-test.true drawn _ _ k
      c.raise_due.ensures.acts _ _ c.raise_due.ensures.work c.in_ok-turn.ensures.work _
      (λ v s. (c.in_ok-turn.ensures.acts v s).world);
  progress = λ seed at w h.
      run_on _ _ _ w _ _ seed _ c.args.count c.loop-i.i c.next.result c.loop-i-test.true (c.next.ensures.drawn seed
      c.loop-i.i (c.loop-i.invariant.drawn seed at) ∙ ap (λ n. schedule seed n c.loop-i.i) c.loop-i.invariant.cpus)
      _ _ _ (c.loop-i.invariant.progress seed at w h) c.raise_due.ensures.acts c.in_ok-turn.ensures.acts;
}
