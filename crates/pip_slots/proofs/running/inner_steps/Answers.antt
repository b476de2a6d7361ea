use Rattle.std.proofs.Common.{◌≡◌, ◌-◌, arith, rules}
use Rattle.std.proofs.lemmas.Result.{MatchResult-from_err}
use Rattle.pip_lines.proofs.Progress.{progress_end}
use Rattle.pip_switch.specs.Standing.{StandsAs}
use Rattle.pip_slots.proofs.Progressing.{inners_begun, inners_cut, inners_on}
use Rattle.pip_slots.proofs.Working.{inners_work, inners_work_cut, inners_work_on}
use Rattle.pip_slots.proofs.running.inner_steps.Goals as goal

pub loop-k-init : goal.loop-k-init
loop-k-init g c = record {
  count = search rules;
  no_faults = search rules;
  progress = λ w h. inners_begun (StandsAs c.args.machine.now) (g.K.Sink.history c.args.sink.now).written w c.args.turns
      c.args.t h;
  work = λ w h. inners_work _ _ w c.args.turns c.args.t h;
}

pub returns-in_err-inner_once-clause-acts : goal.returns-in_err-inner_once-clause-acts
returns-in_err-inner_once-clause-acts g c = λ w h.
    MatchResult-from_err c.from_residual.result _ _ c.from_residual.ensures.0 (λ _.
    inners_cut _ _ _ w _ c.args.turns c.args.t c.loop-k.k c.loop-k-test.true _ _ (c.loop-k.invariant.progress w h)
    c.in_err-inner_once.ensures.acts)

pub returns-in_err-inner_once-clause-work : goal.returns-in_err-inner_once-clause-work
returns-in_err-inner_once-clause-work g c = λ w h. inners_work_cut _ _ _ w _ _ c.args.turns c.args.t c.loop-k.k
    c.loop-k-test.true (c.loop-k.invariant.work w h) c.in_err-inner_once.ensures.work

pub loop-k-preserved : goal.loop-k-preserved
loop-k-preserved g c = record {
  count = search rules;
  no_faults = search rules;
  progress = λ w h. inners_on _ _ _ w _ c.args.turns c.args.t c.loop-k.k c.loop-k-test.true _ _
      (c.loop-k.invariant.progress w h) c.in_ok-inner_once.ensures.acts;
  work = λ w h. inners_work_on _ _ _ w _ _ c.args.turns c.args.t c.loop-k.k c.loop-k-test.true
      (c.loop-k.invariant.work w h) c.in_ok-inner_once.ensures.work _
      (λ v s. (c.in_ok-inner_once.ensures.acts v s).world);
}

pub returns-clause-acts : goal.returns-clause-acts
returns-clause-acts g c = λ w h.
    let e : c.args.turns - c.loop-k.k ≡ 0 = omega arith in
    progress_end _ _ _ w _ (rw e at (c.loop-k.invariant.progress w h))

pub returns-clause-work : goal.returns-clause-work
returns-clause-work g c = λ w h. omega (arith, (c.loop-k.invariant.work w h).within)
