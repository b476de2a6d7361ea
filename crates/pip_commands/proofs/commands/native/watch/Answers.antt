use Rattle.std.proofs.Common.{rules, arith, ◌≡◌, ◌-◌, subst}
use Rattle.std.proofs.lemmas.Result.{MatchResult-from_err}
use Rattle.pip_lines.proofs.Progress.{Progress, progress_end}
use Rattle.pip_switch.specs.Standing.{StandsAs}
use Rattle.pip_native.specs.Watching.{watched_steps}
use Rattle.pip_native.proofs.Steps.{step_cut, step_on, steps_begun}
use Rattle.pip_commands.proofs.commands.native.watch.Goals as goal

pub loop-i-init : goal.loop-i-init
loop-i-init g c = record {
  count = search rules;
  no_faults = search rules;
  progress = λ w h. steps_begun (StandsAs c.args.machine.now)
      (g.K.Sink.history c.args.sink.now).written w c.args.lines.now
      c.args.monitor.now c.args.count h;
}

pub returns-in_err-watch_once-clause-acts : goal.returns-in_err-watch_once-clause-acts
returns-in_err-watch_once-clause-acts g c = λ w h.
    MatchResult-from_err c.from_residual.result _ _ c.from_residual.ensures.0 (λ _.
    step_cut _ _ _ w _ c.args.lines.now c.args.count c.loop-i.i
    c.loop-i.monitor
    c.watch_once.new.monitor c.loop-i-test.true _ _ _ (c.loop-i.invariant.progress w h) c.raise_due.ensures.acts
    c.in_err-watch_once.ensures.monitor c.in_err-watch_once.ensures.acts)

pub loop-i-preserved : goal.loop-i-preserved
loop-i-preserved g c = record {
  count = search rules;
  no_faults = search rules;
  progress = λ w h. step_on _ _ _ w _ c.args.lines.now c.args.count c.loop-i.i c.loop-i.monitor c.watch_once.new.monitor
      c.loop-i-test.true _ _ _ (c.loop-i.invariant.progress w h) c.raise_due.ensures.acts
      c.in_ok-watch_once.ensures.monitor
      c.in_ok-watch_once.ensures.acts;
}

pub returns-clause-acts : goal.returns-clause-acts
returns-clause-acts g c = λ w h.
    let past = c.loop-i-test.false in
    let e : c.args.count - c.loop-i.i ≡ 0 = omega (arith, past) in
    progress_end _ _ _ w _ (subst (λ k. Progress (StandsAs c.loop-i.machine) (g.K.Sink.history c.args.sink.now).written
    (g.K.Sink.history c.loop-i.sink).written w (watched_steps w c.args.lines.now c.args.monitor.now c.args.count 0)
    (λ v. watched_steps v c.args.lines.now c.loop-i.monitor k c.loop-i.i)) e (c.loop-i.invariant.progress w h))
