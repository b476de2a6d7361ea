use Rattle.std.proofs.Common.{◌≡◌, ◌-◌, ◌*◌, ◌+◌, arith, rules}
use Rattle.std.proofs.lemmas.Result.{MatchResult-from_err}
use Rattle.pip_slots.specs.Slots.{plan_steps}
use Rattle.pip_slots.proofs.Progressing.{one_round_more, rounds_begun, rounds_cut, rounds_end, rounds_on}
use Rattle.pip_slots.proofs.Working.{rounds_work, rounds_work_cut, rounds_work_on}
use Rattle.pip_switch.specs.Standing.{StandsAs}
use Rattle.pip_slots.proofs.running.run_rounds.Goals as goal

pub loop-k-init : goal.loop-k-init
loop-k-init g c = record {
  count = search rules;
  no_faults = search rules;
  steps = omega arith;
  progress = λ w h. rounds_begun (StandsAs c.args.machine.now) (g.K.Sink.history c.args.sink.now).written w
      c.args.round.now
      c.args.count h;
  work = λ w h. rounds_work _ _ w c.args.round.now c.args.count h;
}

pub run_slots-requires-clause-some : goal.run_slots-requires-clause-some
run_slots-requires-clause-some g c = omega arith

pub run_slots-requires-clause-few : goal.run_slots-requires-clause-few
run_slots-requires-clause-few g c =
    omega (arith, one_round_more (plan_steps c.args.round.now) c.loop-k.k c.args.count c.loop-k-test.true)

pub returns-in_err-t-clause-acts : goal.returns-in_err-t-clause-acts
returns-in_err-t-clause-acts g c = λ w h.
    MatchResult-from_err c.from_residual.result _ _ c.from_residual.ensures.0 (λ _.
    rounds_cut _ _ _ w _ c.args.round.now c.args.count c.loop-k.k c.loop-k.t c.loop-k-test.true _ _
    (c.loop-k.invariant.progress w h) c.in_err-t.ensures.acts)

pub returns-in_err-t-clause-work : goal.returns-in_err-t-clause-work
returns-in_err-t-clause-work g c = λ w h. rounds_work_cut _ _ _ w _ _ c.args.round.now c.args.count c.loop-k.k
    c.loop-k.t c.loop-k-test.true (c.loop-k.invariant.work w h) c.in_err-t.ensures.work

pub loop-k-preserved : goal.loop-k-preserved
loop-k-preserved g c = record {
  count = search rules;
  no_faults = search rules;
  steps =
      let next = c.in_ok-t.ensures.next in
      let P = plan_steps c.args.round.now in
      let e : P * (c.loop-k.k + 1) ≡ P * c.loop-k.k + P = omega arith in
      omega arith;
  progress = λ w h. rounds_on _ _ _ w _ c.args.round.now c.args.count c.loop-k.k c.loop-k.t c.loop-k-test.true _ _
      (c.loop-k.invariant.progress w h) c.in_ok-t.ensures.acts _ c.in_ok-t.ensures.next;
  work = λ w h. rounds_work_on _ _ _ w _ _ c.args.round.now c.args.count c.loop-k.k c.loop-k.t c.loop-k-test.true
      (c.loop-k.invariant.work w h) c.in_ok-t.ensures.work _ (λ v s. (c.in_ok-t.ensures.acts v s).world) _
      c.in_ok-t.ensures.next;
}

pub returns-clause-acts : goal.returns-clause-acts
returns-clause-acts g c = λ w h.
    rounds_end _ _ _ w _ c.args.round.now (c.args.count - c.loop-k.k) c.loop-k.t (omega arith)
    (c.loop-k.invariant.progress w h)

pub returns-clause-work : goal.returns-clause-work
returns-clause-work g c = λ w h. omega (arith, (c.loop-k.invariant.work w h).within)
