use Rattle.std.proofs.Common.{arith, get_or, rules}
use Rattle.std.proofs.Math.Seq.{drop-cons}
use Rattle.std.proofs.lemmas.Result.{MatchResult-from_err}
use Rattle.pip_slots.specs.declared.time_slot.TimeSlot.{TimeSlot}
use Rattle.pip_slots.proofs.Progressing.{none_left, slots_begun, slots_cut, slots_end, slots_on, steps_left}
use Rattle.pip_switch.specs.Standing.{StandsAs}
use Rattle.pip_slots.proofs.Working.{slots_work, slots_work_cut, slots_work_on}
use Rattle.pip_slots.proofs.running.run_slots.Goals as goal

abbrev none : TimeSlot
none = record { child = 0; turns = 0 }

pub returns-in_err-one_slot-clause-acts : goal.returns-in_err-one_slot-clause-acts
returns-in_err-one_slot-clause-acts g c = λ w h.
    MatchResult-from_err c.from_residual.result _ _ c.from_residual.ensures.0 (λ _.
    let ss = c.args.slots.now in
    let i = c.loop-i.i in
    slots_cut _ _ _ w _ ss i c.loop-i.t (get_or ss i none) (drop-cons ss i none c.loop-i-test.true) _ _
    (c.loop-i.invariant.progress w h) c.in_err-one_slot.ensures.acts)

pub returns-in_err-one_slot-clause-work : goal.returns-in_err-one_slot-clause-work
returns-in_err-one_slot-clause-work g c = λ w h.
    let ss = c.args.slots.now in
    let i = c.loop-i.i in
    slots_work_cut _ _ _ w _ _ ss i c.loop-i.t (get_or ss i none) (drop-cons ss i none c.loop-i-test.true)
    (c.loop-i.invariant.work w h) c.in_err-one_slot.ensures.work

pub overflow_add-t : goal.overflow_add-t
overflow_add-t g c =
    omega arith

pub one_slot-requires-clause-small : goal.one_slot-requires-clause-small
one_slot-requires-clause-small g c =
    let ss = c.args.slots.now in
    let i = c.loop-i.i in
    omega (arith, steps_left ss i (get_or ss i none) (drop-cons ss i none c.loop-i-test.true))

pub loop-i-init : goal.loop-i-init
loop-i-init g c = record {
  count = search rules;
  no_faults = search rules;
  left = search rules;
  progress = λ w h. slots_begun (StandsAs c.args.machine.now)
      (g.K.Sink.history c.args.sink.now).written w c.args.slots.now
      c.args.first h;
  work = λ w h. slots_work _ _ w c.args.slots.now c.args.first h;
}

pub loop-i-preserved : goal.loop-i-preserved
loop-i-preserved g c = record {
  count = search rules;
  no_faults = search rules;
  left =
      let ss = c.args.slots.now in
      let i = c.loop-i.i in
      omega (arith, steps_left ss i (get_or ss i none) (drop-cons ss i none c.loop-i-test.true));
  progress = λ w h.
      let ss = c.args.slots.now in
      let i = c.loop-i.i in
      slots_on _ _ _ w _ ss i c.loop-i.t (get_or ss i none) (drop-cons ss i none c.loop-i-test.true) _ _
      (c.loop-i.invariant.progress w h) c.in_ok-one_slot.ensures.acts;
  work = λ w h.
      let ss = c.args.slots.now in
      let i = c.loop-i.i in
      slots_work_on _ _ _ w _ _ ss i c.loop-i.t (get_or ss i none) (drop-cons ss i none c.loop-i-test.true)
      (c.loop-i.invariant.work w h) c.in_ok-one_slot.ensures.work _
      (λ v s. (c.in_ok-one_slot.ensures.acts v s).world);
}

pub returns-clause-acts : goal.returns-clause-acts
returns-clause-acts g c = λ w h.
    slots_end _ _ _ w _ c.args.slots.now c.loop-i.i c.loop-i.t (omega arith) (c.loop-i.invariant.progress w h)

pub returns-clause-work : goal.returns-clause-work
returns-clause-work g c = λ w h. omega (arith, (c.loop-i.invariant.work w h).within)

pub returns-clause-next : goal.returns-clause-next
returns-clause-next g c = omega (arith, none_left c.args.slots.now c.loop-i.i (omega arith))
