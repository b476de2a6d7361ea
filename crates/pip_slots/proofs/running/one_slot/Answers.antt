use Rattle.std.proofs.lemmas.Result.{MatchResult-from_err}
use Rattle.pip_model.specs.Acts.{after_acts}
use Rattle.pip_slots.specs.Slots.{opening}
use Rattle.pip_switch.specs.Standing.{StandsAs}
use Rattle.pip_slots.proofs.Making.{slot_cut_first, slot_cut_within, slot_made}
use Rattle.pip_slots.proofs.Working.{slot_takes, slot_takes_first, slot_takes_within}
use Rattle.pip_slots.proofs.running.one_slot.Goals as goal

pub returns-in_err-open_slot-clause-acts : goal.returns-in_err-open_slot-clause-acts
returns-in_err-open_slot-clause-acts g c = λ w h.
    MatchResult-from_err c.from_residual.result _ _ c.from_residual.ensures.0 (λ _.
    slot_cut_first w c.args.slot c.args.t _ _ _ (c.in_err-open_slot.ensures.acts w h))

pub returns-in_err-inner_steps-clause-acts : goal.returns-in_err-inner_steps-clause-acts
returns-in_err-inner_steps-clause-acts g c = λ w h.
    MatchResult-from_err c.from_residual-in_err-inner_steps.result _ _
    c.from_residual-in_err-inner_steps.ensures.0 (λ _.
    let a = c.in_ok-open_slot.ensures.acts w h in
    slot_cut_within w c.args.slot c.args.t (StandsAs c.open_slot.new.port) _ _ _ _ a
    (c.in_err-inner_steps.ensures.acts (after_acts w (opening w c.args.slot.child c.args.t)) a.world))

pub returns-clause-acts : goal.returns-clause-acts
returns-clause-acts g c = λ w h.
    let a = c.in_ok-open_slot.ensures.acts w h in
    let b = c.in_ok-inner_steps.ensures.acts (after_acts w (opening w c.args.slot.child c.args.t)) a.world in
    slot_made w c.args.slot c.args.t c.close_slot.result (StandsAs c.open_slot.new.port)
    (StandsAs c.inner_steps.new.machine) _ _ _ _ _ a b (c.close_slot.ensures.acts _ b.world)

pub returns-in_err-open_slot-clause-work : goal.returns-in_err-open_slot-clause-work
returns-in_err-open_slot-clause-work g c = slot_takes_first _ c.args.slot c.args.t _ _ c.in_err-open_slot.ensures.work

pub returns-in_err-inner_steps-clause-work : goal.returns-in_err-inner_steps-clause-work
returns-in_err-inner_steps-clause-work g c = slot_takes_within _ c.args.slot c.args.t _ _
    c.in_ok-open_slot.ensures.work (StandsAs c.open_slot.new.port) (λ v s. (c.in_ok-open_slot.ensures.acts v s).world) _
    c.in_err-inner_steps.ensures.work

pub returns-clause-work : goal.returns-clause-work
returns-clause-work g c = slot_takes _ c.args.slot c.args.t _ _
    c.in_ok-open_slot.ensures.work (StandsAs c.open_slot.new.port) (λ v s. (c.in_ok-open_slot.ensures.acts v s).world) _
    c.in_ok-inner_steps.ensures.work (StandsAs c.inner_steps.new.machine) _
    (λ v s. (c.in_ok-inner_steps.ensures.acts v s).world) c.close_slot.ensures.work
