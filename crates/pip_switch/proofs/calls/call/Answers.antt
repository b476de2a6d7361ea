use Rattle.std.proofs.Common.{◌∙◌, refl, sym}
use Rattle.pip_base.specs.declared.outcome.Status.TheVariants as S
use Rattle.pip_model.specs.Answers.{five_of, refuse}
use Rattle.pip_model.specs.declared.call_name.CallName.TheVariants.{Masks, OnMemory, Unknown, Yields}
use Rattle.pip_model.specs.Worlds.{with_masked}
use Rattle.pip_switch.proofs.Replying.{asked-does, came_call, came_yield, done-does}
use Rattle.pip_switch.proofs.Running.{part_stands}
use Rattle.pip_switch.proofs.Working.{calls_in}
use Rattle.pip_switch.proofs.calls.call.Goals as goal

pub answer_on_memory-status-requires-clause-stands : goal.answer_on_memory-status-requires-clause-stands
answer_on_memory-status-requires-clause-stands g c =
    part_stands _ _ c.args.cpu c.requires.world c.in-Some.part (sym c.runner.ensures ∙ c.in-Some.is)

pub set_masked-requires : goal.set_masked-requires
set_masked-requires g c =
    part_stands _ _ c.args.cpu c.requires.world c.in-Some.part (sym c.runner.ensures ∙ c.in-Some.is)

pub returns-in-Yields-clause-event : goal.returns-in-Yields-clause-event
returns-in-Yields-clause-event g c w s k =
    came_yield _ _ _ _ w s c.args.cpu c.in-Some.part (sym c.runner.ensures ∙ c.in-Some.is) c.args.number
    (sym c.in-Yields.is ∙ c.named.ensures) (five_of c.args.args.now) c.yield_to.result
    (λ r. c.yield_to.ensures.event w r s) _ k

pub returns-in-OnMemory-clause-event : goal.returns-in-OnMemory-clause-event
returns-in-OnMemory-clause-event g c w s k =
    came_call _ _ _ _ w s c.args.cpu c.in-Some.part (sym c.runner.ensures ∙ c.in-Some.is) c.args.number
    (OnMemory c.in-OnMemory.call) (sym c.in-OnMemory.is ∙ c.named.ensures) (λ e. cc) (five_of c.args.args.now)
    c.answer_on_memory-status.result.0 c.answer_on_memory-status.result.1 c.answer_on_memory-status.ensures.does
    c.put_reply.ensures.set _ _ k c.empty_after.ensures _ c.put_reply.ensures.outcome

pub returns-in-Masks-clause-event : goal.returns-in-Masks-clause-event
returns-in-Masks-clause-event g c w s k =
    came_call _ _ _ _ w s c.args.cpu c.in-Some.part (sym c.runner.ensures ∙ c.in-Some.is) c.args.number
    (Masks c.in-Masks.masked) (sym c.in-Masks.is ∙ c.named.ensures) (λ e. cc) (five_of c.args.args.now) S.Ok 0
    (done-does c.in-Some.part (with_masked c.in-Some.part c.in-Masks.masked) _ _ c.set_masked.ensures.count
    c.set_masked.ensures.tree)
    c.put_reply-in-Masks.ensures.set _ _ k refl _ c.put_reply-in-Masks.ensures.outcome

pub returns-in-Unknown-clause-event : goal.returns-in-Unknown-clause-event
returns-in-Unknown-clause-event g c w s k =
    came_call _ _ _ _ w s c.args.cpu c.in-Some.part (sym c.runner.ensures ∙ c.in-Some.is) c.args.number
    Unknown (sym c.in-Unknown.is ∙ c.named.ensures) (λ e. cc) (five_of c.args.args.now) S.UnknownCall 0
    (asked-does (λ t. refuse t S.UnknownCall) c.in-Some.part S.UnknownCall 0 _ (λ t. refl)
    (λ t x at laid found. (refl, refl)))
    c.put_reply-in-Unknown.ensures.set _ _ k refl _ c.put_reply-in-Unknown.ensures.outcome

pub returns-in-OnMemory-clause-work : goal.returns-in-OnMemory-clause-work
returns-in-OnMemory-clause-work g c =
    calls_in _ _ c.args.cpu c.in-Some.part (sym c.runner.ensures ∙ c.in-Some.is) _ _ (OnMemory c.in-OnMemory.call)
    c.args.number (five_of c.args.args.now) (sym c.in-OnMemory.is ∙ c.named.ensures)
    c.answer_on_memory-status.ensures.work

pub returns-in-Yields-clause-work : goal.returns-in-Yields-clause-work
returns-in-Yields-clause-work g c =
    calls_in _ _ c.args.cpu c.in-Some.part (sym c.runner.ensures ∙ c.in-Some.is) _ _ Yields c.args.number
    (five_of c.args.args.now) (sym c.in-Yields.is ∙ c.named.ensures) (λ t x s laid found. c.yield_to.ensures.steps)
