use Rattle.std.proofs.Common.{◌≡◌, ◌∙◌, sym, arith}
use Rattle.std.specs.Prelude.{Err, Ok}
use Rattle.pip_base.specs.declared.types.Access.TheVariants.{Load}
use Rattle.pip_mmu.specs.Answers.{load_answer}
use Rattle.pip_model.specs.Reach.{reach}
use Rattle.pip_switch.proofs.Happening.{came_loaded, load_faulted}
use Rattle.pip_switch.proofs.Looked.{at_tree, lent_stands, looked_load}
use Rattle.pip_switch.proofs.Working.{delivers_in}
use Rattle.pip_switch.proofs.events.load.Goals as goal

pub load_through-requires-clause-stands : goal.load_through-requires-clause-stands
load_through-requires-clause-stands g c = lent_stands _ _ _ _ c.deref_mut.ensures.value c.args.cpu c.requires.cpu
    c.in-Some.part (sym c.runner.ensures ∙ c.in-Some.is) _ c.requires.world

pub returns-in-Ok-clause-event : goal.returns-in-Ok-clause-event
returns-in-Ok-clause-event g c w s = (
  came_loaded _ _ w s.bare c.args.cpu c.in-Some.part (sym c.runner.ensures ∙ c.in-Some.is) c.args.va c.args.size
      c.in-Ok.word
      (at_tree _ _ _ _ c.deref_mut.ensures.value c.args.cpu c.requires.cpu c.in-Some.part
      (sym c.runner.ensures ∙ c.in-Some.is) _ w s (λ t. Ok c.in-Ok.word
      ≡ load_answer t c.args.va c.args.size (reach t c.in-Some.part c.args.va Load c.args.size))
      (λ t x sound laid found agrees. sym c.in-Ok.is ∙ c.load_through.ensures.answer t x sound laid found agrees)),
  looked_load _ _ _ _ c.deref_mut.ensures.value c.args.cpu c.requires.cpu c.in-Some.part
      (sym c.runner.ensures ∙ c.in-Some.is) _ w s c.args.va c.args.size _ c.load_through.ensures.cache,
)

pub returns-in-Err-clause-event : goal.returns-in-Err-clause-event
returns-in-Err-clause-event g c w s = (
  load_faulted _ _ w s.bare c.args.cpu c.in-Some.part (sym c.runner.ensures ∙ c.in-Some.is) c.args.va c.args.size
      c.in-Err.fault
      (at_tree _ _ _ _ c.deref_mut.ensures.value c.args.cpu c.requires.cpu c.in-Some.part
      (sym c.runner.ensures ∙ c.in-Some.is) _ w s (λ t. Err c.in-Err.fault
      ≡ load_answer t c.args.va c.args.size (reach t c.in-Some.part c.args.va Load c.args.size))
      (λ t x sound laid found agrees. sym c.in-Err.is ∙ c.load_through.ensures.answer t x sound laid found agrees))
      _ _ _ (λ r runs. c.deliver_fault.ensures.event w r s.bare runs),
  looked_load _ _ _ _ c.deref_mut.ensures.value c.args.cpu c.requires.cpu c.in-Some.part
      (sym c.runner.ensures ∙ c.in-Some.is) _ w s c.args.va c.args.size _ c.load_through.ensures.cache,
)

pub returns-in-Ok-clause-work : goal.returns-in-Ok-clause-work
returns-in-Ok-clause-work g c = delivers_in _ _ c.args.cpu c.in-Some.part (sym c.runner.ensures ∙ c.in-Some.is) _ _ 80
    (λ t x s laid found. let reads = c.load_through.ensures.steps in omega (arith, reads))

pub returns-in-Err-clause-work : goal.returns-in-Err-clause-work
returns-in-Err-clause-work g c = delivers_in _ _ c.args.cpu c.in-Some.part (sym c.runner.ensures ∙ c.in-Some.is) _ _ 80
    (λ t x s laid found. let reads = c.load_through.ensures.steps in
    let delivers = c.deliver_fault.ensures.chain t x s laid found in omega (arith, reads, delivers))
