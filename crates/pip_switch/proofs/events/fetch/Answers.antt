use Rattle.std.proofs.Common.{◌≡◌, ◌∙◌, sym, arith}
use Rattle.std.specs.Prelude.{Err, Ok}
use Rattle.pip_base.specs.declared.types.Access.TheVariants.{Fetch}
use Rattle.pip_base.specs.declared.types.Size.TheVariants.{Word}
use Rattle.pip_mmu.specs.Faults.{model_fault}
use Rattle.pip_mmu.specs.Answers.{load_answer}
use Rattle.pip_model.specs.Reach.{reach}
use Rattle.pip_switch.proofs.Happening.{came_fetched, fault_fails, fetch_faulted}
use Rattle.pip_switch.proofs.Running.{runner_in}
use Rattle.pip_switch.proofs.Looked.{at_tree, lent_stands, looked_fetch}
use Rattle.pip_switch.proofs.Standing.{bare_world}
use Rattle.pip_switch.proofs.Working.{delivers_in}
use Rattle.pip_switch.proofs.events.fetch.Goals as goal

pub fetch_through-requires : goal.fetch_through-requires
fetch_through-requires g c = lent_stands _ _ _ _ c.deref_mut.ensures.value c.args.cpu c.requires.cpu c.in-Some.part
    (sym c.runner.ensures ∙ c.in-Some.is) _ c.requires.world

pub returns-in-Ok-clause-event : goal.returns-in-Ok-clause-event
returns-in-Ok-clause-event g c w s = (
  came_fetched _ _ w s.bare c.args.cpu c.in-Some.part (sym c.runner.ensures ∙ c.in-Some.is) c.pc_on-pc.result
      c.pc_on-pc.ensures c.in-Ok.word
      (at_tree _ _ _ _ c.deref_mut.ensures.value c.args.cpu c.requires.cpu c.in-Some.part
      (sym c.runner.ensures ∙ c.in-Some.is) _ w s (λ t. Ok c.in-Ok.word
      ≡ load_answer t c.pc_on-pc.result Word (reach t c.in-Some.part c.pc_on-pc.result Fetch Word))
      (λ t x sound laid found agrees. sym c.in-Ok.is ∙ c.fetch_through.ensures.answer t x sound laid found agrees)),
  looked_fetch _ _ _ _ c.deref_mut.ensures.value c.args.cpu c.requires.cpu c.in-Some.part
      (sym c.runner.ensures ∙ c.in-Some.is) _ w s c.pc_on-pc.result c.pc_on-pc.ensures _ c.fetch_through.ensures.cache,
)

pub returns-in-Err-clause-event : goal.returns-in-Err-clause-event
returns-in-Err-clause-event g c w s = (
  fetch_faulted _ _ w s.bare c.args.cpu c.in-Some.part (sym c.runner.ensures ∙ c.in-Some.is) c.pc_on-pc.result
      c.pc_on-pc.ensures c.in-Err.fault
      (at_tree _ _ _ _ c.deref_mut.ensures.value c.args.cpu c.requires.cpu c.in-Some.part
      (sym c.runner.ensures ∙ c.in-Some.is) _ w s (λ t. Err c.in-Err.fault
      ≡ load_answer t c.pc_on-pc.result Word (reach t c.in-Some.part c.pc_on-pc.result Fetch Word))
      (λ t x sound laid found agrees. sym c.in-Err.is ∙ c.fetch_through.ensures.answer t x sound laid found agrees))
      _ _ _ (λ r runs. c.deliver_fault.ensures.event w r s.bare runs),
  looked_fetch _ _ _ _ c.deref_mut.ensures.value c.args.cpu c.requires.cpu c.in-Some.part
      (sym c.runner.ensures ∙ c.in-Some.is) _ w s c.pc_on-pc.result c.pc_on-pc.ensures _ c.fetch_through.ensures.cache,
)

pub returns-in-Err-clause-hit : goal.returns-in-Err-clause-hit
returns-in-Err-clause-hit g c hits ok =
    let h = bare_world _ _ _ c.requires.world in
    let (r, runs, is) =
    runner_in _ _ c.args.cpu h.world h.stands c.in-Some.part (sym c.runner.ensures ∙ c.in-Some.is) in
    absurd (fault_fails h.world c.args.cpu r c.pc_on-pc.result Fetch (model_fault c.in-Err.fault) c.deliver_fault.result
    (c.deliver_fault.ensures.event h.world r h.stands runs).outcome ok)

pub returns-in-Ok-clause-work : goal.returns-in-Ok-clause-work
returns-in-Ok-clause-work g c = delivers_in _ _ c.args.cpu c.in-Some.part (sym c.runner.ensures ∙ c.in-Some.is) _ _ 80
    (λ t x s laid found. let reads = c.fetch_through.ensures.steps in omega (arith, reads))

pub returns-in-Err-clause-work : goal.returns-in-Err-clause-work
returns-in-Err-clause-work g c = delivers_in _ _ c.args.cpu c.in-Some.part (sym c.runner.ensures ∙ c.in-Some.is) _ _ 80
    (λ t x s laid found. let reads = c.fetch_through.ensures.steps in
    let delivers = c.deliver_fault.ensures.chain t x s laid found in omega (arith, reads, delivers))
