use Rattle.std.proofs.Common.{◌≡◌, ◌∙◌, sym, subst, arith}
use Rattle.std.specs.Prelude.{Err, Ok}
use Rattle.pip_base.specs.declared.types.Access.TheVariants.{Store}
use Rattle.pip_mmu.specs.Faults.{model_fault}
use Rattle.pip_mmu.specs.Answers.{store_answer, tree_stored}
use Rattle.pip_model.specs.Layout.{LaysOut}
use Rattle.pip_model.specs.Partitions.{IsHeld}
use Rattle.pip_model.specs.Reach.{reach}
use Rattle.pip_switch.specs.Standing.{HasWorld, StandsFor}
use Rattle.pip_switch.proofs.Happening.{came_stored, fault_fails, store_faulted}
use Rattle.pip_switch.proofs.Running.{runner_in}
use Rattle.pip_switch.proofs.Looked.{at_tree, lent_stands, looked_store}
use Rattle.pip_switch.proofs.Standing.{bare_world}
use Rattle.pip_switch.proofs.Working.{delivers_in}
use Rattle.pip_switch.proofs.events.store.Goals as goal

pub store_through-requires-clause-stands : goal.store_through-requires-clause-stands
store_through-requires-clause-stands g c = lent_stands _ _ _ _ c.deref_mut.ensures.value c.args.cpu c.requires.cpu
    c.in-Some.part (sym c.runner.ensures ∙ c.in-Some.is) _ c.requires.world

pub returns-in-Ok-clause-event : goal.returns-in-Ok-clause-event
returns-in-Ok-clause-event g c w s = (
  came_stored _ _ w s.bare c.args.cpu c.in-Some.part (sym c.runner.ensures ∙ c.in-Some.is) c.args.written.va
      c.args.written.size
      c.args.written.word _
      (at_tree _ _ _ _ c.deref_mut.ensures.value c.args.cpu c.requires.cpu c.in-Some.part (sym c.runner.ensures
      ∙ c.in-Some.is) _ w s (λ t. Ok tt ≡ store_answer (reach t c.in-Some.part c.args.written.va Store
      c.args.written.size))
      (λ t x sound laid found agrees. sym c.in-Ok.is ∙ c.store_through.ensures.answer t x sound laid found agrees))
      (at_tree _ _ _ _ c.deref_mut.ensures.value c.args.cpu c.requires.cpu c.in-Some.part (sym c.runner.ensures
      ∙ c.in-Some.is) _ w s (λ t. IsHeld (tree_stored t c.args.written.va c.args.written.size c.args.written.word
      (reach t c.in-Some.part
      c.args.written.va Store c.args.written.size)) (g.M.Frames.memory c.store_through.new.mem))
      c.store_through.ensures.tree),
  looked_store _ _ _ _ c.deref_mut.ensures.value c.args.cpu c.requires.cpu c.in-Some.part
      (sym c.runner.ensures ∙ c.in-Some.is) _ w s c.args.written.va c.args.written.size c.args.written.word _
      c.store_through.ensures.cache,
)

pub deliver_fault-requires-clause-world : goal.deliver_fault-requires-clause-world
deliver_fault-requires-clause-world g c =
    subst (λ m. HasWorld m c.args.cpus.now.items) (sym c.in-Err.ensures.fault) (bare_world _ _ _ c.requires.world)

pub returns-in-Err-clause-event : goal.returns-in-Err-clause-event
returns-in-Err-clause-event g c w s = (
  store_faulted _ _ w s.bare c.args.cpu c.in-Some.part (sym c.runner.ensures ∙ c.in-Some.is) c.args.written.va
      c.args.written.size
      c.args.written.word c.in-Err.fault
      (at_tree _ _ _ _ c.deref_mut.ensures.value c.args.cpu c.requires.cpu c.in-Some.part
      (sym c.runner.ensures ∙ c.in-Some.is) _ w s
      (λ t. Err c.in-Err.fault ≡ store_answer (reach t c.in-Some.part c.args.written.va Store c.args.written.size))
      (λ t x sound laid found agrees. sym c.in-Err.is ∙ c.store_through.ensures.answer t x sound laid found agrees))
      _ _ _ (λ r runs. c.deliver_fault.ensures.event w r
      (subst (λ m. StandsFor m c.args.cpus.now.items w) (sym c.in-Err.ensures.fault) s.bare) runs),
  looked_store _ _ _ _ c.deref_mut.ensures.value c.args.cpu c.requires.cpu c.in-Some.part
      (sym c.runner.ensures ∙ c.in-Some.is) _ w s c.args.written.va c.args.written.size c.args.written.word _
      c.store_through.ensures.cache,
)

pub returns-in-Err-clause-hit : goal.returns-in-Err-clause-hit
returns-in-Err-clause-hit g c hits ok =
    let h = bare_world _ _ _ c.requires.world in
    let (r, runs, is) =
    runner_in _ _ c.args.cpu h.world h.stands c.in-Some.part (sym c.runner.ensures ∙ c.in-Some.is) in
    absurd (fault_fails h.world c.args.cpu r c.args.written.va Store (model_fault c.in-Err.fault) c.deliver_fault.result
    (c.deliver_fault.ensures.event h.world r
    (subst (λ m. StandsFor m c.args.cpus.now.items h.world) (sym c.in-Err.ensures.fault) h.stands) runs).outcome ok)

pub returns-in-Ok-clause-work : goal.returns-in-Ok-clause-work
returns-in-Ok-clause-work g c = delivers_in _ _ c.args.cpu c.in-Some.part (sym c.runner.ensures ∙ c.in-Some.is) _ _ 80
    (λ t x s laid found. let reads = c.store_through.ensures.steps in omega (arith, reads))

pub returns-in-Err-clause-work : goal.returns-in-Err-clause-work
returns-in-Err-clause-work g c = delivers_in _ _ c.args.cpu c.in-Some.part (sym c.runner.ensures ∙ c.in-Some.is) _ _ 80
    (λ t x s laid found. let reads = c.store_through.ensures.steps in
    let delivers = c.deliver_fault.ensures.chain t x s (subst (LaysOut t) (sym c.in-Err.ensures.fault) laid)
    found in omega (arith, reads, delivers))
