use Rattle.std.proofs.Common.{◌≡◌, ◌∙◌, false, refl, sym, true}
use Rattle.pip_base.specs.declared.types.Access.TheVariants.{Load}
use Rattle.pip_model.specs.Handlers.{is_reached}
use Rattle.pip_model.specs.Reach.{reach}
use Rattle.pip_away.proofs.OnMachines.{fault_reached, none_runs, part_here, place_reached, test_here, told_here}
use Rattle.pip_away.proofs.events.load_answers.Goals as goal

pub locate-requires : goal.locate-requires
locate-requires g c = let (w, s) = c.requires.stands in
    part_here c.args.machine.now w s _ c.mem.ensures c.args.cpu c.in-Some.part
    (sym (c.runs.ensures w s) ∙ c.in-Some.is)

pub returns-in-None : goal.returns-in-None
returns-in-None g c w s = none_runs _ (sym (c.runs.ensures w s) ∙ c.in-None.is) _

pub returns-in-Ok : goal.returns-in-Ok
returns-in-Ok g c w s =
    test_here c.args.machine.now w s _ c.mem.ensures c.args.cpu c.in-Some.part
    (sym (c.runs.ensures w s) ∙ c.in-Some.is) _
    (λ p. is_reached (reach w.tree p c.args.va Load c.args.size)) (λ r. refl) true
    (told_here c.args.machine.now w s _ c.mem.ensures c.args.cpu c.in-Some.part
    (sym (c.runs.ensures w s) ∙ c.in-Some.is)
    (λ t. true ≡ is_reached (reach t c.in-Some.part c.args.va Load c.args.size))
    (λ t x sound laid found. place_reached (reach t c.in-Some.part c.args.va Load c.args.size) c.in-Ok.field-0
    (sym c.in-Ok.is ∙ c.locate.ensures.place t x sound laid found)))

pub returns-in-Err : goal.returns-in-Err
returns-in-Err g c w s =
    test_here c.args.machine.now w s _ c.mem.ensures c.args.cpu c.in-Some.part
    (sym (c.runs.ensures w s) ∙ c.in-Some.is) _
    (λ p. is_reached (reach w.tree p c.args.va Load c.args.size)) (λ r. refl) false
    (told_here c.args.machine.now w s _ c.mem.ensures c.args.cpu c.in-Some.part
    (sym (c.runs.ensures w s) ∙ c.in-Some.is)
    (λ t. false ≡ is_reached (reach t c.in-Some.part c.args.va Load c.args.size))
    (λ t x sound laid found. fault_reached (reach t c.in-Some.part c.args.va Load c.args.size) c.in-Err.field-0
    (sym c.in-Err.is ∙ c.locate.ensures.place t x sound laid found)))
