use Rattle.std.proofs.Common.{◌≡◌, ◌∙◌, false, length, refl, sym}
use Rattle.std.specs.Prelude.{nat_lt}
use Rattle.pip_model.specs.Tree.{children}
use Rattle.pip_model.proofs.Trees.Ancestry.{root_is_one}
use Rattle.pip_guests.specs.Sights as tests
use Rattle.pip_away.proofs.OnMachines.{confined_by, leaf_confined, none_runs, other_confined, part_here}
use Rattle.pip_away.proofs.OnMachines.{root_confined, test_here, told_here}
use Rattle.pip_away.proofs.confined.is_confined.Goals as goal

pub is_childless-requires : goal.is_childless-requires
is_childless-requires g c = let (w, s) = c.requires.stands in
    part_here c.args.machine.now w s _ c.mem.ensures c.args.cpu c.in-Some.part
    (sym (c.runs.ensures w s) ∙ c.in-Some.is)

pub returns-in-None : goal.returns-in-None
returns-in-None g c w s = none_runs _ (sym (c.runs.ensures w s) ∙ c.in-None.is) _

pub returns-then-not-is_own : goal.returns-then-not-is_own
returns-then-not-is_own g c w s =
    test_here c.args.machine.now w s c.args.machine.now.memory refl c.args.cpu c.in-Some.part
    (sym (c.runs.ensures w s) ∙ c.in-Some.is) (tests.has_no_child c.args.blind.now.own.items w.tree) (confined_by
    c.args.blind.now.own.items w.tree) (λ r. refl) false
    (other_confined c.args.blind.now.own.items w.tree c.in-Some.part (sym c.is_own.ensures ∙ c.if-not-is_own.true))

pub returns-then-number-eq-ROOT : goal.returns-then-number-eq-ROOT
returns-then-number-eq-ROOT g c w s =
    test_here c.args.machine.now w s c.args.machine.now.memory refl c.args.cpu c.in-Some.part
    (sym (c.runs.ensures w s) ∙ c.in-Some.is) (tests.has_no_child c.args.blind.now.own.items w.tree) (confined_by
    c.args.blind.now.own.items w.tree) (λ r. refl) false
    (root_confined c.args.blind.now.own.items w.tree c.in-Some.part (sym c.is_own.ensures ∙ c.if-not-is_own.false)
    (sym c.number.ensures.same ∙ c.if-number-eq-ROOT.true ∙ sym (root_is_one w.tree s.bare.sound.tree)))

pub returns-else-number-eq-ROOT : goal.returns-else-number-eq-ROOT
returns-else-number-eq-ROOT g c w s =
    test_here c.args.machine.now w s c.args.machine.now.memory refl c.args.cpu c.in-Some.part
    (sym (c.runs.ensures w s) ∙ c.in-Some.is) (tests.has_no_child c.args.blind.now.own.items w.tree) (confined_by
    c.args.blind.now.own.items w.tree) (λ r. refl) c.is_childless.result
    (told_here c.args.machine.now w s _ c.mem.ensures c.args.cpu c.in-Some.part
    (sym (c.runs.ensures w s) ∙ c.in-Some.is)
    (λ t. c.is_childless.result ≡ nat_lt (length (children t c.in-Some.part)) 1) c.is_childless.ensures
    ∙ leaf_confined c.args.blind.now.own.items w.tree c.in-Some.part (sym c.is_own.ensures ∙ c.if-not-is_own.false)
    (λ e. c.if-number-eq-ROOT.false (c.number.ensures.same ∙ e ∙ root_is_one w.tree s.bare.sound.tree)))
