use Rattle.std.proofs.Common.{rules, ◌≡◌, sym, subst, ◌↔◌, ◌≢◌, length}
use Rattle.pip_model.specs.Happens.{event}
use Rattle.pip_native.specs.Monitoring.{RunsChild, HasSwitched, choice, decision_in, visit}
use Rattle.pip_native.specs.declared.decision.Decision.TheVariants as D
use Rattle.pip_native.proofs.Yielding.{run-switched}
use Rattle.pip_native.proofs.deciding.decide.Goals as goal

pub returns-in_default-clause-ran : goal.returns-in_default-clause-ran
returns-in_default-clause-ran g c = λ w stands.
    let m = c.args.monitor.now in
    let same : D.Ran c.next-i.result ≡ decision_in w c.args.cpu m = search rules in
    subst (λ d. RunsChild d ↔ (choice m ≢ length m.children) × HasSwitched (event w (visit c.args.cpu m)).outcome)
    (sym same) (run-switched w c.args.cpu m (c.requires.runs w stands))
