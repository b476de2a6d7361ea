use Rattle.std.proofs.Common.{◌∙◌, sym}
use Rattle.pip_model.specs.Switching.{target_node}
use Rattle.pip_switch.proofs.Targets.{target_found}
use Rattle.pip_away.specs.Blind.{sight_of}
use Rattle.pip_away.proofs.Calling.{target_none, target_some}
use Rattle.pip_away.proofs.calls.target_misses.Goals as goal

pub returns-in-None : goal.returns-in-None
returns-in-None g c t x s laid found = sym (target_none c.args.blind.now.own.items (sight_of c.args.blind.now) t
    c.args.vector
    (target_node t c.args.caller c.args.d) (sym c.in-None.is ∙ c.find_target.ensures.target t x s laid found))

pub returns-in-Some : goal.returns-in-Some
returns-in-Some g c t x s laid found =
    let named = sym c.in-Some.is ∙ c.find_target.ensures.target t x s laid found in
    let (y, here) = target_found t s c.args.caller c.args.d c.in-Some.to named in
    c.handler_misses.ensures t y s laid here
    ∙ sym (target_some c.args.blind.now.own.items (sight_of c.args.blind.now) t c.args.vector c.in-Some.to
    (target_node t c.args.caller c.args.d) named)
