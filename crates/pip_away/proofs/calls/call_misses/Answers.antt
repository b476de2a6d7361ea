use Rattle.std.proofs.Common.{◌∙◌, ap, sym}
use Rattle.pip_model.specs.Answers.{five_of}
use Rattle.pip_model.specs.Happens.{call_named}
use Rattle.pip_guests.specs.Sights as tests
use Rattle.pip_away.specs.Blind.{sight_of}
use Rattle.pip_away.proofs.calls.call_misses.Goals as goal

pub returns-in-8 : goal.returns-in-8
returns-in-8 g c t x s laid found = c.yield_misses.ensures t x s laid found
    ∙ sym (ap (λ n. tests.call_passes c.args.blind.now.own.items (sight_of c.args.blind.now) t c.args.caller
    (five_of c.args.args.now) (call_named n)) c.in-8.is)

pub returns-in-3 : goal.returns-in-3
returns-in-3 g c t x s laid found = c.chain_misses.ensures t x s laid found
    ∙ sym (ap (λ n. tests.call_passes c.args.blind.now.own.items (sight_of c.args.blind.now) t c.args.caller
    (five_of c.args.args.now) (call_named n)) c.in-3.is)
