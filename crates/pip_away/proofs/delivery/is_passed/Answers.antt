use Rattle.std.proofs.Common.{◌∙◌, ◌||◌, ap, sym}
use Rattle.pip_guests.specs.Sights as tests
use Rattle.pip_switch.proofs.Running.{any_runs}
use Rattle.pip_away.specs.Blind.{sight_of}
use Rattle.pip_away.proofs.delivery.is_passed.Goals as goal

pub returns-then-is_running : goal.returns-then-is_running
returns-then-is_running g c t x s laid found = c.if-is_running.true ∙ sym (ap (λ b. b
    || tests.handler_passes c.args.blind.now.own.items (sight_of c.args.blind.now) t c.args.part c.args.vector)
    (sym (any_runs c.args.part c.args.cpus.now) ∙ sym c.is_running.ensures ∙ c.if-is_running.true))

pub returns-else-is_running : goal.returns-else-is_running
returns-else-is_running g c t x s laid found = c.handler_misses.ensures t x s laid found ∙ sym (ap (λ b. b
    || tests.handler_passes c.args.blind.now.own.items (sight_of c.args.blind.now) t c.args.part c.args.vector)
    (sym (any_runs c.args.part c.args.cpus.now) ∙ sym c.is_running.ensures ∙ c.if-is_running.false))
