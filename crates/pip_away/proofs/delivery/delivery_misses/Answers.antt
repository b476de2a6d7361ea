use Rattle.std.proofs.Common.{◌∙◌, ◌&&◌, ap, sym}
use Rattle.pip_guests.specs.Sights as tests
use Rattle.pip_away.specs.Blind.{sight_of}
use Rattle.pip_away.proofs.delivery.delivery_misses.Goals as goal

pub returns-then-above_miss : goal.returns-then-above_miss
returns-then-above_miss g c t x s laid found = c.save_misses.ensures t x s laid found ∙ sym (ap (λ b. b
    && tests.save_passes c.args.blind.now.own.items (sight_of c.args.blind.now) t c.args.part 63)
    (sym (c.above_miss.ensures t x s laid found) ∙ c.if-above_miss.true))

pub returns-else-above_miss : goal.returns-else-above_miss
returns-else-above_miss g c t x s laid found = c.if-above_miss.false ∙ sym (ap (λ b. b
    && tests.save_passes c.args.blind.now.own.items (sight_of c.args.blind.now) t c.args.part 63)
    (sym (c.above_miss.ensures t x s laid found) ∙ c.if-above_miss.false))
