use Rattle.std.proofs.Common.{◌∙◌, ap, cond, sym, true}
use Rattle.pip_base.specs.declared.types.Access.TheVariants.{Load}
use Rattle.pip_base.specs.declared.types.Size.TheVariants.{Word}
use Rattle.pip_model.specs.Reach.{reach}
use Rattle.pip_guests.specs.Sights as tests
use Rattle.pip_away.specs.Blind.{sight_of}
use Rattle.pip_away.proofs.Reading.{block_missed, reached_there, unreached_misses}
use Rattle.pip_away.proofs.handlers.block_misses.Goals as goal

pub returns-then-not-can_begin : goal.returns-then-not-can_begin
returns-then-not-can_begin g c t x s laid found =
    sym (block_missed (sight_of c.args.blind.now) t c.args.part c.args.address
    ∙ ap (λ b. cond b (tests.block_passes (sight_of c.args.blind.now) (reach t c.args.part c.args.address Load
    Word)) true)
    (sym c.can_begin.ensures ∙ c.if-not-can_begin.true))

pub returns-in-Err : goal.returns-in-Err
returns-in-Err g c t x s laid found =
    unreached_misses (sight_of c.args.blind.now) t c.args.part c.args.address
    (reach t c.args.part c.args.address Load Word) c.in-Err.field-0
    (sym c.in-Err.is ∙ c.locate.ensures.place t x s laid found)
    ∙ sym (block_missed (sight_of c.args.blind.now) t c.args.part c.args.address
    ∙ ap (λ b. cond b (tests.block_passes (sight_of c.args.blind.now) (reach t c.args.part c.args.address Load
    Word)) true)
    (sym c.can_begin.ensures ∙ c.if-not-can_begin.false))

pub returns-in-Ok : goal.returns-in-Ok
returns-in-Ok g c t x s laid found =
    c.sees_block.ensures
    ∙ sym (block_missed (sight_of c.args.blind.now) t c.args.part c.args.address
    ∙ ap (λ b. cond b (tests.block_passes (sight_of c.args.blind.now) (reach t c.args.part c.args.address Load
    Word)) true)
    (sym c.can_begin.ensures ∙ c.if-not-can_begin.false)
    ∙ ap (tests.block_passes (sight_of c.args.blind.now)) (reached_there (reach t c.args.part c.args.address Load Word)
    c.in-Ok.found (sym c.in-Ok.is ∙ c.locate.ensures.place t x s laid found)))
