use Rattle.std.proofs.Common.{◌/◌, ◌%◌, refl}
use Rattle.std.proofs.lemmas.Result.{err_from_is_err_and}
use Rattle.pip_base.specs.declared.types.Access.TheVariants.{Store}
use Rattle.pip_model.specs.Reach.{reach}
use Rattle.pip_mmu.proofs.Places.{fault_stays, store_fault, store_is, stored_is}
use Rattle.pip_mmu.proofs.Caching.{usable_stored}
use Rattle.pip_mmu.proofs.cached.store_through.Goals as goal

pub returns-in_err-frame-clause-answer : goal.returns-in_err-frame-clause-answer
returns-in_err-frame-clause-answer g c t x s lays found agree =
    let p = err_from_is_err_and c.from_residual.result c.from_residual.ensures.1 in
    rw (p.1, p.2) (store_fault (reach t c.args.part c.args.va Store c.args.size) c.in_err-frame.field-0.0
    (c.in_err-frame.ensures.place t x s lays found agree))

pub returns-in_err-frame-clause-tree : goal.returns-in_err-frame-clause-tree
returns-in_err-frame-clause-tree g c t x s lays found agree =
    fault_stays t c.args.va c.args.size c.args.word (reach t c.args.part c.args.va Store c.args.size)
    c.in_err-frame.field-0.0 _ s lays (c.in_err-frame.ensures.place t x s lays found agree)

pub returns-clause-answer : goal.returns-clause-answer
returns-clause-answer g c t x s lays found agree = store_is t _ c.args.part c.args.va c.args.size Store x s lays found
    (c.in_ok-frame.frame, c.args.va % 4096 / 4) (c.in_ok-frame.ensures.place t x s lays found agree)

pub returns-clause-tree : goal.returns-clause-tree
returns-clause-tree g c t x s lays found agree =
    stored_is t _ c.args.part c.args.va c.args.size Store x s lays found
    (c.in_ok-frame.frame, c.args.va % 4096 / 4) (c.in_ok-frame.ensures.place t x s lays found agree) c.args.word _ _
    _ c.requires.fits refl refl c.write_at.ensures.words

pub returns-in_err-frame-clause-agrees : goal.returns-in_err-frame-clause-agrees
returns-in_err-frame-clause-agrees g c t x s lays found agree k e is =
    usable_stored t c.args.va c.args.size c.args.word (reach t c.args.part c.args.va Store c.args.size) e
    (c.in_err-frame.ensures.agrees t x s lays found agree k e is)

pub returns-clause-agrees : goal.returns-clause-agrees
returns-clause-agrees g c t x s lays found agree k e is =
    usable_stored t c.args.va c.args.size c.args.word (reach t c.args.part c.args.va Store c.args.size) e
    (c.in_ok-frame.ensures.agrees t x s lays found agree k e is)
