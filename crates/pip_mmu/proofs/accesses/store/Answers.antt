use Rattle.std.proofs.Common.{◌/◌, ◌%◌, refl}
use Rattle.std.proofs.lemmas.Result.{err_from_is_err_and}
use Rattle.pip_base.specs.declared.types.Access.TheVariants.{Store}
use Rattle.pip_model.specs.Reach.{reach}
use Rattle.pip_mmu.proofs.Places.{fault_stays, store_fault, store_is, stored_is}
use Rattle.pip_mmu.proofs.accesses.store.Goals as goal

pub returns-in_err-frame-clause-answer : goal.returns-in_err-frame-clause-answer
returns-in_err-frame-clause-answer g c t x s lays found =
    let p = err_from_is_err_and c.from_residual.result c.from_residual.ensures.1 in
    rw (p.1, p.2) (store_fault (reach t c.args.part c.args.va Store c.args.size) c.in_err-frame.field-0.0
    (c.in_err-frame.ensures.place t x s lays found))

pub returns-in_err-frame-clause-tree : goal.returns-in_err-frame-clause-tree
returns-in_err-frame-clause-tree g c t x s lays found =
    fault_stays t c.args.va c.args.size c.args.word (reach t c.args.part c.args.va Store c.args.size)
    c.in_err-frame.field-0.0 _ s lays (c.in_err-frame.ensures.place t x s lays found)

pub returns-clause-answer : goal.returns-clause-answer
returns-clause-answer g c t x s lays found = store_is t _ c.args.part c.args.va c.args.size Store x s lays found
    (c.in_ok-frame.frame, c.args.va % 4096 / 4) (c.in_ok-frame.ensures.place t x s lays found)

pub returns-clause-tree : goal.returns-clause-tree
returns-clause-tree g c t x s lays found =
    stored_is t _ c.args.part c.args.va c.args.size Store x s lays found
    (c.in_ok-frame.frame, c.args.va % 4096 / 4) (c.in_ok-frame.ensures.place t x s lays found) c.args.word _ _ _
    c.requires.fits refl refl c.write_at.ensures.words
