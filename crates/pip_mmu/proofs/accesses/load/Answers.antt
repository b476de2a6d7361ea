use Rattle.std.proofs.Common.{◌/◌, ◌%◌, ◌∙◌, ap, refl}
use Rattle.std.specs.Prelude.{Ok}
use Rattle.std.proofs.lemmas.Result.{err_from_is_err_and}
use Rattle.pip_model.specs.Reach.{reach}
use Rattle.pip_mmu.proofs.Places.{load_fault, load_is}
use Rattle.pip_mmu.proofs.accesses.load.Goals as goal

pub returns-in_err-frame-clause-answer : goal.returns-in_err-frame-clause-answer
returns-in_err-frame-clause-answer g c t x s lays found =
    let p = err_from_is_err_and c.from_residual.result c.from_residual.ensures.1 in
    rw (p.1, p.2) (load_fault t c.args.va c.args.size (reach t c.args.part c.args.va c.args.access c.args.size)
    c.in_err-frame.field-0.0 (c.in_err-frame.ensures.place t x s lays found))

pub returns-clause-answer : goal.returns-clause-answer
returns-clause-answer g c t x s lays found =
    ap Ok c.read_at.ensures.value ∙ load_is t _ c.args.part c.args.va c.args.size c.args.access x s lays found
    (c.in_ok-frame.frame, c.args.va % 4096 / 4) (c.in_ok-frame.ensures.place t x s lays found) _ refl
