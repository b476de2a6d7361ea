use Rattle.std.proofs.Common.{◌/◌, ◌∙◌, Some, None, refl}
use Rattle.std.proofs.lemmas.Result.{err_from_is_err_and}
use Rattle.pip_base.specs.declared.outcome.Status.TheVariants as S
use Rattle.pip_space.specs.Rows.{full_of}
use Rattle.pip_kern.proofs.Calls.{looked_up, missing_status}
use Rattle.pip_grow.proofs.PrepareTable.Tests.{row_inside, row_met, row_passed, unmapped_met}
use Rattle.pip_grow.proofs.chain.check_page.Goals as goal

pub returns-in_err-row-clause-page : goal.returns-in_err-row-clause-page
returns-in_err-row-clause-page g c t x s lays found =
    let p = err_from_is_err_and c.from_residual-in_err-row.result c.from_residual-in_err-row.ensures.1 in
    let none = c.in_err-row.ensures.ok_part in
    let row = looked_up full_of c.row_at.result None _ (c.row_at.ensures.row t x s lays found) none in
    rw (p.1, p.2, missing_status c.row_at.result c.in_err-row.field-0.0 S.NotMapped none c.in_err-row.ensures.value)
    (unmapped_met t s c.args.caller x found c.args.seen.now c.args.va c.in_ok-check_address.ensures.0 row)

pub returns-in_err-check_row-clause-page : goal.returns-in_err-check_row-clause-page
returns-in_err-check_row-clause-page g c t x s lays found =
    let p = err_from_is_err_and c.from_residual-in_err-check_row.result c.from_residual-in_err-check_row.ensures.1 in
    let row = looked_up full_of c.row_at.result (Some c.in_ok-row.row) _ (c.row_at.ensures.row t x s lays found)
    c.in_ok-row.ensures.ok_part in
    rw (p.1, p.2)
    (row_met t s c.args.caller x found c.args.seen.now c.args.va c.in_ok-check_address.ensures.0
    (full_of c.in_ok-row.row) row ∙ c.in_err-check_row.ensures)

pub returns-clause-page : goal.returns-clause-page
returns-clause-page g c t x s lays found =
    let row = looked_up full_of c.row_at.result (Some c.in_ok-row.row) _ (c.row_at.ensures.row t x s lays found)
    c.in_ok-row.ensures.ok_part in
    row_passed t s c.args.caller x found c.args.seen.now c.args.va c.in_ok-check_address.ensures.0
    (full_of c.in_ok-row.row) row c.in_ok-check_row.ensures.0 c.in_ok-row.row.frame refl

pub returns-clause-inside : goal.returns-clause-inside
returns-clause-inside g c =
    let s = c.requires in
    let row = looked_up full_of c.row_at.result (Some c.in_ok-row.row) _
    (c.row_at.ensures.row s.tree s.node s.sound s.laid s.found) c.in_ok-row.ensures.ok_part in
    row_inside s.tree s.sound c.args.caller s.node s.found (g.M.Frames.memory c.args.mem.now) s.laid
    (c.args.va / 4096) (full_of c.in_ok-row.row) row
