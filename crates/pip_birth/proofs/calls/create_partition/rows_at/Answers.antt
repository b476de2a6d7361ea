use Rattle.std.proofs.Common.{arith}
use Rattle.pip_model.specs.FullRows.{full_rows}
use Rattle.pip_birth.proofs.CreatePartition.Tests.{five_rows, row_missing}
use Rattle.pip_birth.proofs.calls.create_partition.rows_at.Goals as goal

pub returns-in_err-row_at-clause-rows : goal.returns-in_err-row_at-clause-rows
returns-in_err-row_at-clause-rows g c t x s lays found = let five = c.told-pages in row_missing
    (full_rows t x) c.args.pages.now 0
    (omega arith) (c.in_err-row_at.ensures.row t x s lays found) c.from_residual.result c.from_residual.ensures

pub returns-in_err-row_at-2-clause-rows : goal.returns-in_err-row_at-2-clause-rows
returns-in_err-row_at-2-clause-rows g c t x s lays found = let five = c.told-pages in
    row_missing (full_rows t x) c.args.pages.now 1 (omega arith) (c.in_err-row_at-2.ensures.row t x s lays found)
    c.from_residual-in_err-row_at-2.result c.from_residual-in_err-row_at-2.ensures

pub returns-in_err-row_at-3-clause-rows : goal.returns-in_err-row_at-3-clause-rows
returns-in_err-row_at-3-clause-rows g c t x s lays found = let five = c.told-pages in
    row_missing (full_rows t x) c.args.pages.now 2 (omega arith) (c.in_err-row_at-3.ensures.row t x s lays found)
    c.from_residual-in_err-row_at-3.result c.from_residual-in_err-row_at-3.ensures

pub returns-in_err-row_at-4-clause-rows : goal.returns-in_err-row_at-4-clause-rows
returns-in_err-row_at-4-clause-rows g c t x s lays found = let five = c.told-pages in
    row_missing (full_rows t x) c.args.pages.now 3 (omega arith) (c.in_err-row_at-4.ensures.row t x s lays found)
    c.from_residual-in_err-row_at-4.result c.from_residual-in_err-row_at-4.ensures

pub returns-in_err-row_at-5-clause-rows : goal.returns-in_err-row_at-5-clause-rows
returns-in_err-row_at-5-clause-rows g c t x s lays found = let five = c.told-pages in
    row_missing (full_rows t x) c.args.pages.now 4 (omega arith) (c.in_err-row_at-5.ensures.row t x s lays found)
    c.from_residual-in_err-row_at-5.result c.from_residual-in_err-row_at-5.ensures

pub returns-clause-rows : goal.returns-clause-rows
returns-clause-rows g c t x s lays found =
    five_rows (full_rows t x) c.args.pages.now c.told-pages c.in_ok-row_at.field-0 c.in_ok-row_at-2.field-0
    c.in_ok-row_at-3.field-0 c.in_ok-row_at-4.field-0 c.in_ok-row_at-5.field-0
    (c.in_ok-row_at.ensures.row t x s lays found) (c.in_ok-row_at-2.ensures.row t x s lays found)
    (c.in_ok-row_at-3.ensures.row t x s lays found) (c.in_ok-row_at-4.ensures.row t x s lays found)
    (c.in_ok-row_at-5.ensures.row t x s lays found)
