use Rattle.std.proofs.Common.{◌∙◌}
use Rattle.std.proofs.lemmas.Result.{err_from_is_err_and}
use Rattle.pip_base.specs.declared.outcome.Status.TheVariants as S
use Rattle.pip_kern.proofs.Calls.{missing_status}
use Rattle.pip_birth.proofs.CreatePartition.Tests.{addresses_met, all_passed, rows_met, unmapped_met}
use Rattle.pip_birth.proofs.calls.create_partition.check_pages.Goals as goal

pub returns-in_err-check_addresses-clause-tested : goal.returns-in_err-check_addresses-clause-tested
returns-in_err-check_addresses-clause-tested g c t x s lays found =
    let p = err_from_is_err_and c.from_residual.result c.from_residual.ensures.1 in
    rw (p.1, p.2) (addresses_met t s c.args.caller x found c.args.pages.now c.told-pages
    c.in_err-check_addresses.field-0.0 c.in_err-check_addresses.ensures)

pub returns-in_err-rows-clause-tested : goal.returns-in_err-rows-clause-tested
returns-in_err-rows-clause-tested g c t x s lays found =
    let p = err_from_is_err_and c.from_residual-in_err-rows.result c.from_residual-in_err-rows.ensures.1 in
    let answer = c.rows_at.ensures.rows t x s lays found in
    let none = c.in_err-rows.ensures.ok_part in
    rw (p.1, p.2, missing_status c.rows_at.result c.in_err-rows.field-0.0 S.NotMapped none c.in_err-rows.ensures.value)
    (unmapped_met t s c.args.caller x found c.args.pages.now c.told-pages c.in_ok-check_addresses.ensures.0
    c.rows_at.result answer none)

pub returns-in_err-check_rows-clause-tested : goal.returns-in_err-check_rows-clause-tested
returns-in_err-check_rows-clause-tested g c t x s lays found =
    let p = err_from_is_err_and c.from_residual-in_err-check_rows.result c.from_residual-in_err-check_rows.ensures.1 in
    let answer = c.rows_at.ensures.rows t x s lays found in
    rw (p.1, p.2)
    (rows_met t s c.args.caller x found c.args.pages.now c.told-pages c.in_ok-check_addresses.ensures.0 c.rows_at.result
    answer c.in_ok-rows.rows c.in_ok-rows.ensures.ok_part c.in_err-check_rows.field-0.0 c.in_err-check_rows.ensures)

pub returns-clause-tested : goal.returns-clause-tested
returns-clause-tested g c t x s lays found =
    let answer = c.rows_at.ensures.rows t x s lays found in
    let all = all_passed t s c.args.caller x found c.args.pages.now c.told-pages c.in_ok-check_addresses.ensures.0
    c.rows_at.result answer c.in_ok-rows.rows c.in_ok-rows.ensures.ok_part c.in_ok-check_rows.ensures.0 in
    (all.0, c.pairs_of.ensures ∙ all.1)
