use Rattle.std.proofs.Common.{◌∙◌, sym, Some, None}
use Rattle.std.proofs.lemmas.Result.{err_from_is_err_and}
use Rattle.pip_base.specs.declared.outcome.Status.TheVariants as S
use Rattle.pip_space.specs.Rows.{full_of}
use Rattle.pip_kern.proofs.Calls.{looked_up, missing_status, named_child}
use Rattle.pip_lend.proofs.RemoveVAddr.Tests.{comes_from, page_unused, page_used, recall_is, remove_misnamed}
use Rattle.pip_lend.proofs.RemoveVAddr.Tests.{row_absent}
use Rattle.pip_lend.proofs.calls.remove_vaddr.check_remove.Goals as goal

pub returns-in_err-child-clause-tested : goal.returns-in_err-child-clause-tested
returns-in_err-child-clause-tested g c t x s lays found =
    let p = err_from_is_err_and c.from_residual.result c.from_residual.ensures.1 in
    rw (p.1, p.2) (remove_misnamed t c.args.caller c.args.d c.args.cv c.in_err-child.field-0.0
    (c.in_err-child.ensures.child t x s lays found))

pub returns-in_err-row-clause-tested : goal.returns-in_err-row-clause-tested
returns-in_err-row-clause-tested g c t x s lays found =
    let p = err_from_is_err_and c.from_residual-in_err-row.result c.from_residual-in_err-row.ensures.1 in
    let none = c.in_err-row.ensures.ok_part in
    let tested = c.in_ok-child.ensures.child t x s lays found in
    let child = named_child t s c.args.caller c.args.d c.in_ok-child.child tested.1 in
    let read = c.row_at.ensures.row t child.0 s lays child.3 in
    rw (p.1, p.2, missing_status c.row_at.result c.in_err-row.field-0.0 S.Absent none c.in_err-row.ensures.value)
    (row_absent t s c.args.caller c.args.d c.args.cv tested.0 child.0 child.1
    (looked_up full_of c.row_at.result None _ read none))

pub returns-then-not-is_free-clause-tested : goal.returns-then-not-is_free-clause-tested
returns-then-not-is_free-clause-tested g c t x s lays found =
    let tested = c.in_ok-child.ensures.child t x s lays found in
    let child = named_child t s c.args.caller c.args.d c.in_ok-child.child tested.1 in
    let read = c.row_at.ensures.row t child.0 s lays child.3 in
    page_used t s c.args.caller c.args.d c.args.cv tested.0 child.0 child.1 (full_of c.in_ok-row.row)
    (looked_up full_of c.row_at.result (Some c.in_ok-row.row) _ read c.in_ok-row.ensures.ok_part)
    (sym c.is_free.ensures ∙ c.if-not-is_free.true)

pub place_above-requires : goal.place_above-requires
place_above-requires g c =
    let r = c.requires in
    let tested = c.in_ok-child.ensures.child r.tree r.node r.sound r.laid r.found in
    let child = named_child r.tree r.sound c.args.caller c.args.d c.in_ok-child.child tested.1 in
    let read = c.row_at.ensures.row r.tree child.0 r.sound r.laid child.3 in
    comes_from r.tree r.sound c.args.caller c.args.d c.args.cv tested.0 child.0 child.1 (full_of c.in_ok-row.row)
    (looked_up full_of c.row_at.result (Some c.in_ok-row.row) _ read c.in_ok-row.ensures.ok_part)

pub returns-clause-tested : goal.returns-clause-tested
returns-clause-tested g c t x s lays found =
    let tested = c.in_ok-child.ensures.child t x s lays found in
    let child = named_child t s c.args.caller c.args.d c.in_ok-child.child tested.1 in
    let read = c.row_at.ensures.row t child.0 s lays child.3 in
    let row = looked_up full_of c.row_at.result (Some c.in_ok-row.row) _ read c.in_ok-row.ensures.ok_part in (
      page_unused t s c.args.caller c.args.d c.args.cv tested.0 child.0 child.1 (full_of c.in_ok-row.row) row
          (sym c.is_free.ensures ∙ c.if-not-is_free.false),
      recall_is t s c.args.caller c.args.d c.args.cv tested.0 child.0 child.1 (full_of c.in_ok-row.row) row _
          (sym child.2) c.of_address.ensures c.place_above.ensures,
    )
