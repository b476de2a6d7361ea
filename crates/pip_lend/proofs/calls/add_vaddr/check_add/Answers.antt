use Rattle.std.proofs.Common.{◌∙◌, refl, sym, Some, None}
use Rattle.std.proofs.lemmas.Result.{err_from_is_err_and}
use Rattle.pip_base.specs.declared.outcome.Status.TheVariants as S
use Rattle.pip_space.specs.Rows.{full_of}
use Rattle.pip_kern.proofs.Calls.{looked_up, missing_status, named_child}
use Rattle.pip_lend.proofs.AddVAddr.Tests.{add_misnamed, loan_is, page_met, room_decides, row_missing}
use Rattle.pip_lend.proofs.calls.add_vaddr.check_add.Goals as goal

pub returns-in_err-child-clause-tested : goal.returns-in_err-child-clause-tested
returns-in_err-child-clause-tested g c t x s lays found =
    let p = err_from_is_err_and c.from_residual.result c.from_residual.ensures.1 in
    rw (p.1, p.2) (add_misnamed t c.args.caller c.args.v c.args.d c.args.cv c.args.rights c.in_err-child.field-0.0
    (c.in_err-child.ensures.child t x s lays found))

pub returns-in_err-row-clause-tested : goal.returns-in_err-row-clause-tested
returns-in_err-row-clause-tested g c t x s lays found =
    let p = err_from_is_err_and c.from_residual-in_err-row.result c.from_residual-in_err-row.ensures.1 in
    let none = c.in_err-row.ensures.ok_part in
    let tested = c.in_ok-child.ensures.child t x s lays found in
    let child = named_child t s c.args.caller c.args.d c.in_ok-child.child tested.1 in
    rw (p.1, p.2, missing_status c.row_at.result c.in_err-row.field-0.0 S.NotMapped none c.in_err-row.ensures.value)
    (row_missing t s c.args.caller x found c.args.v c.args.d c.args.cv c.args.rights tested.0 child.0 child.1
    (looked_up full_of c.row_at.result None _ (c.row_at.ensures.row t x s lays found) none))

pub returns-in_err-rights-clause-tested : goal.returns-in_err-rights-clause-tested
returns-in_err-rights-clause-tested g c t x s lays found =
    let p = err_from_is_err_and c.from_residual-in_err-rights.result c.from_residual-in_err-rights.ensures.1 in
    let tested = c.in_ok-child.ensures.child t x s lays found in
    let child = named_child t s c.args.caller c.args.d c.in_ok-child.child tested.1 in
    rw (p.1, p.2)
    (page_met t s c.args.caller x found c.args.v c.args.d c.args.cv c.args.rights tested.0 child.0 child.1
    (full_of c.in_ok-row.row) (looked_up full_of c.row_at.result (Some c.in_ok-row.row) _ (c.row_at.ensures.row t x s
    lays found) c.in_ok-row.ensures.ok_part) c.in_err-rights.field-0.0 c.in_err-rights.ensures)

pub returns-in_err-check_room-clause-tested : goal.returns-in_err-check_room-clause-tested
returns-in_err-check_room-clause-tested g c t x s lays found =
    let p = err_from_is_err_and c.from_residual-in_err-check_room.result c.from_residual-in_err-check_room.ensures.1 in
    let tested = c.in_ok-child.ensures.child t x s lays found in
    let child = named_child t s c.args.caller c.args.d c.in_ok-child.child tested.1 in
    rw (p.1, p.2)
    (room_decides t s c.args.caller x found c.args.v c.args.d c.args.cv c.args.rights tested.0 child.0 child.1
    (full_of c.in_ok-row.row) (looked_up full_of c.row_at.result (Some c.in_ok-row.row) _
    (c.row_at.ensures.row t x s lays found) c.in_ok-row.ensures.ok_part) c.in_ok-rights.ensures.0
    ∙ c.in_err-check_room.ensures.tested t child.0 s lays child.3)

pub returns-clause-tested : goal.returns-clause-tested
returns-clause-tested g c t x s lays found =
    let tested = c.in_ok-child.ensures.child t x s lays found in
    let child = named_child t s c.args.caller c.args.d c.in_ok-child.child tested.1 in
    let row = looked_up full_of c.row_at.result (Some c.in_ok-row.row) _ (c.row_at.ensures.row t x s lays found)
    c.in_ok-row.ensures.ok_part in (
      room_decides t s c.args.caller x found c.args.v c.args.d c.args.cv c.args.rights tested.0 child.0 child.1
          (full_of c.in_ok-row.row) row c.in_ok-rights.ensures.0
          ∙ (c.in_ok-check_room.ensures.tested t child.0 s lays child.3).0,
      loan_is t s c.args.caller x found c.args.v c.args.d c.args.cv c.args.rights tested.0 child.0 child.1
          (full_of c.in_ok-row.row) row _ c.of_address.ensures refl c.of_address-2.ensures (sym child.2)
          c.of_address-3.ensures c.in_ok-rights.ensures.1,
    )
