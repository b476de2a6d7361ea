use Rattle.std.proofs.Common.{true, false}
use Rattle.std.proofs.lemmas.Result.{err_from_is_err_and}
use Rattle.pip_birth.proofs.DeletePartition.Tests.{child_refused, tested_run}
use Rattle.pip_birth.proofs.calls.delete_partition.check_delete.Goals as goal

pub returns-in_err-child-clause-tested : goal.returns-in_err-child-clause-tested
returns-in_err-child-clause-tested g c t x s lays found =
    let p = err_from_is_err_and c.from_residual.result c.from_residual.ensures.1 in
    rw (p.1, p.2) (child_refused t c.args.running.now c.args.caller c.args.d c.in_err-child.field-0.0
    (c.in_err-child.ensures.child t x s lays found))

pub returns-then-some_run-clause-tested : goal.returns-then-some_run-clause-tested
returns-then-some_run-clause-tested g c t x s lays found =
    let child = c.in_ok-child.ensures.child t x s lays found in
    tested_run (g.M.Frames.memory c.args.mem.now) t c.args.running.now c.args.caller c.args.d c.in_ok-child.child true s
    lays child.0 child.1 c.if-some_run.ensures.runs

pub returns-clause-tested : goal.returns-clause-tested
returns-clause-tested g c t x s lays found =
    let child = c.in_ok-child.ensures.child t x s lays found in (
      tested_run (g.M.Frames.memory c.args.mem.now) t c.args.running.now c.args.caller c.args.d c.in_ok-child.child
          false
          s lays child.0 child.1 c.if-some_run.ensures.runs,
      child.1,
    )
