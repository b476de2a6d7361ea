use Rattle.std.proofs.Common.{None, Some, Err, subst, sym, ap}
use Rattle.pip_command_contracts.specs.Machines.{StandsIfAny}
use Rattle.pip_commands.proofs.Settled.{did_after, not_read}
use Rattle.pip_commands.proofs.Turns.{ended_calm, err_same, ends_newline, goes_on}
use Rattle.pip_commands.proofs.commands.script.turn.run_turn.Goals as goal

pub returns-in-Ok-ran-clause-does : goal.returns-in-Ok-ran-clause-does
returns-in-Ok-ran-clause-does g c =
    let line = c.in-Ok.ensures.does in
    did_after _ _ _ line.taken line.no_faults.writes None _ _ _ _ _ _ (
      record { reads = line.no_faults.reads; writes = c.in-Ok-ran.ensures.no_faults (λ e. cc) },
      λ v stands. goes_on v _ _ _ _ _ _ c.in-Ok.count c.head.result.now c.head.ensures line.kept c.take.new.self
          line.holds c.take.ensures.bytes c.take.ensures.room
          (c.in-Ok-ran.ensures.did v (subst (λ m. StandsIfAny m v) (sym line.same) stands)),
    )

pub returns-in-Err-ran-clause-does : goal.returns-in-Err-ran-clause-does
returns-in-Err-ran-clause-does g c =
    let line = c.in-Ok.ensures.does in
    let run = c.in-Err-ran in
    let names = c.end_at.ensures.names in
    did_after _ _ _ line.taken line.no_faults.writes (Some c.end_at.result) _ _ _ _ c.take.new.self _ (
      record {
        reads = λ not. line.no_faults.reads;
        writes = ended_calm run.stop c.end_at.result c.args.number _ _ _ names
            (λ not. run.ensures.no_faults (λ is. not (err_same is))) c.end_at.ensures.no_faults;
      },
      λ v stands. ends_newline v _ _ _ _ _ _ c.in-Ok.count c.head.result.now c.head.ensures line.kept _ _
          run.stop c.end_at.result (λ not. run.ensures.no_faults (λ is. not (err_same is)))
          (λ is. run.ensures.write (ap Err is))
          (run.ensures.did v (subst (λ m. StandsIfAny m v) (sym line.same) stands)) names line.holds,
    )

pub returns-in-Err-ran-clause-none : goal.returns-in-Err-ran-clause-none
returns-in-Err-ran-clause-none g c =
    λ is. absurd (not_read c.in-Err-ran.stop c.end_at.result c.args.number _ _ c.end_at.ensures.names is)
