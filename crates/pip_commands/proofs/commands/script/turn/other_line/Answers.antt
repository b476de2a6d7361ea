use Rattle.std.proofs.Common.{Some, Err, subst, ap, refl}
use Rattle.pip_script.specs.Lines.{HoldsLine, still}
use Rattle.pip_commands.specs.declared.commands.script.line.ScriptLineError.TheVariants.{Bad}
use Rattle.pip_commands.specs.declared.commands.script.turn.End.TheVariants.{Finished, Limit}
use Rattle.pip_io.proofs.Taken.{Keeps-refl}
use Rattle.pip_commands.proofs.Settled.{ends_settled, has_no_line, no_line_none, not_read}
use Rattle.pip_commands.proofs.Turns.{ended_calm, err_end, err_same, ends_empty, ends_last, ends_long, has_finished}
use Rattle.pip_commands.proofs.Turns.{overruns}
use Rattle.pip_commands.proofs.commands.script.turn.other_line.Goals as goal

pub returns-in-Ok-Newline-clause-does : goal.returns-in-Ok-Newline-clause-does
returns-in-Ok-Newline-clause-does g c =
    let line = c.in-Ok-Newline.ensures.line in
    record {
      holds = subst (HoldsLine (still c.args.input.now) c.next_line.new.input
          (g.S.Source.history c.next_line.new.joint.source.now).left)
          c.in-Ok-Newline.field-0-is line.0;
      kept = c.next_line.ensures.kept;
      taken = c.next_line.ensures.taken;
      no_faults = record { reads = line.1; writes = line.2 };
      same = refl;
    }

pub returns-in-Err-clause-does : goal.returns-in-Err-clause-does
returns-in-Err-clause-does g c =
    has_no_line c.in-Err.end _ _ c.args.number _ _ _ _ c.next_line.ensures.kept c.next_line.ensures.taken
    c.in-Err.ensures.line

pub returns-in-Err-clause-none : goal.returns-in-Err-clause-none
returns-in-Err-clause-none g c = λ is. no_line_none c.in-Err.end _ _ _ _ c.in-Err.ensures.line (ap Some (err_end is))

pub returns-in-Ok-clause-does : goal.returns-in-Ok-clause-does
returns-in-Ok-clause-does g c =
    ends_settled _ _ _ _ _ Finished c.in-Ok-Last.field-0-is c.in-Ok-Last.ensures.line c.next_line.ensures.taken
    (λ not. c.in-Ok.ensures.no_faults (λ e. cc))
    (λ holds v stands. has_finished v _ _ _ _ _ _ c.in-Ok-Last.count c.head.result.now c.head.ensures
    c.next_line.ensures.kept holds (c.in-Ok.ensures.did v stands))

pub returns-in-Err-run_line-clause-does : goal.returns-in-Err-run_line-clause-does
returns-in-Err-run_line-clause-does g c =
    let run = c.in-Err-run_line in
    let names = c.end_at.ensures.names in
    ends_settled _ _ _ _ _ c.end_at.result c.in-Ok-Last.field-0-is c.in-Ok-Last.ensures.line c.next_line.ensures.taken
    (ended_calm run.stop c.end_at.result c.args.number _ _ _ names
    (λ not. run.ensures.no_faults (λ is. not (err_same is))) c.end_at.ensures.no_faults)
    (λ holds v stands. ends_last v _ _ _ _ _ _ c.in-Ok-Last.count c.head.result.now c.head.ensures
    c.next_line.ensures.kept _ _ run.stop c.end_at.result (λ not. run.ensures.no_faults (λ is. not (err_same is)))
    (λ is. run.ensures.write (ap Err is)) (run.ensures.did v stands) names holds)

pub returns-in-Err-run_line-clause-none : goal.returns-in-Err-run_line-clause-none
returns-in-Err-run_line-clause-none g c = λ is. absurd (not_read c.in-Err-run_line.stop c.end_at.result c.args.number _
    _ c.end_at.ensures.names (ap Some (err_end is)))

pub returns-in-Ok-End-clause-does : goal.returns-in-Ok-End-clause-does
returns-in-Ok-End-clause-does g c =
    ends_settled _ _ _ _ _ Finished c.in-Ok-End.field-0-is c.in-Ok-End.ensures.line c.next_line.ensures.taken
    (λ not. refl) (λ holds v stands. ends_empty v _ _ _ _ _ _ c.next_line.ensures.kept holds (Keeps-refl _) stands)

pub returns-in-Ok-TooLong-clause-does : goal.returns-in-Ok-TooLong-clause-does
returns-in-Ok-TooLong-clause-does g c =
    let names = c.end_at-in-Ok-TooLong.ensures.names in
    ends_settled _ _ _ _ _ c.end_at-in-Ok-TooLong.result c.in-Ok-TooLong.field-0-is c.in-Ok-TooLong.ensures.line
    c.next_line.ensures.taken (ended_calm Bad c.end_at-in-Ok-TooLong.result c.args.number _ _ _
    names (λ not. refl) c.end_at-in-Ok-TooLong.ensures.no_faults)
    (λ holds v stands. ends_long v _ _ _ _ _ _ c.end_at-in-Ok-TooLong.result c.next_line.ensures.kept holds names)

pub returns-in-Ok-TooLong-clause-none : goal.returns-in-Ok-TooLong-clause-none
returns-in-Ok-TooLong-clause-none g c = λ is. absurd (not_read Bad c.end_at-in-Ok-TooLong.result c.args.number _ _
    c.end_at-in-Ok-TooLong.ensures.names (ap Some (err_end is)))

pub returns-in-Ok-Over-clause-does : goal.returns-in-Ok-Over-clause-does
returns-in-Ok-Over-clause-does g c =
    ends_settled _ c.args.machine.now c.args.number _ _ Limit c.in-Ok-Over.field-0-is c.in-Ok-Over.ensures.line
    c.next_line.ensures.taken (λ not. refl)
    (λ holds v stands. overruns _ _ _ _ c.next_line.ensures.kept holds (Keeps-refl _))
