use Rattle.pip_commands.proofs.Lines.{runs_blank}
use Rattle.pip_commands.proofs.commands.script.line.run_line.Goals as goal

pub returns-then-is_blank-clause-did : goal.returns-then-is_blank-clause-did
returns-then-is_blank-clause-did g c = λ v stands. runs_blank v c.args.line.now
    (g.K.Sink.history c.args.sink.now).written
    c.args.machine.now stands (c.is_blank.ensures.yes c.if-is_blank.true)
