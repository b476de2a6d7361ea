use Rattle.pip_commands.proofs.Lines.{in_cut, in_none, in_said, write_stops}
use Rattle.pip_commands.proofs.commands.script.line.run_event.Goals as goal

pub returns-in-None-clause-did : goal.returns-in-None-clause-did
returns-in-None-clause-did g c = λ w stands.
    let before = (g.K.Sink.history c.args.sink.now).written in
    in_none w _ c.args.line.now (g.met.P.Port.sound c.args.port.now w stands).1 before before
    (g.P.Port.stands c.answer_line.new.port) (c.in-None.ensures.replies w stands)

pub returns-in_ok-write_said-in-Some-clause-did : goal.returns-in_ok-write_said-in-Some-clause-did
returns-in_ok-write_said-in-Some-clause-did g c = λ w stands.
    let before = (g.K.Sink.history c.args.sink.now).written in
    let after = (g.K.Sink.history c.write_said.new.sink).written in
    in_said w _ c.args.line.now (g.met.P.Port.sound c.args.port.now w stands).1 before after
    (g.P.Port.stands c.answer_line.new.port) c.in-Some.said (c.in-Some.ensures.replies w stands)
    c.in_ok-write_said-in-Some.ensures.wrote

pub returns-in_err-write_said-in-Some-clause-did : goal.returns-in_err-write_said-in-Some-clause-did
returns-in_err-write_said-in-Some-clause-did g c = λ w stands.
    let before = (g.K.Sink.history c.args.sink.now).written in
    let after = (g.K.Sink.history c.write_said.new.sink).written in
    write_stops c.from_residual.result _ _ c.from_residual.ensures.1
    (in_cut w _ c.args.line.now (g.met.P.Port.sound c.args.port.now w stands).1 before after
    (g.P.Port.stands c.answer_line.new.port) c.in-Some.said (c.in-Some.ensures.replies w stands)
    c.in_err-write_said-in-Some.ensures.wrote)
