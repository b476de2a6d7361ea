use Rattle.pip_commands.proofs.Lines.{first_boot, first_cut, first_memory, memory_stops, write_stops}
use Rattle.pip_commands.proofs.commands.script.line.boot.Goals as goal

pub returns-clause-did : goal.returns-clause-did
returns-clause-did g c line meaning =
    let n = c.args.n in
    let before = (g.K.Sink.history c.args.sink.now).written in
    let after = (g.K.Sink.history c.write_said.new.sink).written in
    first_boot line before after n c.args.c meaning c.in_ok-new_machine.field-0 c.in_ok-new_machine.ensures.stands
    c.in_ok-write_said.ensures.wrote

pub returns-in_err-write_said-clause-did : goal.returns-in_err-write_said-clause-did
returns-in_err-write_said-clause-did g c line meaning =
    let before = (g.K.Sink.history c.args.sink.now).written in
    let after = (g.K.Sink.history c.write_said.new.sink).written in
    write_stops c.from_residual-in_err-write_said.result _ _ c.from_residual-in_err-write_said.ensures.1
    (first_cut line before after c.args.n c.args.c meaning
    c.in_err-write_said.ensures.wrote)

pub returns-in_err-new_machine-clause-did : goal.returns-in_err-new_machine-clause-did
returns-in_err-new_machine-clause-did g c line meaning =
    memory_stops c.from_residual.result _ _ c.from_residual.ensures.1
    (first_memory line (g.K.Sink.history c.args.sink.now).written c.args.n c.args.c meaning)
