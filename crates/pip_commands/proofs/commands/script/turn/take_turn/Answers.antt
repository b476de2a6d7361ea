use Rattle.pip_commands.proofs.Settled.{none_held, turn_settled}
use Rattle.pip_commands.proofs.commands.script.turn.take_turn.Goals as goal
use Rattle.pip_io.specs.Moments.{joined}

pub returns-in-Some-clause-does : goal.returns-in-Some-clause-does
returns-in-Some-clause-does g c =
    turn_settled (joined g.S.Source.history g.K.Sink.history c.args.joint.now)
    (joined g.S.Source.history g.K.Sink.history
    c.run_turn.new.joint) (g.K.Sink.history c.settle_end.new.sink).written
    (g.K.Sink.history c.settle_end.new.sink).faults c.args.machine.now c.run_turn.new.machine c.args.number
    c.args.input.now
    c.run_turn.new.input
    c.in-Some.end c.settle_end.result c.in-Some.ensures.does c.settle_end.ensures

pub returns-in-Some-clause-none : goal.returns-in-Some-clause-none
returns-in-Some-clause-none g c =
    λ not. none_held c.in-Some.end c.settle_end.result _ _ c.in-Some.ensures.none c.settle_end.ensures not
