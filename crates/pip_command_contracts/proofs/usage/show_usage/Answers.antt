use Rattle.pip_command_contracts.proofs.Unknown.{usage_ends}
use Rattle.pip_command_contracts.proofs.usage.show_usage.Goals as goal

pub returns : goal.returns
returns g c = record {
  ends = usage_ends c.args.usage.now c.end_with.result.status c.end_with.result.machine
      (g.S.Source.history c.args._source.now).left
      (g.S.Source.history c.args._source.now).faults
      (g.K.Sink.history c.args.sink.now).written (g.K.Sink.history c.end_with.new.sink).written
      (g.K.Sink.history c.args.sink.now).faults
      (g.K.Sink.history c.end_with.new.sink).faults c.requires c.end_with.ensures.none c.end_with.ensures.no_faults
      c.end_with.ensures.flushed
      c.end_with.ensures.wrote;
}
