use Rattle.pip_commands.proofs.commands.soak.soak.Goals as goal

pub returns : goal.returns
returns g c = record {
  ends = c.make_load.ensures.ends (g.S.Source.history c.args._source.now).left
      (g.S.Source.history c.args._source.now).faults;
}
