use Rattle.std.proofs.Common.{rules}
use Rattle.pip_io.proofs.Piecewise.{wrote_after}
use Rattle.pip_certificates.proofs.commands.merge.answers.write_two.Goals as goal

pub returns : goal.returns
returns g c = record {
  wrote = wrote_after _ _ _ c.args.first.now c.args.second.now c.write_all-2.result c.in_ok-write_all.ensures.whole
      c.write_all-2.ensures.whole c.write_all-2.ensures.prefix;
  cause = search rules;
}
