use Rattle.std.proofs.Common.{rules}
use Rattle.pip_cpu.proofs.Carrying.{load_moved}
use Rattle.pip_cpu.proofs.Working.{load_takes}
use Rattle.pip_cpu.proofs.carry.load.Goals as goal

pub returns : goal.returns
returns g c = record {
  acts = λ w h. load_moved _ _ _ w _ _ _ _ _ _ _ _ c.in_default.not-Word (c.load-outcome.ensures.event w h)
      c.write_moved.ensures.wrote;
  cause = search rules;
  count = search rules;
  work = load_takes _ c.args.at.t c.args.at.cpu _ _ c.args.register c.args.va c.args.size c.load-outcome.ensures.work;
}
