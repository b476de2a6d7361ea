use Rattle.std.proofs.Common.{rules}
use Rattle.pip_cpu.proofs.Carrying.{store_moved}
use Rattle.pip_cpu.proofs.Working.{store_takes}
use Rattle.pip_cpu.proofs.carry.store.Goals as goal

pub returns : goal.returns
returns g c = record {
  acts = λ w h. store_moved _ _ _ w _ _ _ _ _ _ _ _ c.in_default.not-Done (c.store-outcome.ensures.event w h)
      c.write_moved.ensures.wrote;
  cause = search rules;
  count = search rules;
  work = store_takes _ c.args.at.t c.args.at.cpu _ _ c.args.va c.args.word c.args.size c.store-outcome.ensures.work;
}
