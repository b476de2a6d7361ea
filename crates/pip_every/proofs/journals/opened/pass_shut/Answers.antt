-- The places that are passed are shut.
use Rattle.std.proofs.Common.{arith, refl}
use Rattle.pip_every.proofs.Shut.{passed_shut}
use Rattle.pip_every.proofs.journals.opened.pass_shut.Goals as goal

pub loop-at-preserved : goal.loop-at-preserved
loop-at-preserved c = record {
  low = omega (arith, c.loop-at.invariant.low);
  high = omega (arith, c.loop-at.invariant.high, c.loop-at-test.true);
  shut = passed_shut c.args.opened.now _ c.args.from c.loop-at.at _ (omega arith) refl
      (c.are_shut.ensures c.if-are_shut.true) c.loop-at.invariant.shut;
}
