use Rattle.std.proofs.Common.{rules}
use Rattle.pip_lines.proofs.Raising.{raised_one, raised_within}
use Rattle.pip_lines.proofs.raise.raise_due.Goals as goal

pub loop-line-preserved : goal.loop-line-preserved
loop-line-preserved g c = record {
  acts = λ w h. raised_one (g.P.Port.stands c.loop-line.port) (g.P.Port.stands c.raise_one.new.port) w _ _ _ _
      c.loop-line-test.true c.line-item.is (c.loop-line.invariant.acts w h) c.raise_one.ensures.acts;
  work = λ w h. raised_within w _ _ _ _ c.loop-line-test.true c.line-item.is _ _ _ (c.loop-line.invariant.work w h)
      (c.raise_one.ensures.work _ (c.loop-line.invariant.acts w h));
  count = search rules;
}
