use Rattle.std.proofs.Common.{[], refl, ◌∙◌, arith}
use Rattle.pip_soak.proofs.Made.{midway_first, midway_last, midway_more}
use Rattle.pip_soak.proofs.load.soak_load.Goals as goal

pub loop-i-init : goal.loop-i-init
loop-i-init g c = record {
  processors = refl;
  midway = midway_first _ _ c.args.count c.args.seed _ _ (omega arith) c.new-generator.ensures;
}

pub loop-i-preserved : goal.loop-i-preserved
loop-i-preserved g c = record {
  processors = c.make_step.ensures.count ∙ c.loop-i.invariant.processors;
  midway = midway_more _ _ _ _ _ _ c.loop-i._i c.args.count _ _ c.args.seed c.draw_step-step.result c.loop-i-test.true
      c.loop-i.invariant.midway c.draw_step-step.ensures.drawn c.make_step.ensures.makes;
}

pub returns-clause-counts : goal.returns-clause-counts
returns-clause-counts g c w stands =
    let (makes, few) = midway_last _ _ _ _ c.loop-i._i c.args.count c.loop-i.generator c.args.seed c.loop-i-test.false
    c.loop-i.invariant.midway in
    let room = c.requires.count in
    makes.counts _ [] (c.make_stores.ensures.worlds w stands) (omega (arith, few, room)) c.new-counts.ensures
