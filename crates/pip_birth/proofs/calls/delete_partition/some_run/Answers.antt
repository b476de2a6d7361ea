use Rattle.std.proofs.Common.{◌+◌}
use Rattle.std.proofs.lemmas.Bool.{both_ways}
use Rattle.pip_birth.proofs.DeletePartition.Tests.{climbed, climbed_all, item_named, item_stands, run_item, run_more}
use Rattle.pip_birth.proofs.DeletePartition.Tests.{run_none}
use Rattle.pip_birth.proofs.calls.delete_partition.some_run.Goals as goal

pub is_below-requires : goal.is_below-requires
is_below-requires g c = item_stands (g.M.Frames.memory c.args.mem.now) c.args.running.now c.requires
    c.loop-part.part-index c.part-item.result c.part-item.is c.loop-part-test.true

pub returns-then-is_below-clause-runs : goal.returns-then-is_below-clause-runs
returns-then-is_below-clause-runs g c t x s lays found =
    let y = item_named (g.M.Frames.memory c.args.mem.now) c.args.running.now c.requires c.loop-part.part-index
    c.part-item.result c.part-item.is c.loop-part-test.true t s lays in
    run_item (g.M.Frames.memory c.args.mem.now) c.args.running.now c.requires c.loop-part.part-index c.part-item.result
    c.part-item.is c.loop-part-test.true t s lays c.args.top x found
    ((c.is_below.ensures.below t y.0 s lays y.1).0 c.if-is_below.true)

pub loop-part-preserved : goal.loop-part-preserved
loop-part-preserved g c = record {
  none = λ t x s lays found.
      let y = item_named (g.M.Frames.memory c.args.mem.now) c.args.running.now c.requires c.loop-part.part-index
      c.part-item.result c.part-item.is c.loop-part-test.true t s lays in
      run_more t c.args.top c.loop-part.part-index c.part-item.result c.args.running.now c.part-item.is
      c.loop-part-test.true (c.loop-part.invariant.none t x s lays found)
      (λ chain. both_ways c.is_below.result c.if-is_below.false ((c.is_below.ensures.below t y.0 s lays y.1).1 chain));
  chains = λ t h.
      let y = item_named (g.M.Frames.memory c.args.mem.now) c.args.running.now c.requires c.loop-part.part-index
      c.part-item.result c.part-item.is c.loop-part-test.true t h.0 h.1 in
      climbed t c.args.running.now c.loop-part.part-index c.part-item.result c.part-item.is c.loop-part-test.true
      c.args.steps.now c.loop-part.steps c.is_below.new.steps (c.loop-part.invariant.chains t h)
      (c.is_below.ensures.chain t y.0 h.0 h.1 y.1);
}

pub returns-clause-runs : goal.returns-clause-runs
returns-clause-runs g c t x s lays found = run_none t c.args.top x s found c.args.running.now c.loop-part.part-index
    c.loop-part-test.false (c.loop-part.invariant.none t x s lays found)

pub returns-then-is_below-clause-chains : goal.returns-then-is_below-clause-chains
returns-then-is_below-clause-chains g c t h =
    let y = item_named (g.M.Frames.memory c.args.mem.now) c.args.running.now c.requires c.loop-part.part-index
    c.part-item.result c.part-item.is c.loop-part-test.true t h.0 h.1 in
    climbed_all t c.args.running.now (c.loop-part.part-index + 1) c.args.steps.now c.is_below.new.steps
    (climbed t c.args.running.now c.loop-part.part-index c.part-item.result c.part-item.is c.loop-part-test.true
    c.args.steps.now c.loop-part.steps c.is_below.new.steps (c.loop-part.invariant.chains t h)
    (c.is_below.ensures.chain t y.0 h.0 h.1 y.1))

pub returns-clause-chains : goal.returns-clause-chains
returns-clause-chains g c t h =
    climbed_all t c.args.running.now c.loop-part.part-index c.args.steps.now c.loop-part.steps
    (c.loop-part.invariant.chains t h)
