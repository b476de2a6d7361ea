use Rattle.std.proofs.Common.{◌∙◌}
use Rattle.pip_birth.proofs.CreatePartition.Writes.{page_zeroed}
use Rattle.pip_birth.proofs.newborn.zero_pages.Goals as goal

pub loop-page-preserved : goal.loop-page-preserved
loop-page-preserved g c = record {
  words = page_zeroed (g.M.Frames.memory c.args.mem.now) (g.M.Frames.memory c.loop-page.mem)
      (g.M.Frames.memory c.zero.new.self) c.args.pages.now c.loop-page.page-index c.page-item.result
      c.loop-page-test.true c.page-item.is
      c.loop-page.invariant.words c.zero.ensures.words;
  count = c.zero.ensures.count ∙ c.loop-page.invariant.count;
}
