use Rattle.std.proofs.Common.{◌∙◌}
use Rattle.pip_birth.proofs.DeletePartition.Writes.Pages.{pages_below}
use Rattle.pip_birth.proofs.ending.clear_pages.Goals as goal

pub zero_pages-requires : goal.zero_pages-requires
zero_pages-requires g c = pages_below c.requires.tree c.args.caller c.args.pages.now c.requires.each
    (g.M.Frames.memory c.take_pages.new.mem) (c.take_pages.ensures.count ∙ c.requires.midway.count)

pub returns-clause-cleared : goal.returns-clause-cleared
returns-clause-cleared g c t rows gs each k = record {
  between = g.M.Frames.memory c.take_pages.new.mem;
  taken = c.take_pages.ensures.taken t rows gs each k;
  zeroed = c.zero_pages.ensures.words;
}
