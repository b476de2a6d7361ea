use Rattle.std.proofs.Common.{◌≡◌, ◌+◌, ◌*◌, ◌≤◌, length, take}
use Rattle.pip_model.specs.Answers.{pair_frames}
use Rattle.pip_kern.specs.Giving.{GivesFurtherPages, GivesPagesIn}
use Rattle.pip_kern.proofs.pages.give_pages.Given as goal

-- the pages so far are given
abbrev pub invariant-loop-page : goal.invariant-loop-page
invariant-loop-page g l = record {
  count : length (g.M.Frames.memory l.mem) ≡ length (g.M.Frames.memory l.fn.mem);
  given : GivesFurtherPages l.caller l.born l.pages (pair_frames (take l.page-index l.pages))
      (g.M.Frames.memory l.fn.mem) (g.M.Frames.memory l.mem);
  steps : l.steps ≤ l.fn.steps + l.page-index * (7 * length (g.M.Frames.memory l.fn.mem) + 2);
  chain : GivesPagesIn l.caller l.born l.pages l.page-index (g.M.Frames.memory l.fn.mem) l.fn.steps l.steps;
}
