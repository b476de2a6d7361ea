use Rattle.std.proofs.Common.{◌≡◌, length, take}
use Rattle.pip_model.specs.Answers.{pair_frames}
use Rattle.pip_birth.specs.Newborn.{zero_frames}
use Rattle.pip_birth.proofs.newborn.zero_pages.Given as goal

-- the pages so far are zeroed
abbrev pub invariant-loop-page : goal.invariant-loop-page
invariant-loop-page g l = record {
  words : g.M.Frames.memory l.mem ≡ zero_frames (g.M.Frames.memory l.fn.mem) (pair_frames (take l.page-index l.pages));
  count : length (g.M.Frames.memory l.mem) ≡ length (g.M.Frames.memory l.fn.mem);
}
