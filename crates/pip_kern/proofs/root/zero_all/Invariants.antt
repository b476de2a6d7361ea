use Rattle.std.proofs.Common.{◌≡◌, length}
use Rattle.pip_kern.proofs.RootAlone.{AreZero}
use Rattle.pip_kern.proofs.root.zero_all.Given as goal

-- the frames so far hold zeros
abbrev pub invariant-loop-f : goal.invariant-loop-f
invariant-loop-f g l = record {
  count : length (g.M.Frames.memory l.mem) ≡ length (g.M.Frames.memory l.fn.mem);
  end : l.f-end ≡ length (g.M.Frames.memory l.fn.mem);
  zero : AreZero (g.M.Frames.memory l.mem) l.f;
}
