use Rattle.std.proofs.Common.{◌-◌}
use Rattle.pip_kern.specs.Boot.{HoldsRoot, pages_from}
use Rattle.pip_model.specs.Boot.{boot_root, first_user}
use Rattle.pip_kern.proofs.root.add_pages.Given as goal

-- the root has the rows of the pages so far
abbrev pub invariant-loop-f : goal.invariant-loop-f
invariant-loop-f g l = HoldsRoot l.n 1024 (first_user l.n) (boot_root l.n).tables
    (pages_from (first_user l.n) (l.f - l.first)) (g.M.Frames.memory l.mem)
