use Rattle.std.proofs.Common.{length, ◌+◌, ◌*◌}
use Rattle.pip_model.specs.Booting.{tables_begin}
use Rattle.pip_kern.specs.Boot.{HoldsRoot, no_rows}
use Rattle.pip_kern.proofs.root.add_tables.Given as goal

-- the root has that many tables
abbrev pub invariant-loop-k : goal.invariant-loop-k
invariant-loop-k g l = HoldsRoot (length (g.M.Frames.memory l.fn.mem)) (l.k + 1) (6 + 3 * l.k) (tables_begin l.k 1 6)
    no_rows (g.M.Frames.memory l.mem)
