use Rattle.pip_kern.proofs.RootFilled.{root_stands}
use Rattle.pip_test_kernel.proofs.grow.check.Goals as goal

pub check_step-requires : goal.check_step-requires
check_step-requires g c =
    let bounds = g.met.M.Frames.bounds c.args.mem.now in
    root_stands _ bounds.0 bounds.1 (g.M.Frames.memory c.boot.new.mem) c.boot.ensures.layout c.new-root.result
    c.new-root.ensures
