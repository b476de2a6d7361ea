use Rattle.pip_kern.proofs.RootFilled.{root_stands}
use Rattle.pip_test_kernel.proofs.kern.check.Goals as goal

pub soil-requires : goal.soil-requires
soil-requires g c = (g.met.M.Frames.bounds c.args.mem.now).0

pub check_root-requires : goal.check_root-requires
check_root-requires g c =
    let bounds = g.met.M.Frames.bounds c.soil.new.mem in
    root_stands _ bounds.0 bounds.1 (g.M.Frames.memory c.boot.new.mem) c.boot.ensures.layout c.new.result c.new.ensures
