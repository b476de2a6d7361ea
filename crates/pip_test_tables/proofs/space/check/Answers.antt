use Rattle.pip_kern.proofs.RootFilled.{root_stands}
use Rattle.pip_test_tables.proofs.space.check.Goals as goal

pub check_rows-requires : goal.check_rows-requires
check_rows-requires g c =
    let bounds = g.met.M.Frames.bounds c.args.mem.now in
    root_stands _ bounds.0 bounds.1 (g.M.Frames.memory c.boot.new.mem) c.boot.ensures.layout c.new.result c.new.ensures
