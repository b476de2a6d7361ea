use Rattle.pip_kern.proofs.RootFilled.{root_stands}
use Rattle.pip_test_kernel.proofs.mmu.check_rights.Goals as goal

pub loop-rights-init : goal.loop-rights-init
loop-rights-init g c =
    let bounds = g.met.M.Frames.bounds c.args.mem.now in
    root_stands _ bounds.0 bounds.1 (g.M.Frames.memory c.boot.new.mem) c.boot.ensures.layout c.new-root.result
    c.new-root.ensures
