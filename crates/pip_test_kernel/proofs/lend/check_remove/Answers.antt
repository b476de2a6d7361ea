use Rattle.std.proofs.Common.{get_or}
use Rattle.pip_lend.proofs.RemoveVAddr.Call.{remove-stands}
use Rattle.pip_test_kernel.proofs.lend.check_remove.Goals as goal

pub returns : goal.returns
returns g c =
    let s = c.requires in
    let xs = c.args.call.now in
    remove-stands (g.M.Frames.memory c.args.mem.now) (g.M.Frames.memory c.remove_vaddr.new.mem) c.args.caller
    (get_or xs 0 0) (get_or xs 1 0) s (c.remove_vaddr.ensures.does.tree s.tree s.node s.sound s.laid s.found)
