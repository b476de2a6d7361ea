use Rattle.std.proofs.Common.{sym, subst}
use Rattle.pip_birth.specs.Deleting.{HasPartitions}
use Rattle.pip_birth.proofs.DeletePartition.Call.{caller_runs_four, delete-stands}
use Rattle.pip_test_kernel.proofs.birth.check_delete.Goals as goal

pub delete_partition-requires-clause-running : goal.delete_partition-requires-clause-running
delete_partition-requires-clause-running g c = subst (HasPartitions (g.M.Frames.memory c.args.mem.now))
    (sym c.from-running.ensures.0) (caller_runs_four (g.M.Frames.memory c.args.mem.now) c.args.caller c.requires)

pub returns : goal.returns
returns g c =
    let s = c.requires in
    delete-stands (g.M.Frames.memory c.args.mem.now) (g.M.Frames.memory c.delete_partition.new.mem) c.args.caller s
    c.from-running.result.items c.args.d (c.delete_partition.ensures.does.tree s.tree s.node s.sound s.laid s.found)
