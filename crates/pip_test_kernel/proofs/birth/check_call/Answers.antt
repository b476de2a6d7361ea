use Rattle.pip_model.specs.Answers.{five_of}
use Rattle.pip_birth.proofs.CreatePartition.Call.{create-stands}
use Rattle.pip_test_kernel.proofs.birth.check_call.Goals as goal

pub returns : goal.returns
returns g c =
    let s = c.requires in
    create-stands (g.M.Frames.memory c.args.mem.now) (g.M.Frames.memory c.create_partition.new.mem) c.args.caller s
    (five_of c.args.pages.now) (c.create_partition.ensures.does.tree s.tree s.node s.sound s.laid s.found)
