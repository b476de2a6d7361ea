use Rattle.pip_birth.proofs.CreatePartition.Writes.{newborn_written}
use Rattle.pip_birth.proofs.newborn.write_newborn.Goals as goal

pub returns-clause-node : goal.returns-clause-node
returns-clause-node g c b base =
    newborn_written (g.M.Frames.memory c.args.mem.now) (g.M.Frames.memory c.zero_pages.new.mem)
    (g.M.Frames.memory c.set_descriptor.new.mem) c.args.base.now c.index-base-0.result c.args.up
    (g.met.M.Frames.bounds c.args.mem.now).1 c.requires c.zero_pages.ensures.words c.set_descriptor.ensures.words b base
