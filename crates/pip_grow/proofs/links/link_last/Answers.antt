use Rattle.pip_grow.proofs.CollectTable.Links.{last_in}
use Rattle.pip_grow.proofs.links.link_last.Goals as goal

pub set_link-requires : goal.set_link-requires
set_link-requires g c = last_in (g.M.Frames.memory c.args.mem.now) c.args.last c.in-Some.page c.in-Some.is c.requires
