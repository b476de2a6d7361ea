use Rattle.pip_kern.proofs.Taking.{page_taken, take_can_free, take_can_show, takes_in}
use Rattle.pip_kern.proofs.pages.take_page.Goals as goal

pub show-requires : goal.show-requires
show-requires g c = take_can_show (g.M.Frames.memory c.args.mem.now) c.args.caller c.args.v c.requires

pub set_given-requires-clause-row : goal.set_given-requires-clause-row
set_given-requires-clause-row g c = take_can_free (g.M.Frames.memory c.args.mem.now) (g.M.Frames.memory c.show.new.mem)
    c.args.caller c.args.v c.requires c.show.ensures.user

pub returns-clause-taken : goal.returns-clause-taken
returns-clause-taken g c t rows gs f can k =
    page_taken t c.args.caller c.args.v f can rows gs (g.M.Frames.memory c.args.mem.now) k
    (g.M.Frames.memory c.show.new.mem) c.show.ensures.user (g.M.Frames.memory c.set_given.new.mem)
    c.set_given.ensures.rows c.set_given.ensures.others

pub returns-clause-chain : goal.returns-clause-chain
returns-clause-chain g c = takes_in (g.M.Frames.memory c.args.mem.now) c.args.caller c.args.v _ c.show.new.steps _
    c.show.ensures.chain c.set_given.ensures.steps
