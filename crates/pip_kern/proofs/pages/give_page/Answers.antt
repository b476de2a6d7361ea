use Rattle.pip_entry.specs.Sh1.{packed_sh1}
use Rattle.pip_kern.proofs.Giving.{give_can_hide, give_can_name, give_gives, gives_in}
use Rattle.pip_kern.proofs.pages.give_page.Goals as goal

pub hide-requires : goal.hide-requires
hide-requires g c =
    give_can_hide (g.M.Frames.memory c.args.mem.now) c.args.caller c.args.v (packed_sh1 c.args.given) c.requires.can

pub set_given-requires-clause-row : goal.set_given-requires-clause-row
set_given-requires-clause-row g c = give_can_name (g.M.Frames.memory c.args.mem.now) (g.M.Frames.memory c.hide.new.mem)
    c.args.caller c.args.v (packed_sh1 c.args.given) c.requires.can c.hide.ensures.user

pub returns-clause-given : goal.returns-clause-given
returns-clause-given g c t y gs f can up k =
    give_gives (g.M.Frames.memory c.args.mem.now) (g.M.Frames.memory c.hide.new.mem)
    (g.M.Frames.memory c.set_given.new.mem) c.args.caller c.args.v (packed_sh1 c.args.given) t y gs f can up k
    c.hide.ensures.user c.set_given.ensures.rows c.set_given.ensures.others

pub returns-clause-chain : goal.returns-clause-chain
returns-clause-chain g c =
    gives_in (g.M.Frames.memory c.args.mem.now) c.args.caller c.args.v (packed_sh1 c.args.given) _ c.hide.new.steps _
    c.hide.ensures.chain c.set_given.ensures.steps
