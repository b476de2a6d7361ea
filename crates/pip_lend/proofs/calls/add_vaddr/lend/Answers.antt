use Rattle.pip_lend.proofs.AddVAddr.Writes.{born_some, add-lays, lent_packed, lent_place, lent_room}
use Rattle.pip_lend.proofs.calls.add_vaddr.lend.Goals as goal

pub map-requires-clause-room : goal.map-requires-clause-room
map-requires-clause-room g c = lent_room c.requires.tree c.args.caller c.args.loan.now c.requires.can
    (g.M.Frames.memory c.args.mem.now) c.requires.laid

pub map-requires-clause-row : goal.map-requires-clause-row
map-requires-clause-row g c = lent_packed c.requires.tree c.args.caller c.args.loan.now c.requires.can

pub set_given-requires-clause-row : goal.set_given-requires-clause-row
set_given-requires-clause-row g c =
    lent_place c.requires.tree c.args.caller c.args.loan.now c.requires.can (g.M.Frames.memory c.args.mem.now)
    c.requires.laid (g.M.Frames.memory c.map.new.mem) c.map.ensures.rows c.map.ensures.others

pub set_given-requires-clause-given : goal.set_given-requires-clause-given
set_given-requires-clause-given g c = born_some c.requires.tree c.args.caller c.args.loan.now c.requires.can

pub returns-clause-tree : goal.returns-clause-tree
returns-clause-tree g c t can lays =
    add-lays t c.args.caller c.args.loan.now can (g.M.Frames.memory c.args.mem.now) lays
    (g.M.Frames.memory c.map.new.mem) c.map.ensures.rows c.map.ensures.others
    (g.M.Frames.memory c.set_given.new.mem) c.set_given.ensures.rows c.set_given.ensures.others
