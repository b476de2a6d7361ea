use Rattle.pip_lend.proofs.RemoveVAddr.Writes.{lender_place, remove-lays, taken_place}
use Rattle.pip_lend.proofs.calls.remove_vaddr.take_back.Goals as goal

pub unmap-requires : goal.unmap-requires
unmap-requires g c = taken_place c.requires.tree c.args.caller c.args.recall.now c.requires.can
    (g.M.Frames.memory c.args.mem.now) c.requires.laid

pub set_given-requires-clause-row : goal.set_given-requires-clause-row
set_given-requires-clause-row g c =
    lender_place c.requires.tree c.args.caller c.args.recall.now c.requires.can (g.M.Frames.memory c.args.mem.now)
    c.requires.laid (g.M.Frames.memory c.unmap.new.mem) c.unmap.ensures.rows c.unmap.ensures.others

pub returns-clause-tree : goal.returns-clause-tree
returns-clause-tree g c t can lays =
    remove-lays t c.args.caller c.args.recall.now can (g.M.Frames.memory c.args.mem.now) lays
    (g.M.Frames.memory c.unmap.new.mem) c.unmap.ensures.rows c.unmap.ensures.others
    (g.M.Frames.memory c.set_given.new.mem) c.set_given.ensures.rows c.set_given.ensures.others
