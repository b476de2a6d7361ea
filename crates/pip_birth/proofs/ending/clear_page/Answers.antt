use Rattle.pip_birth.proofs.DeletePartition.Writes.Clearing.{config_can, config_ends, config_in, config_inside}
use Rattle.pip_birth.proofs.DeletePartition.Writes.Clearing.{leaves_there}
use Rattle.pip_birth.proofs.ending.clear_page.Goals as goal

pub word-page-requires-clause-frame : goal.word-page-requires-clause-frame
word-page-requires-clause-frame g c =
    leaves_there (g.M.Frames.memory c.args.mem.now) c.args.caller c.args.leaves c.args.v c.requires

pub take_page-requires : goal.take_page-requires
take_page-requires g c = config_can (g.M.Frames.memory c.args.mem.now) c.args.caller c.args.leaves c.args.v c.requires

pub zero-requires : goal.zero-requires
zero-requires g c = config_inside (g.M.Frames.memory c.args.mem.now) (g.M.Frames.memory c.take_page.new.mem)
    c.args.caller c.args.leaves c.args.v c.number.result c.word-page.result c.new.result c.requires
    c.number.ensures.same c.word-page.ensures.word c.new.ensures c.take_page.ensures.count

pub returns-clause-ended : goal.returns-clause-ended
returns-clause-ended g c = config_ends (g.M.Frames.memory c.args.mem.now) (g.M.Frames.memory c.take_page.new.mem)
    (g.M.Frames.memory c.zero.new.self) c.args.caller c.args.leaves c.args.v c.number.result c.word-page.result
    c.new.result c.number.ensures.same c.word-page.ensures.word c.new.ensures c.take_page.ensures.taken
    c.zero.ensures.words

pub returns-clause-steps : goal.returns-clause-steps
returns-clause-steps g c = config_in (g.M.Frames.memory c.args.mem.now) c.args.caller c.args.leaves c.args.v _
    c.word-page.new.steps _ c.word-page.ensures.step c.take_page.ensures.chain
