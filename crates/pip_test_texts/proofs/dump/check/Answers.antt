use Rattle.pip_model.proofs.Frames.ControlLays.{root_stands}
use Rattle.pip_model.proofs.Trees.Boot.{boot-sound}
use Rattle.pip_test_texts.proofs.dump.check.Goals as goal

pub tree_text-requires : goal.tree_text-requires
tree_text-requires g c =
    let bounds = g.met.M.Frames.bounds c.args.mem.now in
    root_stands _ (boot-sound _ bounds.0 bounds.1) (g.M.Frames.memory c.boot.new.mem) c.boot.ensures.layout

pub tree_text-requires-2 : goal.tree_text-requires-2
tree_text-requires-2 g c =
    let bounds = g.met.M.Frames.bounds c.args.mem.now in
    root_stands _ (boot-sound _ bounds.0 bounds.1) (g.M.Frames.memory c.boot.new.mem) c.boot.ensures.layout

pub totals-requires : goal.totals-requires
totals-requires g c =
    let bounds = g.met.M.Frames.bounds c.args.mem.now in
    root_stands _ (boot-sound _ bounds.0 bounds.1) (g.M.Frames.memory c.boot.new.mem) c.boot.ensures.layout
