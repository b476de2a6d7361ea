use Rattle.pip_kern.proofs.Climb.{part_node}
use Rattle.pip_test_tables.proofs.space.check_rows.Goals as goal

pub next_row-requires : goal.next_row-requires
next_row-requires g c = part_node (g.M.Frames.memory c.args.mem.now) c.args.root c.requires

pub next_row-requires-2 : goal.next_row-requires-2
next_row-requires-2 g c = part_node (g.M.Frames.memory c.args.mem.now) c.args.root c.requires
