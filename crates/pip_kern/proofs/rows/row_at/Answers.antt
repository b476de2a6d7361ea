use Rattle.std.proofs.Common.{ap, ◌∙◌}
use Rattle.pip_model.specs.FullRows.{full_rows}
use Rattle.pip_model.proofs.Frames.Laid.{laid_space}
use Rattle.pip_model.proofs.Trees.Lookup.{found_name}
use Rattle.pip_kern.proofs.Climb.{part_node}
use Rattle.pip_kern.proofs.rows.row_at.Goals as goal

pub look-requires : goal.look-requires
look-requires g c = part_node (g.M.Frames.memory c.args.mem.now) c.args.part c.requires

pub returns-clause-row : goal.returns-clause-row
returns-clause-row g c t x s lays found =
    c.look.ensures.row x (full_rows t x) (laid_space t s (g.M.Frames.memory c.args.mem.now) lays c.args.part x found)
    (found_name t c.args.part x found)
    ∙ ap (full_rows t x) c.of_address.ensures
