use Rattle.std.proofs.Common.{◌∙◌, sym}
use Rattle.pip_kern.proofs.Climb.{part_node}
use Rattle.pip_model.specs.FullRows.{cells_of, full_rows}
use Rattle.pip_model.specs.Tree.{vpage}
use Rattle.pip_model.proofs.Frames.Laid.{laid_space}
use Rattle.pip_model.proofs.Trees.Lookup.{found_name}
use Rattle.pip_space.proofs.Tables.{has_table_found}
use Rattle.pip_lend.proofs.calls.add_vaddr.has_table_at.Goals as goal

pub has_table-requires-clause-node : goal.has_table-requires-clause-node
has_table-requires-clause-node g c = part_node (g.M.Frames.memory c.args.mem.now) c.args.part c.requires

pub returns-clause-table : goal.returns-clause-table
returns-clause-table g c t y s lays found =
    c.has_table.ensures.table y (cells_of (full_rows t y)) (laid_space t s (g.M.Frames.memory c.args.mem.now) lays
    c.args.part y found).node (found_name t c.args.part y found)
    ∙ sym (has_table_found y (vpage c.args.va))
