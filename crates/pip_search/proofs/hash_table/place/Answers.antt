use Rattle.std.proofs.Common.{◌+◌, arith, get_or}
use Rattle.pip_search.proofs.Placed.{one_more, tag_low}
use Rattle.pip_search.proofs.hash_table.place.Goals as goal

pub overflow_add-cells : goal.overflow_add-cells
overflow_add-cells c =
    omega (arith, tag_low c.args.cells.now (get_or c.args.hashes.now c.args.at 0) c.requires.sized)

pub overflow_add-cells-2 : goal.overflow_add-cells-2
overflow_add-cells-2 c =
    omega (arith, tag_low c.args.cells.now (get_or c.args.hashes.now c.args.at 0) c.requires.sized)

pub returns : goal.returns
returns c = record {
  have = one_more c.args.hashes.now c.args.cells.now c.args.at c.empty_cell-cell.result
      (c.tag.result + c.args.at + 1) c.empty_cell-cell.ensures.low c.empty_cell-cell.ensures.empty
      (rw c.tag.ensures)
      (λ x low passes. c.empty_cell-cell.ensures.full x low
      (rw c.home.ensures.home passes)) c.requires.have;
}
