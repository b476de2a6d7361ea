use Rattle.std.proofs.Common.{length}
use Rattle.pip_search.proofs.Placed.{none_placed}
use Rattle.pip_search.proofs.hash_table.place_all.Goals as goal

pub loop-at-init : goal.loop-at-init
loop-at-init c = record {
  sized = c.requires.sized;
  room = c.requires.room;
  have = none_placed c.args.hashes.now c.args.cells.now (length c.args.cells.now) c.requires.none;
}
