use Rattle.pip_entry.specs.Sh1.{packed_sh1}
use Rattle.pip_model.specs.declared.level.Level.TheVariants.{Shadow1}
use Rattle.pip_model.specs.FullRows.{cells_of}
use Rattle.pip_space.proofs.Packed.{given_packed}
use Rattle.pip_space.proofs.Tables.{given_word, room_of, row_put, with_given}
use Rattle.pip_space.proofs.writes.set_given.Goals as goal

pub set_level_word-requires : goal.set_level_word-requires
set_level_word-requires g c = room_of _ c.args.part c.args.v c.requires.row

pub returns-clause-rows : goal.returns-clause-rows
returns-clause-rows g c x rows r space name at =
    let new = packed_sh1 c.args.given in
    row_put _ _ x rows space c.args.v Shadow1 r (record r { given = new }) c.pack_sh1.result at
    (with_given r new (space.packed c.args.v r at) (given_packed c.args.given c.requires.given))
    (given_word r new) c.pack_sh1.ensures (c.set_level_word.ensures.node x (cells_of rows) space.node name).0

pub returns-clause-others : goal.returns-clause-others
returns-clause-others g c x cells node name = (c.set_level_word.ensures.node x cells node name).1
