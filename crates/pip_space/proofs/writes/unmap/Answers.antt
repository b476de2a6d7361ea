use Rattle.std.proofs.Common.{None, refl}
use Rattle.pip_space.proofs.Tables.{room_of}
use Rattle.pip_space.proofs.writes.unmap.Goals as goal

pub set_words-requires : goal.set_words-requires
set_words-requires g c = room_of _ c.args.part c.args.v c.requires

pub returns-clause-rows : goal.returns-clause-rows
returns-clause-rows g c x rows space name = c.set_words.ensures.rows x rows None space name tt refl refl refl
