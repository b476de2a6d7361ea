use Rattle.std.proofs.Common.{Some}
use Rattle.pip_space.specs.Rows.{full_of}
use Rattle.pip_space.proofs.writes.map.Goals as goal

pub returns-clause-rows : goal.returns-clause-rows
returns-clause-rows g c x rows space name =
    c.set_words.ensures.rows x rows (Some (full_of c.args.row.now)) space name c.requires.row c.pack_leaf-word.ensures
    c.pack_sh1-given.ensures c.pack_sh2-from.ensures
