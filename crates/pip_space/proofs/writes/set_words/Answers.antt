use Rattle.std.proofs.Common.{◌<◌, ◌^◌, arith}
use Rattle.pip_model.specs.FullRows.{cells_of}
use Rattle.pip_model.proofs.Nodes.Writes.{OthersStay-trans}
use Rattle.pip_space.proofs.Tables.{room_table, words_put}
use Rattle.pip_space.proofs.writes.set_words.Goals as goal

pub returns-clause-rows : goal.returns-clause-rows
returns-clause-rows g c x rows r space name packed word given from =
    let small : c.args.v < 2 ^ 20 = omega arith in
    let one = c.set_level_word.ensures.node x (cells_of rows) space.node name in
    let two = c.set_level_word-2.ensures.node x _ one.0 name in
    let three = c.set_level_word-3.ensures.node x _ two.0 name in
    words_put _ _ x rows space c.args.v r packed small
    (room_table _ c.args.part c.args.v small c.requires x (cells_of rows) space.node name)
    c.args.word c.args.given c.args.from word given from three.0

pub returns-clause-others : goal.returns-clause-others
returns-clause-others g c x cells node name =
    let one = c.set_level_word.ensures.node x cells node name in
    let two = c.set_level_word-2.ensures.node x _ one.0 name in
    let three = c.set_level_word-3.ensures.node x _ two.0 name in
    OthersStay-trans x _ _ _ (OthersStay-trans x _ _ _ one.1 two.1) three.1
