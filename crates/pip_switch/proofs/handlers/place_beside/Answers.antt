use Rattle.std.proofs.Common.{◌%◌, ◌/◌, arith}
use Rattle.pip_switch.proofs.Blocking.{beside_there, block_at_word, place_room}
use Rattle.pip_switch.proofs.handlers.place_beside.Goals as goal

pub returns-then-at-ge-TABLE-clause-place : goal.returns-then-at-ge-TABLE-clause-place
returns-then-at-ge-TABLE-clause-place g c t x s laid found = beside_there t c.args.part c.args.at c.args.page
    c.args.access c.requires.begins (omega (arith, c.if-at-ge-TABLE.true)) (c.requires.table t x s laid found)

pub returns-then-at-ge-TABLE-clause-room : goal.returns-then-at-ge-TABLE-clause-room
returns-then-at-ge-TABLE-clause-room g c =
    let k = c.requires.stands in
    place_room k.tree _ c.args.part c.args.at c.args.access k.node k.sound k.laid k.found c.requires.begins
    (block_at_word (c.args.page, c.args.at % 4096 / 4))
    (beside_there k.tree c.args.part c.args.at c.args.page c.args.access c.requires.begins
    (omega (arith, c.if-at-ge-TABLE.true)) (c.requires.table k.tree k.node k.sound k.laid k.found))
