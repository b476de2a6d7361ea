use Rattle.pip_switch.proofs.Blocking.{block_at_word, fault_nowhere, found_there, place_room}
use Rattle.pip_switch.proofs.handlers.place.Goals as goal

pub returns-in-Err-clause-place : goal.returns-in-Err-clause-place
returns-in-Err-clause-place g c t x s laid found = fault_nowhere t c.args.part c.args.at c.args.access c.requires.begins
    c.translate.result (c.translate.ensures.reached t x s laid found) c.in-Err.field-0 c.in-Err.is

pub returns-in-Ok-clause-place : goal.returns-in-Ok-clause-place
returns-in-Ok-clause-place g c t x s laid found = found_there t c.args.part c.args.at c.args.access c.requires.begins
    c.translate.result (c.translate.ensures.reached t x s laid found) c.in-Ok.found c.in-Ok.is

pub returns-in-Ok-clause-room : goal.returns-in-Ok-clause-room
returns-in-Ok-clause-room g c =
    let k = c.requires.stands in
    place_room k.tree _ c.args.part c.args.at c.args.access k.node k.sound k.laid k.found c.requires.begins
    (block_at_word c.in-Ok.found)
    (found_there k.tree c.args.part c.args.at c.args.access c.requires.begins c.translate.result
    (c.translate.ensures.reached k.tree k.node k.sound k.laid k.found) c.in-Ok.found c.in-Ok.is)
