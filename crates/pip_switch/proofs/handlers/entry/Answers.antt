use Rattle.std.proofs.Common.{◌+◌, ◌*◌, arith}
use Rattle.pip_switch.proofs.Blocking.{block_at_word, entry_crooked, entry_found, entry_late, entry_word, found_there}
use Rattle.pip_switch.proofs.Blocking.{no_entry, place_room, table_begins, table_there}
use Rattle.pip_switch.proofs.handlers.entry.Goals as goal

pub returns-in-Err-clause-entry : goal.returns-in-Err-clause-entry
returns-in-Err-clause-entry g c t x s laid found = no_entry t c.args.part c.args.vector c.args.access c.requires.vector
    c.translate.result (c.translate.ensures.reached t x s laid found) c.in-Err.field-0 c.in-Err.is

pub word-address-requires-clause-frame : goal.word-address-requires-clause-frame
word-address-requires-clause-frame g c =
    let k = c.requires.stands in
    let begins = table_begins c.args.vector c.requires.vector in
    let room = place_room k.tree _ c.args.part (0xfffff000 + 4 * c.args.vector) c.args.access k.node k.sound k.laid
    k.found begins (block_at_word c.in-Ok.found)
    (found_there k.tree c.args.part (0xfffff000 + 4 * c.args.vector) c.args.access begins c.translate.result
    (c.translate.ensures.reached k.tree k.node k.sound k.laid k.found) c.in-Ok.found c.in-Ok.is) in
    room.inside

pub returns-then-address-ne0-clause-entry : goal.returns-then-address-ne0-clause-entry
returns-then-address-ne0-clause-entry g c t x s laid found load = entry_crooked t c.args.part c.args.vector
    c.word-address.result
    (entry_word t c.args.part c.args.vector c.args.access c.requires.vector c.translate.result
    (c.translate.ensures.reached t x s laid found) c.in-Ok.found c.in-Ok.is _ x c.word-address.result s laid found
    c.requires.words c.word-address.ensures.word)
    c.if-address-ne0.true

pub returns-then-address-gt-LAST-clause-entry : goal.returns-then-address-gt-LAST-clause-entry
returns-then-address-gt-LAST-clause-entry g c t x s laid found load = entry_late t c.args.part c.args.vector
    c.word-address.result
    (entry_word t c.args.part c.args.vector c.args.access c.requires.vector c.translate.result
    (c.translate.ensures.reached t x s laid found) c.in-Ok.found c.in-Ok.is _ x c.word-address.result s laid found
    c.requires.words c.word-address.ensures.word)
    c.if-address-gt-LAST.true

pub returns-else-address-gt-LAST-clause-entry : goal.returns-else-address-gt-LAST-clause-entry
returns-else-address-gt-LAST-clause-entry g c t x s laid found = (
  entry_found t c.args.part c.args.vector c.word-address.result
      (entry_word t c.args.part c.args.vector c.args.access c.requires.vector c.translate.result
      (c.translate.ensures.reached t x s laid found) c.in-Ok.found c.in-Ok.is _ x c.word-address.result s laid found
      c.requires.words c.word-address.ensures.word)
      c.if-address-ne0.false (omega (arith, c.if-address-gt-LAST.false)),
  table_there t c.args.part c.args.vector c.args.access c.requires.vector c.translate.result
      (c.translate.ensures.reached t x s laid found) c.in-Ok.found c.in-Ok.is,
)
