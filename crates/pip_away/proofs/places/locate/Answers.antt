use Rattle.std.proofs.Common.{◌∙◌, arith, sym}
use Rattle.pip_away.proofs.Reading.{crooked_access, located_err, located_frame, located_index, located_ok}
use Rattle.pip_away.proofs.places.locate.Goals as goal

pub returns-then-is_misaligned-clause-place : goal.returns-then-is_misaligned-clause-place
returns-then-is_misaligned-clause-place g c t x s laid found = crooked_access t c.args.part c.args.va c.args.access
    c.args.size (sym c.is_misaligned.ensures ∙ c.if-is_misaligned.true)

pub returns-in-Ok-clause-place : goal.returns-in-Ok-clause-place
returns-in-Ok-clause-place g c t x s laid found = located_ok t c.args.part c.args.va c.args.access c.args.size
    (sym c.is_misaligned.ensures ∙ c.if-is_misaligned.false) c.translate.result
    (c.translate.ensures.reached t x s laid found) c.in-Ok.found c.in-Ok.is

pub returns-in-Ok-clause-inside : goal.returns-in-Ok-clause-inside
returns-in-Ok-clause-inside g c =
    let k = c.requires in
    let e = located_ok k.tree c.args.part c.args.va c.args.access c.args.size
    (sym c.is_misaligned.ensures ∙ c.if-is_misaligned.false) c.translate.result
    (c.translate.ensures.reached k.tree k.node k.sound k.laid k.found) c.in-Ok.found c.in-Ok.is in
    let low = located_frame k.tree k.sound c.args.part c.args.va c.args.access c.args.size k.node k.found
    c.in-Ok.found e in
    let count = k.laid.count in
    omega (arith, low, count)

pub returns-in-Ok-clause-index : goal.returns-in-Ok-clause-index
returns-in-Ok-clause-index g c =
    let k = c.requires in
    let e = located_ok k.tree c.args.part c.args.va c.args.access c.args.size
    (sym c.is_misaligned.ensures ∙ c.if-is_misaligned.false) c.translate.result
    (c.translate.ensures.reached k.tree k.node k.sound k.laid k.found) c.in-Ok.found c.in-Ok.is in
    located_index k.tree k.sound c.args.part c.args.va c.args.access c.args.size k.node k.found c.in-Ok.found e

pub returns-in-Err-clause-place : goal.returns-in-Err-clause-place
returns-in-Err-clause-place g c t x s laid found = located_err t c.args.part c.args.va c.args.access c.args.size
    (sym c.is_misaligned.ensures ∙ c.if-is_misaligned.false) c.translate.result
    (c.translate.ensures.reached t x s laid found) c.in-Err.fault c.in-Err.is
