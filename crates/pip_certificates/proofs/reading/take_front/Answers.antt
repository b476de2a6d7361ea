use Rattle.std.proofs.Common.{rules, arith, ◌≡◌, ◌<◌, ◌+◌, ap, length, take}
use Rattle.std.proofs.lemmas.List.{length-take-le}
use Rattle.pip_certificates.specs.declared.faults.PartKind.TheVariants.{Short}
use Rattle.pip_certificates.proofs.reading.take_front.Goals as goal

pub returns-in-Ok-2-clause-front : goal.returns-in-Ok-2-clause-front
returns-in-Ok-2-clause-front g c =
    let n = c.in-Ok-2.count in
    let buf = c.fill.new.buf in
    let f = c.in-Ok-2.ensures.filled in
    let size : length (take n buf) ≡ n = length-take-le n buf f.count in
    let few : length (take n buf) < length c.args.buf.now = search (rules, arith) in
    let more : n < length buf = search (rules, arith) in (
      record { bytes = take n buf; taken = f.taken; few = few },
      ap (λ k. record { kind = Short; at = c.args.at + k }) (search rules),
      f.ended more,
      c.in-Ok-2.ensures.cause.no_faults,
    )
