use Rattle.std.proofs.Common.{rules}
use Rattle.pip_certificates.specs.PartReading.{StopsText, part_seen}
use Rattle.pip_certificates.specs.PartText.{marks_from}
use Rattle.pip_certificates.proofs.Bits.{chunk_open, chunk_stops}
use Rattle.pip_certificates.proofs.reading.read_chunk.Goals as goal

pub take_front-requires-clause-paced : goal.take_front-requires-clause-paced
take_front-requires-clause-paced g c = λ bytes left taken few.
    c.requires.paced bytes left taken
    (chunk_open (part_seen c.args.part.now) c.args.left c.args.at _ c.requires.least bytes few)

pub returns-in_err-take_front-clause-reads : goal.returns-in_err-take_front-clause-reads
returns-in_err-take_front-clause-reads g c =
    let a = c.args in
    let h : StopsText (marks_from (part_seen a.part.now) a.left a.at) (g.S.Source.history a.joint.now.source.now).left
    (g.S.Source.history c.take_front.new.joint.source.now).left (g.S.Source.history a.joint.now.source.now).faults
    (g.S.Source.history c.take_front.new.joint.source.now).faults c.in_err-take_front.field-0.0 =
    chunk_stops (part_seen a.part.now) a.left a.at _ c.requires.least _ _ _ _ _ c.in_err-take_front.ensures.front in
    search rules
