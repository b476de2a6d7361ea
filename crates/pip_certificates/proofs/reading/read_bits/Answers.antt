use Rattle.std.proofs.Common.{rules, arith, ◌∙◌}
use Rattle.pip_io.proofs.Pacing.{paced_after}
use Rattle.pip_certificates.specs.PartReading.{HasNoFault, StopsText, part_seen}
use Rattle.pip_certificates.specs.PartText.{marks_from}
use Rattle.pip_certificates.proofs.TextSteps.{open_after, stops_after, takes_as}
use Rattle.pip_certificates.proofs.reading.read_bits.Goals as goal

pub read_chunk-requires-clause-paced : goal.read_chunk-requires-clause-paced
read_chunk-requires-clause-paced g c =
    let was = c.loop-left.invariant in
    let a = c.args in
    let u = marks_from (part_seen c.loop-left.part) c.loop-left.left c.loop-left.place in
    let t = marks_from (part_seen a.part.now) a.count a.at in
    let paced = paced_after g.S.Source.allows (HasNoFault t) (HasNoFault u) _ _ _ _
    (g.K.Sink.history a.joint.now.sink.now) was.taken.bytes
    was.no_faults was.taken.taken (open_after t u _ _ was.taken) c.requires.paced in
    rw was.sink paced

pub returns-in_err-read_chunk-clause-reads : goal.returns-in_err-read_chunk-clause-reads
returns-in_err-read_chunk-clause-reads g c =
    let was = c.loop-left.invariant in
    let a = c.args in
    let h : StopsText (marks_from (part_seen a.part.now) a.count a.at) (g.S.Source.history a.joint.now.source.now).left
    (g.S.Source.history c.read_chunk.new.joint.source.now).left (g.S.Source.history a.joint.now.source.now).faults
    (g.S.Source.history c.read_chunk.new.joint.source.now).faults c.in_err-read_chunk.field-0.0 =
    stops_after (marks_from (part_seen a.part.now) a.count a.at)
    (marks_from (part_seen c.loop-left.part) c.loop-left.left c.loop-left.place)
    _ _ _ _ _ _ _ was.no_faults was.taken c.in_err-read_chunk.ensures.reads in
    search rules

pub loop-left-preserved : goal.loop-left-preserved
loop-left-preserved g c =
    let was = c.loop-left.invariant in
    let now = c.in_ok-read_chunk.ensures in
    let a = c.args in
    let room = was.room in
    let few = was.few in
    let more = now.few in
    record {
      name = now.same_source ∙ was.name;
      sink = now.sink ∙ was.sink;
      is_open = now.is_open;
      no_faults = now.reads.1 ∙ was.no_faults;
      taken = takes_as (marks_from (part_seen a.part.now) a.count a.at)
          (marks_from (part_seen c.loop-left.part) c.loop-left.left c.loop-left.place)
          (marks_from (part_seen c.read_chunk.new.part)) _ _ _ _ _ _ _ was.taken now.reads.0
          (search (rules, arith)) (search (rules, arith));
      base = now.base ∙ was.base;
      way = now.way ∙ was.way;
      few = search (rules, arith);
      room = search (rules, arith);
    }
