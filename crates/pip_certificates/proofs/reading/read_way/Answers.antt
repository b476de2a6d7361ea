use Rattle.std.proofs.Common.{rules, arith, ◌+◌, ◌-◌, ◌∙◌}
use Rattle.std.specs.Prelude.{Some}
use Rattle.pip_io.proofs.Pacing.{paced_after}
use Rattle.pip_certificates.specs.PartReading.{HasNoFault, StopsText, part_seen}
use Rattle.pip_certificates.specs.PartText.{runs_from, runs_said}
use Rattle.pip_certificates.proofs.TextSteps.{open_after, stops_after, takes_then}
use Rattle.pip_certificates.proofs.reading.read_way.Goals as goal

pub next_run-requires-clause-paced : goal.next_run-requires-clause-paced
next_run-requires-clause-paced g c =
    let was = c.loop-left.invariant in
    let a = c.args in
    let u = runs_from a.limits (part_seen c.loop-left.part) c.loop-left.last c.loop-left.left c.loop-left.place in
    let t = runs_said a.limits (part_seen a.part.now) a.at in
    let paced = paced_after g.S.Source.allows (HasNoFault t) (HasNoFault u) _ _ _ _
    (g.K.Sink.history a.joint.now.sink.now) was.taken.bytes
    was.no_faults was.taken.taken (open_after t u _ _ was.taken) c.requires.paced in
    rw was.sink paced

pub returns-in_err-choice-clause-reads : goal.returns-in_err-choice-clause-reads
returns-in_err-choice-clause-reads g c =
    let was = c.loop-left.invariant in
    let a = c.args in
    let h : StopsText (runs_said a.limits (part_seen a.part.now) a.at) (g.S.Source.history a.joint.now.source.now).left
    (g.S.Source.history c.next_run.new.joint.source.now).left (g.S.Source.history a.joint.now.source.now).faults
    (g.S.Source.history c.next_run.new.joint.source.now).faults c.in_err-choice.field-0.0 =
    stops_after (runs_said a.limits (part_seen a.part.now) a.at)
    (runs_from a.limits (part_seen c.loop-left.part) c.loop-left.last c.loop-left.left c.loop-left.place)
    _ _ _ _ _ _ _ was.no_faults was.taken c.in_err-choice.ensures.reads in
    search rules

pub loop-left-preserved : goal.loop-left-preserved
loop-left-preserved g c =
    let was = c.loop-left.invariant in
    let now = c.in_ok-choice.ensures in
    let a = c.args in
    let room = was.room in
    record {
      name = now.same_source ∙ was.name;
      sink = now.sink ∙ was.sink;
      is_open = now.is_open;
      no_faults = now.reads.1 ∙ was.no_faults;
      taken = takes_then (runs_said a.limits (part_seen a.part.now) a.at)
          (runs_from a.limits (part_seen c.loop-left.part) c.loop-left.last c.loop-left.left c.loop-left.place)
          (runs_from a.limits (part_seen c.next_run.new.part) (Some c.in_ok-choice.choice) (c.loop-left.left - 1)
          (c.loop-left.place + 8)) _ _ _ was.taken now.reads.0;
      base = now.base ∙ was.base;
      short = now.short;
      can = now.can;
      marks = now.marks ∙ was.marks;
      room = search (rules, arith);
    }
