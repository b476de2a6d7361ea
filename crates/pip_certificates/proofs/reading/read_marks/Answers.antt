use Rattle.std.proofs.Common.{rules, arith, ◌+◌, ◌∙◌, sym, subst}
use Rattle.pip_io.specs.Moments.{beside}
use Rattle.pip_io.proofs.Pacing.{paced_after}
use Rattle.pip_certificates.specs.PartReading.{HasNoFault, StopsText, TakesText, part_seen}
use Rattle.pip_certificates.specs.PartText.{marks_from, marks_said}
use Rattle.pip_certificates.proofs.Bits.{marks_front}
use Rattle.pip_certificates.proofs.TextSteps.{both_after, ends_stop, open_after, stops_after, takes_then}
use Rattle.pip_certificates.proofs.reading.read_marks.Goals as goal

pub read_bits-requires-clause-paced : goal.read_bits-requires-clause-paced
read_bits-requires-clause-paced g c =
    let a = c.args in
    let p = part_seen a.part.now in
    let t = marks_said p a.at in
    let u = marks_from p c.number-count.result (a.at + 4) in
    let taken : TakesText t u (g.S.Source.history a.joint.now.source.now).left
    (g.S.Source.history c.take_front.new.joint.source.now).left = marks_front p a.at c.number-count.result
    c.take_front.new.buf _ _
    c.in_ok-take_front.ensures.size c.in_ok-take_front.ensures.front.0 c.number-count.ensures
    (search (rules, arith)) in
    let paced = paced_after g.S.Source.allows (HasNoFault t) (HasNoFault u) _ _ _ _
    (g.K.Sink.history a.joint.now.sink.now) taken.bytes
    c.in_ok-take_front.ensures.front.1 taken.taken (open_after t u _ _ taken) c.requires.paced in
    rw c.in_ok-take_front.ensures.sink paced

pub returns-in_err-place-clause-reads : goal.returns-in_err-place-clause-reads
returns-in_err-place-clause-reads g c =
    let a = c.args in
    let p = part_seen a.part.now in
    let t = marks_said p a.at in
    let u = marks_from p c.number-count.result (a.at + 4) in
    let taken : TakesText t u (g.S.Source.history a.joint.now.source.now).left
    (g.S.Source.history c.take_front.new.joint.source.now).left = marks_front p a.at c.number-count.result
    c.take_front.new.buf _ _
    c.in_ok-take_front.ensures.size c.in_ok-take_front.ensures.front.0 c.number-count.ensures
    (search (rules, arith)) in
    let h : StopsText t (g.S.Source.history a.joint.now.source.now).left
    (g.S.Source.history c.read_bits.new.joint.source.now).left (g.S.Source.history a.joint.now.source.now).faults
    (g.S.Source.history c.read_bits.new.joint.source.now).faults c.in_err-place.field-0.0 =
    stops_after t u _ _ _ _ _ _ _ c.in_ok-take_front.ensures.front.1 taken c.in_err-place.ensures.reads in
    search rules

pub end_text-requires-clause-allowed : goal.end_text-requires-clause-allowed
end_text-requires-clause-allowed g c =
    let a = c.args in
    let p = part_seen a.part.now in
    let t = marks_said p a.at in
    let u = marks_from p c.number-count.result (a.at + 4) in
    let v = marks_from (part_seen c.read_bits.new.part) 0 c.in_ok-place.place in
    let first : TakesText t u (g.S.Source.history a.joint.now.source.now).left
    (g.S.Source.history c.take_front.new.joint.source.now).left = marks_front p a.at c.number-count.result
    c.take_front.new.buf _ _
    c.in_ok-take_front.ensures.size c.in_ok-take_front.ensures.front.0 c.number-count.ensures
    (search (rules, arith)) in
    let taken = takes_then t u v _ _ _ first c.in_ok-place.ensures.reads.0 in
    let no_faults = c.in_ok-place.ensures.reads.1 ∙ c.in_ok-take_front.ensures.front.1 in
    let sink = c.in_ok-place.ensures.sink ∙ c.in_ok-take_front.ensures.sink in
    let allowed = c.requires.paced taken.bytes _ taken.taken (ends_stop t v _ _ taken tt) in
    rw sink (subst (λ n. g.S.Source.allows (beside (g.S.Source.history c.read_bits.new.joint.source.now).left n
    (g.K.Sink.history a.joint.now.sink.now))) (sym no_faults) allowed)

pub returns-clause-reads : goal.returns-clause-reads
returns-clause-reads g c =
    let a = c.args in
    let p = part_seen a.part.now in
    let t = marks_said p a.at in
    let u = marks_from p c.number-count.result (a.at + 4) in
    let q = part_seen c.read_bits.new.part in
    let v = marks_from q 0 c.in_ok-place.place in
    let first : TakesText t u (g.S.Source.history a.joint.now.source.now).left
    (g.S.Source.history c.take_front.new.joint.source.now).left = marks_front p a.at c.number-count.result
    c.take_front.new.buf _ _
    c.in_ok-take_front.ensures.size c.in_ok-take_front.ensures.front.0 c.number-count.ensures
    (search (rules, arith)) in
    both_after t v _ _ _ _ _ _ q c.end_text.result
    (c.in_ok-place.ensures.reads.1 ∙ c.in_ok-take_front.ensures.front.1)
    (takes_then t u v _ _ _ first c.in_ok-place.ensures.reads.0) (c.end_text.ensures.reads q)
