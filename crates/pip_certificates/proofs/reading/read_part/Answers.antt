use Rattle.std.proofs.Common.{rules, ◌<◌, ◌∙◌, ap, sym, subst}
use Rattle.std.proofs.lemmas.List.Elements.{All-nil}
use Rattle.std.specs.List.{All}
use Rattle.pip_io.proofs.Pacing.{paced_after}
use Rattle.pip_certificates.specs.PartReading.{HasNoFault, StopsText, TakesText, part_seen}
use Rattle.pip_certificates.specs.PartText.{marks_said, part_said, runs_said}
use Rattle.pip_certificates.proofs.TextSteps.{ends_after, open_after, stops_after, takes_then}
use Rattle.pip_certificates.proofs.reading.read_part.Goals as goal

pub read_way-requires-clause-paced : goal.read_way-requires-clause-paced
read_way-requires-clause-paced g c =
    let a = c.args in
    let t = part_said a.limits a.at in
    let u = runs_said a.limits (part_seen c.read_base.new.part) c.in_ok-at.at in
    let taken : TakesText t u (g.S.Source.history a.joint.now.source.now).left
    (g.S.Source.history c.read_base.new.joint.source.now).left = rw c.new-part.ensures at c.in_ok-at.ensures.reads.0 in
    let paced = paced_after g.S.Source.allows (HasNoFault t) (HasNoFault u) _ _ _ _
    (g.K.Sink.history a.joint.now.sink.now) taken.bytes
    c.in_ok-at.ensures.reads.1 taken.taken (open_after t u _ _ taken) c.requires.paced in
    rw c.in_ok-at.ensures.sink paced

pub returns-in_err-at-2-clause-reads : goal.returns-in_err-at-2-clause-reads
returns-in_err-at-2-clause-reads g c =
    let a = c.args in
    let t = part_said a.limits a.at in
    let u = runs_said a.limits (part_seen c.read_base.new.part) c.in_ok-at.at in
    let taken : TakesText t u (g.S.Source.history a.joint.now.source.now).left
    (g.S.Source.history c.read_base.new.joint.source.now).left = rw c.new-part.ensures at c.in_ok-at.ensures.reads.0 in
    let h : StopsText t (g.S.Source.history a.joint.now.source.now).left
    (g.S.Source.history c.read_way.new.joint.source.now).left (g.S.Source.history a.joint.now.source.now).faults
    (g.S.Source.history c.read_way.new.joint.source.now).faults c.in_err-at-2.field-0.0 =
    stops_after t u _ _ _ _ _ _ _ c.in_ok-at.ensures.reads.1 taken c.in_err-at-2.ensures.reads in
    search rules

pub read_marks-requires-clause-paced : goal.read_marks-requires-clause-paced
read_marks-requires-clause-paced g c =
    let a = c.args in
    let t = part_said a.limits a.at in
    let u = runs_said a.limits (part_seen c.read_base.new.part) c.in_ok-at.at in
    let v = marks_said (part_seen c.read_way.new.part) c.in_ok-at-2.at in
    let first : TakesText t u (g.S.Source.history a.joint.now.source.now).left
    (g.S.Source.history c.read_base.new.joint.source.now).left = rw c.new-part.ensures at c.in_ok-at.ensures.reads.0 in
    let taken = takes_then t u v _ _ _ first c.in_ok-at-2.ensures.reads.0 in
    let paced = paced_after g.S.Source.allows (HasNoFault t) (HasNoFault v) _ _ _ _
    (g.K.Sink.history a.joint.now.sink.now) taken.bytes
    (c.in_ok-at-2.ensures.reads.1 ∙ c.in_ok-at.ensures.reads.1) taken.taken (open_after t v _ _ taken)
    c.requires.paced in
    rw (c.in_ok-at-2.ensures.sink, c.in_ok-at.ensures.sink) paced

pub returns-in_err-read_marks-clause-reads : goal.returns-in_err-read_marks-clause-reads
returns-in_err-read_marks-clause-reads g c =
    let a = c.args in
    let t = part_said a.limits a.at in
    let u = runs_said a.limits (part_seen c.read_base.new.part) c.in_ok-at.at in
    let v = marks_said (part_seen c.read_way.new.part) c.in_ok-at-2.at in
    let first : TakesText t u (g.S.Source.history a.joint.now.source.now).left
    (g.S.Source.history c.read_base.new.joint.source.now).left = rw c.new-part.ensures at c.in_ok-at.ensures.reads.0 in
    let taken = takes_then t u v _ _ _ first c.in_ok-at-2.ensures.reads.0 in
    let h : StopsText t (g.S.Source.history a.joint.now.source.now).left
    (g.S.Source.history c.read_marks.new.joint.source.now).left (g.S.Source.history a.joint.now.source.now).faults
    (g.S.Source.history c.read_marks.new.joint.source.now).faults c.in_err-read_marks.field-0.0 =
    stops_after t v _ _ _ _ _ _ _ (c.in_ok-at-2.ensures.reads.1 ∙ c.in_ok-at.ensures.reads.1) taken
    c.in_err-read_marks.ensures.reads in
    search rules

pub returns-clause-reads : goal.returns-clause-reads
returns-clause-reads g c =
    let a = c.args in
    let t = part_said a.limits a.at in
    let u = runs_said a.limits (part_seen c.read_base.new.part) c.in_ok-at.at in
    let v = marks_said (part_seen c.read_way.new.part) c.in_ok-at-2.at in
    let first : TakesText t u (g.S.Source.history a.joint.now.source.now).left
    (g.S.Source.history c.read_base.new.joint.source.now).left = rw c.new-part.ensures at c.in_ok-at.ensures.reads.0
    in (
      ends_after t v _ _ _ _ (takes_then t u v _ _ _ first c.in_ok-at-2.ensures.reads.0)
          c.in_ok-read_marks.ensures.reads.0,
      c.in_ok-read_marks.ensures.reads.1 ∙ (c.in_ok-at-2.ensures.reads.1 ∙ c.in_ok-at.ensures.reads.1),
    )

pub read_way-requires-clause-can : goal.read_way-requires-clause-can
read_way-requires-clause-can g c =
    subst (All (λ k. k < c.args.limits.choices))
    (sym (ap (λ w. w.items) c.in_ok-at.ensures.way ∙ ap (λ p. p.way) c.new-part.ensures))
    (All-nil (λ k. k < c.args.limits.choices))

pub returns-clause-can : goal.returns-clause-can
returns-clause-can g c = rw c.in_ok-read_marks.ensures.way c.in_ok-at-2.ensures.can
