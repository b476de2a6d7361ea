use Rattle.std.proofs.Common.{ap, ◌∙◌, subst, arith, refl}
use Rattle.std.specs.Prelude.{flat_map}
use Rattle.pip_io.specs.Taken.{Appends, AppendsPart}
use Rattle.pip_model.specs.Dump.{frame_text, numbers_from}
use Rattle.pip_dump.proofs.Groups.{numbers_end, numbers_step}
use Rattle.pip_dump.proofs.Pieces.{left_more, left_none, left_part, left_same, left_start, wrote_err}
use Rattle.pip_dump.proofs.frames.frames_text.Goals as goal

pub loop-f-init : goal.loop-f-init
loop-f-init g c = record {
  no_faults = refl;
  left = λ t held. left_same _ _ _ _ _ (ap (λ n. flat_map (frame_text t) (numbers_from 0 n)) (omega arith))
      (left_start (g.K.Sink.history c.args.sink.now).written _);
}

pub returns-in_err-frame_text-clause-text : goal.returns-in_err-frame_text-clause-text
returns-in_err-frame_text-clause-text g c t held =
    let inside = c.loop-f-test.true in
    let count = c.count-f-end.ensures ∙ held.1.count in
    let left = left_same _ _ _ _ _ (ap (flat_map (frame_text t))
    (numbers_step c.loop-f.f t.frames (omega (arith, inside, count)))) (c.loop-f.invariant.left t held) in
    wrote_err _ _ _ c.from_residual.result c.from_residual.ensures.0
    (left_part _ _ _ _ _ _ left (subst (λ k. AppendsPart (g.K.Sink.history c.loop-f.sink).written
    (g.K.Sink.history c.frame_text.new.sink).written (frame_text t k)) c.new.ensures (c.in_err-frame_text.ensures.text t
    held)))

pub loop-f-preserved : goal.loop-f-preserved
loop-f-preserved g c = record {
  no_faults = c.in_ok-frame_text.ensures.cause.no_faults ∙ c.loop-f.invariant.no_faults;
  left = λ t held.
      let inside = c.loop-f-test.true in
      let count = c.count-f-end.ensures ∙ held.1.count in
      let left = left_same _ _ _ _ _ (ap (flat_map (frame_text t))
      (numbers_step c.loop-f.f t.frames (omega (arith, inside, count)))) (c.loop-f.invariant.left t held) in
      left_more _ _ _ _ _ _ left
      (subst (λ k. Appends (g.K.Sink.history c.loop-f.sink).written (g.K.Sink.history c.frame_text.new.sink).written
      (frame_text t k)) c.new.ensures (c.in_ok-frame_text.ensures.text t held));
}

pub returns-clause-text : goal.returns-clause-text
returns-clause-text g c t held =
    let over = c.loop-f-test.false in
    let count = c.count-f-end.ensures ∙ held.1.count in
    left_none _ _ _ (left_same _ _ _ _ _ (ap (flat_map (frame_text t))
    (numbers_end c.loop-f.f t.frames (omega (arith, over, count)))) (c.loop-f.invariant.left t held))
