use Rattle.std.proofs.Common.{ℕ, List, ◌++◌, ap, get_or, refl, ◌∙◌}
use Rattle.std.specs.Prelude.{codes, decimal, flat_map}
use Rattle.pip_dump.proofs.Groups.{numbers_end, numbers_step}
use Rattle.pip_dump.proofs.Pieces.{left_more, left_none, left_part, left_same, left_start, wrote_err}
use Rattle.pip_model.specs.Soak.{counted_text}
use Rattle.pip_soak.proofs.text.write_replies.Goals as goal

abbrev line : List ℕ → ℕ → List ℕ
line replies s = counted_text (codes "reply " ++ decimal s) (get_or replies s 0)

pub loop-s-init : goal.loop-s-init
loop-s-init g c = record { no_faults = refl; left = left_start (g.K.Sink.history c.args.sink.now).written _ }

pub loop-s-preserved : goal.loop-s-preserved
loop-s-preserved g c = record {
  no_faults = c.in_ok-write_reply.ensures.cause.no_faults ∙ c.loop-s.invariant.no_faults;
  left = left_more _ _ _ _ _ _ (left_same _ _ _ _ _ (ap (flat_map (line c.args.replies.now))
      (numbers_step c.loop-s.s 19 c.loop-s-test.true)) c.loop-s.invariant.left) c.in_ok-write_reply.ensures.text;
}

pub returns-in_err-write_reply-clause-text : goal.returns-in_err-write_reply-clause-text
returns-in_err-write_reply-clause-text g c =
    wrote_err _ _ _ c.from_residual.result c.from_residual.ensures.0
    (left_part _ _ _ _ _ _ (left_same _ _ _ _ _ (ap (flat_map (line c.args.replies.now))
    (numbers_step c.loop-s.s 19 c.loop-s-test.true)) c.loop-s.invariant.left) c.in_err-write_reply.ensures.text)

pub returns-clause-text : goal.returns-clause-text
returns-clause-text g c =
    left_none _ _ _ (left_same _ _ _ _ _ (ap (flat_map (line c.args.replies.now))
    (numbers_end c.loop-s.s 19 c.loop-s-test.false)) c.loop-s.invariant.left)
