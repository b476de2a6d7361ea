use Rattle.std.proofs.Common.{◌∙◌, refl, subst, arith}
use Rattle.pip_io.specs.Taken.{Appends, AppendsPart}
use Rattle.pip_dump.proofs.Groups.{lines_next, lines_none, lines_skipped}
use Rattle.pip_dump.proofs.Pieces.{left_more, left_none, left_part, left_same, left_start, wrote_err}
use Rattle.pip_dump.proofs.frames.groups_text.Goals as goal

pub loop-k-init : goal.loop-k-init
loop-k-init g c = record {
  high = c.requires.most;
  no_faults = refl;
  left = left_same _ _ _ _ _ (lines_skipped c.args.words.now 0 c.args.first (omega arith) c.requires.most
      c.requires.zeros) (left_start (g.K.Sink.history c.args.sink.now).written _);
}

pub next_group-requires : goal.next_group-requires
next_group-requires g c = c.loop-k.invariant.high

pub returns-in_err-write_all-clause-text : goal.returns-in_err-write_all-clause-text
returns-in_err-write_all-clause-text g c =
    let (above, inside, zeros, some) = c.in-Some.ensures in
    let lines = lines_next c.args.words.now c.loop-k.from c.in-Some.k above inside zeros some in
    let piece = c.as_bytes.ensures.value ∙ (c.deref.ensures.0 ∙ c.group_line.ensures) in
    wrote_err _ _ _ c.from_residual.result c.from_residual.ensures.0
    (left_part _ _ _ _ _ _ (left_same _ _ _ _ _ lines c.loop-k.invariant.left)
    (subst (AppendsPart (g.K.Sink.history c.loop-k.sink).written (g.K.Sink.history c.write_all.new.sink).written) piece
    c.in_err-write_all.ensures.prefix))

pub loop-k-smaller : goal.loop-k-smaller
loop-k-smaller g c = let (above, inside, zeros, some) = c.in-Some.ensures in omega (arith, above, inside)

pub loop-k-preserved : goal.loop-k-preserved
loop-k-preserved g c =
    let (above, inside, zeros, some) = c.in-Some.ensures in
    let lines = lines_next c.args.words.now c.loop-k.from c.in-Some.k above inside zeros some in
    let piece = c.as_bytes.ensures.value ∙ (c.deref.ensures.0 ∙ c.group_line.ensures) in
    record {
      high = omega (arith, inside);
      no_faults = c.in_ok-write_all.ensures.cause.no_faults ∙ c.loop-k.invariant.no_faults;
      left = left_more _ _ _ _ _ _ (left_same _ _ _ _ _ lines c.loop-k.invariant.left)
          (subst (Appends (g.K.Sink.history c.loop-k.sink).written
          (g.K.Sink.history c.write_all.new.sink).written) piece
          c.in_ok-write_all.ensures.whole);
    }

pub returns-clause-text : goal.returns-clause-text
returns-clause-text g c = left_none _ _ _ (left_same _ _ _ _ _
    (lines_none c.args.words.now c.loop-k.from c.loop-k.invariant.high c.in_default.ensures) c.loop-k.invariant.left)
