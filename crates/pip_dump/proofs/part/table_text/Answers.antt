use Rattle.std.proofs.Common.{◌≡◌, ◌+◌, ◌*◌, ◌++◌, ap, subst, ◌∙◌, arith, refl}
use Rattle.std.specs.Prelude.{flat_map}
use Rattle.pip_io.specs.Taken.{Appends, AppendsPart}
use Rattle.pip_model.specs.Dump.{row_text}
use Rattle.pip_dump.specs.Tables.{RowsLeft}
use Rattle.pip_dump.proofs.Pieces.{left_more, left_part, left_same, match_err}
use Rattle.pip_dump.proofs.TableWords.{row_told, rows_end}
use Rattle.pip_dump.proofs.part.table_text.Goals as goal

pub loop-j-init : goal.loop-j-init
loop-j-init g c = record {
  high = omega arith;
  no_faults = refl;
  left = λ t x old whole a b left. let same : 1024 * c.args.i ≡ 1024 * c.args.i + 0 = omega arith in
      subst (λ k. RowsLeft t x k old (g.K.Sink.history c.args.sink.now).written whole) same left;
}

pub first_index-requires : goal.first_index-requires
first_index-requires g c = c.loop-j.invariant.high

pub returns-in_err-write_all-clause-text : goal.returns-in_err-write_all-clause-text
returns-in_err-write_all-clause-text g c t x old whole a b left =
    let (inside, some, zeros, above) = c.in-Some.ensures in
    let (q, at, shows, rows) = row_told t x c.args.i c.args.leaves.now a c.args.given.now b c.loop-j.from c.in-Some.j
    inside some zeros above in
    let now =
    left_same _ _ _ _ _ (ap (flat_map (row_text t x)) rows) (c.loop-j.invariant.left t x old whole a b left) in
    let piece : c.as_bytes.result.now ≡ row_text t x q =
    c.as_bytes.ensures.value ∙ (c.deref.ensures.0 ∙ (c.push_row.ensures t x q a.sound (c.new.ensures ∙ at) shows
    ∙ ap (λ l. l ++ row_text t x q) c.clear.ensures)) in
    match_err _ _ c.from_residual.result c.from_residual.ensures.0
    (left_part _ _ _ _ _ _ now (subst (λ text. AppendsPart (g.K.Sink.history c.loop-j.sink).written
    (g.K.Sink.history c.write_all.new.sink).written text) piece c.in_err-write_all.ensures.prefix))

pub loop-j-smaller : goal.loop-j-smaller
loop-j-smaller g c = let (inside, some, zeros, above) = c.in-Some.ensures in omega (arith, inside, above)

pub loop-j-preserved : goal.loop-j-preserved
loop-j-preserved g c =
    let (inside, some, zeros, above) = c.in-Some.ensures in
    record {
      high = omega (arith, inside);
      no_faults = c.in_ok-write_all.ensures.cause.no_faults ∙ c.loop-j.invariant.no_faults;
      left = λ t x old whole a b left.
          let (q, at, shows, rows) = row_told t x c.args.i c.args.leaves.now a c.args.given.now b c.loop-j.from
          c.in-Some.j inside some zeros above in
          let now = left_same _ _ _ _ _ (ap (flat_map (row_text t x)) rows)
          (c.loop-j.invariant.left t x old whole a b left) in
          let piece : c.as_bytes.result.now ≡ row_text t x q = c.as_bytes.ensures.value
          ∙ (c.deref.ensures.0 ∙ (c.push_row.ensures t x q a.sound (c.new.ensures ∙ at) shows
          ∙ ap (λ l. l ++ row_text t x q) c.clear.ensures)) in
          left_more _ _ _ _ _ _ now (subst (λ text. Appends (g.K.Sink.history c.loop-j.sink).written
          (g.K.Sink.history c.write_all.new.sink).written text) piece c.in_ok-write_all.ensures.whole);
    }

pub returns-clause-text : goal.returns-clause-text
returns-clause-text g c t x old whole a b left =
    left_same _ _ _ _ _ (ap (flat_map (row_text t x)) (rows_end t x c.args.i c.args.leaves.now a c.loop-j.from
    c.loop-j.invariant.high c.in_default.ensures)) (c.loop-j.invariant.left t x old whole a b left)
