use Rattle.std.proofs.Common.{rules, ◌∙◌, subst}
use Rattle.std.specs.Prelude.{codes, flat_map}
use Rattle.std.proofs.lemmas.Result.{MatchResult-from_err}
use Rattle.pip_io.specs.Taken.{Appends, AppendsPart, Wrote}
use Rattle.pip_model.specs.Text.{line_text}
use Rattle.pip_certificates.specs.Entries.{Tells, entry_line}
use Rattle.pip_search.specs.Keys.{labels}
use Rattle.pip_search.specs.Parts.{stops}
use Rattle.pip_io.proofs.Piecewise.{part_after, part_longer, wrote_of}
use Rattle.pip_certificates.specs.PartShown.{stop_line}
use Rattle.pip_certificates.proofs.Lines.{asked_lines, four_pieces, label_line, label_lines, last_line}
use Rattle.pip_certificates.proofs.Lines.{own_lines}
use Rattle.pip_certificates.proofs.writing.give.Goals as goal

pub returns-in_err-write_stops : goal.returns-in_err-write_stops
returns-in_err-write_stops g c =
    let k = c.args.checked.now in
    rw (← four_pieces k c.requires) (record {
      wrote = MatchResult-from_err c.from_residual.result _ _
          c.from_residual.ensures.0 (λ _. part_longer _ _ (own_lines k) _
          (subst (λ v. AppendsPart (g.K.Sink.history c.args.sink.now).written
          (g.K.Sink.history c.write_stops.new.sink).written (flat_map (stop_line (codes " +")) (stops v)))
          c.as_slice.ensures.value c.in_err-write_stops.ensures.wrote));
      cause = search rules;
    })

pub returns-in_err-write_stops-2 : goal.returns-in_err-write_stops-2
returns-in_err-write_stops-2 g c =
    let k = c.args.checked.now in
    rw (← four_pieces k c.requires) (record {
      wrote = MatchResult-from_err c.from_residual-in_err-write_stops-2.result
          _ _ c.from_residual-in_err-write_stops-2.ensures.0
          (λ _. part_after _ _ _ (own_lines k) _ (subst
          (λ v. Appends (g.K.Sink.history c.args.sink.now).written (g.K.Sink.history c.write_stops.new.sink).written
          (flat_map (stop_line (codes " +")) (stops v))) c.as_slice.ensures.value c.in_ok-write_stops.ensures.wrote)
          (part_longer _ _ (asked_lines k) _ (subst (λ v. AppendsPart (g.K.Sink.history c.write_stops.new.sink).written
          (g.K.Sink.history c.write_stops-2.new.sink).written (flat_map (stop_line (codes " ?")) (stops v)))
          c.as_slice-2.ensures.value c.in_err-write_stops-2.ensures.wrote)));
      cause = search rules;
    })

pub returns-in_err-write_labels : goal.returns-in_err-write_labels
returns-in_err-write_labels g c =
    let k = c.args.checked.now in
    rw (← four_pieces k c.requires) (record {
      wrote = MatchResult-from_err c.from_residual-in_err-write_labels.result _
          _ c.from_residual-in_err-write_labels.ensures.0
          (λ _. part_after _ _ _ (own_lines k) _ (subst
          (λ v. Appends (g.K.Sink.history c.args.sink.now).written (g.K.Sink.history c.write_stops.new.sink).written
          (flat_map (stop_line (codes " +")) (stops v))) c.as_slice.ensures.value c.in_ok-write_stops.ensures.wrote)
          (part_after _ _ _ (asked_lines k) _ (subst (λ v. Appends (g.K.Sink.history c.write_stops.new.sink).written
          (g.K.Sink.history c.write_stops-2.new.sink).written (flat_map (stop_line (codes " ?")) (stops v)))
          c.as_slice-2.ensures.value c.in_ok-write_stops-2.ensures.wrote)
          (part_longer _ _ (label_lines k) _ (subst (λ v. AppendsPart (g.K.Sink.history
          c.write_stops-2.new.sink).written
          (g.K.Sink.history c.write_labels.new.sink).written (flat_map label_line (labels v)))
          c.as_slice-3.ensures.value
          c.in_err-write_labels.ensures.wrote))));
      cause = search rules;
    })

pub returns : goal.returns
returns g c =
    let k = c.args.checked.now in
    rw (← four_pieces k c.requires) (record {
      wrote = wrote_of _ _ _ (own_lines k) _ c.write_last.result
          (subst (λ v. Appends (g.K.Sink.history c.args.sink.now).written
          (g.K.Sink.history c.write_stops.new.sink).written (flat_map (stop_line (codes " +")) (stops v)))
          c.as_slice.ensures.value c.in_ok-write_stops.ensures.wrote)
          (wrote_of _ _ _ (asked_lines k) _ c.write_last.result
          (subst (λ v. Appends (g.K.Sink.history c.write_stops.new.sink).written
          (g.K.Sink.history c.write_stops-2.new.sink).written (flat_map (stop_line (codes " ?")) (stops v)))
          c.as_slice-2.ensures.value c.in_ok-write_stops-2.ensures.wrote)
          (wrote_of _ _ _ (label_lines k) (last_line k) c.write_last.result
          (subst (λ v. Appends (g.K.Sink.history c.write_stops-2.new.sink).written
          (g.K.Sink.history c.write_labels.new.sink).written (flat_map label_line (labels v)))
          c.as_slice-3.ensures.value
          c.in_ok-write_labels.ensures.wrote) (subst (λ t. Wrote c.write_last.result
          (g.K.Sink.history c.write_labels.new.sink).written (g.K.Sink.history c.write_last.new.sink).written
          (line_text (entry_line (Tells t k.numbers)))) (c.as_bytes.ensures.value ∙ c.as_str.ensures.value)
          c.write_last.ensures.wrote)));
      cause = search rules;
    })
