use Rattle.std.proofs.Common.{rules, subst}
use Rattle.pip_io.specs.Taken.{Appends, AppendsPart}
use Rattle.pip_io.proofs.Taken.{Appends-trans, on_err, part_sent, flushed_part, flushed_whole}
use Rattle.pip_certificates.specs.Seen.{merging_of}
use Rattle.pip_search.specs.declared.searching.Extent.TheVariants.{Closed}
use Rattle.pip_every.specs.Texts.{verdict_line}
use Rattle.pip_io.proofs.Piecewise.{part_after, part_longer}
use Rattle.pip_certificates.specs.MergeDues.{merged_front, merged_text}
use Rattle.pip_certificates.proofs.commands.merge.answers.write_merged.Goals as goal

pub returns-in_err-write_front : goal.returns-in_err-write_front
returns-in_err-write_front g c =
    let m = merging_of c.args.merger.now in
    record {
      whole = search rules;
      part = on_err _ _ (part_sent _ _ _ (part_longer _ _ (merged_front m) _ c.in_err-write_front.ensures.wrote));
      none = search rules;
      cause = search rules;
    }

pub returns-in_err-write_verdict : goal.returns-in_err-write_verdict
returns-in_err-write_verdict g c =
    let m = merging_of c.args.merger.now in
    let a = (g.K.Sink.history c.args.sink.now).written in
    let b = (g.K.Sink.history c.write_front.new.sink).written in
    let d = (g.K.Sink.history c.write_verdict.new.sink).written in
    record {
      whole = search rules;
      part = on_err _ _ (part_sent _ _ _ (part_after _ _ _ (merged_front m) _ c.in_ok-write_front.ensures.wrote
          (rw (← c.states.ensures) (subst (λ n. AppendsPart b d (verdict_line c.states.result (Closed n)))
          c.deepest-depth.ensures c.in_err-write_verdict.ensures.wrote))));
      none = search rules;
      cause = search rules;
    }

pub returns : goal.returns
returns g c =
    let m = merging_of c.args.merger.now in
    let a = (g.K.Sink.history c.args.sink.now).written in
    let b = (g.K.Sink.history c.write_front.new.sink).written in
    let d = (g.K.Sink.history c.write_verdict.new.sink).written in
    let all : Appends a d (merged_text m) = Appends-trans _ _ _ (merged_front m) _ c.in_ok-write_front.ensures.wrote
    (rw (← c.states.ensures) (subst (λ n. Appends b d (verdict_line c.states.result (Closed n)))
    c.deepest-depth.ensures c.in_ok-write_verdict.ensures.wrote)) in
    record {
      whole = flushed_whole _ _ _ _ (merged_text m) all c.flush.ensures.kept;
      part = flushed_part _ _ _ _ (merged_text m) all c.flush.ensures.kept c.flush.ensures.some;
      none = search rules;
      cause = search rules;
    }
