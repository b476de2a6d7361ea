use Rattle.std.proofs.Common.{◌+◌, ◌++◌, ◌∙◌}
use Rattle.pip_io.proofs.Pacing.{paced_after}
use Rattle.pip_certificates.specs.Seen.{merging_of}
use Rattle.pip_certificates.specs.LongLines.{IsUnended}
use Rattle.pip_certificates.specs.MergeDues.{BeginsMerge}
use Rattle.pip_certificates.proofs.LineReads.{stopped}
use Rattle.pip_certificates.proofs.MergeReads.{begins_merge, ends, last_ends, line_unread, next_line, read_held}
use Rattle.pip_certificates.proofs.MergeReads.{whole_stops}
use Rattle.pip_certificates.proofs.commands.merge.merge_lines.Goals as goal

pub read_line-requires-clause-paced : goal.read_line-requires-clause-paced
read_line-requires-clause-paced g c =
    let was = c.loop-before.invariant in
    let held = c.loop-before.reader in
    let m = merging_of c.loop-before.merger in
    let paced = paced_after g.S.Source.allows BeginsMerge (IsUnended held) _ _ _ _
    (g.K.Sink.history c.args.joint.now.sink.now)
    (was.at.lines ++ held) was.no_faults
    (read_held c.loop-before.before m held (g.S.Source.history c.args.joint.now.source.now).left
    (g.S.Source.history c.loop-before.joint.source.now).left was.at)
    (begins_merge c.loop-before.before m held (g.S.Source.history c.args.joint.now.source.now).left
    (g.S.Source.history c.loop-before.joint.source.now).left was.at) c.requires.paced in
    rw was.sink paced

pub returns-in_err-read_line-clause-merges : goal.returns-in_err-read_line-clause-merges
returns-in_err-read_line-clause-merges g c =
    let was = c.loop-before.invariant in
    stopped c.from_residual.result _ _ c.from_residual.ensures.1
    (line_unread c.loop-before.before (merging_of c.loop-before.merger) c.loop-before.reader
    (g.S.Source.history c.args.joint.now.source.now).left
    (g.S.Source.history c.loop-before.joint.source.now).left was.at
    (g.S.Source.history c.read_line.new.joint.source.now).left c.read_line.new.line.items
    (g.S.Source.history c.args.joint.now.source.now).faults (g.S.Source.history c.loop-before.joint.source.now).faults
    (g.S.Source.history c.read_line.new.joint.source.now).faults was.no_faults
    c.in_err-read_line.field-0.0 c.in_err-read_line.ensures.takes)

pub returns-in_err-take_line-in-Whole-clause-merges : goal.returns-in_err-take_line-in-Whole-clause-merges
returns-in_err-take_line-in-Whole-clause-merges g c =
    let was = c.loop-before.invariant in
    let n = c.loop-before.before + 1 in
    let m = merging_of c.loop-before.merger in
    let left = (g.S.Source.history c.args.joint.now.source.now).left in
    let before = (g.S.Source.history c.loop-before.joint.source.now).left in
    let after = (g.S.Source.history c.read_line.new.joint.source.now).left in
    let more = merging_of c.take_line.new.merger in
    let stop = c.in_err-take_line-in-Whole.field-0.0 in
    let takes = c.in_ok-read_line.ensures.takes in
    stopped c.from_residual-in_err-take_line-in-Whole.result _ _ c.from_residual-in_err-take_line-in-Whole.ensures.1
    (whole_stops c.loop-before.before m c.loop-before.reader left before was.at after c.read_line.new.self
    c.read_line.new.line.items
    (rw c.in-Whole.is at takes.0) (g.S.Source.history c.args.joint.now.source.now).faults
    (g.S.Source.history c.read_line.new.joint.source.now).faults (takes.1 ∙ was.no_faults) more stop
    (rw (← c.deref.ensures.value) c.in_err-take_line-in-Whole.ensures))

pub returns-in-Last-clause-merges : goal.returns-in-Last-clause-merges
returns-in-Last-clause-merges g c =
    let was = c.loop-before.invariant in
    let n = c.loop-before.before + 1 in
    let m = merging_of c.loop-before.merger in
    let left = (g.S.Source.history c.args.joint.now.source.now).left in
    let before = (g.S.Source.history c.loop-before.joint.source.now).left in
    let after = (g.S.Source.history c.read_line.new.joint.source.now).left in
    let more = merging_of c.take_line-in-Last.new.merger in
    let takes = c.in_ok-read_line.ensures.takes in
    last_ends c.loop-before.before m c.loop-before.reader left before was.at after c.read_line.new.self
    c.read_line.new.line.items
    (rw c.in-Last.is at takes.0) (g.S.Source.history c.args.joint.now.source.now).faults
    (g.S.Source.history c.read_line.new.joint.source.now).faults
    (takes.1 ∙ was.no_faults) more c.take_line-in-Last.result
    (rw (← c.deref-in-Last.ensures.value) c.take_line-in-Last.ensures)

pub returns-in-End-clause-merges : goal.returns-in-End-clause-merges
returns-in-End-clause-merges g c =
    let was = c.loop-before.invariant in
    let m = merging_of c.loop-before.merger in
    let left = (g.S.Source.history c.args.joint.now.source.now).left in
    let before = (g.S.Source.history c.loop-before.joint.source.now).left in
    let after = (g.S.Source.history c.read_line.new.joint.source.now).left in
    let takes = c.in_ok-read_line.ensures.takes in (
      ends c.loop-before.before m c.loop-before.reader left before was.at after c.read_line.new.self
          c.read_line.new.line.items
          (rw c.in-End.is at takes.0),
      takes.1 ∙ was.no_faults,
    )

pub loop-before-preserved : goal.loop-before-preserved
loop-before-preserved g c =
    let was = c.loop-before.invariant in
    let n = c.loop-before.before + 1 in
    let m = merging_of c.loop-before.merger in
    let left = (g.S.Source.history c.args.joint.now.source.now).left in
    let before = (g.S.Source.history c.loop-before.joint.source.now).left in
    let after = (g.S.Source.history c.read_line.new.joint.source.now).left in
    let more = merging_of c.take_line.new.merger in
    let reads = c.in_ok-read_line.ensures in
    record {
      at = next_line c.loop-before.before m c.loop-before.reader left before was.at after c.read_line.new.self
          c.read_line.new.line.items
          (rw c.in-Whole.is at reads.takes.0) more
          (rw (← c.deref.ensures.value) c.in_ok-take_line-in-Whole.ensures);
      name = reads.same_source ∙ was.name;
      sink = reads.sink ∙ was.sink;
      is_open = reads.is_open (rw c.in-Whole.is);
      no_faults = reads.takes.1 ∙ was.no_faults;
    }
