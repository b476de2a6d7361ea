use Rattle.std.proofs.Common.{subst, sym}
use Rattle.pip_model.specs.Layout.{LaysOut}
use Rattle.pip_model.specs.Partitions.{HasPartition}
use Rattle.pip_commands.specs.Shown.{ShowsReport}
use Rattle.pip_command_contracts.specs.Loading.{Begins}
use Rattle.pip_commands.proofs.Reports.{has_root, passed, frames_shows, trace_shows, tree_shows}
use Rattle.pip_commands.proofs.commands.run.report.Report.give.Goals as goal

pub returns-in-Trace-clause-shows : goal.returns-in-Trace-clause-shows
returns-in-Trace-clause-shows g c = λ i b.
    let l = c.args.loaded.now in
    subst (λ r. ShowsReport c.trace.result r i c.args.count c.args.seed (g.K.Sink.history c.args.sink.now).written
    (g.K.Sink.history c.trace.new.sink).written c.trace.new.port) (sym c.in-Trace.is)
    (trace_shows i l.frames l.pages c.as_slice-lines.result.now l.machine c.trace.new.port c.args.count c.args.seed
    (subst (λ ls. Begins i l.frames l.pages ls l.machine) (sym c.as_slice-lines.ensures.value) b) c.trace.result _ _
    (c.trace.ensures.acts _ b.stands))

pub write_tree-requires : goal.write_tree-requires
write_tree-requires g c =
    let l = c.args.loaded.now in
    let (i, b) = c.requires.begins in
    subst (λ m. HasPartition m 1) (sym c.mem.ensures) (has_root c.pass.new.machine _
    (passed i l.frames l.pages c.as_slice-lines.result.now l.machine c.pass.new.machine c.args.count c.args.seed
    (subst (λ ls. Begins i l.frames l.pages ls l.machine) (sym c.as_slice-lines.ensures.value) b)
    c.pass.ensures.stands))

pub returns-in-Tree-clause-shows : goal.returns-in-Tree-clause-shows
returns-in-Tree-clause-shows g c = λ i b.
    let l = c.args.loaded.now in
    subst (λ r. ShowsReport c.write_tree.result r i c.args.count c.args.seed (g.K.Sink.history c.args.sink.now).written
    (g.K.Sink.history c.write_tree.new.sink).written c.pass.new.machine) (sym c.in-Tree.is)
    (tree_shows i c.pass.new.machine c.args.count c.args.seed
    (passed i l.frames l.pages c.as_slice-lines.result.now l.machine c.pass.new.machine c.args.count c.args.seed
    (subst (λ ls. Begins i l.frames l.pages ls l.machine) (sym c.as_slice-lines.ensures.value) b) c.pass.ensures.stands)
    c.write_tree.result _ _
    (λ t h. c.write_tree.ensures.wrote t (h.0, subst (LaysOut t) (sym c.mem.ensures) h.1)))

pub returns-in-Frames-clause-shows : goal.returns-in-Frames-clause-shows
returns-in-Frames-clause-shows g c = λ i b.
    let l = c.args.loaded.now in
    subst (λ r. ShowsReport c.write_frames.result r i c.args.count c.args.seed
    (g.K.Sink.history c.args.sink.now).written
    (g.K.Sink.history c.write_frames.new.sink).written c.pass-in-Frames.new.machine) (sym c.in-Frames.is)
    (frames_shows i c.pass-in-Frames.new.machine c.args.count c.args.seed
    (passed i l.frames l.pages c.as_slice-lines.result.now l.machine c.pass-in-Frames.new.machine c.args.count
    c.args.seed
    (subst (λ ls. Begins i l.frames l.pages ls l.machine) (sym c.as_slice-lines.ensures.value) b)
    c.pass-in-Frames.ensures.stands) c.write_frames.result _ _
    (λ t h. c.write_frames.ensures.wrote t (h.0, subst (LaysOut t) (sym c.mem-in-Frames.ensures) h.1)))
