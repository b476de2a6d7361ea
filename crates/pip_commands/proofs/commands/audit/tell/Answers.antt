use Rattle.std.proofs.Common.{rules, ap}
use Rattle.pip_model.specs.Audit.{finding}
use Rattle.pip_commands.proofs.Audited.{answers_cut, answers_yes, root_there, told_none}
use Rattle.pip_commands.proofs.commands.audit.tell.Goals as goal

pub tree_text-requires : goal.tree_text-requires
tree_text-requires g c =
    let m = g.M.Frames.memory c.args.mem.now in
    root_there m c.requires.shape c.requires.words
    (told_none c.no_line.result _ _ c.in_default.not-Some (c.no_line.ensures (finding m) c.requires.verdict))

pub returns-in-Err-clause-wrote : goal.returns-in-Err-clause-wrote
returns-in-Err-clause-wrote g c =
    let m = g.M.Frames.memory c.args.mem.now in
    let none =
    told_none c.no_line.result _ _ c.in_default.not-Some (c.no_line.ensures (finding m) c.requires.verdict) in
    answers_cut m c.requires.shape c.requires.words none c.with_status.result.status
    (g.K.Sink.history c.args.sink.now).written (g.K.Sink.history c.tree_text.new.sink).written
    c.tree_text.result (g.K.Sink.history c.args.sink.now).faults (g.K.Sink.history c.tree_text.new.sink).faults
    (search rules)
    (ap (λ e. e.status) c.with_status.ensures) c.tree_text.ensures.text c.in-Err.ensures.cause.failed

pub returns-in-Ok-clause-wrote : goal.returns-in-Ok-clause-wrote
returns-in-Ok-clause-wrote g c =
    let m = g.M.Frames.memory c.args.mem.now in
    let none =
    told_none c.no_line.result _ _ c.in_default.not-Some (c.no_line.ensures (finding m) c.requires.verdict) in
    answers_yes m c.requires.shape c.requires.words none c.end_with-in-Ok.result.status
    (g.K.Sink.history c.args.sink.now).written (g.K.Sink.history c.end_with-in-Ok.new.sink).written
    (g.K.Sink.history c.tree_text.new.sink).written (g.K.Sink.history c.args.sink.now).faults
    (g.K.Sink.history c.tree_text.new.sink).faults (g.K.Sink.history c.end_with-in-Ok.new.sink).faults
    c.in-Ok.ensures.cause.no_faults c.in-Ok.ensures.text c.end_with-in-Ok.ensures.wrote
