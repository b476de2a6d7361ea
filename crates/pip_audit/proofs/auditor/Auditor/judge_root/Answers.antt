use Rattle.std.proofs.Common.{length, sym, ◌∙◌}
use Rattle.pip_audit.proofs.EachNode.{count_some, root_name}
use Rattle.pip_audit.proofs.Judges.{can_judge, root_holds}
use Rattle.pip_audit.proofs.Walks.{above_words, stays_worded}
use Rattle.pip_audit.proofs.auditor.Auditor.judge_root.Goals as goal

pub judge_tables-requires-clause-judges : goal.judge_tables-requires-clause-judges
judge_tables-requires-clause-judges g c =
    let m = g.M.Frames.memory c.args.mem.now in
    let a = c.args.self.now in
    let w = record a.words { above = c.fill.new.self } in
    let read = stays_worded m a w c.requires.read
    (above_words (length m) a.words c.fill.new.self c.requires.read.has_read.room.words c.fill.ensures.room) in
    can_judge m (record a { words = w }) read c.requires.sound 0 (count_some m (record a { words = w }) read.others
    read.has_read) c.load.new.self c.load.ensures.is_of
    (c.load.ensures.part ∙ c.new.ensures ∙ sym (root_name a.names.items a.count read.others read.has_read.names))

pub judge_tables-requires-clause-holds : goal.judge_tables-requires-clause-holds
judge_tables-requires-clause-holds g c =
    let m = g.M.Frames.memory c.args.mem.now in
    let a = c.args.self.now in
    let w = record a.words { above = c.fill.new.self } in
    let read = stays_worded m a w c.requires.read
    (above_words (length m) a.words c.fill.new.self c.requires.read.has_read.room.words c.fill.ensures.room) in
    root_holds m (record a { words = w }) read c.load.new.self c.fill.ensures.words
    (c.load.ensures.part ∙ c.new.ensures)
