use Rattle.std.proofs.Common.{length, refl}
use Rattle.pip_audit.proofs.Walks.{above_words, stays_marked, stays_worded}
use Rattle.pip_audit.proofs.auditor.Auditor.place.Goals as goal

pub returns-clause-read : goal.returns-clause-read
returns-clause-read g c =
    let m = g.M.Frames.memory c.args.mem.now in
    let a = c.args.self.now in
    let b = record a { child = c.load.new.self } in
    let above = c.place_rows.new.self in
    stays_worded m b (record a.words { above = above })
    (stays_marked m a b c.requires.read c.load.ensures.is_of.room c.requires.read.has_read.room.sets refl)
    (above_words (length m) a.words above c.requires.read.has_read.room.words c.place_rows.ensures.room)
