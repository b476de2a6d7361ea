use Rattle.std.proofs.Common.{sym, subst}
use Rattle.pip_audit.specs.Comparing.{Covers}
use Rattle.pip_audit.proofs.TreeIn.{no_table, plays_table, table_only}
use Rattle.pip_audit.proofs.auditor.Auditor.judge_table.Goals as goal

pub judge-requires-clause-role : goal.judge-requires-clause-role
judge-requires-clause-role g c =
    plays_table (g.M.Frames.memory c.args.mem.now) c.args.self.now c.requires.judges c.args.level c.args.d
    c.page_of.result c.in-Some.tables c.requires.index (sym c.in-Some.ensures) c.page_of.ensures

pub returns-in-None-clause-covers : goal.returns-in-None-clause-covers
returns-in-None-clause-covers g c = λ f e.
    absurd (no_table (g.M.Frames.memory c.args.mem.now) c.args.self.now c.requires.judges c.args.level
    c.args.d f c.requires.index (sym c.in-None.ensures) e)

pub returns-in-Some-clause-covers : goal.returns-in-Some-clause-covers
returns-in-Some-clause-covers g c = λ f e.
    let m = g.M.Frames.memory c.args.mem.now in
    subst (Covers m c.judge.result) (sym (table_only m c.args.self.now c.requires.judges c.args.level
    c.args.d c.page_of.result f c.in-Some.tables c.requires.index (sym c.in-Some.ensures) c.page_of.ensures e))
    c.judge.ensures.covers
