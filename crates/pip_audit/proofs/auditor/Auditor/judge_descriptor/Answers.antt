use Rattle.std.proofs.Common.{sym, subst}
use Rattle.pip_audit.specs.Comparing.{Covers}
use Rattle.pip_audit.proofs.TreeIn.{descriptor_only, plays_descriptor}
use Rattle.pip_audit.proofs.auditor.Auditor.judge_descriptor.Goals as goal

pub judge-requires-clause-role : goal.judge-requires-clause-role
judge-requires-clause-role g c =
    plays_descriptor (g.M.Frames.memory c.args.mem.now) c.args.self.now c.requires.judges c.part.result c.part.ensures

pub returns-clause-covers : goal.returns-clause-covers
returns-clause-covers g c = λ f e.
    let m = g.M.Frames.memory c.args.mem.now in
    subst (Covers m c.judge.result) (sym (descriptor_only m c.args.self.now c.requires.judges c.part.result f
    c.part.ensures e)) c.judge.ensures.covers
