use Rattle.std.proofs.Common.{sym, subst, ap, ◌∙◌}
use Rattle.pip_model.specs.NodeIn.{directory_of}
use Rattle.pip_model.specs.ReadOff.{node_read}
use Rattle.pip_audit.specs.Comparing.{Covers}
use Rattle.pip_audit.proofs.TreeIn.{directory_only, plays_directory}
use Rattle.pip_audit.proofs.auditor.Auditor.judge_directory.Goals as goal

pub judge-requires-clause-role : goal.judge-requires-clause-role
judge-requires-clause-role g c =
    let m = g.M.Frames.memory c.args.mem.now in
    plays_directory m c.args.self.now c.requires.judges c.args.level c.directory-directory.result
    (c.directory-directory.ensures
    ∙ ap (λ p. (directory_of c.args.level (node_read m p).base).frame) c.part.ensures)

pub returns-clause-covers : goal.returns-clause-covers
returns-clause-covers g c = λ f e.
    let m = g.M.Frames.memory c.args.mem.now in
    subst (Covers m c.judge.result) (sym (directory_only m c.args.self.now c.requires.judges c.args.level
    c.directory-directory.result f (c.directory-directory.ensures ∙ ap (λ p.
    (directory_of c.args.level (node_read m p).base).frame) c.part.ensures) e)) c.judge.ensures.covers
