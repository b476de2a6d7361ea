use Rattle.pip_audit.specs.Tables.{row_seen, tables_in}
use Rattle.pip_audit.proofs.PageWords.{rights_small}
use Rattle.pip_audit.proofs.auditor.Auditor.cell.Goals as goal

pub leaf_word-requires-clause-rights : goal.leaf_word-requires-clause-rights
leaf_word-requires-clause-rights g c =
    let m = g.M.Frames.memory c.args.mem.now in
    rights_small m (tables_in m c.args.self.now.node.part) c.args.v (row_seen c.in-Some.row) c.in-Some.ensures.2
