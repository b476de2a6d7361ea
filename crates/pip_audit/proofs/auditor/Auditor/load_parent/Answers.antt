use Rattle.pip_model.specs.ReadOff.{node_read}
use Rattle.pip_model.specs.Tree.{row_pages}
use Rattle.pip_audit.specs.FrameSets.{contains}
use Rattle.pip_audit.proofs.Lends.{has_of}
use Rattle.pip_audit.proofs.auditor.Auditor.load_parent.Goals as goal

pub returns-clause-lends : goal.returns-clause-lends
returns-clause-lends g c =
    let m = g.M.Frames.memory c.args.mem.now in
    let t = c.load.new.self in
    let lent = c.insert_rows-are_new.new.self in
    record {
      of = c.load.ensures.is_of;
      rows = λ f. has_of (contains c.clear.new.self) (row_pages (node_read m t.part)) f (contains lent f)
          c.clear.ensures.none (c.insert_rows-are_new.ensures.set f);
      rights = c.gather_rights.ensures.rights;
    }
