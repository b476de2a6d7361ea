use Rattle.std.proofs.Common.{sym, ap, ◌∙◌}
use Rattle.pip_model.specs.FullRows.{cells_of}
use Rattle.pip_model.specs.NodeWords.{descriptor_word, list_word}
use Rattle.pip_model.specs.ReadOff.{node_read}
use Rattle.pip_model.specs.Tree.{table_at}
use Rattle.pip_audit.specs.Comparing.{entry_held, role_of, rows_held, wanted_word}
use Rattle.pip_audit.proofs.PageWords.{descriptor_role, directory_role, entry_is, list_role, table_role}
use Rattle.pip_audit.proofs.auditor.Auditor.wanted.Goals as goal

pub returns-in-Descriptor : goal.returns-in-Descriptor
returns-in-Descriptor g c =
    let m = g.M.Frames.memory c.args.mem.now in
    let a = c.args.self.now in
    let x = node_read m a.node.part in
    c.descriptor_word.ensures
    ∙ ap (λ p. descriptor_word (node_read m p) c.args.i) c.part.ensures
    ∙ sym (descriptor_role x (cells_of (rows_held m a)) c.args.i)
    ∙ sym (ap (λ r. wanted_word m a (role_of r) c.args.i) c.in-Descriptor.is)

pub returns-in-Directory : goal.returns-in-Directory
returns-in-Directory g c =
    let m = g.M.Frames.memory c.args.mem.now in
    let a = c.args.self.now in
    let x = node_read m a.node.part in
    let level = c.in-Directory.level in
    c.directory_word.ensures
    ∙ ap (entry_held level) (c.requires.holds.of.of c.args.i c.requires.index)
    ∙ entry_is level (table_at x.tables c.args.i)
    ∙ sym (directory_role x (cells_of (rows_held m a)) level c.args.i)
    ∙ sym (ap (λ r. wanted_word m a (role_of r) c.args.i) c.in-Directory.is)

pub returns-in-Table : goal.returns-in-Table
returns-in-Table g c =
    let m = g.M.Frames.memory c.args.mem.now in
    let a = c.args.self.now in
    let x = node_read m a.node.part in
    c.cell.ensures
    ∙ sym (table_role x (cells_of (rows_held m a)) c.in-Table.level c.in-Table.index c.args.i)
    ∙ sym (ap (λ r. wanted_word m a (role_of r) c.args.i) c.in-Table.is)

pub returns-in-List : goal.returns-in-List
returns-in-List g c =
    let m = g.M.Frames.memory c.args.mem.now in
    let a = c.args.self.now in
    let x = node_read m a.node.part in
    c.list_word.ensures
    ∙ ap (λ p. list_word (node_read m p) c.in-List.k c.args.i) c.part-in-List.ensures
    ∙ sym (list_role x (cells_of (rows_held m a)) c.in-List.k c.args.i)
    ∙ sym (ap (λ r. wanted_word m a (role_of r) c.args.i) c.in-List.is)
