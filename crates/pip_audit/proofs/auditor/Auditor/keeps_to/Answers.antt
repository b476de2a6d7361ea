use Rattle.std.proofs.Common.{◌≡◌, ◌==◌, arith, sym, ap, ◌∙◌, subst, true, false}
use Rattle.pip_base.specs.Memory.{word_at}
use Rattle.pip_audit.specs.Comparing.{tree_in}
use Rattle.pip_audit.specs.Judging.{IsReadLater, TellsEach, keeps_to}
use Rattle.pip_audit.proofs.Broken.{lent_told, named_told, part_parents_come_first_told, part_pages_apart_told}
use Rattle.pip_audit.proofs.Broken.{part_lent_both, part_lent_not, part_siblings_apart_told, part_rights_told}
use Rattle.pip_audit.proofs.Broken.{part_tables_of_rows_told, part_no_lines_but_the_root_told}
use Rattle.pip_audit.proofs.EachNode.{count_some, root_name}
use Rattle.pip_audit.proofs.auditor.Auditor.keeps_to.Goals as goal

pub up-requires-clause-node : goal.up-requires-clause-node
up-requires-clause-node g c =
    let r = c.each_node.ensures.read in
    count_some (g.M.Frames.memory c.args.mem.now) c.each_node.new.self r.others r.has_read

pub returns-then-each_node-clause-keeps : goal.returns-then-each_node-clause-keeps
returns-then-each_node-clause-keeps g c =
    let m = g.M.Frames.memory c.args.mem.now in
    let a = c.args.self.now in
    let b = c.each_node.new.self in
    let r = c.each_node.ensures.read in
    let each = subst (TellsEach (IsReadLater m a.names.items) 1 a.count) c.if-each_node.true c.each_node.ensures.each in
    ap (λ w. w == 1) (c.up.ensures
    ∙ ap (λ f. word_at m f 11) (root_name b.names.items b.count r.others r.has_read.names))
    ∙ part_parents_come_first_told m a c.requires.read true each
    ∙ ap (λ k. keeps_to k (tree_in m)) (sym c.in-1.is)

pub returns-else-each_node-clause-keeps : goal.returns-else-each_node-clause-keeps
returns-else-each_node-clause-keeps g c =
    let m = g.M.Frames.memory c.args.mem.now in
    let a = c.args.self.now in
    let each = subst (TellsEach (IsReadLater m a.names.items) 1 a.count) c.if-each_node.false c.each_node.ensures.each
    in
    c.if-each_node.false ∙ part_parents_come_first_told m a c.requires.read false each
    ∙ ap (λ k. keeps_to k (tree_in m)) (sym c.in-1.is)

pub returns-in-3-clause-keeps : goal.returns-in-3-clause-keeps
returns-in-3-clause-keeps g c =
    let m = g.M.Frames.memory c.args.mem.now in
    part_pages_apart_told m c.args.self.now c.requires.read c.each_node-in-3.result c.each_node-in-3.ensures.each
    ∙ ap (λ k. keeps_to k (tree_in m)) (sym c.in-3.is)

pub returns-then-each_node-2-clause-keeps : goal.returns-then-each_node-2-clause-keeps
returns-then-each_node-2-clause-keeps g c =
    let m = g.M.Frames.memory c.args.mem.now in
    let lent = c.each_node-in-4 in
    let named = c.each_node-then-each_node-2 in
    let one = c.requires.before 1 (omega arith) (omega arith) in
    part_lent_both (tree_in m) named.result
    (sym c.if-each_node-2.true ∙ lent_told m c.args.self.now c.requires.read lent.result one lent.ensures.each)
    (named_told m lent.new.self lent.ensures.read named.result named.ensures.each)
    ∙ ap (λ k. keeps_to k (tree_in m)) (sym c.in-4.is)

pub returns-else-each_node-2-clause-keeps : goal.returns-else-each_node-2-clause-keeps
returns-else-each_node-2-clause-keeps g c =
    let m = g.M.Frames.memory c.args.mem.now in
    let lent = c.each_node-in-4 in
    let one = c.requires.before 1 (omega arith) (omega arith) in
    c.if-each_node-2.false
    ∙ part_lent_not (tree_in m) (sym c.if-each_node-2.false
    ∙ lent_told m c.args.self.now c.requires.read lent.result one lent.ensures.each)
    ∙ ap (λ k. keeps_to k (tree_in m)) (sym c.in-4.is)

pub returns-in-5-clause-keeps : goal.returns-in-5-clause-keeps
returns-in-5-clause-keeps g c =
    let m = g.M.Frames.memory c.args.mem.now in
    part_siblings_apart_told m c.args.self.now c.requires.read c.each_node-in-5.result
    (c.requires.before 1 (omega arith) (omega arith)) (c.requires.before 3 (omega arith) (omega arith))
    c.each_node-in-5.ensures.each
    ∙ ap (λ k. keeps_to k (tree_in m)) (sym c.in-5.is)

pub returns-in-6-clause-keeps : goal.returns-in-6-clause-keeps
returns-in-6-clause-keeps g c =
    let m = g.M.Frames.memory c.args.mem.now in
    part_rights_told m c.args.self.now c.requires.read c.each_node-in-6.result
    (c.requires.before 1 (omega arith) (omega arith)) c.each_node-in-6.ensures.each
    ∙ ap (λ k. keeps_to k (tree_in m)) (sym c.in-6.is)

pub returns-in-7-clause-keeps : goal.returns-in-7-clause-keeps
returns-in-7-clause-keeps g c =
    let m = g.M.Frames.memory c.args.mem.now in
    part_tables_of_rows_told m c.args.self.now c.requires.read c.each_node-in-7.result c.each_node-in-7.ensures.each
    ∙ ap (λ k. keeps_to k (tree_in m)) (sym c.in-7.is)

pub returns-in_default-clause-keeps : goal.returns-in_default-clause-keeps
returns-in_default-clause-keeps g c =
    let m = g.M.Frames.memory c.args.mem.now in
    let last : 8 ≡ c.args.part = omega arith in
    part_no_lines_but_the_root_told m c.args.self.now c.requires.read c.each_node-in_default.result
    c.each_node-in_default.ensures.each
    ∙ ap (λ k. keeps_to k (tree_in m)) last
