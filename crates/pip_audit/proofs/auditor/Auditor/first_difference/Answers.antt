use Rattle.std.proofs.Common.{ℕ, ◌<◌, sym, subst}
use Rattle.std.specs.Prelude.{slice_index}
use Rattle.pip_model.proofs.Audit.PartTests.{tests_parents_come_first}
use Rattle.pip_audit.specs.declared.auditor.Auditor.{Auditor}
use Rattle.pip_audit.specs.Comparing.{CoversChildren, tree_in}
use Rattle.pip_audit.proofs.Children.{parent_place}
use Rattle.pip_audit.proofs.Differing.{goes_then, whole}
use Rattle.pip_audit.proofs.Judges.{all_covered, node_stays}
use Rattle.pip_audit.proofs.auditor.Auditor.first_difference.Goals as goal

pub returns-clause-difference : goal.returns-clause-difference
returns-clause-difference g c =
    let m = g.M.Frames.memory c.args.mem.now in
    let b = c.judge_root-first.new.self in
    let root = c.judge_root-first.ensures in
    let nodes = c.judge_nodes-first.ensures in
    let placed = c.judge_all_placed.ensures in
    let result = c.judge_all_placed.result in
    let goes = goes_then m c.judge_root-first.result c.judge_nodes-first.result result nodes.goes placed.goes in
    let one = (tests_parents_come_first (tree_in m)).from c.requires.sound.parents_come_first in
    let children = subst (λ (z : Auditor). (y : ℕ) → y < z.count → CoversChildren m z result
    (slice_index z.names.items y) z.count) nodes.rest placed.covers in
    whole m result goes.is
    (all_covered m b root.read c.requires.sound result (goes.stays 0 root.zero)
    (λ d f e. goes.stays f (root.covers d f e))
    (λ k h. node_stays m (slice_index b.names.items k) c.judge_nodes-first.result result placed.goes (nodes.covers k h))
    (λ k lo h. let (y, inside, up) = parent_place m b root.read one k lo h in children y inside k lo h (sym up)))
