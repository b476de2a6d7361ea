use Rattle.std.proofs.Common.{◌+◌, sym, ◌∙◌}
use Rattle.std.specs.Prelude.{slice_index}
use Rattle.pip_audit.specs.Families.{IsNextOf}
use Rattle.pip_audit.specs.Judging.{parent_test}
use Rattle.pip_audit.proofs.Families.{each_first, each_next}
use Rattle.pip_audit.proofs.auditor.Auditor.each_child.Goals as goal

pub loop-next-init : goal.loop-next-init
loop-next-init g c =
    let m = g.M.Frames.memory c.args.mem.now in
    let a = c.args.self.now in
    let y = c.args.y in
    let keeps = c.load_parent.ensures.keeps in
    let n : IsNextOf m a.names.items a.count (slice_index a.names.items y) 1 c.first_child-next.result =
    rw c.name-parent.ensures.name at c.first_child-next.ensures in
    record {
      read = c.load_parent.ensures.read;
      keeps = keeps;
      lends = c.load_parent.ensures.lends;
      part = c.load_parent.ensures.part ∙ c.name-parent.ensures.name;
      child = n.child;
      most = n.most;
      passed = each_first m a.names.items a.count (slice_index a.names.items y) _ _ n;
    }

pub at-requires-clause-node : goal.at-requires-clause-node
at-requires-clause-node g c =
    let inv = c.loop-next.invariant in
    rw inv.keeps.count (inv.child c.in-Some.x c.in-Some.is).1

pub loop-next-preserved : goal.loop-next-preserved
loop-next-preserved g c =
    let m = g.M.Frames.memory c.args.mem.now in
    let a = c.args.self.now in
    let x = c.in-Some.x in
    let parent = slice_index a.names.items c.args.y in
    let inv = c.loop-next.invariant in
    let at = c.at.ensures in
    let up = (inv.child x c.in-Some.is).2 in
    let n : IsNextOf m a.names.items a.count parent (x + 1) c.next_child_after-next.result =
    rw (at.rest, inv.keeps.count, inv.keeps.names, up) at c.next_child_after-next.ensures in
    let passes = sym at.holds ∙ c.if-not-at.false in
    let before = rw c.in-Some.is at inv.passed in
    record {
      read = at.read;
      keeps = rw at.rest (record { count = inv.keeps.count; names = inv.keeps.names });
      lends = rw at.rest (record { of = inv.lends.of; rows = inv.lends.rows; rights = inv.lends.rights });
      part = rw at.rest inv.part;
      child = n.child;
      most = n.most;
      passed = each_next m a.names.items a.count parent _ _ x before
          (rw (parent_test, up) (rw (inv.part, inv.keeps.names) at passes)) n;
    }
