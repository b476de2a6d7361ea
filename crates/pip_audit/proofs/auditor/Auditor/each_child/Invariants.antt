use Rattle.std.proofs.Common.{◌≡◌, ◌-◌, ◌≤◌, true}
use Rattle.std.specs.Prelude.{slice_index}
use Rattle.pip_audit.specs.Families.{NamesParent, end_of}
use Rattle.pip_audit.specs.Judging.{KeepsNodes, Lends, parent_test}
use Rattle.pip_audit.specs.Reading.{IsRead}
use Rattle.pip_audit.proofs.Families.{SoFarEach}
use Rattle.pip_audit.proofs.auditor.Auditor.each_child.Given as goal

-- each child so far passed
abbrev pub invariant-loop-next : goal.invariant-loop-next
invariant-loop-next g l = record {
  read : IsRead (g.M.Frames.memory l.mem) l.self;
  keeps : KeepsNodes l.fn.self l.self;
  lends : Lends (g.M.Frames.memory l.mem) l.self;
  part : l.self.node.part ≡ slice_index l.fn.self.names.items l.y;
  child : NamesParent (g.M.Frames.memory l.mem) l.fn.self.names.items l.fn.self.count
      (slice_index l.fn.self.names.items l.y) l.next;
  most : end_of l.fn.self.count l.next ≤ l.fn.self.count;
  passed : SoFarEach (g.M.Frames.memory l.mem) l.fn.self.names.items l.fn.self.count
      (slice_index l.fn.self.names.items l.y)
      (λ k. parent_test g.T.ChildTest.holds (g.M.Frames.memory l.mem) l.fn.self.names.items k ≡ true)
      (end_of l.fn.self.count l.next);
}

abbrev pub decreases-loop-next : goal.decreases-loop-next
decreases-loop-next g l = l.fn.self.count - end_of l.fn.self.count l.next
