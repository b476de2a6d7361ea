use Rattle.std.proofs.Common.{◌-◌, ◌≤◌}
use Rattle.std.specs.Prelude.{slice_index}
use Rattle.pip_audit.specs.Families.{NamesParent, end_of}
use Rattle.pip_audit.specs.FrameSets.{contains}
use Rattle.pip_audit.specs.Judging.{KeepsNodes, held_at_place}
use Rattle.pip_audit.specs.Reading.{IsRead}
use Rattle.pip_audit.proofs.Siblings.{SoFar}
use Rattle.pip_audit.proofs.parts.HasChildrenApartNodeTest.at.Given as goal

-- what the children so far hold is met, and is apart
abbrev pub invariant-loop-next : goal.invariant-loop-next
invariant-loop-next g l = record {
  read : IsRead (g.M.Frames.memory l.mem) l.a;
  keeps : KeepsNodes l.fn.a l.a;
  child : NamesParent (g.M.Frames.memory l.mem) l.fn.a.names.items l.fn.a.count
      (slice_index l.fn.a.names.items l.x) l.next;
  most : end_of l.fn.a.count l.next ≤ l.fn.a.count;
  met : SoFar (held_at_place (g.M.Frames.memory l.mem) l.fn.a.names.items l.x) (end_of l.fn.a.count l.next)
      (contains l.a.sets.met);
}

abbrev pub decreases-loop-next : goal.decreases-loop-next
decreases-loop-next g l = l.fn.a.count - end_of l.fn.a.count l.next
