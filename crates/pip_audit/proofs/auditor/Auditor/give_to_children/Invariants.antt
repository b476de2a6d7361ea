use Rattle.std.proofs.Common.{◌≡◌, ◌-◌, ◌≤◌}
use Rattle.std.specs.Prelude.{slice_index}
use Rattle.pip_audit.specs.Families.{NamesParent, end_of}
use Rattle.pip_audit.specs.FrameWords.{word_held}
use Rattle.pip_audit.specs.Reading.{IsRead}
use Rattle.pip_audit.proofs.ShadowWords.{GivenSoFar}
use Rattle.pip_audit.proofs.auditor.Auditor.give_to_children.Given as goal

-- the words of what the children so far hold are held
abbrev pub invariant-loop-next : goal.invariant-loop-next
invariant-loop-next g l = record {
  read : IsRead (g.M.Frames.memory l.mem) l.self;
  rest : l.self ≡ record l.fn.self { child = l.self.child; words = l.self.words };
  child : NamesParent (g.M.Frames.memory l.mem) l.fn.self.names.items l.fn.self.count
      (slice_index l.fn.self.names.items l.y) l.next;
  most : end_of l.fn.self.count l.next ≤ l.fn.self.count;
  given : GivenSoFar (g.M.Frames.memory l.mem) l.fn.self.names.items
      (slice_index l.fn.self.names.items l.y) (end_of l.fn.self.count l.next)
      (word_held l.self.words.given);
}

abbrev pub decreases-loop-next : goal.decreases-loop-next
decreases-loop-next g l = l.fn.self.count - end_of l.fn.self.count l.next
