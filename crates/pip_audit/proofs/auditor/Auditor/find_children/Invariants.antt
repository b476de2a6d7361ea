use Rattle.std.proofs.Common.{◌≡◌, ◌+◌, ◌-◌, ◌≤◌, length}
use Rattle.pip_audit.specs.Families.{HasChildren, HasFamilyRoom}
use Rattle.pip_audit.proofs.auditor.Auditor.find_children.Given as goal

-- the children from the last node that was taken on are found
abbrev pub invariant-loop-j : goal.invariant-loop-j
invariant-loop-j g l = record {
  rest : l.self ≡ record l.fn.self { family = l.self.family };
  room : HasFamilyRoom (length (g.M.Frames.memory l.mem)) l.self.family;
  some : 1 ≤ l.j;
  found : HasChildren (g.M.Frames.memory l.mem) l.fn.self.names.items l.fn.self.count l.self.family
      (l.fn.self.count - l.j + 1);
}
