use Rattle.std.proofs.Common.{ℕ, ◌<◌, ◌≤◌, true}
use Rattle.pip_audit.specs.Judging.{KeepsNodes}
use Rattle.pip_audit.specs.Reading.{IsRead}
use Rattle.pip_audit.proofs.auditor.Auditor.each_node.Given as goal

-- each node so far passed
abbrev pub invariant-loop-x : goal.invariant-loop-x
invariant-loop-x g l = record {
  read : IsRead (g.M.Frames.memory l.mem) l.self;
  keeps : KeepsNodes l.fn.self l.self;
  from : l.from ≤ l.x;
  says : (k : ℕ) → l.from ≤ k → k < l.x
      → g.T.NodeTest.says (g.M.Frames.memory l.mem) l.fn.self.names.items l.fn.self.count k true;
}
