use Rattle.std.proofs.Common.{◌≡◌, ℕ, ◌-◌, ◌<◌, ◌≤◌, length, None}
use Rattle.pip_model.specs.Walking.{visit_at}
use Rattle.pip_audit.specs.Blocks.{AreKnown}
use Rattle.pip_audit.specs.FrameWords.{AreFrameWords}
use Rattle.pip_audit.specs.Seen.{AreQuiet}
use Rattle.pip_audit.specs.Tables.{tables_in}
use Rattle.pip_audit.proofs.auditor.Auditor.next_child.Given as goal

-- no visit so far
abbrev pub invariant-loop-v : goal.invariant-loop-v
invariant-loop-v g l =
    (l.fn.from ≤ l.v)
    × ((u : ℕ) → l.fn.from ≤ u → u < l.v
    → visit_at (g.M.Frames.memory l.mem) (tables_in (g.M.Frames.memory l.mem) l.fn.self.node.part) u ≡ None)
    × AreFrameWords (length (g.M.Frames.memory l.mem)) l.self.words
    × AreQuiet (g.M.Frames.memory l.mem) l.self
    × AreKnown (g.M.Frames.memory l.mem) l.self.blocks
    × (l.self ≡ record l.fn.self { words = l.self.words; blocks = l.self.blocks })

abbrev pub decreases-loop-v : goal.decreases-loop-v
decreases-loop-v g l = 1048576 - l.v
