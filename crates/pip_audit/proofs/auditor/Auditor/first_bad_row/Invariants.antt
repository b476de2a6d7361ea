use Rattle.std.proofs.Common.{◌≡◌, ℕ, ◌<◌, length, None}
use Rattle.pip_model.specs.ReadOff.{table_stop}
use Rattle.pip_audit.specs.Blocks.{AreKnown}
use Rattle.pip_audit.specs.FrameSets.{AreSets}
use Rattle.pip_audit.specs.Seen.{AreTables}
use Rattle.pip_audit.proofs.TableWords.{tables_of}
use Rattle.pip_audit.proofs.auditor.Auditor.first_bad_row.Given as goal

-- no table so far stops
abbrev pub invariant-loop-j : goal.invariant-loop-j
invariant-loop-j g l =
    ((k : ℕ) → k < l.j
    → table_stop (g.M.Frames.memory l.mem) (tables_of (g.M.Frames.memory l.mem) l.fn.f l.count) k ≡ None)
    × AreSets (length (g.M.Frames.memory l.mem)) l.self.sets
    × AreTables (g.M.Frames.memory l.mem) l.self
    × AreKnown (g.M.Frames.memory l.mem) l.self.blocks
    × (l.self ≡ record l.fn.self { sets = l.self.sets; blocks = l.self.blocks })
