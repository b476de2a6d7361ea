use Rattle.std.proofs.Common.{◌≡◌, ℕ, ◌&&◌, length, drop}
use Rattle.pip_model.specs.ReadOff.{node_read}
use Rattle.pip_model.specs.Tree.{config}
use Rattle.pip_audit.specs.FrameSets.{are_fresh, contains, with_all}
use Rattle.pip_audit.proofs.frame_set.FrameSet.insert_pages.Given as goal

-- the pages so far are in
abbrev pub invariant-loop-k : goal.invariant-loop-k
invariant-loop-k g l =
    (are_fresh (contains l.fn.self) (config (node_read (g.M.Frames.memory l.mem) l.part))
    ≡ (l.are_new
    && are_fresh (contains l.self) (drop l.k (config (node_read (g.M.Frames.memory l.mem) l.part)))))
    × ((f : ℕ) → with_all (contains l.fn.self) (config (node_read (g.M.Frames.memory l.mem) l.part)) f
    ≡ with_all (contains l.self) (drop l.k (config (node_read (g.M.Frames.memory l.mem) l.part))) f)
    × (length l.self.has.items ≡ length l.fn.self.has.items)
