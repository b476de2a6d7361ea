use Rattle.std.proofs.Common.{◌≡◌, ℕ, ◌-◌, ◌^◌, ◌≤◌, ◌&&◌, length}
use Rattle.pip_model.specs.ReadOff.{node_read}
use Rattle.pip_model.specs.Tree.{row_pages}
use Rattle.pip_audit.specs.FrameSets.{are_fresh, contains, with_all}
use Rattle.pip_audit.specs.Tables.{pages_left}
use Rattle.pip_audit.proofs.frame_set.FrameSet.insert_rows.Given as goal

-- the pages of the rows so far are in
abbrev pub invariant-loop-row : goal.invariant-loop-row
invariant-loop-row g l = record {
  small : l.from ≤ 2 ^ 20;
  fresh : are_fresh (contains l.fn.self) (row_pages (node_read (g.M.Frames.memory l.mem) l.tables.part))
      ≡ (l.are_new && are_fresh (contains l.self) (pages_left (g.M.Frames.memory l.mem) l.tables.part l.from));
  set : (f : ℕ) → with_all (contains l.fn.self) (row_pages (node_read (g.M.Frames.memory l.mem) l.tables.part)) f
      ≡ with_all (contains l.self) (pages_left (g.M.Frames.memory l.mem) l.tables.part l.from) f;
  room : length l.self.has.items ≡ length l.fn.self.has.items;
}

abbrev pub decreases-loop-row : goal.decreases-loop-row
decreases-loop-row g l = 1048576 - l.from
