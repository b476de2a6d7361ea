use Rattle.std.proofs.Common.{◌≡◌, ◌-◌, ◌^◌, ◌≤◌, length}
use Rattle.pip_model.specs.ReadOff.{node_read}
use Rattle.pip_audit.specs.FrameWords.{rights_held}
use Rattle.pip_audit.specs.Tables.{rows_left}
use Rattle.pip_audit.proofs.Narrowing.{AreSoFar}
use Rattle.pip_audit.proofs.frame_words.FrameWords.gather_rights.Given as goal

-- the rights that the rows so far give are held
abbrev pub invariant-loop-row : goal.invariant-loop-row
invariant-loop-row g l = record {
  small : l.from ≤ 2 ^ 20;
  rights : AreSoFar (rights_held l.self) (node_read (g.M.Frames.memory l.mem) l.tables.part).rows
      (rows_left (g.M.Frames.memory l.mem) l.tables.part l.from);
  room : length l.self.words.items ≡ length l.fn.self.words.items;
}

abbrev pub decreases-loop-row : goal.decreases-loop-row
decreases-loop-row g l = 1048576 - l.from
