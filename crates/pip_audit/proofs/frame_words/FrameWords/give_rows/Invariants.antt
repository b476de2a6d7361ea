use Rattle.std.proofs.Common.{◌≡◌, ℕ, ◌-◌, ◌^◌, ◌≤◌, length}
use Rattle.pip_base.specs.Words.{as_lent}
use Rattle.pip_model.specs.ReadOff.{node_read}
use Rattle.pip_model.specs.Tree.{row_pages}
use Rattle.pip_audit.specs.FrameWords.{word_held}
use Rattle.pip_audit.specs.Given.{held_over, word_as}
use Rattle.pip_audit.specs.Tables.{pages_left}
use Rattle.pip_audit.proofs.frame_words.FrameWords.give_rows.Given as goal

-- the words of the rows so far are held
abbrev pub invariant-loop-row : goal.invariant-loop-row
invariant-loop-row g l = record {
  small : l.from ≤ 2 ^ 20;
  words : (f : ℕ) → held_over (word_as as_lent (node_read (g.M.Frames.memory l.mem) l.tables.part))
      (pages_left (g.M.Frames.memory l.mem) l.tables.part l.from)
      (word_held l.self) f ≡ held_over (word_as as_lent (node_read (g.M.Frames.memory l.mem) l.tables.part))
      (row_pages (node_read (g.M.Frames.memory l.mem) l.tables.part)) (word_held l.fn.self) f;
  room : length l.self.words.items ≡ length l.fn.self.words.items;
}

abbrev pub decreases-loop-row : goal.decreases-loop-row
decreases-loop-row g l = 1048576 - l.from
