use Rattle.std.proofs.Common.{◌≡◌, ℕ, ◌-◌, ◌^◌, ◌≤◌, length}
use Rattle.pip_model.specs.FullRows.{vpage_of_page, place_word}
use Rattle.pip_model.specs.ReadOff.{node_read}
use Rattle.pip_audit.specs.FrameWords.{word_held}
use Rattle.pip_audit.specs.Tables.{rows_left}
use Rattle.pip_audit.proofs.ShadowWords.{placed}
use Rattle.pip_audit.proofs.frame_words.FrameWords.place_rows.Given as goal

-- of the rows so far the first of each page is held
abbrev pub invariant-loop-row : goal.invariant-loop-row
invariant-loop-row g l = record {
  small : l.from ≤ 2 ^ 20;
  words : (f : ℕ) → placed (rows_left (g.M.Frames.memory l.mem) l.tables.part l.from) (word_held l.self) f
      ≡ place_word (vpage_of_page (node_read (g.M.Frames.memory l.mem) l.tables.part) f);
  room : length l.self.words.items ≡ length l.fn.self.words.items;
}

abbrev pub decreases-loop-row : goal.decreases-loop-row
decreases-loop-row g l = 1048576 - l.from
