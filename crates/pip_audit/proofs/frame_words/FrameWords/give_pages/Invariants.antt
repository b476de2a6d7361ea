use Rattle.std.proofs.Common.{◌≡◌, ℕ, length, drop}
use Rattle.pip_base.specs.Words.{as_configuration}
use Rattle.pip_model.specs.ReadOff.{node_read}
use Rattle.pip_model.specs.Tree.{config}
use Rattle.pip_audit.specs.FrameWords.{word_held}
use Rattle.pip_audit.specs.Given.{held_over, word_as}
use Rattle.pip_audit.proofs.frame_words.FrameWords.give_pages.Given as goal

-- the words of the pages so far are held
abbrev pub invariant-loop-k : goal.invariant-loop-k
invariant-loop-k g l =
    ((f : ℕ) → held_over (word_as as_configuration (node_read (g.M.Frames.memory l.mem) l.part))
    (drop l.k (config (node_read (g.M.Frames.memory l.mem) l.part))) (word_held l.self) f
    ≡ held_over (word_as as_configuration (node_read (g.M.Frames.memory l.mem) l.part))
    (config (node_read (g.M.Frames.memory l.mem) l.part)) (word_held l.fn.self) f)
    × (length l.self.words.items ≡ length l.fn.self.words.items)
