-- A block with other words in one of its frames, and the loan of a frame that leaves it so.
use Rattle.std.specs.Prelude.{ℕ, List, slice_set}
use Rattle.std.specs.Borrow.{Lends, MutBor, Fml, u32, Array}
use mathlib.Core.Path.{sym, ◌∙◌}
use lib.ListN.{length-set}
use Rattle.pip_frames.specs.declared.block.Block.{Block}
use Rattle.pip_frames.specs.contracts.block.Block.{the_row}

-- the block with these words in frame f
abbrev pub block_with_frame : Block → ℕ → List ℕ → Block
block_with_frame s f ws =
    record s { frames = slice_set s.frames f ws; counted = s.counted ∙ sym (length-set s.frames f ws) }

-- when the loan of frame f ends, the block has the words that are left in it
abbrev pub LendsFrame : MutBor Block → ℕ → MutBor (List ℕ) → Fml
LendsFrame s f lent = Lends the_row (Array u32 1024) s lent (block_with_frame s.now f)
