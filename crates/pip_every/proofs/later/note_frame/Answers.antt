-- A word that is written changes neither the number of frames nor their shape.
use Rattle.std.proofs.Common.{arith}
use Rattle.pip_base.proofs.Memory.{IsMemory-put}
use Rattle.pip_every.proofs.later.note_frame.Goals as goal
use Rattle.pip_every.proofs.later.note_frame.Goals.{then-word-ne0, else-word-ne0}

pub loop-i-preserved : goal.loop-i-preserved
loop-i-preserved g c = elim c.if-word-ne0.branch [
  | then-word-ne0 w ↦ record {
    count = rw (w.to-is, w.set_word.ensures.count, c.loop-i.invariant.count);
    shape = rw (w.to-is, w.set_word.ensures.words) (IsMemory-put c.loop-i.to.block.frames c.args.frame c.loop-i.i
        c.word-word.result c.loop-i.invariant.shape (omega (arith, c.requires.to, c.loop-i.invariant.count)));
  }
  | else-word-ne0 w ↦ record {
    count = rw (w.to-is, c.loop-i.invariant.count);
    shape = rw w.to-is c.loop-i.invariant.shape;
  }
]
