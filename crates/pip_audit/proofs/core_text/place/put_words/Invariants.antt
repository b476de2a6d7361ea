use Rattle.std.proofs.Common.{◌≡◌, ◌+◌, drop, length}
use Rattle.pip_base.specs.Memory.{put_words}
use Rattle.pip_audit.proofs.core_text.place.put_words.Given as goal

abbrev pub invariant-loop-k : goal.invariant-loop-k
invariant-loop-k g l = record {
  words : put_words (g.M.Frames.memory l.mem) l.frame (l.index + l.k) (drop l.k l.words)
      ≡ put_words (g.M.Frames.memory l.fn.mem) l.frame l.index l.words;
  count : length (g.M.Frames.memory l.mem) ≡ length (g.M.Frames.memory l.fn.mem);
}
