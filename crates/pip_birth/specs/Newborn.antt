-- A partition without tables in five frames.
use Rattle.std.specs.Prelude.{ℕ, ◌<◌, false, List, [], ◌∷◌, All, length}
use Rattle.pip_model.specs.Answers.{pair_frames}
use Rattle.pip_base.specs.declared.types.Pair.{Pair}
use Rattle.pip_base.specs.Memory.{IsMemory, Memory, put_word, put_words, zero_frame}
use Rattle.pip_config.specs.Lists.{pair_words}
use Rattle.pip_model.specs.Lists.{Distinct}
use Rattle.pip_model.specs.Tree.{Base, Node}

-- a partition with this base and parent that has nothing else yet
abbrev pub bare : Base → ℕ → Node
bare b up = record {
  name = b.descriptor.frame;
  up = up;
  born = b.descriptor.va;
  base = b;
  tables = [];
  more = [];
  rows = [];
  masked = false;
  pending = [];
}

-- different frames of the memory
pub record AreFrames (m : Memory) (ps : List Pair) : Type 0 where
  pub shape : IsMemory m
  pub inside : All (λ (p : Pair). p.frame < length m) ps
  pub once : Distinct (pair_frames ps)

-- the memory with zeros in these frames
abbrev pub zero_frames : Memory → List ℕ → Memory
zero_frames m [] = m
zero_frames m (f ∷ fs) = zero_frames (zero_frame m f) fs

-- the memory with the descriptor of a partition that has this base and parent in a frame of zeros
abbrev pub put_descriptor : Memory → ℕ → List Pair → ℕ → Memory
put_descriptor m f ps up = put_word (put_words m f 0 (pair_words ps)) f 11 up
