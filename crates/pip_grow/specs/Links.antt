-- Pages that are linked into a chain.
use Rattle.std.specs.Prelude.{ℕ, ◌<◌, List, [], ◌∷◌, length}
use Rattle.pip_base.specs.declared.types.Pair.{Pair}
use Rattle.pip_base.specs.Memory.{Memory, put_word, zero_frame}
use Rattle.pip_model.specs.Collect.{first_va}
use Rattle.pip_model.specs.Lists.{In}

-- the memory with an address as word 0 of a frame, whose other words are 0
abbrev pub link_page : Memory → ℕ → ℕ → Memory
link_page m f next = put_word (zero_frame m f) f 0 next

-- the memory with these pages linked, each to the next one, and the last to 0
abbrev pub links : Memory → List Pair → Memory
links m [] = m
links m (g ∷ gs) = link_page (links m gs) g.frame (first_va gs)

-- they are frames of the memory
abbrev pub ArePagesIn : Memory → List Pair → Type 0
ArePagesIn m gs = (g : Pair) → In g gs → g.frame < length m
