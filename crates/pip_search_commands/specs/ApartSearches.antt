-- What searches of an image's guests find, and how they end.
use Rattle.std.specs.Prelude.{ℕ, List, ◌++◌, length, None}
use Rattle.pip_apart.specs.Found.{IsKnownAt}
use Rattle.pip_apart.specs.Searches.{known_of}
use Rattle.pip_apart.specs.Texts.{known_text}
use Rattle.pip_apart.specs.declared.searching.Knowledge.{Knowledge}
use Rattle.pip_base.specs.Memory.{Memory}
use Rattle.pip_base.specs.declared.types.Plan.{Plan}
use Rattle.pip_image.specs.declared.header.Header.{Header}
use Rattle.pip_model.specs.Booted.{IsBooted}
use Rattle.pip_model.specs.Run.{trace_image_line}
use Rattle.pip_search_commands.specs.SearchDues.{most_choices}
use Rattle.pip_search_commands.specs.Searches.{world_after}

-- the text of what was found from frames with this header
abbrev pub knowledge_text : Header → Knowledge → List ℕ
knowledge_text h k =
    trace_image_line h.frames h.cpus (length h.plans.items) h.pages ++ known_text (known_of k)

-- what is known is that of the world after these steps of a machine that boots with these frames
abbrev pub IsKnownFrom : ℕ → ℕ → ℕ → ℕ → List Plan → Memory → Knowledge → Type 0
IsKnownFrom states count seed cpus plans first k = (n : ℕ) (words : ℕ → ℕ → ℕ) → IsBooted n words first
    → IsKnownAt (world_after words n cpus plans count seed) (most_choices None) states (known_of k)
