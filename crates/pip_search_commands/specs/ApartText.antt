-- The text of `apart`.
use Rattle.std.specs.Prelude.{ℕ, List, ◌++◌, length}
use Rattle.pip_apart.specs.Found.{Known}
use Rattle.pip_apart.specs.Texts.{known_text}
use Rattle.pip_model.specs.Images.{Image}
use Rattle.pip_model.specs.Run.{trace_image_line}

-- the first line of a trace, and then what is known of the guests
abbrev pub apart_text : Image → Known → List ℕ
apart_text i k = trace_image_line i.frames i.cpus (length i.plans) (length i.pages) ++ known_text k
