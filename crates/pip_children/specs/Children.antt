-- What is done with children of the root that are built of an image's pages.
use Rattle.std.specs.Prelude.{ℕ, List, ◌++◌, length}
use Rattle.pip_base.specs.declared.types.Plan.{Plan}
use Rattle.pip_model.specs.Acts.{Act, after_acts, text_of}
use Rattle.pip_model.specs.Images.{Image}
use Rattle.pip_model.specs.Run.{end_line, image_world, trace_image_line}
use Rattle.pip_model.specs.Worlds.{World}
use Rattle.pip_native.specs.Watching.{addresses, built_from, ready_world}

-- how children are run
pub record Schedule : Type 0 where
  -- how many steps that has for n children
  pub steps : ℕ → ℕ
  -- what is done with these interrupt lines and children, from a world in which the children are built
  pub acts : List Plan → List ℕ → World → List Act

-- what is done with n children of an image
abbrev pub image_acts : Schedule → Image → ℕ → List Act
image_acts s i n = s.acts i.plans (addresses n n) (ready_world (image_world i) n)

-- the world after it
abbrev pub children_world : Schedule → Image → ℕ → World
children_world s i n = after_acts (ready_world (image_world i) n) (image_acts s i n)

-- the whole text: the image line, a line for each child, the lines of the steps, and the last line
abbrev pub children_text : Schedule → Image → ℕ → List ℕ
children_text s i n =
    trace_image_line i.frames i.cpus (length i.plans) (length i.pages)
    ++ (built_from 0 (addresses n n) ++ (text_of (image_acts s i n) ++ end_line (s.steps n)))
