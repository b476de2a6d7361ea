-- What the commands that look at a machine after a run write.
use Rattle.std.specs.Prelude.{ℕ, List, ◌++◌}
use Rattle.pip_model.specs.Acts.{after_acts}
use Rattle.pip_model.specs.Dump.{frames_text, tree_text}
use Rattle.pip_model.specs.Images.{Image}
use Rattle.pip_model.specs.Run.{end_line, image_world, steps}
use Rattle.pip_model.specs.Worlds.{World}

-- the world after a number of steps of an image
abbrev pub stepped_world : Image → ℕ → ℕ → World
stepped_world image count seed =
    after_acts (image_world image) (steps (image_world image) image.plans seed image.cpus count 0)

-- `tree` after a run: the partitions of its last tree, and a last line
abbrev pub tree_run_text : Image → ℕ → ℕ → List ℕ
tree_run_text image count seed = tree_text (stepped_world image count seed).tree ++ end_line count

-- `core` after a run: the frames of its last tree, and a last line
abbrev pub core_run_text : Image → ℕ → ℕ → List ℕ
core_run_text image count seed = frames_text (stepped_world image count seed).tree ++ end_line count
