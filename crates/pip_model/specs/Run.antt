-- The run of an image, as a list of acts: at each step lines are raised and one processor takes its turn.
use Rattle.std.specs.Prelude.{ℕ, zero, suc, ◌+◌, ◌%◌, if◌then◌else◌, List, [], ◌∷◌, ◌++◌, length, codes, decimal}
use Rattle.pip_base.specs.declared.types.Plan.{Plan}
use Rattle.pip_model.specs.Acts.{Act, Makes, Writes, after_acts, text_of}
use Rattle.pip_model.specs.Due.{is_due}
use Rattle.pip_model.specs.Events as E
use Rattle.pip_model.specs.Generator.{state_after}
use Rattle.pip_model.specs.Images.{Image, image_word}
use Rattle.pip_model.specs.Turn.{turn}
use Rattle.pip_model.specs.Worlds.{World, boot_world_with}

-- ---- the schedule

-- the processor, of c, whose turn it is at step t: draw t, counted from 0
abbrev pub schedule : ℕ → ℕ → ℕ → ℕ
schedule seed c t = state_after seed (suc t) % c

-- ---- the steps

-- the lines that are due at t are raised, in the order of the plans
abbrev pub raises : List Plan → ℕ → List Act
raises [] t = []
raises (p ∷ ps) t = if is_due p t then Makes (E.Raise p.line) ∷ raises ps t else raises ps t

-- and then the processor takes its turn
abbrev pub step : World → List Plan → ℕ → ℕ → List Act
step w plans cpu t = raises plans t ++ turn (after_acts w (raises plans t)) cpu t

-- a number of steps from step t on, of c processors
abbrev pub steps : World → List Plan → ℕ → ℕ → ℕ → ℕ → List Act
steps w plans seed c zero t = []
steps w plans seed c (suc n) t = step w plans (schedule seed c t) t
    ++ steps (after_acts w (step w plans (schedule seed c t) t)) plans seed c n (t + 1)

-- ---- the run of an image

-- the boot world with the image's words in the root's pages
abbrev pub image_world : Image → World
image_world image = boot_world_with (image_word image.frames image.pages) image.frames image.cpus

-- the first line of a trace
abbrev pub trace_image_line : ℕ → ℕ → ℕ → ℕ → List ℕ
trace_image_line frames cpus plans pages = codes "image " ++ decimal frames ++ codes " " ++ decimal cpus ++ codes " "
    ++ decimal plans ++ codes " " ++ decimal pages ++ codes "\n"

-- the last line of a trace
abbrev pub end_line : ℕ → List ℕ
end_line count = codes "end " ++ decimal count ++ codes "\n"

-- a first line, the steps from step 0 on, the last line
abbrev pub trace : World → List ℕ → List Plan → ℕ → ℕ → ℕ → List Act
trace w line plans seed c count = Writes line ∷ (steps w plans seed c count 0 ++ Writes (end_line count) ∷ [])

-- `count` steps of an image by the schedule of a seed: all acts, the last world, the text
abbrev pub run : Image → ℕ → ℕ → List Act
run image count seed = trace (image_world image) (trace_image_line image.frames image.cpus (length image.plans)
    (length image.pages)) image.plans seed image.cpus count

-- the world after a run
abbrev pub run_world : Image → ℕ → ℕ → World
run_world image count seed = after_acts (image_world image) (run image count seed)

-- the trace of a run
abbrev pub run_text : Image → ℕ → ℕ → List ℕ
run_text image count seed = text_of (run image count seed)
