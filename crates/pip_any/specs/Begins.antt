-- Where runs of two images begin that differ in some pages alone, and steps that read none of them.
use Rattle.std.specs.Prelude.{◌≡◌, ℕ, zero, suc, ◌+◌, List}
use Rattle.pip_base.specs.declared.types.Plan.{Plan}
use Rattle.pip_model.specs.Acts.{after_acts}
use Rattle.pip_model.specs.Images.{Image, image_word}
use Rattle.pip_model.specs.Run.{image_world, raises, schedule, step, steps}
use Rattle.pip_model.specs.Worlds.{World}
use Rattle.pip_guests.specs.Outside.{Alike}
use Rattle.pip_guests.specs.Turns.{TurnReadsOutside}

-- two images of one size of whose words the same is seen begin alike
abbrev pub ImagesLookAlike : Type 0
ImagesLookAlike = (own : List ℕ) (look : ℕ → ℕ → ℕ → ℕ) (i j : Image) → i.frames ≡ j.frames → i.cpus ≡ j.cpus
    → ((g k : ℕ) → look g k (image_word i.frames i.pages g k) ≡ look g k (image_word j.frames j.pages g k))
    → Alike own look (image_world i) (image_world j)

-- each turn of n steps from step t on reads nothing of words but what is seen
abbrev pub StepsReadOutside : List ℕ → (ℕ → ℕ → ℕ → ℕ) → World → List Plan → ℕ → ℕ → ℕ → ℕ → Type 0
StepsReadOutside own look w plans seed c zero t = Unit {0}
StepsReadOutside own look w plans seed c (suc n) t =
    TurnReadsOutside own look (after_acts w (raises plans t)) (schedule seed c t) t
    × StepsReadOutside own look (after_acts w (step w plans (schedule seed c t) t)) plans seed c n (t + 1)

-- then they are the same in both worlds, and lead to worlds that look alike
abbrev pub StepsDependOnOutside : Type 0
StepsDependOnOutside = (own : List ℕ) (look : ℕ → ℕ → ℕ → ℕ) (w v : World) (plans : List Plan) (seed c n t : ℕ)
    → Alike own look w v
    → StepsReadOutside own look w plans seed c n t
    → (steps w plans seed c n t ≡ steps v plans seed c n t)
    × Alike own look (after_acts w (steps w plans seed c n t)) (after_acts v (steps v plans seed c n t))
