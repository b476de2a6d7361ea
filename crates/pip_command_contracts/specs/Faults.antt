-- The faults of images, as the lines that name them.
use Rattle.std.specs.Prelude.{ℕ, List, ◌++◌, Option, Some, None, codes, decimal}
use Rattle.pip_model.specs.Text.{line_text}
use Rattle.pip_model.specs.declared.image.ImageError.{ImageError}
use Rattle.pip_model.specs.declared.image.ImageError.TheVariants as F

-- a fault of an image, with its offset
abbrev pub bad_image : List ℕ → ℕ → List ℕ
bad_image kind at = line_text (codes "bad image " ++ kind ++ codes " " ++ decimal at)

-- the line that names the fault; a failed read has none
abbrev pub image_line : ImageError → Option (List ℕ)
image_line (F.Magic at) = Some (bad_image (codes "magic") at)
image_line (F.OldVersion at) = Some (bad_image (codes "oldversion") at)
image_line (F.Frames at) = Some (bad_image (codes "frames") at)
image_line (F.Cpus at) = Some (bad_image (codes "cpus") at)
image_line (F.Plan at) = Some (bad_image (codes "plan") at)
image_line (F.Page at) = Some (bad_image (codes "page") at)
image_line (F.Twice at) = Some (bad_image (codes "twice") at)
image_line (F.Short at) = Some (bad_image (codes "short") at)
image_line (F.Long at) = Some (bad_image (codes "long") at)
image_line F.Read = None
