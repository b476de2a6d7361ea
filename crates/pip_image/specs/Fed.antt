-- Where a reader of images that is fed their bytes is.
use Rattle.std.specs.Prelude.{ℕ, ◌+◌, ◌==◌, ◌&&◌, nat_lt, Bool, if◌then◌else◌, List}
use Rattle.pip_image.specs.Coming.{coming}
use Rattle.pip_image.specs.declared.parts.PartReader.{PartReader}
use Rattle.pip_model.specs.Images.{PartsRead, image_parts}

-- how the bytes that follow are told
abbrev pub told : PartReader → List ℕ → PartsRead
told r = if r.begun then coming r.place else image_parts

-- how many bytes the next part has
abbrev pub size : PartReader → ℕ
size r = if r.begun then (if nat_lt 0 r.place.plans then 12 else if nat_lt 0 r.place.pages then 4100 else 1) else 24

-- all parts were given
abbrev pub is_all_fed : PartReader → Bool
is_all_fed r = r.begun && (r.place.plans == 0) && (r.place.pages == 0)

-- at most how many parts are left
abbrev pub left : PartReader → ℕ
left r = if r.begun then r.place.plans + r.place.pages else 4113
