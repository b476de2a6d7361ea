-- Bytes that can't be the beginning of the part that is sought.
use Rattle.std.specs.Prelude.{◌≤◌, ◌^◌, ℕ, Bool, true, false, List, Result, Ok, Err}
use Rattle.pip_model.specs.declared.image.ImageError.{ImageError}
use Rattle.pip_model.specs.declared.image.ImageError.TheVariants as F
use Rattle.pip_model.specs.Images.{fields_of, plan_at, front_page}
use Rattle.pip_image.specs.declared.filling.Sought.{Sought}
use Rattle.pip_image.specs.declared.filling.Sought.TheVariants.{Fields, Plan, Page}

-- a fault, and not only that the bytes end too early
abbrev pub is_fault : {X : Type 0} → Result X ImageError → Bool
is_fault (Err (F.Short at)) = false
is_fault (Err e) = true
is_fault (Ok x) = false

-- whether bytes have a fault, whatever follows them
abbrev pub is_wrong : Sought → List ℕ → Bool
is_wrong Fields bytes = is_fault (fields_of bytes)
is_wrong (Plan at least) bytes = is_fault (plan_at at least bytes)
is_wrong (Page frames before at) bytes = is_fault (front_page frames before.now at bytes)

-- the offset and the number of frames are within their limits
abbrev pub IsSought : Sought → Type 0
IsSought Fields = Unit {0}
IsSought (Plan at least) = at ≤ 2 ^ 32
IsSought (Page frames before at) = (16 ≤ frames) × (frames ≤ 4096)
