-- Where a reader of an image may read more.
use Rattle.std.specs.Prelude.{◌≡◌, ◌<◌, ℕ, false, List, [], length}
use Rattle.pip_model.specs.Images.{PartsRead, image_parts}
use Rattle.pip_image.specs.Reading.{EndsAtMost, LacksHeader}
use Rattle.pip_image.specs.Sought.{is_wrong}
use Rattle.pip_image.specs.declared.filling.Sought.{Sought}

-- bytes that don't fill a buffer of that many, and aren't wrong for what is sought
abbrev pub IsUnfilled : ℕ → Sought → List ℕ → Type 0
IsUnfilled count sought bytes = (length bytes < count) × (is_wrong sought bytes ≡ false)

-- bytes with no fault but that they end
abbrev pub IsFaultless : (List ℕ → PartsRead) → List ℕ → Type 0
IsFaultless tell bytes = EndsAtMost (tell bytes).fault

-- bytes that are no whole part yet, and have no fault but that they end
abbrev pub IsPartless : (List ℕ → PartsRead) → List ℕ → Type 0
IsPartless tell bytes = ((tell bytes).parts ≡ []) × IsFaultless tell bytes

-- bytes that are no whole header yet, and have no fault but that they end
abbrev pub IsHeaderless : List ℕ → Type 0
IsHeaderless bytes = LacksHeader (image_parts bytes).parts × IsFaultless image_parts bytes
