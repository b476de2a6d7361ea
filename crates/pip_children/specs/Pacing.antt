-- Where a command on children may read more of its input.
use Rattle.std.specs.Prelude.{ℕ, List}
use Rattle.pip_image.specs.Pacing.{IsFaultless}
use Rattle.pip_model.specs.Images.{image_parts}
use Rattle.pip_children.specs.Dues.{IsUnshort}

-- no fault of an image but that it ends, and no header of too few frames for n children
abbrev pub IsFaultlessUnshort : ℕ → List ℕ → Type 0
IsFaultlessUnshort n bytes = IsFaultless image_parts bytes × IsUnshort n bytes
