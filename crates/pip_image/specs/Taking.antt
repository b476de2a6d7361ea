-- What a parser of a slice gives.
use Rattle.std.specs.Prelude.{◌≤◌, Result, Ok, Err}
use Rattle.pip_model.specs.declared.image.ImageError.{ImageError}
use Rattle.pip_image.specs.declared.fields.Fields.{Fields as OwnFields}
use Rattle.pip_model.specs.Images.{Fields}

-- a result whose value is viewed
abbrev pub seen : {X Y : Type 0} → (X → Y) → Result X ImageError → Result Y ImageError
seen view (Ok x) = Ok (view x)
seen view (Err e) = Err e

-- the fields of the model that the program's fields are
abbrev pub fields_seen : OwnFields → Fields
fields_seen h = record { frames = h.frames; cpus = h.cpus; plans = h.plans; pages = h.pages }

-- the fields are within their limits
abbrev pub HasFieldsWithin : OwnFields → Type 0
HasFieldsWithin f = (16 ≤ f.frames) × (f.frames ≤ 4096) × (1 ≤ f.cpus) × (f.cpus ≤ 4) × (f.plans ≤ 16) ×
    (f.pages ≤ 4096)
