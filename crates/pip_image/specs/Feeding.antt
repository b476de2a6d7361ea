-- What bytes are that a reader of images is fed.
use Rattle.std.specs.Prelude.{◌≡◌, ◌≢◌, ◌<◌, ℕ, Bool, true, false, List, ◌++◌, length, Some}
use Rattle.pip_image.specs.Reading.{EndsAtMost, only_fault}
use Rattle.pip_image.specs.Taking.{fields_seen}
use Rattle.pip_image.specs.declared.parts.PartRead.{PartRead}
use Rattle.pip_image.specs.declared.parts.PartRead.TheVariants as P
use Rattle.pip_model.specs.Images.{Head, Holds, Line, Part, PartsRead, part_before}
use Rattle.pip_model.specs.declared.image.ImageError.{ImageError}
use Rattle.pip_model.specs.declared.image.ImageError.TheVariants as F

-- the part of the model; the words are those of a page
abbrev pub part_fed : List ℕ → PartRead → Part
part_fed words (P.Fields f) = Head (fields_seen f)
part_fed words (P.Plan p) = Line p
part_fed words (P.Page v) = Holds (record { vpage = v; words = words })

-- the bytes are this part, and then what comes, whatever follows them
abbrev pub IsPartAt : (List ℕ → PartsRead) → (List ℕ → PartsRead) → List ℕ → List ℕ → PartRead → Type 0
IsPartAt tell tell' words bytes p = (rest : List ℕ) → tell (bytes ++ rest) ≡ part_before (part_fed words p) (tell' rest)

-- the bytes end too early
abbrev pub is_short : ImageError → Bool
is_short (F.Short at) = true
is_short e = false

-- the bytes have this fault; where they end too early they are fewer than k, and else it stays, whatever follows them
pub record IsFaultAt (tell : List ℕ → PartsRead) (k : ℕ) (bytes : List ℕ) (e : ImageError) : Type 0 where
  pub here : tell bytes ≡ only_fault e
  pub own : e ≢ F.Read
  pub few : is_short e ≡ true → (length bytes < k) × EndsAtMost (Some e)
  pub fixed : is_short e ≡ false → (rest : List ℕ) → tell (bytes ++ rest) ≡ only_fault e
