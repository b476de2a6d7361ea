-- What a run of children begins with.
use Rattle.std.specs.Prelude.{◌≡◌, ℕ, ◌+◌, ◌<◌, List, Option, Result, MatchResult}
use Rattle.std.specs.Io.KnownBytes.{Consumes}
use Rattle.pip_base.specs.declared.types.Plan.{Plan}
use Rattle.pip_image.specs.Reading.{Refuses}
use Rattle.pip_io.specs.Taken.{Taken, Appends, AppendsPart, SendsPart}
use Rattle.pip_model.specs.Images.{Image, Part, image_parts}
use Rattle.pip_model.specs.declared.image.ImageError.{ImageError}
use Rattle.pip_switch.specs.Standing.{StandsAs, State}
use Rattle.pip_native.specs.Watching.{pages_taken}
use Rattle.pip_children.specs.Children.{Schedule, children_text, children_world}
use Rattle.pip_command_contracts.specs.Loading.{LoadsImage}
use Rattle.pip_children.specs.Dues.{IsRoomy, IsUnshort}
use Rattle.pip_command_contracts.specs.ImageDues.{IsHeaderText}
use Rattle.pip_children.specs.declared.loading.ChildrenLoadError.{ChildrenLoadError}
use Rattle.pip_children.specs.declared.loading.ChildrenLoadError.TheVariants as T

-- the whole input was read, and it is an image with room
pub record LoadsNative (n : ℕ) (left left' : Option (List ℕ)) (frames pages : ℕ) (plans : List Plan)
    (p : State) : Type 0 where
  pub loads : LoadsImage left left' frames pages plans p
  pub roomy : IsRoomy n frames

-- a header of that many frames was read, and no page
pub record ReadsHeader (left left' : Option (List ℕ)) (frames : ℕ) : Type 0 where
  pub bytes : List ℕ
  pub read : Consumes left left' bytes
  pub header : IsHeaderText bytes
  pub same : header.fields.frames ≡ frames

-- there was no memory after a header with room
pub record LacksMemoryNative (n : ℕ) (left left' : Option (List ℕ)) : Type 0 where
  pub frames : ℕ
  pub read : ReadsHeader left left' frames
  pub roomy : IsRoomy n frames

-- the header has too few frames
pub record IsFew (n : ℕ) (left left' : Option (List ℕ)) (frames : ℕ) : Type 0 where
  pub read : ReadsHeader left left' frames
  pub few : frames < pages_taken n + 13

-- after some parts comes this fault, and no header of too few frames stands before it
pub record RefusesUnshort (n : ℕ) (left left' : Option (List ℕ)) (reads reads' : ℕ) (e : ImageError) : Type 0 where
  pub parts : List Part
  pub refused : Refuses image_parts parts left left' reads reads' e
  pub unshort : IsUnshort n refused.bytes

-- the image has a fault, or its reading failed; there was no memory; or too few frames. The numbers count failed reads
abbrev pub StoppedNative : ℕ → ChildrenLoadError → Option (List ℕ) → Option (List ℕ) → ℕ → ℕ → Type 0
StoppedNative n (T.Image e) left left' reads reads' = RefusesUnshort n left left' reads reads' e
StoppedNative n T.Memory left left' reads reads' = LacksMemoryNative n left left' × (reads' ≡ reads)
StoppedNative n (T.Short frames) left left' reads reads' = IsFew n left left' frames × (reads' ≡ reads)

-- at Ok the text was taken, and the machine stands for the last world; at Err a part of the text was taken
abbrev pub ShowsChildren : {T E : Type 0} → Result T E → Schedule → Image → ℕ → Taken → Taken → State → Type 0
ShowsChildren result s i n before after p = MatchResult result
    (λ v. Appends before after (children_text s i n) × StandsAs p (children_world s i n))
    (λ e. AppendsPart before after (children_text s i n))

-- all of the text went out at Ok, and a part at Err
abbrev pub ShowsChildrenOut : {T E : Type 0} → Result T E → Schedule → Image → ℕ → Taken → Taken → State → Type 0
ShowsChildrenOut result s i n before after p = MatchResult result
    (λ v. Appends before after (children_text s i n) × StandsAs p (children_world s i n))
    (λ e. SendsPart before after (children_text s i n))
