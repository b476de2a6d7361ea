-- What a run of an image begins with.
use Rattle.std.specs.Prelude.{◌≡◌, ℕ, List, ◌++◌, length, Option, Ok}
use Rattle.std.specs.Io.KnownBytes.{Consumes, IsAtEnd}
use Rattle.pip_base.specs.Memory.{Memory}
use Rattle.pip_base.specs.declared.types.Plan.{Plan}
use Rattle.pip_image.specs.Coming.{header_parts}
use Rattle.pip_image.specs.Reading.{IsFaultWithin, Refuses, RefusesAfter}
use Rattle.pip_image.specs.declared.header.Header.{Header}
use Rattle.pip_model.specs.Booted.{IsBooted}
use Rattle.pip_model.specs.Images.{Image, Part, image, image_parts, image_word}
use Rattle.pip_model.specs.Run.{image_world}
use Rattle.pip_switch.specs.Standing.{StandsAs, State}
use Rattle.pip_command_contracts.specs.ImageDues.{IsHeaderText}
use Rattle.pip_command_contracts.specs.declared.loading.LoadError.{LoadError}
use Rattle.pip_command_contracts.specs.declared.loading.LoadError.TheVariants as T

-- these numbers and plans are the image's, and the machine stands for its first world
pub record Begins (i : Image) (n k : ℕ) (ls : List Plan) (p : State) : Type 0 where
  pub frames : n ≡ i.frames
  pub pages : k ≡ length i.pages
  pub plans : ls ≡ i.plans
  pub cpus : length p.cpus ≡ i.cpus
  pub stands : StandsAs p (image_world i)

-- the numbers and the plans of a header are the image's, and frames lay out its boot tree
pub record BeginsFrames (i : Image) (h : Header) (m : Memory) : Type 0 where
  pub frames : h.frames ≡ i.frames
  pub cpus : h.cpus ≡ i.cpus
  pub plans : h.plans.items ≡ i.plans
  pub pages : h.pages ≡ length i.pages
  pub booted : IsBooted i.frames (image_word i.frames i.pages) m

-- the whole input was read, and it is an image; no machine was made yet
pub record LoadsFrames (left left' : Option (List ℕ)) (h : Header) (m : Memory) : Type 0 where
  pub input : List ℕ
  pub parsed : Image
  pub read : Consumes left left' input
  pub whole : IsAtEnd left'
  pub good : image input ≡ Ok parsed
  pub begins : BeginsFrames parsed h m

-- what was read is an image, of which nothing is left
pub record LoadsFront (left left' : Option (List ℕ)) (h : Header) (m : Memory) : Type 0 where
  pub front : List ℕ
  pub parsed : Image
  pub read : Consumes left left' front
  pub good : image front ≡ Ok parsed
  pub begins : BeginsFrames parsed h m

-- a fault that stops loading is one of the image itself
abbrev pub IsStopInside : LoadError → Type 0
IsStopInside (T.Image e) = IsFaultWithin e
IsStopInside T.Memory = Unit {0}

-- the whole input was read, and it is an image
pub record LoadsImage (left left' : Option (List ℕ)) (frames pages : ℕ) (plans : List Plan) (p : State) : Type 0 where
  pub input : List ℕ
  pub parsed : Image
  pub read : Consumes left left' input
  pub whole : IsAtEnd left'
  pub good : image input ≡ Ok parsed
  pub begins : Begins parsed frames pages plans p

-- there was no memory after the header
pub record LacksMemoryAfterHeader (left left' : Option (List ℕ)) : Type 0 where
  pub bytes : List ℕ
  pub read : Consumes left left' bytes
  pub header : IsHeaderText bytes

-- the image has a fault, or its reading failed; or there was no memory. The numbers count failed reads
abbrev pub StoppedLoading : LoadError → Option (List ℕ) → Option (List ℕ) → ℕ → ℕ → Type 0
StoppedLoading (T.Image e) left left' reads reads' = RefusesAfter image_parts left left' reads reads' e
StoppedLoading T.Memory left left' reads reads' = LacksMemoryAfterHeader left left' × (reads' ≡ reads)

-- what stops after a header: its parts are the first, and its frames are that many
abbrev pub StoppedAfter : Header → LoadError → Option (List ℕ) → Option (List ℕ) → ℕ → ℕ → Type 0
StoppedAfter h (T.Image e) left left' reads reads' =
    (parts : List Part) × Refuses image_parts (header_parts h ++ parts) left left' reads reads' e
StoppedAfter h T.Memory left left' reads reads' =
    (l : LacksMemoryAfterHeader left left') × (l.header.fields.frames ≡ h.frames) × (reads' ≡ reads)

-- there is such an image
abbrev pub HasImage : ℕ → ℕ → List Plan → State → Type 0
HasImage frames pages plans p = (i : Image) × Begins i frames pages plans p
