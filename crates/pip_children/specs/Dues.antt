-- What is due of a command on children of the root.
use Rattle.std.specs.Prelude.{◌≡◌, ℕ, ◌+◌, ◌≤◌, ◌<◌, ◌⊎◌, List, [], ◌++◌, Some, None, Result, Ok, Err}
use Rattle.std.specs.Prelude.{option_map}
use Rattle.pip_command_contracts.specs.EndsBy.{Due, Response, plainly}
use Rattle.pip_command_contracts.specs.Faults.{image_line}
use Rattle.pip_command_contracts.specs.ImageDues.{IsFaulty, IsHeaderText, image_due}
use Rattle.pip_image.specs.Reading.{EndsAtMost}
use Rattle.pip_model.specs.Images.{Image, image, image_parts}
use Rattle.pip_model.specs.Worlds.{World}
use Rattle.pip_model.specs.declared.image.ImageError.{ImageError}
use Rattle.pip_native.specs.Watching.{pages_taken, short_line}
use Rattle.pip_children.specs.Children.{Schedule, children_text, children_world}

-- this many frames have room for n children
abbrev pub IsRoomy : ℕ → ℕ → Type 0
IsRoomy n frames = pages_taken n + 13 ≤ frames

-- these bytes are a header of too few frames for n children
pub record IsShort (n : ℕ) (bytes : List ℕ) : Type 0 where
  pub header : IsHeaderText bytes
  pub few : header.fields.frames < pages_taken n + 13

-- no such header stands at the front of these bytes
abbrev pub IsUnshort : ℕ → List ℕ → Type 0
IsUnshort n bytes = (front back : List ℕ) → bytes ≡ front ++ back → IsShort n front → ⊥

-- the line of a header of too few frames
abbrev pub IsShortAnswer : ℕ → List ℕ → Response → Type 0
IsShortAnswer n bytes v = (s : IsShort n bytes) × (v ≡ plainly 8 (short_line s.header.fields.frames n) None)

-- a text of n children of an image, and a world
module _ (text : Image → List ℕ) (world : Image → World) (n : ℕ) where
  -- these, if the image has room; or the line that names the first fault, where no header of too few frames stands
  -- before it
  abbrev pub IsChildrenAnswer : List ℕ → Result Image ImageError → Response → Type 0
  IsChildrenAnswer bytes (Ok i) v = IsRoomy n i.frames × (v ≡ plainly 0 (text i) (Some (world i)))
  IsChildrenAnswer bytes (Err e) v =
      IsUnshort n bytes × (option_map (λ line. plainly 2 line None) (image_line e) ≡ Some v)

  -- a command on them stops after a header of too few frames, too. It asks for memory after a header with room
  abbrev pub children_due : Due
  children_due = record (image_due (λ input v. IsShortAnswer n input v ⊎ IsChildrenAnswer input (image input) v)
      (λ bytes left. (h : IsHeaderText bytes) × IsRoomy n h.fields.frames)) {
        enough = λ bytes. IsShort n bytes ⊎ IsFaulty bytes;
        so_far = λ bytes text. EndsAtMost (image_parts bytes).fault × IsUnshort n bytes × (text ≡ []);
      }

-- what is due of a schedule
abbrev pub schedule_due : Schedule → ℕ → Due
schedule_due s n = children_due (λ i. children_text s i n) (λ i. children_world s i n) n
