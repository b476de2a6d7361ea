-- Time slots of images. The children of the root are built of an image's pages, as `native` builds them, and the plan
-- of slots runs them. What a child does, and when, depends on its own two pages of the image alone.
use Rattle.std.specs.Prelude.{◌≡◌, ℕ, zero, suc, ◌+◌, ◌*◌, ◌≤◌, ◌<◌, List, ◌++◌, length, map, Some}
use Rattle.std.specs.Prelude.{[], ◌∷◌, slice_get, slice_index}
use Rattle.std.specs.List.{AllByRecursion}
use Rattle.pip_model.specs.Acts.{Act, after_acts, text_of}
use Rattle.pip_model.specs.Boot.{frame_of_root}
use Rattle.pip_model.specs.Images.{Image, image_word}
use Rattle.pip_model.specs.Run.{end_line, image_world, trace_image_line}
use Rattle.pip_model.specs.Sound.{ArePageWords, IsWord}
use Rattle.pip_model.specs.Tree.{vpage}
use Rattle.pip_model.specs.Worlds.{World}
use Rattle.pip_native.specs.Watching.{addresses, built_from, fresh, page_address, pages_taken, ready_world}
use Rattle.pip_slots.specs.declared.time_slot.RoundSlot.{RoundSlot}
use Rattle.pip_slots.specs.declared.time_slot.TimeSlot.{TimeSlot}
use Rattle.pip_slots.specs.Slots.{IsBetweenSlots, IsRootsChild, lines_of_child, rounds, slot_run, slot_texts}

-- two images have the same words in the root's page at an address
abbrev pub AgreeAt : ℕ → Image → Image → Type 0
AgreeAt va a b = (g i : ℕ) → frame_of_root a.frames (vpage va) ≡ Some g → i < 1024
    → image_word a.frames a.pages g i ≡ image_word b.frames b.pages g i

-- two images for machines of one size that have child k of n in common: its program, and the page of its handlers
pub record AgreeOnChild (n k : ℕ) (a b : Image) : Type 0 where
  pub frames : a.frames ≡ b.frames
  pub cpus : a.cpus ≡ b.cpus
  pub program : AgreeAt (page_address k) a b
  pub handlers : AgreeAt (fresh n k 11) a b

-- an image has room for n children, 8 at most; and its numbers are within their ranges, as those of each image are
-- that can be read
pub record HasRooms (n : ℕ) (a : Image) : Type 0 where
  pub most : n ≤ 8
  pub room : pages_taken n + 13 ≤ a.frames
  pub frames_least : 16 ≤ a.frames
  pub frames_most : a.frames ≤ 4096
  pub cpus_least : 1 ≤ a.cpus
  pub cpus_most : a.cpus ≤ 4
  pub words : ArePageWords (image_word a.frames a.pages)

-- the lines of child k of n, from step t on
abbrev pub child_lines : Image → ℕ → ℕ → List TimeSlot → ℕ → List ℕ
child_lines a n k ss t = lines_of_child (fresh n k 0) (ready_world (image_world a) n) ss t

-- for two images that have child k in common its lines are the same, with the numbers of the steps, whatever the images
-- have for the other children
abbrev pub ImagesSeparate : Type 0
ImagesSeparate = (a b : Image) (n k t : ℕ) (ss : List TimeSlot) → k < n → HasRooms n a → HasRooms n b
    → AgreeOnChild n k a b → AllByRecursion (λ s. IsWord s.child) ss → child_lines a n k ss t ≡ child_lines b n k ss t

-- so is what each slot of the child writes
abbrev pub ImagesSeparateSlots : Type 0
ImagesSeparateSlots = (a b : Image) (n k t : ℕ) (ss : List TimeSlot) → k < n → HasRooms n a → HasRooms n b
    → AgreeOnChild n k a b → AllByRecursion (λ s. IsWord s.child) ss → (j : ℕ) (s : TimeSlot)
    → slice_get ss j ≡ Some s → s.child ≡ fresh n k 0 → slice_get (slot_texts (ready_world (image_world a) n) ss t) j
    ≡ slice_get (slot_texts (ready_world (image_world b) n) ss t) j

-- ---- rounds: their slots name the children by their numbers, in any order and as often as they like

-- the slots of a round, of the children at these addresses
abbrev pub placed : List RoundSlot → List ℕ → List TimeSlot
placed round children = map (λ x. record { child = slice_index children x.child; turns = x.turns }) round

-- how many steps it has
abbrev pub round_steps : List RoundSlot → ℕ
round_steps [] = 0
round_steps (x ∷ xs) = (x.turns + 2) + round_steps xs

-- the round in which each of n children has a slot of this many turns, in turn
abbrev pub in_turn : ℕ → ℕ → List RoundSlot
in_turn zero turns = []
in_turn (suc n) turns = in_turn n turns ++ record { child = n; turns = turns } ∷ []

-- the plan of that many rounds for n children
abbrev pub round_plan : ℕ → List RoundSlot → ℕ → List TimeSlot
round_plan n round c = rounds (placed round (addresses n n)) c

-- so in any rounds each child's lines are those of its own two pages
abbrev pub ImagesSeparateRounds : Type 0
ImagesSeparateRounds = (a b : Image) (n k c : ℕ) (round : List RoundSlot) → k < n → HasRooms n a → HasRooms n b
    → AgreeOnChild n k a b → child_lines a n k (round_plan n round c) 0 ≡ child_lines b n k (round_plan n round c) 0

-- the law of slots speaks of every image with room: its machine is at the beginning of a slot once the children are
-- built, and each of them is there
abbrev pub ImagesBegin : Type 0
ImagesBegin = (a : Image) (n : ℕ) → HasRooms n a → IsBetweenSlots (ready_world (image_world a) n)
    × ((k : ℕ) → k < n → (p : ℕ) × IsRootsChild (ready_world (image_world a) n) (fresh n k 0) p)

-- ---- the command: n children of an image, and then `c` rounds of slots

-- what is done in these rounds
abbrev pub slots_acts : Image → ℕ → List RoundSlot → ℕ → List Act
slots_acts a n round c = slot_run (ready_world (image_world a) n) (round_plan n round c) 0

-- the world after them
abbrev pub slots_world : Image → ℕ → List RoundSlot → ℕ → World
slots_world a n round c = after_acts (ready_world (image_world a) n) (slots_acts a n round c)

-- the whole text: the image line, a line for each child, the lines of the steps, and the last line
abbrev pub slots_text : Image → ℕ → List RoundSlot → ℕ → List ℕ
slots_text a n round c =
    trace_image_line a.frames a.cpus (length a.plans) (length a.pages)
    ++ (built_from 0 (addresses n n) ++ (text_of (slots_acts a n round c) ++ end_line (c * round_steps round)))
