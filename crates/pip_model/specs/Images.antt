-- Images as bytes: which parts of one are accepted, and its first fault with its offset.
use Rattle.std.specs.Prelude.{ℕ, zero, suc, ◌+◌, ◌==◌, Bool, false, if◌then◌else◌, ◌&&◌, nat_lt, nat_le, List, [], ◌∷◌}
use Rattle.std.specs.Prelude.{◌++◌, length, take, drop, Option, Some, None, Result, Ok, Err, is_some, slice_index_or}
use Rattle.std.specs.List.{list_any}
use Rattle.std.specs.Str.{bytes_eq}
use Rattle.byteorder.specs.Endian.{little_bytes, little_number}
use Rattle.pip_base.specs.declared.types.Plan.{Plan}
use Rattle.pip_model.specs.declared.image.ImageError.{ImageError}
use Rattle.pip_model.specs.declared.image.ImageError.TheVariants as F
use Rattle.pip_model.specs.Boot.{frame_of_root}

infixl 10 ◌>>=◌
-- a part, and then what comes of it; the first fault stays
abbrev pub ◌>>=◌ : {A B : Type 0} → Result A ImageError → (A → Result B ImageError) → Result B ImageError
(Ok x) >>= f = f x
(Err e) >>= f = Err e

-- ---- all numbers of an image are words of four bytes, the lowest first

-- `PIPIMG2` and a newline
abbrev pub magic : List ℕ
magic = 80 ∷ 73 ∷ 80 ∷ 73 ∷ 77 ∷ 71 ∷ 50 ∷ 10 ∷ []

-- what images of version 1 began with
abbrev pub old_magic : List ℕ
old_magic = 80 ∷ 73 ∷ 80 ∷ 73 ∷ 77 ∷ 71 ∷ 49 ∷ 10 ∷ []

-- the word in the first four bytes
abbrev pub word_of_bytes : List ℕ → ℕ
word_of_bytes bs = little_number 4 bs

-- a number of words, from the front on
unfoldable pub words_in : ℕ → List ℕ → List ℕ
words_in zero bs = []
words_in (suc k) bs = word_of_bytes bs ∷ words_in k (drop 4 bs)

-- words as bytes
abbrev pub bytes_of : List ℕ → List ℕ
bytes_of [] = []
bytes_of (w ∷ ws) = little_bytes 4 w ++ bytes_of ws

-- the fields up to offset 24: the numbers of frames, processors, plans and pages
pub record Fields : Type 0 where
  pub frames : ℕ
  pub cpus : ℕ
  pub plans : ℕ
  pub pages : ℕ

-- a page of the root
pub record Page : Type 0 where
  pub vpage : ℕ
  pub words : List ℕ

-- ---- each part at its offset, and the bytes after it; a part that isn't whole is short at the end of the bytes

-- the word at the front of these bytes, which begin at this offset, and the bytes after it
abbrev pub front_word : ℕ → List ℕ → Result (ℕ × List ℕ) ImageError
front_word at bs = if nat_lt (length bs) 4 then Err (F.Short (at + length bs)) else Ok (word_of_bytes bs, drop 4 bs)

-- the bytes after the magic with which an image begins
abbrev pub magic_of : List ℕ → Result (List ℕ) ImageError
magic_of bs = if nat_lt (length bs) 8 then Err (F.Short (length bs)) else if bytes_eq (take 8 bs) magic
    then Ok (drop 8 bs) else if bytes_eq (take 8 bs) old_magic then Err (F.OldVersion 0) else Err (F.Magic 0)

-- a number that passes its test
abbrev pub pass_test : Bool → ImageError → ℕ × List ℕ → Result (ℕ × List ℕ) ImageError
pass_test good fault w = if good then Ok w else Err fault

-- the number of frames, from 16 to 4096, and the bytes after it
unfoldable pub frames_at : List ℕ → Result (ℕ × List ℕ) ImageError
frames_at bs = do
  w ← front_word 8 bs
  pass_test (nat_le 16 w.0 && nat_le w.0 4096) (F.Frames 8) w

-- the number of processors, from 1 to 4, and the bytes after it
unfoldable pub cpus_at : List ℕ → Result (ℕ × List ℕ) ImageError
cpus_at bs = do
  w ← front_word 12 bs
  pass_test (nat_le 1 w.0 && nat_le w.0 4) (F.Cpus 12) w

-- the number of plans, at most 16, and the bytes after it
unfoldable pub plans_at : List ℕ → Result (ℕ × List ℕ) ImageError
plans_at bs = do
  w ← front_word 16 bs
  pass_test (nat_le w.0 16) (F.Plan 16) w

-- the number of pages, at most 4096, and the bytes after it
unfoldable pub pages_at : List ℕ → Result (ℕ × List ℕ) ImageError
pages_at bs = do
  w ← front_word 20 bs
  pass_test (nat_le w.0 4096) (F.Page 20) w

-- the head of an image, and the bytes after it
unfoldable pub fields_of : List ℕ → Result (Fields × List ℕ) ImageError
fields_of bs = do
  rest ← magic_of bs
  frames ← frames_at rest
  cpus ← cpus_at frames.1
  plans ← plans_at cpus.1
  pages ← pages_at plans.1
  Ok (record { frames = frames.0; cpus = cpus.0; plans = plans.0; pages = pages.0 }, pages.1)

-- a plan, whose line is `least` or more and below 16
unfoldable pub plan_at : ℕ → ℕ → List ℕ → Result (Plan × List ℕ) ImageError
plan_at at least bs =
    if nat_lt (length bs) 12 then Err (F.Short (at + length bs))
    else if nat_le least (word_of_bytes bs) && nat_lt (word_of_bytes bs) 16 then Ok (
      record {
        line = word_of_bytes bs;
        first = word_of_bytes (drop 4 bs);
        period = word_of_bytes (drop 8 bs);
      },
      drop 12 bs,
    )
    else Err (F.Plan at)

-- the boot tree of n frames has a row there
abbrev pub has_row : ℕ → ℕ → Bool
has_row n v = is_some (frame_of_root n v)

-- an earlier page has this vpage
abbrev pub is_seen : ℕ → List ℕ → Bool
is_seen v seen = list_any (λ x. x == v) seen

-- a page of an image of n frames, where the pages before it have the vpages `seen`. Its vpage is judged before its
-- words
unfoldable pub front_page : ℕ → List ℕ → ℕ → List ℕ → Result (Page × List ℕ) ImageError
front_page n seen at bs =
    if nat_lt (length bs) 4 then Err (F.Short (at + length bs))
    else if is_seen (word_of_bytes bs) seen then Err (F.Twice at)
    else if has_row n (word_of_bytes bs) then (if nat_lt (length bs) 4100 then Err (F.Short (at + length bs))
    else Ok (record { vpage = word_of_bytes bs; words = words_in 1024 (drop 4 bs) }, drop 4100 bs))
    else Err (F.Page at)

-- ---- all parts, one after another

-- one part of an image: its head, a plan of an interrupt line, or a page
pub data Part : Type 0 where
  Head : Fields → Part
  Line : Plan → Part
  Holds : Page → Part

-- the parts that were accepted, and the fault after them
pub record PartsRead : Type 0 where
  pub parts : List Part
  pub fault : Option ImageError

-- a part in front
abbrev pub part_before : Part → PartsRead → PartsRead
part_before p t = record { parts = p ∷ t.parts; fault = t.fault }

-- a part, and what comes after it
abbrev pub goes_on : {A : Type 0} → Result (A × List ℕ) ImageError → (A → List ℕ → PartsRead) → PartsRead
goes_on (Ok x) rest = rest x.0 x.1
goes_on (Err e) rest = record { parts = []; fault = Some e }

-- a number of pages from an offset on, and then the end
abbrev pub page_parts : ℕ → List ℕ → ℕ → ℕ → List ℕ → PartsRead
page_parts n seen at zero [] = record { parts = []; fault = None }
page_parts n seen at zero (b ∷ bs) = record { parts = []; fault = Some (F.Long at) }
page_parts n seen at (suc k) bs = goes_on (front_page n seen at bs)
    (λ p rest. part_before (Holds p) (page_parts n (seen ++ p.vpage ∷ []) (at + 4100) k rest))

-- a number of plans from an offset on, and then what comes after them
abbrev pub plan_parts : ℕ → ℕ → ℕ → List ℕ → (ℕ → List ℕ → PartsRead) → PartsRead
plan_parts at least zero bs next = next at bs
plan_parts at least (suc k) bs next =
    goes_on (plan_at at least bs) (λ p rest. part_before (Line p) (plan_parts (at + 12) (p.line + 1) k rest next))

-- the parts of an image, and its first fault
abbrev pub image_parts : List ℕ → PartsRead
image_parts bs = goes_on (fields_of bs)
    (λ f rest. part_before (Head f) (plan_parts 24 0 f.plans rest (λ at rest. page_parts f.frames [] at f.pages rest)))

-- ---- an image

-- an image: the start of a machine
pub record Image : Type 0 where
  pub frames : ℕ
  pub cpus : ℕ
  pub plans : List Plan
  pub pages : List Page

-- a part in front of an image's
abbrev pub with_part : Part → Image → Image
with_part (Head f) i = record i { frames = f.frames; cpus = f.cpus }
with_part (Line p) i = record i { plans = p ∷ i.plans }
with_part (Holds p) i = record i { pages = p ∷ i.pages }

-- the image of these parts
abbrev pub image_from : List Part → Image
image_from [] = record { frames = 0; cpus = 0; plans = []; pages = [] }
image_from (p ∷ ps) = with_part p (image_from ps)

-- the image of these parts, or the fault that came after them
abbrev pub image_or_fault : List Part → Option ImageError → Result Image ImageError
image_or_fault ps None = Ok (image_from ps)
image_or_fault ps (Some e) = Err e

-- the image that the bytes are, or the first fault
abbrev pub image : List ℕ → Result Image ImageError
image bs = image_or_fault (image_parts bs).parts (image_parts bs).fault

-- ---- the words of the root's pages

-- g is the frame, if there is one
abbrev pub is_frame : ℕ → Option ℕ → Bool
is_frame g None = false
is_frame g (Some h) = h == g

-- word i of frame g, which is that of the page at whose vpage the root of n frames has it, else 0
abbrev pub image_word : ℕ → List Page → ℕ → ℕ → ℕ
image_word n [] g i = 0
image_word n (p ∷ ps) g i = if is_frame g (frame_of_root n p.vpage) then slice_index_or p.words i 0
    else image_word n ps g i
