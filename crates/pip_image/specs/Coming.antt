-- What is still to come of an image.
use Rattle.std.specs.Prelude.{◌≡◌, ◌+◌, ◌≤◌, ◌<◌, ℕ, true, false, List, [], ◌∷◌, ◌++◌, length, map}
use Rattle.std.specs.List.{AllByRecursion}
use Rattle.pip_base.specs.declared.types.Plan.{Plan}
use Rattle.pip_model.specs.Images.{Part, Head, Line, PartsRead, plan_parts, page_parts, has_row, is_seen}
use Rattle.pip_image.specs.declared.place.Place.{Place}
use Rattle.pip_image.specs.declared.header.Header.{Header}

-- how the bytes after a place are told: first the plans that are left, then the pages
abbrev pub coming : Place → List ℕ → PartsRead
coming p bs = plan_parts p.at p.line p.plans bs (λ at rest. page_parts p.frames p.seen.items at p.pages rest)

-- nothing was read yet
abbrev pub IsNew : Place → Type 0
IsNew p = p.seen.items ≡ []

-- the parts that a header is
abbrev pub header_parts : Header → List Part
header_parts h = Head (record { frames = h.frames; cpus = h.cpus; plans = length h.plans.items; pages = h.pages })
    ∷ map Line h.plans.items

-- the place after a header, before its pages
pub record IsAfter (h : Header) (p : Place) : Type 0 where
  pub frames : p.frames ≡ h.frames
  pub pages : p.pages ≡ h.pages
  pub none : p.seen.items ≡ []

-- a page that the root has and that wasn't read before, from its place to the next
pub record IsNextPage (p q : Place) (v : ℕ) : Type 0 where
  pub row : has_row p.frames v ≡ true
  pub unseen : is_seen v p.seen.items ≡ false
  pub seen : q.seen.items ≡ p.seen.items ++ v ∷ []

-- the lines of plans rise from `least` on and are below 16, and the next would be `next` or more
abbrev pub AreRising : ℕ → List Plan → ℕ → Type 0
AreRising least [] next = least ≡ next
AreRising least (p ∷ ps) next = (least ≤ p.line) × (p.line < 16) × AreRising (p.line + 1) ps next

-- the numbers of a header are within their limits
pub record IsHeader (h : Header) : Type 0 where
  pub least : 16 ≤ h.frames
  pub most : h.frames ≤ 4096
  pub some : 1 ≤ h.cpus
  pub few : h.cpus ≤ 4
  pub rising : (next : ℕ) × AreRising 0 h.plans.items next
  pub lines : AllByRecursion (λ p. p.line < 16) h.plans.items
  pub pages : h.pages ≤ 4096
