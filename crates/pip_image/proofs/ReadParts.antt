-- The parts of an image, read from a filled buffer.
use Rattle.std.specs.Prelude.{◌≡◌, refl, ℕ, suc, ◌+◌, ◌<◌, Bool, true, false, List, ◌∷◌, ◌++◌, length, take}
use Rattle.std.specs.Prelude.{Option, Result, Ok, Err}
use Rattle.std.proofs.Common.{[], ap, sym, subst, ◌∙◌, arith}
use Rattle.std.proofs.lemmas.List.{length-take-le}
use Rattle.pip_base.specs.declared.types.Plan.{Plan}
use Rattle.pip_model.specs.declared.image.ImageError.{ImageError}
use Rattle.pip_model.specs.Images.{Fields, Page, Part, Head, Line, Holds, PartsRead, fields_of, plan_at, front_page}
use Rattle.pip_model.specs.Images.{page_parts, plan_parts, image_parts}
use Rattle.pip_image.specs.Coming.{coming}
use Rattle.pip_image.specs.declared.filling.Filled.{Filled}
use Rattle.pip_image.specs.declared.place.Place.{Place}
use Rattle.pip_image.specs.Filling.{IsFilled}
use Rattle.pip_image.specs.Pacing.{IsPartless}
use Rattle.pip_image.specs.Reading.{TakesParts, Refuses, fault_of}
use Rattle.pip_image.specs.Sought.{is_fault}
use Rattle.pip_image.proofs.Parsing.{Goes, Parses, fields_goes, plan_goes, page_goes}
use Rattle.pip_image.proofs.Steps.{one_part, part_open, part_taken, part_refused}

part_filled : {A : Type 0} (k : ℕ) (filled : Filled) (buf : List ℕ) (left left' : Option (List ℕ)) (before now : ℕ) (p :
    List ℕ → Result (A × List ℕ) ImageError) (part : A → Part) (next : A → List ℕ → PartsRead) (x : A) (r : List ℕ)
    → Parses k p → IsFilled (λ bs. is_fault (p bs)) filled buf left left' before now → length buf ≡ k
    → Ok (x, r) ≡ p (take filled.count buf) → TakesParts (one_part p part next) (next x) (part x ∷ []) left left'
part_filled k filled buf left left' before now p part next x r parses f size e =
    let l = length-take-le filled.count buf f.count in
    let m = f.count in
    part_taken k p part next x r (take filled.count buf) left left' parses (omega arith) (sym e) f.taken

part_unfilled : {A : Type 0} (k : ℕ) (filled : Filled) (buf : List ℕ) (left left' : Option (List ℕ)) (before now :
    ℕ) (p : List ℕ → Result (A × List ℕ) ImageError) (part : A → Part) (next : A → List ℕ → PartsRead) (e : ImageError)
    → Parses k p → IsFilled (λ bs. is_fault (p bs)) filled buf left left' before now → length buf ≡ k
    → Err e ≡ p (take filled.count buf)
    → Refuses (one_part p part next) [] left left' before now (fault_of e filled.failed)
part_unfilled k filled buf left left' before now p part next e parses f size h =
    let l = length-take-le filled.count buf f.count in
    part_refused k p part next e filled.failed (take filled.count buf) left left' before now parses (sym h) f.taken
    (λ w few right. f.ended w (omega arith) (rw (← h, right))) f.rose (λ w. cc (f.right w))
    f.no_faults

-- where a part was taken, the buffer was filled
pub filled_whole : {A : Type 0} (k : ℕ) (filled : Filled) (buf : List ℕ) (left left' : Option (List ℕ))
    (before now : ℕ) (p : List ℕ → Result (A × List ℕ) ImageError) (x : A) (r : List ℕ) → Parses k p
    → IsFilled (λ bs. is_fault (p bs)) filled buf left left' before now → length buf ≡ k
    → Ok (x, r) ≡ p (take filled.count buf) → filled.count ≡ length buf
filled_whole k filled buf left left' before now p x r parses f size e =
    let bytes = take filled.count buf in
    omega (
      arith,
      subst (λ s. Goes k (length bytes) [] s (p (bytes ++ []))) (sym e) (parses bytes []),
      length-take-le
          filled.count buf f.count,
    )

-- and no read failed
pub filled_calm : {A : Type 0} (k : ℕ) (filled : Filled) (buf : List ℕ) (left left' : Option (List ℕ))
    (before now : ℕ) (p : List ℕ → Result (A × List ℕ) ImageError) (x : A) (r : List ℕ) → Parses k p
    → IsFilled (λ bs. is_fault (p bs)) filled buf left left' before now → length buf ≡ k
    → Ok (x, r) ≡ p (take filled.count buf) → now ≡ before
filled_calm k filled buf left left' before now p x r parses f size e = go filled.failed refl
  where
    go : (b : Bool) → filled.failed ≡ b → now ≡ before
    go false w = f.no_faults w
    go true w =
        let whole = filled_whole k filled buf left left' before now p x r parses f size e in
        let few = f.few w in
        absurd (omega arith)

-- ---- what is told from a place on

abbrev pub from : ℕ → ℕ → ℕ → ℕ → List ℕ → ℕ → List ℕ → PartsRead
from at line plans frames seen pages bs = plan_parts at line plans bs (λ at rest. page_parts frames seen at pages rest)

pub coming_from : (p : Place) (at line plans frames : ℕ) (seen : List ℕ) (pages : ℕ) → p.at ≡ at → p.line ≡ line
    → p.plans ≡ plans → p.frames ≡ frames → p.seen.items ≡ seen → p.pages ≡ pages
    → coming p ≡ from at line plans frames seen pages
coming_from p at line plans frames seen pages a l e f s g = λ i. from (a i) (l i) (e i) (f i) (s i) (g i)

pub fields_taken : (p : Place) (filled : Filled) (buf : List ℕ) (left left' : Option (List ℕ)) (before now : ℕ)
    (f : Fields) (r : List ℕ) → IsFilled (λ bs. is_fault (fields_of bs)) filled buf left left' before now
    → length buf ≡ 24 → Ok (f, r) ≡ fields_of (take filled.count buf)
    → p.at ≡ 24 → p.frames ≡ f.frames → p.plans ≡ f.plans → p.line ≡ 0 → p.pages ≡ f.pages → p.seen.items ≡ []
    → TakesParts image_parts (coming p) (Head f ∷ []) left left'
fields_taken p filled buf left left' before now f r is size e at frames plans line pages seen =
    rw (coming_from p 24 0 f.plans f.frames [] f.pages at line plans frames seen pages) (part_filled 24 filled buf left
    left' before now fields_of Head (λ f. from 24 0 f.plans f.frames [] f.pages) f r fields_goes is size e)

pub fields_refused : (filled : Filled) (buf : List ℕ) (left left' : Option (List ℕ)) (before now : ℕ) (e : ImageError)
    → IsFilled (λ bs. is_fault (fields_of bs)) filled buf left left' before now → length buf ≡ 24
    → Err e ≡ fields_of (take filled.count buf)
    → Refuses image_parts [] left left' before now (fault_of e filled.failed)
fields_refused filled buf left left' before now e is size h = part_unfilled 24 filled buf left left' before now
    fields_of Head (λ f. from 24 0 f.plans f.frames [] f.pages) e fields_goes is size h

pub fields_open : (bytes : List ℕ) → length bytes < 24 → is_fault (fields_of bytes) ≡ false
    → IsPartless image_parts bytes
fields_open bytes few right =
    part_open 24 fields_of Head (λ f. from 24 0 f.plans f.frames [] f.pages) bytes fields_goes few right

-- a plan is told next
pub plan_next : (p : Place) (k : ℕ) → p.plans ≡ suc k → coming p
    ≡ one_part (plan_at p.at p.line) Line (λ q. from (p.at + 12) (q.line + 1) k p.frames p.seen.items p.pages)
plan_next p k e = coming_from p p.at p.line (suc k) p.frames p.seen.items p.pages refl refl e refl refl refl

pub plan_taken : (p q : Place) (filled : Filled) (buf : List ℕ) (left left' : Option (List ℕ)) (before now : ℕ)
    (x : Plan) (r : List ℕ) → IsFilled (λ bs. is_fault (plan_at p.at p.line bs)) filled buf left left' before now
    → length buf ≡ 12 → Ok (x, r) ≡ plan_at p.at p.line (take filled.count buf)
    → q.at ≡ p.at + 12 → q.frames ≡ p.frames → q.plans + 1 ≡ p.plans → q.line ≡ x.line + 1 → q.pages ≡ p.pages
    → q.seen ≡ p.seen → TakesParts (coming p) (coming q) (Line x ∷ []) left left'
plan_taken p q filled buf left left' before now x r is size e at frames plans line pages seen =
    rw (plan_next p q.plans (omega (arith, plans))) (subst (λ t. TakesParts (one_part (plan_at p.at p.line) Line (λ y.
    from (p.at + 12) (y.line + 1) q.plans p.frames p.seen.items p.pages)) t (Line x ∷ []) left left') (sym
    (coming_from q (p.at + 12) (x.line + 1) q.plans p.frames p.seen.items p.pages at line refl frames (ap (λ s.
    s.items) seen) pages)) (part_filled 12 filled buf left left' before now (plan_at p.at p.line) Line (λ y. from
    (p.at + 12) (y.line + 1) q.plans p.frames p.seen.items p.pages) x r (plan_goes p.at p.line) is size e))

pub plan_refused : (p : Place) (k : ℕ) (filled : Filled) (buf : List ℕ) (left left' : Option (List ℕ)) (before now : ℕ)
    (e : ImageError) → p.plans ≡ suc k → IsFilled (λ bs. is_fault (plan_at p.at p.line bs)) filled buf left left' before
    now → length buf ≡ 12 → Err e ≡ plan_at p.at p.line (take filled.count buf)
    → Refuses (coming p) [] left left' before now (fault_of e filled.failed)
plan_refused p k filled buf left left' before now e some is size h =
    rw (plan_next p k some) (part_unfilled 12 filled buf left left' before now (plan_at p.at p.line) Line (λ y. from
    (p.at + 12) (y.line + 1) k p.frames p.seen.items p.pages) e (plan_goes p.at p.line) is size h)

pub plan_open : (p : Place) (k : ℕ) (bytes : List ℕ) → p.plans ≡ suc k → length bytes < 12
    → is_fault (plan_at p.at p.line bytes) ≡ false → IsPartless (coming p) bytes
plan_open p k bytes some few right =
    subst (λ t. IsPartless t bytes) (sym (plan_next p k some)) (part_open 12 (plan_at p.at p.line) Line
    (λ y. from (p.at + 12) (y.line + 1) k p.frames p.seen.items p.pages) bytes (plan_goes p.at p.line) few right)

-- a page is told next
pub page_next : (p : Place) (k : ℕ) → p.plans ≡ 0 → p.pages ≡ suc k → coming p ≡ one_part
    (front_page p.frames p.seen.items
    p.at) Holds (λ g. from (p.at + 4100) 0 0 p.frames (p.seen.items ++ g.vpage ∷ []) k)
page_next p k none e = coming_from p p.at p.line 0 p.frames p.seen.items (suc k) refl refl none refl refl e

pub page_taken : (p q : Place) (filled : Filled) (buf : List ℕ) (left left' : Option (List ℕ)) (before now : ℕ)
    (x : Page) (r : List ℕ)
    → IsFilled (λ bs. is_fault (front_page p.frames p.seen.items p.at bs)) filled buf left left' before now
    → length buf ≡ 4100 → Ok (x, r) ≡ front_page p.frames p.seen.items p.at (take filled.count buf)
    → p.plans ≡ 0 → q.at ≡ p.at + 4100 → q.frames ≡ p.frames → q.plans ≡ p.plans → q.pages + 1 ≡ p.pages
    → q.seen.items ≡ p.seen.items ++ x.vpage ∷ [] → TakesParts (coming p) (coming q) (Holds x ∷ []) left left'
page_taken p q filled buf left left' before now x r is size e none at frames plans pages seen =
    rw (page_next p q.pages none (omega (arith, pages))) (subst (λ t. TakesParts (one_part (front_page p.frames
    p.seen.items p.at) Holds (λ g. from (p.at + 4100) 0 0 p.frames (p.seen.items ++ g.vpage ∷ []) q.pages)) t (Holds
    x ∷ []) left left') (sym (coming_from q (p.at + 4100) q.line 0 p.frames (p.seen.items ++ x.vpage ∷ []) q.pages
    at refl (plans ∙ none) frames seen refl)) (part_filled 4100 filled buf left left' before now (front_page
    p.frames p.seen.items p.at) Holds (λ g. from (p.at + 4100) 0 0 p.frames (p.seen.items ++ g.vpage ∷ []) q.pages)
    x r (page_goes p.frames p.seen.items p.at) is size e))

pub page_refused : (p : Place) (k : ℕ) (filled : Filled) (buf : List ℕ) (left left' : Option (List ℕ)) (before now : ℕ)
    (e : ImageError) → p.plans ≡ 0 → p.pages ≡ suc k
    → IsFilled (λ bs. is_fault (front_page p.frames p.seen.items p.at bs)) filled buf left left' before now
    → length buf ≡ 4100 → Err e ≡ front_page p.frames p.seen.items p.at (take filled.count buf)
    → Refuses (coming p) [] left left' before now (fault_of e filled.failed)
page_refused p k filled buf left left' before now e none some is size h =
    rw (page_next p k none some) (part_unfilled 4100 filled buf left left' before now (front_page p.frames p.seen.items
    p.at) Holds (λ g. from (p.at + 4100) 0 0 p.frames (p.seen.items ++ g.vpage ∷ []) k) e (page_goes p.frames
    p.seen.items p.at) is size h)

pub page_open : (p : Place) (k : ℕ) (bytes : List ℕ) → p.plans ≡ 0 → p.pages ≡ suc k → length bytes < 4100
    → is_fault (front_page p.frames p.seen.items p.at bytes) ≡ false → IsPartless (coming p) bytes
page_open p k bytes none some few right =
    subst (λ t. IsPartless t bytes) (sym (page_next p k none some))
    (part_open 4100 (front_page p.frames p.seen.items p.at) Holds (λ g. from (p.at + 4100) 0 0 p.frames
    (p.seen.items ++ g.vpage ∷ []) k) bytes (page_goes p.frames p.seen.items p.at) few right)

-- the end is told next
pub end_open : (p : Place) → p.plans ≡ 0 → p.pages ≡ 0 → IsPartless (coming p) []
end_open p none last = subst (λ t. IsPartless t
    []) (sym (coming_from p p.at p.line 0 p.frames p.seen.items 0 refl refl none refl refl last)) (refl, tt)

-- and the same, where the pages before it are named otherwise
pub page_same : (n at : ℕ) (bs s t : List ℕ) (r : Result (Page × List ℕ) ImageError) → s ≡ t → r ≡ front_page n s at bs
    → r ≡ front_page n t at bs
page_same n at bs s t r e h = rw (← e) h

-- a buffer that was filled, too, where the pages before it are named otherwise
pub page_filled : (n at : ℕ) (filled : Filled) (buf s t : List ℕ) (left left' : Option (List ℕ)) (before now : ℕ)
    → s ≡ t → IsFilled (λ bs. is_fault (front_page n s at bs)) filled buf left left' before now
    → IsFilled (λ bs. is_fault (front_page n t at bs)) filled buf left left' before now
page_filled n at filled buf s t left left' before now e h = rw (← e) h
