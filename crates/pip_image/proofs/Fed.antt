-- The parts of an image whose bytes are at hand.
use Rattle.std.specs.Prelude.{◌≡◌, refl, ℕ, suc, ◌+◌, ◌≤◌, List, ◌∷◌, ◌++◌, length, Result, Ok, Err}
use Rattle.std.proofs.Common.{[], false, sym, subst, ◌∙◌, arith, ◌≢◌}
use Rattle.pip_base.specs.declared.types.Plan.{Plan}
use Rattle.pip_model.specs.declared.image.ImageError.{ImageError}
use Rattle.pip_model.specs.declared.image.ImageError.TheVariants as F
use Rattle.pip_model.specs.Images.{Fields, Page, Part, Head, Line, Holds, PartsRead, fields_of, plan_at, front_page}
use Rattle.pip_model.specs.Images.{image_parts, part_before}
use Rattle.pip_image.specs.Coming.{coming}
use Rattle.pip_image.specs.Feeding.{IsFaultAt, is_short}
use Rattle.pip_image.specs.Reading.{no_more_parts, only_fault}
use Rattle.pip_image.specs.declared.place.Place.{Place}
use Rattle.pip_image.proofs.Parsing.{Goes, Parses, fields_goes, page_goes, plan_goes}
use Rattle.pip_image.proofs.ReadParts.{coming_from, from, page_next, plan_next}
use Rattle.pip_image.proofs.Steps.{no_rest, one_part}

-- a part that is the whole of some bytes, and one that they aren't
module _ {A : Type 0} (k : ℕ) (p : List ℕ → Result (A × List ℕ) ImageError) (part : A → Part)
    (next : A → List ℕ → PartsRead) (bytes : List ℕ) (parses : Parses k p) where
  part_fed : (x : A) (r : List ℕ) → length bytes ≤ k → Ok (x, r) ≡ p bytes → (rest : List ℕ)
      → one_part p part next (bytes ++ rest) ≡ part_before (part x) (next x rest)
  part_fed x r few e rest =
      let g = subst (λ s. Goes k (length bytes) rest s (p (bytes ++ rest))) (sym e) (parses bytes rest) in
      rw (g.0, no_rest k (length bytes) r few g.1)

  part_unfed : (e : ImageError) → Err e ≡ p bytes → IsFaultAt (one_part p part next) k bytes e
  part_unfed e h = go e (λ rest. rw (← h) at (parses bytes rest)) (rw (← h) refl)
    where
      stays : (e : ImageError) → is_short e ≡ false → e ≢ F.Read → one_part p part next bytes ≡ only_fault e
          → ((rest : List ℕ) → p (bytes ++ rest) ≡ Err e) → IsFaultAt (one_part p part next) k bytes e
      stays e long own is g = record {
        here = is;
        own = own;
        few = λ short. absurd (cc (long, short));
        fixed = λ _ rest. rw (g rest) refl;
      }

      go : (e : ImageError) → ((rest : List ℕ) → Goes k (length bytes) rest (Err e) (p (bytes ++ rest)))
          → one_part p part next bytes ≡ only_fault e → IsFaultAt (one_part p part next) k bytes e
      go (F.Short at) g is =
          record { here = is; own = λ h. cc; few = λ _. (g [], tt); fixed = λ long. absurd (cc) }
      go F.Read g is = absurd (g [])
      go (F.Magic at) g is = stays _ refl (λ h. cc) is g
      go (F.OldVersion at) g is = stays _ refl (λ h. cc) is g
      go (F.Frames at) g is = stays _ refl (λ h. cc) is g
      go (F.Cpus at) g is = stays _ refl (λ h. cc) is g
      go (F.Plan at) g is = stays _ refl (λ h. cc) is g
      go (F.Page at) g is = stays _ refl (λ h. cc) is g
      go (F.Twice at) g is = stays _ refl (λ h. cc) is g
      go (F.Long at) g is = stays _ refl (λ h. cc) is g

-- ---- the fields

pub fields_fed : (q : Place) (f : Fields) (bytes r : List ℕ) → length bytes ≤ 24 → Ok (f, r) ≡ fields_of bytes
    → q.at ≡ 24 → q.frames ≡ f.frames → q.plans ≡ f.plans → q.line ≡ 0 → q.pages ≡ f.pages → q.seen.items ≡ []
    → (rest : List ℕ) → image_parts (bytes ++ rest) ≡ part_before (Head f) (coming q rest)
fields_fed q f bytes r few e at frames plans line pages seen rest =
    subst (λ t. image_parts (bytes ++ rest) ≡ part_before (Head f) (t rest))
    (sym (coming_from q 24 0 f.plans f.frames [] f.pages at line plans frames seen pages))
    (part_fed 24 fields_of Head (λ f. from 24 0 f.plans f.frames [] f.pages) bytes fields_goes f r few e rest)

pub fields_unfed : (bytes : List ℕ) (e : ImageError) → Err e ≡ fields_of bytes → IsFaultAt image_parts 24 bytes e
fields_unfed bytes = part_unfed 24 fields_of Head (λ f. from 24 0 f.plans f.frames [] f.pages) bytes fields_goes

-- ---- a plan, and a page

module _ (p q : Place) (bytes : List ℕ) where
  pub plan_fed : (x : Plan) (r : List ℕ) → length bytes ≤ 12 → Ok (x, r) ≡ plan_at p.at p.line bytes
      → q.at ≡ p.at + 12 → q.frames ≡ p.frames → q.plans + 1 ≡ p.plans → q.line ≡ x.line + 1 → q.pages ≡ p.pages
      → q.seen ≡ p.seen → (rest : List ℕ) → coming p (bytes ++ rest) ≡ part_before (Line x) (coming q rest)
  plan_fed x r few e at frames plans line pages seen rest =
      subst (λ t. t (bytes ++ rest) ≡ part_before (Line x) (coming q rest))
      (sym (plan_next p q.plans (omega arith)))
      (subst (λ t. one_part (plan_at p.at p.line) Line (λ y. from (p.at + 12) (y.line + 1) q.plans p.frames
      p.seen.items p.pages) (bytes ++ rest) ≡ part_before (Line x) (t rest))
      (sym (coming_from q (p.at + 12) (x.line + 1) q.plans p.frames p.seen.items p.pages at line refl frames
      (rw seen) pages))
      (part_fed 12 (plan_at p.at p.line) Line (λ y. from (p.at + 12) (y.line + 1) q.plans p.frames p.seen.items
      p.pages) bytes (plan_goes p.at p.line) x r few e rest))

  pub page_fed : (x : Page) (r : List ℕ) → length bytes ≤ 4100 → Ok (x, r) ≡ front_page p.frames p.seen.items p.at bytes
      → p.plans ≡ 0 → q.at ≡ p.at + 4100 → q.frames ≡ p.frames → q.plans ≡ p.plans → q.pages + 1 ≡ p.pages
      → q.seen.items ≡ p.seen.items ++ x.vpage ∷ [] → (rest : List ℕ)
      → coming p (bytes ++ rest) ≡ part_before (Holds x) (coming q rest)
  page_fed x r few e none at frames plans pages seen rest =
      subst (λ t. t (bytes ++ rest) ≡ part_before (Holds x) (coming q rest))
      (sym (page_next p q.pages none (omega arith)))
      (rw (← coming_from q (p.at + 4100) q.line 0 p.frames (p.seen.items ++ x.vpage ∷ []) q.pages at refl (plans ∙ none)
      frames seen refl) at (part_fed 4100 (front_page p.frames p.seen.items p.at) Holds (λ g. from (p.at + 4100) 0 0
      p.frames (p.seen.items ++ g.vpage ∷ []) q.pages) bytes (page_goes p.frames p.seen.items p.at) x r few e rest))

module _ (p : Place) (k : ℕ) (bytes : List ℕ) (e : ImageError) where
  pub plan_unfed : p.plans ≡ suc k → Err e ≡ plan_at p.at p.line bytes → IsFaultAt (coming p) 12 bytes e
  plan_unfed some h = rw (plan_next p k some) (part_unfed 12 (plan_at p.at p.line) Line (λ y. from (p.at + 12) (y.line +
      1) k p.frames p.seen.items p.pages) bytes (plan_goes p.at p.line) e h)

  pub page_unfed : p.plans ≡ 0 → p.pages ≡ suc k → Err e ≡ front_page p.frames p.seen.items p.at bytes
      → IsFaultAt (coming p) 4100 bytes e
  page_unfed none some h = rw (page_next p k none some) (part_unfed 4100 (front_page p.frames p.seen.items p.at) Holds
      (λ g. from (p.at + 4100) 0 0 p.frames (p.seen.items ++ g.vpage ∷ []) k) bytes (page_goes p.frames p.seen.items
      p.at) e h)

-- ---- more after the image

module _ (p : Place) (none : p.plans ≡ 0) (last : p.pages ≡ 0) where
  over : (bytes : List ℕ) → coming p bytes ≡ from p.at 0 0 p.frames p.seen.items 0 bytes
  over bytes = cc (coming_from p p.at p.line 0 p.frames p.seen.items 0 refl refl none refl refl last)

  pub long_fed : (bytes : List ℕ) → bytes ≢ [] → IsFaultAt (coming p) 1 bytes (F.Long p.at)
  long_fed [] some = absurd (some refl)
  long_fed (b ∷ bytes) some = record {
    here = over (b ∷ bytes);
    own = λ h. cc;
    few = λ short. absurd (cc);
    fixed = λ _ rest. over (b ∷ bytes ++ rest);
  }

  -- the image is whole, and so is the input
  pub whole_fed : coming p [] ≡ no_more_parts
  whole_fed = over []
