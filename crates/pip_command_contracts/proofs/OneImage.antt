-- An input begins with one image at most.
use Rattle.std.proofs.Common.{◌≡◌, ℕ, zero, suc, ◌+◌, ◌⊎◌, inl, inr, List, [], ◌∷◌, ◌++◌, length, Option, Some, None}
use Rattle.std.proofs.Common.{Ok, Err, refl, sym, ap, ◌∙◌, subst}
use Rattle.std.specs.Prelude.{Result}
use Rattle.pip_model.specs.declared.image.ImageError.{ImageError}
use Rattle.pip_model.specs.declared.image.ImageError.TheVariants as F
use Rattle.pip_model.specs.Images.{Head, Holds, Image, Line, Part, PartsRead, fields_of, front_page}
use Rattle.pip_model.specs.Images.{goes_on, image, image_or_fault, image_parts, page_parts, part_before, plan_at}
use Rattle.pip_model.specs.Images.{plan_parts}
use Rattle.pip_image.proofs.Parsing.{Goes, Parses, fields_goes, page_goes, plan_goes}

-- ---- what comes after an image is too much

-- a part that was read is read so, whatever comes after it
part_on : {A : Type 0} (k : ℕ) (p : List ℕ → Result (A × List ℕ) ImageError) → Parses k p → (bs rest : List ℕ)
    (x : A × List ℕ) → p bs ≡ Ok x → p (bs ++ rest) ≡ Ok (x.0, x.1 ++ rest)
part_on k p parses bs rest x is =
    (subst (λ s. Goes k (length bs) rest s (p (bs ++ rest))) is (parses bs rest)).0

-- a fault that something comes after the image
abbrev IsLong : PartsRead → Type 0
IsLong t = (at : ℕ) × (t.fault ≡ Some (F.Long at))

-- a part, and then what goes on where it ends without a fault
then_long : {A : Type 0} (p q : Result (A × List ℕ) ImageError) (next : A → List ℕ → PartsRead) (more : List ℕ)
    → ((x : A × List ℕ) → p ≡ Ok x → q ≡ Ok (x.0, x.1 ++ more))
    → ((x : A × List ℕ) → (next x.0 x.1).fault ≡ None → IsLong (next x.0 (x.1 ++ more)))
    → (goes_on p next).fault ≡ None → IsLong (goes_on q next)
then_long (Err f) q next more on long e = cc
then_long (Ok x) q next more on long e = subst (λ r. IsLong (goes_on r next)) (sym (on x refl)) (long x e)

module _ (b : ℕ) (rest : List ℕ) where
  abbrev more : List ℕ
  more = b ∷ rest

  pages_long : (n : ℕ) (seen : List ℕ) (at k : ℕ) (bs : List ℕ) → (page_parts n seen at k bs).fault ≡ None
      → IsLong (page_parts n seen at k (bs ++ more))
  pages_long n seen at zero [] e = (at, refl)
  pages_long n seen at zero (c ∷ bs) e = cc
  pages_long n seen at (suc k) bs e =
      then_long (front_page n seen at bs) (front_page n seen at (bs ++ more))
      (λ p rest. part_before (Holds p) (page_parts n (seen ++ p.vpage ∷ []) (at + 4100) k rest)) more
      (λ x is. part_on 4100 (front_page n seen at) (page_goes n seen at) bs more x is)
      (λ x h. pages_long n (seen ++ x.0.vpage ∷ []) (at + 4100) k x.1 h) e

  plans_long : (next : ℕ → List ℕ → PartsRead)
      → ((at : ℕ) (cs : List ℕ) → (next at cs).fault ≡ None → IsLong (next at (cs ++ more)))
      → (at least k : ℕ) (bs : List ℕ) → (plan_parts at least k bs next).fault ≡ None
      → IsLong (plan_parts at least k (bs ++ more) next)
  plans_long next long at least zero bs e = long at bs e
  plans_long next long at least (suc k) bs e =
      then_long (plan_at at least bs) (plan_at at least (bs ++ more))
      (λ p rest. part_before (Line p) (plan_parts (at + 12) (p.line + 1) k rest next)) more
      (λ x is. part_on 12 (plan_at at least) (plan_goes at least) bs more x is)
      (λ x h. plans_long next long (at + 12) (x.0.line + 1) k x.1 h) e

  image_long : (bs : List ℕ) → (image_parts bs).fault ≡ None → IsLong (image_parts (bs ++ more))
  image_long bs e =
      then_long (fields_of bs) (fields_of (bs ++ more))
      (λ f rest. part_before (Head f)
      (plan_parts 24 0 f.plans rest (λ at rest. page_parts f.frames [] at f.pages rest))) more
      (λ x is. part_on 24 fields_of fields_goes bs more x is)
      (λ x h. plans_long (λ at rest. page_parts x.0.frames [] at x.0.pages rest)
      (λ at cs h. pages_long x.0.frames [] at x.0.pages cs h) 24 0 x.0.plans x.1 h) e

faultless : (ps : List Part) (f : Option ImageError) (i : Image) → image_or_fault ps f ≡ Ok i → f ≡ None
faultless ps None i is = refl
faultless ps (Some e) i is = cc

-- an image with more after it has this fault alone
pub too_long : (bs : List ℕ) (b : ℕ) (rest : List ℕ) (i : Image) → image bs ≡ Ok i
    → (at : ℕ) × (image (bs ++ b ∷ rest) ≡ Err (F.Long at))
too_long bs b rest i is =
    let (at, long) = image_long b rest bs (faultless (image_parts bs).parts (image_parts bs).fault i is) in
    (at, ap (image_or_fault (image_parts (bs ++ b ∷ rest)).parts) long)

-- ---- two fronts of one input

-- one is the other, or the other and more
fronts : (f g r s : List ℕ) → f ++ r ≡ g ++ s
    → (f ≡ g) ⊎ ((b : ℕ) × ((t : List ℕ) × (g ≡ f ++ b ∷ t))) ⊎ ((b : ℕ) × ((t : List ℕ) × (f ≡ g ++ b ∷ t)))
fronts [] [] r s e = inl refl
fronts [] (b ∷ g) r s e = inr (inl (b, (g, refl)))
fronts (a ∷ f) [] r s e = inr (inr (a, (f, refl)))
fronts (a ∷ f) (b ∷ g) r s e =
    let first : a ≡ b = cc in
    let more : f ++ r ≡ g ++ s = cc in
    elim (fronts f g r s more) [
      | inl same ↦ inl (ap (λ x. x ∷ f) first ∙ ap (λ x. b ∷ x) same)
      | inr (inl x) ↦ inr (inl (x.0, (x.1.0, ap (λ y. y ∷ g) (sym first) ∙ ap (λ y. a ∷ y) x.1.1)))
      | inr (inr x) ↦ inr (inr (x.0, (x.1.0, ap (λ y. y ∷ f) first ∙ ap (λ y. b ∷ y) x.1.1)))
    ]

no_longer : (f g : List ℕ) (b : ℕ) (t : List ℕ) (i j : Image) → image f ≡ Ok i → image g ≡ Ok j → g ≡ f ++ b ∷ t → ⊥
no_longer f g b t i j a c is =
    let (at, long) = too_long f b t i a in
    let z : ◌≡◌ {A = Result Image ImageError} (Ok j) (Err (F.Long at)) = sym c ∙ (ap image is ∙ long) in
    absurd cc

pub one_front : (f g r s : List ℕ) (i j : Image) → f ++ r ≡ g ++ s → image f ≡ Ok i → image g ≡ Ok j → f ≡ g
one_front f g r s i j same a b = elim (fronts f g r s same) [
  | inl is ↦ is
  | inr (inl x) ↦ absurd (no_longer f g x.0 x.1.0 i j a b x.1.1)
  | inr (inr x) ↦ absurd (no_longer g f x.0 x.1.0 j i b a x.1.1)
]

pub one_rest : (f r s : List ℕ) → f ++ r ≡ f ++ s → r ≡ s
one_rest [] r s e = e
one_rest (b ∷ f) r s e = one_rest f r s (let more : f ++ r ≡ f ++ s = cc in more)
