-- Headers of too few frames, and what else may come of the bytes after one.
use Rattle.std.proofs.Common.{◌≡◌, ℕ, ◌≤◌, ◌<◌, inl, inr, List, [], ◌∷◌, ◌++◌, length, map, sym, ap, ◌∙◌, subst, arith}
use Rattle.std.proofs.Common.{append-nil, Option}
use Rattle.pip_base.specs.declared.types.Plan.{Plan}
use Rattle.pip_image.specs.Coming.{header_parts}
use Rattle.pip_image.specs.Reading.{IsCut, IsFault, LacksHeader, Refuses, only_fault}
use Rattle.pip_image.specs.declared.header.Header.{Header}
use Rattle.pip_image.proofs.Steps.{after_parts}
use Rattle.pip_model.specs.Images.{Head, Holds, Line, Part, image_parts, page_parts}
use Rattle.pip_model.specs.declared.image.ImageError.{ImageError}
use Rattle.pip_children.specs.Dues.{IsRoomy, IsUnshort}
use Rattle.pip_command_contracts.specs.ImageDues.{IsHeaderText}
use Rattle.pip_command_contracts.proofs.ImageFaults.{by_line, faulty}

-- the parts of bytes after a header begin with those of the header
told_front : (bytes front back : List ℕ) → bytes ≡ front ++ back → (h : IsHeaderText front)
    → (more : List Part) × ((image_parts bytes).parts ≡ Head h.fields ∷ (map Line h.plans ++ more))
told_front bytes front back e h =
    let rest = page_parts h.fields.frames [] h.at h.fields.pages back in (
      rest.parts,
      ap (λ t. t.parts) (ap image_parts e ∙ h.told back) ∙ after_parts (Head h.fields ∷ map Line h.plans) rest,
    )

-- those of bytes that are refused
refused_parts : (parts : List Part) (a c : Option (List ℕ))
    (i k : ℕ) (e : ImageError) (x : Refuses image_parts parts a c i k e) → (image_parts x.bytes).parts ≡ parts
refused_parts parts a c i k e x =
    elim (by_line e (IsCut image_parts parts x.bytes i k) (IsFault image_parts parts x.bytes c e × (k ≡ i)) x.why) [
      | inl cut ↦ cut.0.whole
      | inr fault ↦
          ap (λ t. t.parts) (faulty parts x.bytes c e fault.0.0) ∙ after_parts parts (only_fault e) ∙ append-nil parts
    ]

lines_least : (ps : List Plan) (more : List Part) → length ps ≤ length (map Line ps ++ more)
lines_least [] more = omega arith
lines_least (p ∷ ps) more = let l = lines_least ps more in omega (arith, l)

-- where the fields and all plans weren't told there is no header
pub unshort_lacking : (n : ℕ) (bytes : List ℕ) → LacksHeader (image_parts bytes).parts → IsUnshort n bytes
unshort_lacking n bytes lacks = λ front back whole short.
    let h = short.header in
    let (more, told) = told_front bytes front back whole h in
    let few : length (map Line h.plans ++ more) < h.fields.plans = subst LacksHeader told lacks in
    let least = lines_least h.plans more in
    let all = h.all in
    let z : ⊥ = omega (arith, few, least, all) in z

pub unshort_header : (n : ℕ) (parts : List Part) (a c : Option (List ℕ))
    (i k : ℕ) (e : ImageError) (x : Refuses image_parts parts a c i k e) → LacksHeader parts → IsUnshort n x.bytes
unshort_header n parts a c i k e x lacks =
    unshort_lacking n x.bytes (subst LacksHeader (sym (refused_parts parts a c i k e x)) lacks)

-- where a header with room was told there is no short one
abbrev first_frames : List Part → ℕ
first_frames [] = 0
first_frames (Head f ∷ ps) = f.frames
first_frames (Line p ∷ ps) = 0
first_frames (Holds p ∷ ps) = 0

pub unshort_told : (n : ℕ) (h : Header) (parts : List Part) (bytes : List ℕ)
    → (image_parts bytes).parts ≡ header_parts h ++ parts → IsRoomy n h.frames → IsUnshort n bytes
unshort_told n h parts bytes is roomy = λ front back whole short.
    let (more, told) = told_front bytes front back whole short.header in
    let same : short.header.fields.frames ≡ h.frames = ap first_frames (sym told ∙ is) in
    let few = short.few in
    let z : ⊥ = omega (arith, same, few, roomy) in z

pub unshort_roomy : (n : ℕ) (h : Header) (parts : List Part) (a c : Option (List ℕ)) (i k : ℕ) (e : ImageError) (x :
    Refuses image_parts (header_parts h ++ parts) a c i k e) → IsRoomy n h.frames → IsUnshort n x.bytes
unshort_roomy n h parts a c i k e x roomy =
    unshort_told n h parts x.bytes (refused_parts (header_parts h ++ parts) a c i k e x) roomy
