-- An image without a fault: its parts stand in their order, and its bytes are theirs.
use Rattle.std.specs.Prelude.{◌≡◌, refl, ℕ, zero, suc, ◌+◌, List, [], ◌∷◌, ◌++◌, None, Result, Ok, Err}
use Rattle.std.proofs.Common.{ap, ◌∙◌, arith}
use Rattle.pip_base.specs.declared.types.Plan.{Plan}
use Rattle.pip_model.specs.declared.image.ImageError.{ImageError}
use Rattle.pip_model.specs.Images.{magic, bytes_of, Fields, Page, Part, Head, Line, Holds, part_before, goes_on}
use Rattle.pip_model.specs.Images.{fields_of, plan_at, front_page, page_parts, plan_parts, image_parts}
use Rattle.pip_asm.proofs.Bytes.{AllBytes, bytes_append}
use Rattle.pip_asm.proofs.Parts.{PageOk, PlanOk, Begins, FieldsOk, page_back, plan_back, fields_back, plan_words_of}
use Rattle.pip_asm.proofs.Parts.{field_words}

abbrev pub part_words : Part → List ℕ
part_words (Head f) = field_words f
part_words (Line p) = plan_words_of p
part_words (Holds p) = p.vpage ∷ p.words

abbrev pub parts_words : List Part → List ℕ
parts_words [] = []
parts_words (p ∷ ps) = part_words p ++ parts_words ps

-- that many pages, of an image of n frames, after pages with the vpages `seen`
abbrev pub ArePages : ℕ → List ℕ → ℕ → List Part → Type 0
ArePages n seen zero [] = Unit {0}
ArePages n seen zero (p ∷ ps) = ⊥
ArePages n seen (suc k) [] = ⊥
ArePages n seen (suc k) (Head f ∷ ps) = ⊥
ArePages n seen (suc k) (Line p ∷ ps) = ⊥
ArePages n seen (suc k) (Holds p ∷ ps) = PageOk n seen p × ArePages n (seen ++ p.vpage ∷ []) k ps

-- that many plans, and then that many pages
abbrev pub AreParts : ℕ → ℕ → ℕ → ℕ → List Part → Type 0
AreParts n m least zero ps = ArePages n [] m ps
AreParts n m least (suc k) [] = ⊥
AreParts n m least (suc k) (Head f ∷ ps) = ⊥
AreParts n m least (suc k) (Line p ∷ ps) = PlanOk least p × AreParts n m (p.line + 1) k ps
AreParts n m least (suc k) (Holds p ∷ ps) = ⊥

pub record PagesWhole (n : ℕ) (seen : List ℕ) (k : ℕ) (bs : List ℕ) (ps : List Part) : Type 0 where
  pub pages : ArePages n seen k ps
  pub spelled : bytes_of (parts_words ps) ≡ bs

-- a part in front
spelled_on : (ws vs rest bs : List ℕ) → Begins bs ws rest → bytes_of vs ≡ rest → bytes_of (ws ++ vs) ≡ bs
spelled_on ws vs rest bs f e = rw (bytes_append ws vs, e, f.spelled)

pub pages_whole : (n : ℕ) (seen : List ℕ) (at k : ℕ) (bs : List ℕ) → AllBytes bs
    → (page_parts n seen at k bs).fault ≡ None → PagesWhole n seen k bs (page_parts n seen at k bs).parts
pages_whole n seen at zero [] a h = record { pages = tt; spelled = refl }
pages_whole n seen at zero (b ∷ bs) a h = absurd (grind (arith, h))
pages_whole n seen at (suc k) bs a h =
    go (λ x b i. pages_whole n (seen ++ x.0.vpage ∷ []) (at + 4100) k x.1 b i) (front_page n seen at bs) refl h
  where
    go : ((x : Page × List ℕ) → AllBytes x.1 → (page_parts n (seen ++ x.0.vpage ∷ []) (at + 4100) k x.1).fault ≡ None
        → PagesWhole n (seen ++ x.0.vpage ∷ []) k x.1 (page_parts n (seen ++ x.0.vpage ∷ []) (at + 4100) k x.1).parts)
        → (r : Result (Page × List ℕ) ImageError) → front_page n seen at bs ≡ r
        → (goes_on r (λ p rest. part_before (Holds p) (page_parts n (seen ++ p.vpage ∷ []) (at + 4100) k rest))).fault
        ≡ None
        → PagesWhole n seen (suc k) bs
        (goes_on r (λ p rest. part_before (Holds p) (page_parts n (seen ++ p.vpage ∷ []) (at + 4100) k rest))).parts
    go again (Err e) is h = absurd (grind (arith, h))
    go again (Ok x) is h =
        let b = page_back n seen at bs x a is in
        let w = again x b.front.bytes h in
        record { pages = (b.ok, w.pages); spelled = spelled_on (x.0.vpage ∷ x.0.words) _ x.1 bs b.front w.spelled }

pub record PartsWhole (n m least k : ℕ) (bs : List ℕ) (ps : List Part) : Type 0 where
  pub parts : AreParts n m least k ps
  pub spelled : bytes_of (parts_words ps) ≡ bs

pub parts_whole : (n m at least k : ℕ) (bs : List ℕ) → AllBytes bs
    → (plan_parts at least k bs (λ at rest. page_parts n [] at m rest)).fault ≡ None
    → PartsWhole n m least k bs (plan_parts at least k bs (λ at rest. page_parts n [] at m rest)).parts
parts_whole n m at least zero bs a h = let w = pages_whole n [] at m bs a h in
    record { parts = w.pages; spelled = w.spelled }
parts_whole n m at least (suc k) bs a h =
    go (λ x b i. parts_whole n m (at + 12) (x.0.line + 1) k x.1 b i) (plan_at at least bs) refl h
  where
    go : ((x : Plan × List ℕ) → AllBytes x.1
        → (plan_parts (at + 12) (x.0.line + 1) k x.1 (λ at rest. page_parts n [] at m rest)).fault ≡ None → PartsWhole n
        m (x.0.line + 1) k x.1 (plan_parts (at + 12) (x.0.line + 1) k x.1 (λ at rest. page_parts n [] at m rest)).parts)
        → (r : Result (Plan × List ℕ) ImageError) → plan_at at least bs ≡ r
        → (goes_on r (λ p rest. part_before (Line p)
        (plan_parts (at + 12) (p.line + 1) k rest (λ at rest. page_parts n [] at m rest)))).fault ≡ None
        → PartsWhole n m least (suc k) bs (goes_on r (λ p rest. part_before (Line p)
        (plan_parts (at + 12) (p.line + 1) k rest (λ at rest. page_parts n [] at m rest)))).parts
    go again (Err e) is h = absurd (grind (arith, h))
    go again (Ok x) is h =
        let b = plan_back at least bs x a is in
        let w = again x b.front.bytes h in
        record { parts = (b.ok, w.parts); spelled = spelled_on (plan_words_of x.0) _ x.1 bs b.front w.spelled }

-- ---- the whole image

abbrev pub AreAll : List Part → Type 0
AreAll [] = ⊥
AreAll (Head f ∷ ps) = FieldsOk f × AreParts f.frames f.pages 0 f.plans ps
AreAll (Line p ∷ ps) = ⊥
AreAll (Holds p ∷ ps) = ⊥

pub record ImageWhole (bs : List ℕ) (ps : List Part) : Type 0 where
  pub parts : AreAll ps
  pub spelled : magic ++ bytes_of (parts_words ps) ≡ bs

pub image_whole : (bs : List ℕ) → AllBytes bs → (image_parts bs).fault ≡ None → ImageWhole bs (image_parts bs).parts
image_whole bs a h = go (fields_of bs) refl h
  where
    go : (r : Result (Fields × List ℕ) ImageError) → fields_of bs ≡ r
        → (goes_on r (λ f rest. part_before (Head f)
        (plan_parts 24 0 f.plans rest (λ at rest. page_parts f.frames [] at f.pages rest)))).fault ≡ None
        → ImageWhole bs (goes_on r (λ f rest. part_before (Head f)
        (plan_parts 24 0 f.plans rest (λ at rest. page_parts f.frames [] at f.pages rest)))).parts
    go (Err e) is h = absurd (grind (arith, h))
    go (Ok x) is h =
        let b = fields_back bs x a is in
        let w = parts_whole x.0.frames x.0.pages 24 0 x.0.plans x.1 b.bytes h in
        record {
          parts = (b.ok, w.parts);
          spelled = rw (bytes_append (field_words x.0) _, w.spelled, b.spelled);
        }
