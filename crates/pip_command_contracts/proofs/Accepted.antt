-- The numbers of an image that was accepted are within their ranges.
use Rattle.std.proofs.Common.{◌≡◌, ℕ, zero, suc, ◌&&◌, ◌+◌, ◌≤◌, Bool, true, false, cond, List, [], ◌∷◌, refl}
use Rattle.std.proofs.Common.{subst, arith}
use Rattle.std.specs.Prelude.{◌<◌, Option, Some, None, Ok, nat_le, slice_index_or}
use Rattle.std.specs.List.{AllByRecursion}
use Rattle.std.proofs.lemmas.Bool.Decides.{nat_tests}
use Rattle.pip_asm.proofs.Bytes.{AllBytes}
use Rattle.pip_asm.proofs.Trim.{AllWords}
use Rattle.pip_asm.proofs.Whole.{AreAll, ArePages, AreParts, image_whole}
use Rattle.pip_asm.specs.Laws.{AreBytes}
use Rattle.pip_model.specs.Boot.{frame_of_root}
use Rattle.pip_model.specs.Images.{Head, Holds, Image, Line, Page, Part, image, image_from, image_or_fault}
use Rattle.pip_model.specs.Images.{image_parts, image_word, is_frame}
use Rattle.pip_model.specs.Sound.{ArePageWords, IsWord}
use Rattle.pip_model.specs.declared.image.ImageError.{ImageError}

pub record IsAccepted (i : Image) : Type 0 where
  pub frames_least : 16 ≤ i.frames
  pub frames_most : i.frames ≤ 4096
  pub cpus_least : 1 ≤ i.cpus
  pub cpus_most : i.cpus ≤ 4
  pub lines : AllByRecursion (λ p. p.line < 16) i.plans
  pub words : ArePageWords (image_word i.frames i.pages)

-- the pages have words
abbrev AreSmall : List Page → Type 0
AreSmall [] = Unit {0}
AreSmall (p ∷ ps) = AllWords p.words × AreSmall ps

word_small : (ws : List ℕ) (i : ℕ) → AllWords ws → IsWord (slice_index_or ws i 0)
word_small [] i h = omega arith
word_small (w ∷ ws) zero h = h.0
word_small (w ∷ ws) (suc i) h = word_small ws i h.1

words_small : (n : ℕ) (ps : List Page) → AreSmall ps → ArePageWords (image_word n ps)
words_small n [] h g i low = omega arith
words_small n (p ∷ ps) h g i low = go (words_small n ps h.1 g i low) (is_frame g (frame_of_root n p.vpage))
  where
    go : IsWord (image_word n ps g i) → (b : Bool) → IsWord (cond b (slice_index_or p.words i 0) (image_word n ps g i))
    go rest true = word_small p.words i h.0
    go rest false = rest

pages_small : (n : ℕ) (seen : List ℕ) (k : ℕ) (ps : List Part) → ArePages n seen k ps → AreSmall (image_from ps).pages
pages_small n seen zero [] h = tt
pages_small n seen zero (p ∷ ps) h = absurd h
pages_small n seen (suc k) [] h = absurd h
pages_small n seen (suc k) (Head f ∷ ps) h = absurd h
pages_small n seen (suc k) (Line p ∷ ps) h = absurd h
pages_small n seen (suc k) (Holds p ∷ ps) h = (h.0.words, pages_small n _ k ps h.1)

parts_small : (n m least k : ℕ) (ps : List Part) → AreParts n m least k ps → AreSmall (image_from ps).pages
parts_small n m least zero ps h = pages_small n [] m ps h
parts_small n m least (suc k) [] h = absurd h
parts_small n m least (suc k) (Head f ∷ ps) h = absurd h
parts_small n m least (suc k) (Line p ∷ ps) h = parts_small n m (p.line + 1) k ps h.1
parts_small n m least (suc k) (Holds p ∷ ps) h = absurd h

-- the lines of plans are below 16
no_plans : (n : ℕ) (seen : List ℕ) (k : ℕ) (ps : List Part) → ArePages n seen k ps
    → AllByRecursion (λ p. p.line < 16) (image_from ps).plans
no_plans n seen zero [] h = tt
no_plans n seen zero (p ∷ ps) h = absurd h
no_plans n seen (suc k) [] h = absurd h
no_plans n seen (suc k) (Head f ∷ ps) h = absurd h
no_plans n seen (suc k) (Line p ∷ ps) h = absurd h
no_plans n seen (suc k) (Holds p ∷ ps) h = no_plans n _ k ps h.1

plans_below : (n m least k : ℕ) (ps : List Part) → AreParts n m least k ps
    → AllByRecursion (λ p. p.line < 16) (image_from ps).plans
plans_below n m least zero ps h = no_plans n [] m ps h
plans_below n m least (suc k) [] h = absurd h
plans_below n m least (suc k) (Head f ∷ ps) h = absurd h
plans_below n m least (suc k) (Line p ∷ ps) h = (h.0.line, plans_below n m (p.line + 1) k ps h.1)
plans_below n m least (suc k) (Holds p ∷ ps) h = absurd h

within : (l n h : ℕ) → (nat_le l n && nat_le n h) ≡ true → (l ≤ n) × (n ≤ h)
within l n h e = (grind (arith, nat_tests, e), grind (arith, nat_tests, e))

all_accepted : (ps : List Part) → AreAll ps → IsAccepted (image_from ps)
all_accepted [] h = absurd h
all_accepted (Line p ∷ ps) h = absurd h
all_accepted (Holds p ∷ ps) h = absurd h
all_accepted (Head f ∷ ps) h =
    let n = within 16 f.frames 4096 h.0.frames in
    let c = within 1 f.cpus 4 h.0.cpus in
    record {
      frames_least = n.0;
      frames_most = n.1;
      cpus_least = c.0;
      cpus_most = c.1;
      lines = plans_below f.frames f.pages 0 f.plans ps h.1;
      words = words_small f.frames (image_from ps).pages (parts_small f.frames f.pages 0 f.plans ps h.1);
    }

all_bytes : (bs : List ℕ) → AreBytes bs → AllBytes bs
all_bytes [] h = tt
all_bytes (b ∷ bs) h = (h 0, all_bytes bs (λ i. h (suc i)))

-- an image of parts without a fault
is_from : (ps : List Part) (o : Option ImageError) (i : Image) → image_or_fault ps o ≡ Ok i
    → (o ≡ None) × (image_from ps ≡ i)
is_from ps None i h = (refl, cc)
is_from ps (Some e) i h = absurd (cc)

pub accepted : (bs : List ℕ) (i : Image) → AreBytes bs → image bs ≡ Ok i → IsAccepted i
accepted bs i a h =
    let f = is_from (image_parts bs).parts (image_parts bs).fault i h in
    subst IsAccepted f.1
    (all_accepted (image_parts bs).parts (image_whole bs (all_bytes bs a) f.0).parts)
