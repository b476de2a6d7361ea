-- The words of an image's pages, a page at a time.
use Rattle.std.proofs.Common.{[], ◌≡◌, refl, ℕ, ◌==◌, ◌||◌, ◌&&◌, nat_le, nat_lt, Bool, true, false, cond}
use Rattle.std.proofs.Common.{arith, eqb-true, Option, Some, None, List, ◌∷◌, ◌++◌, slice_index_or}
use Rattle.std.specs.Prelude.{is_some, map}
use Rattle.std.specs.List.{list_any}
use Rattle.std.proofs.lemmas.Bool.Decides.{nat_tests}
use Rattle.pip_model.specs.Boot.{boot_tree, first_user, frame_of_root}
use Rattle.pip_model.specs.Images.{Page, is_frame, is_seen, image_word}
use Rattle.pip_model.specs.Layout.{LaysOut}
use Rattle.pip_model.specs.Sound.{IsWord}
use Rattle.pip_model.specs.Tree.{word_of}
use Rattle.pip_image.specs.Loading.{AreSmall, AreWords, tree_with, with_page}
use Rattle.pip_image.proofs.RootPages.{one_page}
use Rattle.pip_image.proofs.SameWords.{lays_same}

-- whether one of the pages has a frame
abbrev pub is_held : ℕ → List Page → ℕ → Bool
is_held n ps g = list_any (λ p. is_frame g (frame_of_root n p.vpage)) ps

-- a page after others in whose frame none of them is
pub held_more : (n : ℕ) (ps : List Page) (q : Page) (g i : ℕ)
    → (is_frame g (frame_of_root n q.vpage) ≡ true → is_held n ps g ≡ false)
    → image_word n (ps ++ q ∷ []) g i
    ≡ cond (is_frame g (frame_of_root n q.vpage)) (slice_index_or q.words i 0) (image_word n ps g i)
held_more n [] q g i h = refl
held_more n (p ∷ ps) q g i h =
    go (is_frame g (frame_of_root n p.vpage)) (is_frame g (frame_of_root n q.vpage)) h (λ k. held_more n ps q g i k)
  where
    go : (b c : Bool) → (c ≡ true → (b || is_held n ps g) ≡ false) → ((c ≡ true → is_held n ps g ≡ false)
        → image_word n (ps ++ q ∷ []) g i ≡ cond c (slice_index_or q.words i 0) (image_word n ps g i))
        → cond b (slice_index_or p.words i 0) (image_word n (ps ++ q ∷ []) g i)
        ≡ cond c (slice_index_or q.words i 0) (cond b (slice_index_or p.words i 0) (image_word n ps g i))
    go false c h k = k h
    go true false h k = refl
    go true true h k = let differs : ◌≡◌ {A = Bool} true false = h refl in cc

-- no earlier page is in the frame of a page with another vpage
held_none : (n v f : ℕ) (ps : List Page) → frame_of_root n v ≡ Some f → is_seen v (map (λ p. p.vpage) ps) ≡ false
    → is_held n ps f ≡ false
held_none n v f [] at e = refl
held_none n v f (p ∷ ps) at e = both (is_frame f (frame_of_root n p.vpage)) (is_held n ps f) (apart (p.vpage
    == v) (frame_of_root n p.vpage) refl refl (left (p.vpage == v) (is_seen v (map (λ p. p.vpage) ps)) e))
    (held_none n v f ps at (right (p.vpage == v) (is_seen v (map (λ p. p.vpage) ps)) e))
  where
    both : (a b : Bool) → a ≡ false → b ≡ false → (a || b) ≡ false
    both a b h k = grind (arith, h, k)

    left : (a b : Bool) → (a || b) ≡ false → a ≡ false
    left a b h = grind (arith, h)

    right : (a b : Bool) → (a || b) ≡ false → b ≡ false
    right a b h = grind (arith, h)

    other : (b : Bool) (g : ℕ) → g == f ≡ b → frame_of_root n p.vpage ≡ Some g → (p.vpage == v) ≡ false → g == f ≡ false
    other true g t here differs = let same : p.vpage ≡ v =
        one_page n p.vpage v f (rw (here, eqb-true g f t)) at in absurd (grind (arith, nat_tests, differs, same))
    other false g t here differs = t

    apart : (b : Bool) (o : Option ℕ) → (p.vpage == v) ≡ b → frame_of_root n p.vpage ≡ o → b ≡ false
        → is_frame f o ≡ false
    apart b None t here differs = refl
    apart b (Some g) t here differs = other (g == f) g refl here (cc)

whole_user : (b : Bool) (u : ℕ → ℕ) → is_some (cond b (Some u) None) ≡ true → b ≡ true
whole_user true u h = refl
whole_user false u h = absurd (grind (arith, h))

abbrev is_user : ℕ → ℕ → Bool
is_user n g = nat_le (first_user n) g && nat_lt g n

pub still_open : (n : ℕ) (ps : List Page) (f : ℕ) → is_some ((boot_tree n).words f) ≡ true
    → is_some ((tree_with n ps).words f) ≡ true
still_open n ps f can = go (is_user n f) _ _ can
  where
    go : (b : Bool) (u w : ℕ → ℕ) → is_some (cond b (Some u) None) ≡ true → is_some (cond b (Some w) None) ≡ true
    go true u w h = refl
    go false u w h = h

-- so the tree with one page more is that of the pages with it
pub lays_more : (n : ℕ) (ps : List Page) (q : Page) (f : ℕ) (m : List (List ℕ)) → frame_of_root n q.vpage ≡ Some f
    → is_some ((boot_tree n).words f) ≡ true
    → is_seen q.vpage (map (λ p. p.vpage) ps) ≡ false → LaysOut (with_page (tree_with n ps) f q.words) m
    → LaysOut (tree_with n (ps ++ q ∷ [])) m
lays_more n ps q f m at can unseen lays =
    lays_same (with_page (tree_with n ps) f q.words) (tree_with n (ps ++ q ∷ [])).words m
    (λ g. some (g == f) g _ refl) (λ g i b. words (g == f) (is_user n g) g i refl refl) lays
  where
    user : (g : ℕ) → g ≡ f → is_user n g ≡ true
    user g e = rw (e, whole_user (is_user n f) _ can)

    mapped : (b : Bool) (u w : ℕ → ℕ) → is_some (cond b (Some u) None) ≡ is_some (cond b (Some w) None)
    mapped true u w = refl
    mapped false u w = refl

    some : (b : Bool) (g : ℕ) (u : ℕ → ℕ) → g == f ≡ b
        → is_some ((tree_with n (ps ++ q ∷ [])).words g) ≡ is_some (cond b (Some u) ((tree_with n ps).words g))
    some true g u e = rw (user g (eqb-true g f e))
    some false g u e = mapped (nat_le (first_user n) g && nat_lt g n) _ _

    same_number : (k : ℕ) → (k == k) ≡ true
    same_number k = grind (arith, nat_tests)

    is_here : (g : ℕ) → g ≡ f → is_frame g (frame_of_root n q.vpage) ≡ true
    is_here g e = rw (at, e, same_number f)

    is_there : (g : ℕ) → (g == f) ≡ false → is_frame g (frame_of_root n q.vpage) ≡ false
    is_there g e = rw at (grind (arith, nat_tests, e))

    alone : (g : ℕ) → is_frame g (frame_of_root n q.vpage) ≡ true → is_held n ps g ≡ false
    alone g e = let same : f ≡ g = eqb-true f g (cc) in
        rw (← same) (held_none n q.vpage f ps at unseen)

    words : (b c : Bool) (g i : ℕ) → g == f ≡ b → is_user n g ≡ c → word_of ((tree_with n (ps ++ q ∷ [])).words g) i
        ≡ word_of (cond b (Some (λ j. slice_index_or q.words j 0)) ((tree_with n ps).words g)) i
    words true c g i e d = let same = eqb-true g f e in
        rw (user g same, held_more n ps q g i (alone g), is_here g same)
    words false true g i e d = cc (held_more n ps q g i (alone g), is_there g e)
    words false false g i e d = cc

-- ---- words of small pages are small

pub small_held : (n : ℕ) (ps : List Page) → AreSmall ps → (g i : ℕ) → IsWord (image_word n ps g i)
small_held n [] all g i = omega arith
small_held n (p ∷ ps) all g i = one (is_frame g (frame_of_root n p.vpage)) (all.0 i) (small_held n ps all.1 g i)
  where
    one : (b : Bool) → IsWord (slice_index_or p.words i 0) → IsWord (image_word n ps g i)
        → IsWord (cond b (slice_index_or p.words i 0) (image_word n ps g i))
    one true h k = h
    one false h k = k

pub small_page : (ps : List Page) (q : Page) → AreSmall ps → AreWords q.words → AreSmall (ps ++ q ∷ [])
small_page [] q all h = (h, tt)
small_page (p ∷ ps) q all h = (all.0, small_page ps q all.1 h)
