-- A partition without tables in five frames: what was written into them is the partition.
use Rattle.std.proofs.Common.{◌≡◌, ◌≢◌, ℕ, ◌+◌, ◌<◌, ◌≤◌, cond, inl, inr, Bool, true, false, List, [], ◌∷◌, ◌++◌}
use Rattle.std.proofs.Common.{get_or, length, take, refl, sym, ap, ◌∙◌, subst, arith, ne_eqb, Some, None}
use Rattle.pip_model.specs.Answers.{pair_frames}
use Rattle.std.specs.Prelude.{◌==◌, slice_index}
use Rattle.std.proofs.lemmas.Bool.{cases_eq, cases_lt, le-ltb, lt-ltb}
use Rattle.pip_base.specs.declared.types.Pair.{Pair}
use Rattle.pip_base.specs.Memory.{IsMemory, Memory, put_words, word_at, zero_frame}
use Rattle.pip_base.proofs.Memory.{IsMemory-put, IsMemory-put_words, IsMemory-zero, length-put_word, length-put_words}
use Rattle.pip_base.proofs.Memory.{length-zero_frame, word_at-put_frame, word_at-put_index, word_at-put_same}
use Rattle.pip_base.proofs.Memory.{word_at-put_words_frame, word_at-put_words_here, word_at-put_words_index}
use Rattle.pip_base.proofs.Memory.{word_at-zero_frame, word_at-zero_same}
use Rattle.pip_config.specs.Lists.{pair_words}
use Rattle.pip_config.proofs.PageWords.{word_none}
use Rattle.pip_model.specs.NodeWords.{DescriptorPage, DirectoryPage, ListPage, Role, TablePage, descriptor_word}
use Rattle.pip_model.specs.NodeWords.{no_table, role, role_word, slots}
use Rattle.pip_model.specs.declared.level.Level.{Level}
use Rattle.pip_model.specs.declared.level.Level.TheVariants.{Mmu, Shadow1, Shadow2}
use Rattle.pip_model.specs.FullRows.{cells_of}
use Rattle.pip_model.specs.Lists.{In}
use Rattle.pip_model.specs.NodeIn.{OthersStay, Space, directory_of, list_page}
use Rattle.pip_model.specs.Tree.{Base, Node, base_pairs, config}
use Rattle.pip_model.proofs.Nodes.Roles.{descriptor_role_back, directory_role_back, list_role_back, table_role_back}
use Rattle.pip_kern.proofs.Marking.{frames_more}
use Rattle.pip_birth.specs.Newborn.{AreFrames, bare, put_descriptor, zero_frames}

-- ---- frames of zeros

zero_frames-more : (m : Memory) (fs : List ℕ) (f : ℕ) → zero_frames m (fs ++ f ∷ []) ≡ zero_frame (zero_frames m fs) f
zero_frames-more m [] f = refl
zero_frames-more m (g ∷ fs) f = zero_frames-more (zero_frame m g) fs f

-- one page more
pub page_zeroed : (m n k : Memory) (ps : List Pair) (i : ℕ) (p : Pair) → i < length ps → p ≡ get_or ps i p
    → n ≡ zero_frames m (pair_frames (take i ps)) → k ≡ zero_frame n p.frame
    → k ≡ zero_frames m (pair_frames (take (i + 1) ps))
page_zeroed m n k ps i p low at so_far is =
    rw (is, so_far, ← zero_frames-more m (pair_frames (take i ps)) p.frame, ← frames_more ps i p low at)

pub length-zero_frames : (m : Memory) (fs : List ℕ) → length (zero_frames m fs) ≡ length m
length-zero_frames m [] = refl
length-zero_frames m (f ∷ fs) = length-zero_frames (zero_frame m f) fs ∙ length-zero_frame m f

pub IsMemory-zero_frames : (m : Memory) (fs : List ℕ) → IsMemory m → IsMemory (zero_frames m fs)
IsMemory-zero_frames m [] ok = ok
IsMemory-zero_frames m (f ∷ fs) ok = IsMemory-zero_frames (zero_frame m f) fs (IsMemory-zero m f ok)

-- the others stay
pub word_at-zero_frames : (m : Memory) (fs : List ℕ) (g j : ℕ) → (In g fs → ⊥)
    → word_at (zero_frames m fs) g j ≡ word_at m g j
word_at-zero_frames m [] g j off = refl
word_at-zero_frames m (f ∷ fs) g j off =
    word_at-zero_frames (zero_frame m f) fs g j (λ i. off (inr i)) ∙ word_at-zero_frame m f g j (λ e. off (inl e))

-- a frame of zeros stays one
zero_stays : (m : Memory) (fs : List ℕ) (g j : ℕ) → g < length m → word_at m g j ≡ 0
    → word_at (zero_frames m fs) g j ≡ 0
zero_stays m [] g j inside is = is
zero_stays m (f ∷ fs) g j inside is =
    let count = length-zero_frame m f in
    zero_stays (zero_frame m f) fs g j (omega arith) (elim (cases_eq g f) [
      | inl e ↦ rw (← e, word_at-zero_same m g j inside)
      | inr ne ↦ word_at-zero_frame m f g j ne ∙ is
    ])

pub word_at-zero_frames_same : (m : Memory) (fs : List ℕ) (g j : ℕ) → In g fs → g < length m
    → word_at (zero_frames m fs) g j ≡ 0
word_at-zero_frames_same m [] g j i inside = absurd i
word_at-zero_frames_same m (f ∷ fs) g j (inl e) inside =
    let count = length-zero_frame m f in
    zero_stays (zero_frame m f) fs g j (omega arith)
    (rw (← e, word_at-zero_same m g j inside))
word_at-zero_frames_same m (f ∷ fs) g j (inr i) inside =
    let count = length-zero_frame m f in
    word_at-zero_frames_same (zero_frame m f) fs g j i (omega arith)

-- ---- the descriptor

-- the ten words of the base come first
low_word : (b : Base) (up i : ℕ) → i < 10 → slice_index (pair_words (base_pairs b)) i ≡ descriptor_word (bare b up) i
low_word b up i low = rw (lt-ltb i 10 low) refl

-- then all is 0 but the parent
high_word : (b : Base) (up i : ℕ) → 10 ≤ i → i ≢ 11 → 0 ≡ descriptor_word (bare b up) i
high_word b up i high ne =
    rw (le-ltb i 10 high, ne_eqb i 11 ne) (go (i == 12) (i == 14) (i == 15))
  where
    go : (a c d : Bool) → ◌≡◌ {A = ℕ} 0 (cond a 0 (cond c 0 (cond d 0 0)))
    go true c d = refl
    go false true d = refl
    go false false true = refl
    go false false false = refl

slots-none : (j : ℕ) → slots [] j ≡ no_table
unfolding slots
slots-none j = refl

module _ (m : Memory) (few : length m ≤ 4096) (b : Base) (up : ℕ) (are : AreFrames m (base_pairs b)) where
  abbrev y : Node
  y = bare b up

  abbrev part : ℕ
  part = b.descriptor.frame

  abbrev words : List ℕ
  words = pair_words (base_pairs b)

  abbrev clean : Memory
  clean = zero_frames m (config y)

  abbrev named : Memory
  named = put_words clean part 0 words

  abbrev pub written : Memory
  written = put_descriptor clean part (base_pairs b) up

  -- ---- shapes

  page_inside : (f : ℕ) → In f (config y) → f < length m
  page_inside f (inl e) = omega (arith, are.inside 0 b.descriptor (omega arith))
  page_inside f (inr (inl e)) = omega (arith, are.inside 1 b.descriptor (omega arith))
  page_inside f (inr (inr (inl e))) = omega (arith, are.inside 2 b.descriptor (omega arith))
  page_inside f (inr (inr (inr (inl e)))) = omega (arith, are.inside 3 b.descriptor (omega arith))
  page_inside f (inr (inr (inr (inr (inl e))))) = omega (arith, are.inside 4 b.descriptor (omega arith))
  page_inside f (inr (inr (inr (inr (inr none))))) = absurd none

  clean_count : length clean ≡ length m
  clean_count = length-zero_frames m (config y)

  clean_shape : IsMemory clean
  clean_shape = IsMemory-zero_frames m (config y) are.shape

  part_in : part < length clean
  unfolding page_inside clean_count
  part_in = omega (arith, page_inside part (inl refl), clean_count)

  named_count : length named ≡ length m
  unfolding clean_count
  named_count = length-put_words clean part 0 words ∙ clean_count

  named_shape : IsMemory named
  unfolding clean_shape part_in
  named_shape = IsMemory-put_words clean part 0 words clean_shape part_in

  part_in_named : part < length named
  unfolding page_inside named_count
  part_in_named = omega (arith, page_inside part (inl refl), named_count)

  written_count : length written ≡ length m
  unfolding named_count
  written_count = length-put_word named part 11 up ∙ named_count

  written_shape : IsMemory written
  unfolding named_shape part_in_named
  written_shape = IsMemory-put named part 11 up named_shape part_in_named

  -- ---- words

  -- other frames are as they were zeroed
  far : (f i : ℕ) → f ≢ part → word_at written f i ≡ word_at clean f i
  unfolding named_shape part_in_named clean_shape part_in
  far f i ne =
      word_at-put_frame named part 11 up f i named_shape part_in_named (omega arith) ne
      ∙ word_at-put_words_frame clean part 0 words f i clean_shape part_in (omega arith) ne

  zero_at : (f i : ℕ) → In f (config y) → word_at clean f i ≡ 0
  unfolding page_inside
  zero_at f i on = word_at-zero_frames_same m (config y) f i on (page_inside f on)

  descriptor_here : (i : ℕ) → word_at written part i ≡ descriptor_word y i
  unfolding named_shape part_in_named clean_shape part_in zero_at
  descriptor_here i = elim (cases_eq i 11) [
    | inl e ↦ cc (word_at-put_same named part 11 up named_shape part_in_named (omega arith))
    | inr ne ↦
        word_at-put_index named part 11 up part i named_shape part_in_named (omega arith) ne ∙ elim (cases_lt i 10) [
          | inl low ↦
              let same : i ≡ 0 + i = omega arith in
              ap (word_at named part) same
              ∙ (word_at-put_words_here clean part 0 words i clean_shape part_in (omega arith)
              (omega arith) ∙ low_word b up i low)
          | inr high ↦
              word_at-put_words_index clean part 0 words i clean_shape part_in (omega arith) (inr (omega arith))
              ∙ (zero_at part i (inl refl) ∙ high_word b up i high ne)
        ]
  ]

  apart : (f : ℕ) → In f (b.mmu.frame ∷ b.shadow1.frame ∷ b.shadow2.frame ∷ b.list.frame ∷ []) → f ≢ part
  apart f i e = are.once.0 (rw (← e) i)

  in_directories : (l : Level)
      → In (directory_of l b).frame (b.mmu.frame ∷ b.shadow1.frame ∷ b.shadow2.frame ∷ b.list.frame ∷ [])
  in_directories Mmu = inl refl
  in_directories Shadow1 = inr (inl refl)
  in_directories Shadow2 = inr (inr (inl refl))

  -- a page of the base but the descriptor holds zeros
  zero_page : (f g i : ℕ) → f ≡ g → In g (b.mmu.frame ∷ b.shadow1.frame ∷ b.shadow2.frame ∷ b.list.frame ∷ [])
      → word_at written f i ≡ 0
  unfolding far zero_at apart
  zero_page f g i e on = rw (e, far g i (apart g on), zero_at g i (inr on))

  each : (f i : ℕ) (r : Role) → role y f ≡ Some r → word_at written f i ≡ role_word y (cells_of (λ v. None)) r i
  unfolding role_word descriptor_here zero_page in_directories
  each f i DescriptorPage is = rw (descriptor_role_back y f is, descriptor_here i)
  each f i (DirectoryPage l) is =
      zero_page f (directory_of l b).frame i (directory_role_back y l f is) (in_directories l)
  each f i (TablePage l d) is = absurd (table_role_back y l d f is).1
  each f i (ListPage k) is =
      let (k_in, at) = list_role_back y k f is in
      let k_is : k ≡ 0 = omega arith in
      zero_page f b.list.frame i (at ∙ ap (λ q. (list_page y q).frame) k_is) (inr (inr (inr (inl refl))))
      ∙ sym (word_none [] (slots []) k i refl (λ q h. slots-none q))

  -- the memory holds the partition
  pub bare_space : Space written y (λ v. None)
  unfolding written_shape written_count page_inside each
  bare_space = record {
    node = record {
      shape = written_shape;
      small = omega (arith, written_count);
      inside = λ f on. omega (arith, page_inside f on, written_count);
      once = are.once;
      dirs = tt;
      small_dirs = λ t i. absurd i;
      is_named = refl;
      each = λ f i r is i_in. each f i r is;
    };
    packed = λ v r is. let bad : None ≡ Some r = is in cc;
    tabled = λ v r is. let bad : None ≡ Some r = is in cc;
  }

  -- and no other frame changes
  pub bare_others : OthersStay y m written
  unfolding written_count far
  bare_others = record {
    count = written_count;
    words = λ f i off. far f i (λ e. off (inl e)) ∙ word_at-zero_frames m (config y) f i off;
  }

-- what the two writes make
pub newborn_written : (m n k : Memory) (ps : List Pair) (p : Pair) (up : ℕ) → length m ≤ 4096 → AreFrames m ps
    → n ≡ zero_frames m (pair_frames ps) → k ≡ put_descriptor n (get_or ps 0 p).frame ps up → (b : Base)
    → base_pairs b ≡ ps → Space k (bare b up) (λ v. None) × OthersStay (bare b up) m k
newborn_written m n k ps p up few are zeroed is b base =
    let here : AreFrames m (base_pairs b) = rw base are in
    let same : k ≡ written m few b up here =
    rw (is, zeroed, ← base) in
    rw same (bare_space m few b up here, bare_others m few b up here)
