-- The root without tables in frames of zeros, and frames of zeros themselves.
use Rattle.std.specs.Prelude.{◌≡◌, ◌≢◌, ℕ, zero, suc, ◌<◌, ◌≤◌, ◌+◌, ◌==◌, if◌then◌else◌, [], length, replicate, Some}
use Rattle.std.specs.Prelude.{None, refl}
use Rattle.std.proofs.Common.{arith, sym, ap, ◌∙◌, subst, inl, inr, get_or-set_same, get_or-set_other, eq-eqb, ne_eqb}
use Rattle.std.proofs.lemmas.Bool.{cases_eq, le-ltb}
use Rattle.std.proofs.lemmas.List.{get_or-replicate, get_or_default, length-replicate, same_lists}
use Rattle.pip_base.specs.Memory.{IsMemory, Memory, frame_at, put_word, word_at, zero_frame, zeros}
use Rattle.pip_base.proofs.Memory.{IsMemory-put, IsMemory-replicate_zeros, length-put_word, length-replicate_zeros}
use Rattle.pip_base.proofs.Memory.{word_at-put, word_at-put_frame, word_at-replicate_zeros}
use Rattle.pip_config.proofs.PageWords.{word_none}
use Rattle.pip_model.specs.NodeWords.{DescriptorPage, DirectoryPage, ListPage, Role, TablePage, descriptor_word}
use Rattle.pip_model.specs.NodeWords.{no_table, role, role_word, slots}
use Rattle.pip_model.specs.declared.level.Level.{Level}
use Rattle.pip_model.specs.declared.level.Level.TheVariants.{Mmu, Shadow1, Shadow2}
use Rattle.pip_model.specs.FullRows.{cells_of}
use Rattle.pip_model.specs.Lists.{Distinct, In}
use Rattle.pip_model.specs.NodeIn.{directory_of, list_page}
use Rattle.pip_model.specs.Tree.{config}
use Rattle.pip_model.proofs.Nodes.Roles.{descriptor_role_back, directory_role_back, list_role_back, table_role_back}
use Rattle.pip_kern.specs.Boot.{HoldsRoot, no_rows, root_with, with_root}

-- ---- frames of zeros

-- the first k frames hold zeros
abbrev pub AreZero : Memory → ℕ → Type 0
AreZero m k = (f : ℕ) → f < k → frame_at m f ≡ zeros 1024

-- one frame more is zeroed
pub zero_more : (m n : Memory) (k f : ℕ) → f ≡ k → k < length m → n ≡ zero_frame m f → AreZero m k → AreZero n (k + 1)
unfolding frame_at zero_frame
zero_more m n k f f_is k_in is so_far g low =
    let f_in : f < length m = omega arith in
    ap (λ z. frame_at z g) is ∙ elim (cases_eq g f) [
      | inl e ↦ rw e (rw get_or-set_same refl)
      | inr ne ↦ rw get_or-set_other (so_far g (omega arith))
    ]

-- a memory whose frames were all zeroed has nothing but zeros
pub all_zero : (m : Memory) (n : ℕ) → length m ≡ n → AreZero m n → m ≡ replicate n (zeros 1024)
unfolding frame_at
all_zero m n count each =
    same_lists m (replicate n (zeros 1024)) (cc (length-replicate n (zeros 1024))) (λ k d k_in.
    cc (get_or_default m k d [] k_in, each k (omega arith), get_or-replicate n k (zeros 1024) d (omega arith)))

-- ---- the descriptor

put_here : (m : Memory) (f i w j old : ℕ) → IsMemory m → f < length m → i < 1024 → word_at m f j ≡ old
    → word_at (put_word m f i w) f j ≡ (if j == i then w else old)
put_here m f i w j old ok f_in i_in is =
    rw (word_at-put m f i w f j ok f_in i_in, eq-eqb f f refl) (rw is)

-- all words after the pending lines are 0
high_words : (n j : ℕ) → 16 ≤ j → (if j == 11 then 1 else if j == 9 then 5 else if j == 7 then 4 else if j == 5 then 3
    else if j == 3 then 2 else if j == 1 then 1 else 0) ≡ descriptor_word (root_with n []) j
high_words n j high =
    rw (
      ne_eqb j 11 (λ e. omega arith),
      ne_eqb j 9 (λ e. omega arith),
      ne_eqb j 7 (λ e. omega arith),
      ne_eqb j 5
          (λ e. omega arith),
      ne_eqb j 3 (λ e. omega arith),
      ne_eqb j 1 (λ e. omega arith),
      le-ltb j 10 (omega arith),
      ne_eqb j 12 (λ e. omega arith),
      ne_eqb j 14 (λ e. omega arith),
      ne_eqb j 15 (λ e. omega arith),
    )
    refl

-- what the six words make is the descriptor of the root without tables
root_words : (n j : ℕ) → (if j == 11 then 1 else if j == 9 then 5 else if j == 7 then 4 else if j == 5 then 3
    else if j == 3 then 2 else if j == 1 then 1 else 0) ≡ descriptor_word (root_with n []) j
root_words n zero = refl
root_words n (suc zero) = refl
root_words n (suc (suc zero)) = refl
root_words n (suc (suc (suc zero))) = refl
root_words n (suc (suc (suc (suc zero)))) = refl
root_words n (suc (suc (suc (suc (suc zero))))) = refl
root_words n (suc (suc (suc (suc (suc (suc zero)))))) = refl
root_words n (suc (suc (suc (suc (suc (suc (suc zero))))))) = refl
root_words n (suc (suc (suc (suc (suc (suc (suc (suc zero)))))))) = refl
root_words n (suc (suc (suc (suc (suc (suc (suc (suc (suc zero))))))))) = refl
root_words n (suc (suc (suc (suc (suc (suc (suc (suc (suc (suc zero)))))))))) = refl
root_words n (suc (suc (suc (suc (suc (suc (suc (suc (suc (suc (suc zero))))))))))) = refl
root_words n (suc (suc (suc (suc (suc (suc (suc (suc (suc (suc (suc (suc zero)))))))))))) = refl
root_words n (suc (suc (suc (suc (suc (suc (suc (suc (suc (suc (suc (suc (suc zero))))))))))))) = refl
root_words n (suc (suc (suc (suc (suc (suc (suc (suc (suc (suc (suc (suc (suc (suc zero)))))))))))))) = refl
root_words n (suc (suc (suc (suc (suc (suc (suc (suc (suc (suc (suc (suc (suc (suc (suc zero))))))))))))))) = refl
root_words n (suc (suc (suc (suc (suc (suc (suc (suc (suc (suc (suc (suc (suc (suc (suc (suc j)))))))))))))))) =
    high_words n (suc (suc (suc (suc (suc (suc (suc (suc (suc (suc (suc (suc (suc (suc (suc (suc j))))))))))))))))
    (omega arith)

slots-none : (j : ℕ) → slots [] j ≡ no_table
unfolding slots
slots-none j = refl

-- ---- the root without tables

module _ (n : ℕ) (least : 16 ≤ n) (most : n ≤ 4096) where
  abbrev zero_memory : Memory
  zero_memory = replicate n (zeros 1024)

  abbrev m1 : Memory
  m1 = put_word zero_memory 1 1 1

  abbrev m2 : Memory
  m2 = put_word m1 1 3 2

  abbrev m3 : Memory
  m3 = put_word m2 1 5 3

  abbrev m4 : Memory
  m4 = put_word m3 1 7 4

  abbrev m5 : Memory
  m5 = put_word m4 1 9 5

  abbrev m6 : Memory
  m6 = put_word m5 1 11 1

  record IsFine (m : Memory) : Type 0 where
    shape : IsMemory m
    count : length m ≡ n

  fine0 : IsFine zero_memory
  fine0 = record { shape = IsMemory-replicate_zeros n; count = length-replicate_zeros n }

  fine_put : (m : Memory) (i w : ℕ) → IsFine m → IsFine (put_word m 1 i w)
  fine_put m i w h = let c = h.count in
      record { shape = IsMemory-put m 1 i w h.shape (omega arith); count = length-put_word m 1 i w ∙ h.count }

  fine1 : IsFine m1
  fine1 = fine_put zero_memory 1 1 fine0

  fine2 : IsFine m2
  fine2 = fine_put m1 3 2 fine1

  fine3 : IsFine m3
  fine3 = fine_put m2 5 3 fine2

  fine4 : IsFine m4
  fine4 = fine_put m3 7 4 fine3

  fine5 : IsFine m5
  fine5 = fine_put m4 9 5 fine4

  fine6 : IsFine m6
  fine6 = fine_put m5 11 1 fine5

  put_fine : (m : Memory) (i w j old : ℕ) → IsFine m → i < 1024 → word_at m 1 j ≡ old
      → word_at (put_word m 1 i w) 1 j ≡ (if j == i then w else old)
  put_fine m i w j old h i_in is = let c = h.count in put_here m 1 i w j old h.shape (omega arith) i_in is

  far_fine : (m : Memory) (i w f j : ℕ) → IsFine m → i < 1024 → f ≢ 1 → word_at m f j ≡ 0
      → word_at (put_word m 1 i w) f j ≡ 0
  far_fine m i w f j h i_in ne is = let c = h.count in word_at-put_frame m 1 i w f j h.shape (omega arith) i_in ne ∙ is

  -- the descriptor's words
  descriptor_here : (j : ℕ) → word_at m6 1 j ≡ descriptor_word (root_with n []) j
  descriptor_here j =
      let w1 = put_fine zero_memory 1 1 j 0 fine0 (omega arith) (word_at-replicate_zeros n 1 j) in
      let w2 = put_fine m1 3 2 j _ fine1 (omega arith) w1 in
      let w3 = put_fine m2 5 3 j _ fine2 (omega arith) w2 in
      let w4 = put_fine m3 7 4 j _ fine3 (omega arith) w3 in
      let w5 = put_fine m4 9 5 j _ fine4 (omega arith) w4 in
      put_fine m5 11 1 j _ fine5 (omega arith) w5 ∙ root_words n j

  -- the other frames hold zeros
  zero_far : (f j : ℕ) → f ≢ 1 → word_at m6 f j ≡ 0
  zero_far f j ne =
      let w1 = far_fine zero_memory 1 1 f j fine0 (omega arith) ne (word_at-replicate_zeros n f j) in
      let w2 = far_fine m1 3 2 f j fine1 (omega arith) ne w1 in
      let w3 = far_fine m2 5 3 f j fine2 (omega arith) ne w2 in
      let w4 = far_fine m3 7 4 f j fine3 (omega arith) ne w3 in
      let w5 = far_fine m4 9 5 f j fine4 (omega arith) ne w4 in
      far_fine m5 11 1 f j fine5 (omega arith) ne w5

  five : (f : ℕ) → In f (config (root_with n [])) → (1 ≤ f) × (f < 6)
  five f (inl e) = (omega arith, omega arith)
  five f (inr (inl e)) = (omega arith, omega arith)
  five f (inr (inr (inl e))) = (omega arith, omega arith)
  five f (inr (inr (inr (inl e)))) = (omega arith, omega arith)
  five f (inr (inr (inr (inr (inl e))))) = (omega arith, omega arith)
  five f (inr (inr (inr (inr (inr none))))) = absurd none

  once : Distinct (config (root_with n []))
  once = (
    λ i. elim i [
      | inl e ↦ omega arith
      | inr i ↦ elim i [
        | inl e ↦ omega arith
        | inr i ↦
            elim i [ inl e ↦ omega arith | inr i ↦ elim i [ inl e ↦ omega arith | inr none ↦ none ] ]
      ]
    ],
    (
      λ i. elim i [
        | inl e ↦ omega arith
        | inr i ↦
            elim i [ inl e ↦ omega arith | inr i ↦ elim i [ inl e ↦ omega arith | inr none ↦ none ] ]
      ],
      (
        λ i. elim i [ inl e ↦ omega arith | inr i ↦ elim i [ inl e ↦ omega arith | inr none ↦ none ] ],
        (λ i. elim i [ inl e ↦ omega arith | inr none ↦ none ], (λ none. none, tt)),
      ),
    ),
  )

  directory_far : (l : Level) → (directory_of l (root_with n []).base).frame ≢ 1
  directory_far Mmu e = omega arith
  directory_far Shadow1 e = omega arith
  directory_far Shadow2 e = omega arith

  -- each page of the base has its words
  each : (f i : ℕ) (r : Role) → role (root_with n []) f ≡ Some r
      → word_at m6 f i ≡ role_word (root_with n []) (cells_of no_rows) r i
  unfolding role_word
  each f i DescriptorPage is = rw (descriptor_role_back (root_with n []) f is, descriptor_here i)
  each f i (DirectoryPage l) is =
      zero_far f i (λ e. directory_far l (rw (← directory_role_back (root_with n []) l f is) e))
  each f i (TablePage l d) is = absurd (table_role_back (root_with n []) l d f is).1
  each f i (ListPage k) is =
      let (k_in, at) = list_role_back (root_with n []) k f is in
      let k_is : k ≡ 0 = omega arith in
      let page : f ≡ 5 = rw (at, k_is) in
      cc (zero_far f i (λ e. omega arith), word_none [] (slots []) k i refl (λ q h. slots-none q))

  whole : HoldsRoot n 1 6 [] no_rows m6
  whole = record {
    count = fine6.count;
    space = record {
      node = record {
        shape = fine6.shape;
        small = omega (arith, fine6.count);
        inside = λ f i. omega (arith, fine6.count, five f i);
        once = once;
        dirs = tt;
        small_dirs = λ b i. absurd i;
        is_named = refl;
        each = λ f i r is i_in. each f i r is;
      };
      packed = λ v r is. let bad : None ≡ Some r = is in cc;
      tabled = λ v r is. let bad : None ≡ Some r = is in cc;
    };
    few = omega arith;
    indexes = λ b i. absurd i;
    pages = five;
    zeros = λ f w out. zero_far f w (λ e. elim out [ inl a ↦ omega arith | inr b ↦ omega arith ]);
  }

  -- the six words make the root of zeros
  pub start : (m k : Memory) → m ≡ replicate n (zeros 1024) → k ≡ with_root m → HoldsRoot n 1 6 [] no_rows k
  start m k clean is = rw (is, clean) whole
