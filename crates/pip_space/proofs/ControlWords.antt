-- A node whose descriptor alone is written: its flags and its pending lines.
use Rattle.std.proofs.Common.{◌≡◌, ◌≢◌, ℕ, ◌^◌, ◌<◌, ◌⊎◌, inl, inr, Bool, true, false, List, length, map, refl, sym, ap}
use Rattle.std.proofs.Common.{◌∙◌, subst, arith, ne_eqb, Some}
use Rattle.std.specs.Prelude.{◌==◌, sum_by}
use Rattle.std.proofs.lemmas.Bool.{cases_eq}
use Rattle.pip_base.specs.Memory.{IsMemory, Memory, put_word, word_at}
use Rattle.pip_base.proofs.Memory.{IsMemory-put, length-put_word, word_at-put_frame, word_at-put_index}
use Rattle.pip_base.proofs.Memory.{word_at-put_same}
use Rattle.pip_model.specs.NodeWords.{DescriptorPage, DirectoryPage, ListPage, Role, TablePage, descriptor_word, flag}
use Rattle.pip_model.specs.NodeWords.{role, role_word}
use Rattle.pip_model.specs.declared.level.Level.{Level}
use Rattle.pip_model.specs.Lists.{Distinct, In}
use Rattle.pip_model.specs.NodeIn.{NodeIn, OthersStay}
use Rattle.pip_model.specs.Tree.{Node, config}
use Rattle.pip_model.proofs.Trees.Control.{memory}
use Rattle.pip_model.proofs.Nodes.Reads.{name_inside, name_role, read_descriptor}
use Rattle.pip_model.proofs.Nodes.Roles.{descriptor_role_back, role_config}

-- ---- a node without its control

-- the roles of a node's pages don't rest on it
role_same : (x y : Node) → memory y ≡ memory x → (f : ℕ) → role y f ≡ role x f
unfolding role
role_same x y e f = ap (λ z. role z f) e

-- nor do the words of any page but the descriptor
word_same : (x y : Node) → memory y ≡ memory x → (cells : Level → ℕ → ℕ) (r : Role) → r ≢ DescriptorPage → (i : ℕ)
    → role_word y cells r i ≡ role_word x cells r i
unfolding role_word
word_same x y e cells DescriptorPage ne i = absurd (ne refl)
word_same x y e cells (DirectoryPage l) ne i = ap (λ z. role_word z cells (DirectoryPage l) i) e
word_same x y e cells (TablePage l d) ne i = refl
word_same x y e cells (ListPage k) ne i = ap (λ z. role_word z cells (ListPage k) i) e

role_cases : (r : Role) → (r ≡ DescriptorPage) ⊎ (r ≢ DescriptorPage)
role_cases DescriptorPage = inl refl
role_cases (DirectoryPage l) = inr (λ e. cc)
role_cases (TablePage l d) = inr (λ e. cc)
role_cases (ListPage k) = inr (λ e. cc)

descriptor_first : (x : Node) (cells : Level → ℕ → ℕ) (i : ℕ)
    → role_word x cells DescriptorPage i ≡ descriptor_word x i
unfolding role_word
descriptor_first x cells i = refl

-- the words of the descriptor are those of y, which is x but for its control; all other frames have the words from
-- before
module _ (m n : Memory) (x y : Node) (cells : Level → ℕ → ℕ) (k : NodeIn m x cells) (same : memory y ≡ memory x)
    (shape : IsMemory n) (count : length n ≡ length m)
    (words : (i : ℕ) → i < 1024 → word_at n x.name i ≡ descriptor_word y i)
    (rest : (g i : ℕ) → g ≢ x.name → word_at n g i ≡ word_at m g i) where
  pub control_node : NodeIn n y cells
  control_node =
      let configs : config y ≡ config x = ap config same in
      record {
        shape = shape;
        small = omega arith;
        inside = λ f on. omega (arith, k.inside f (subst (In f) configs on));
        once = subst (λ z. Distinct z) (sym configs) k.once;
        dirs = subst (λ z. Distinct (map (λ t. t.index) z)) (ap (λ z. z.tables) (sym same)) k.dirs;
        small_dirs = λ t i. k.small_dirs t (subst (In t) (ap (λ z. z.tables) same) i);
        is_named = ap (λ z. z.name) same ∙ k.is_named ∙ ap (λ z. z.base.descriptor.frame) (sym same);
        each = λ f i r is i_in. elim (role_cases r) [
          | inl d ↦
              let at : f ≡ x.name =
              descriptor_role_back x f (rw (← role_same x y same f, is, d)) ∙ sym k.is_named in
              rw (at, words i i_in, ← descriptor_first y cells i, ← d)
          | inr ne ↦
              let is_x : role x f ≡ Some r = rw (← role_same x y same f) is in
              let away : f ≢ x.name = λ e. ne (let both : Some DescriptorPage ≡ Some r = cc (name_role m x cells k) in
              let one : DescriptorPage ≡ r = cc in sym one) in
              rw (rest f i away, k.each f i r is_x i_in, ← word_same x y same cells r ne i)
        ];
      }

  pub control_stays : OthersStay x m n
  control_stays = record {
    count = count;
    words = λ f i off. rest f i
        (λ e. off (subst (λ g. In g (config x)) (sym e) (role_config x x.name DescriptorPage (name_role m x cells k))));
  }

-- ---- the words of a descriptor

pub masked_apart : (x : Node) (b : Bool) (i : ℕ) → i ≢ 14
    → descriptor_word (record x { masked = b }) i ≡ descriptor_word x i
masked_apart x b i ne = rw (ne_eqb i 14 ne) refl

pub pending_apart : (x : Node) (js : List ℕ) (i : ℕ) → i ≢ 15
    → descriptor_word (record x { pending = js }) i ≡ descriptor_word x i
pending_apart x js i ne = rw (ne_eqb i 15 ne) refl

-- ---- the flags

pub flags_masked : (b : Bool) → (flag b 1 == 1) ≡ b
flags_masked true = refl
flags_masked false = refl

-- ---- a node that is named by a frame

module _ (m : Memory) (x : Node) (cells : Level → ℕ → ℕ) (k : NodeIn m x cells)
    (part : ℕ) (name : x.name ≡ part) where
  pub control_frame : part < length m
  control_frame = rw (← name) (name_inside m x cells k)

  read_there : (i : ℕ) → i < 1024 → word_at m part i ≡ descriptor_word x i
  read_there i low = rw (← name) (read_descriptor m x cells k i low)

  pub read_flags : word_at m part 14 ≡ flag x.masked 1
  read_flags = read_there 14 (omega arith)

  pub read_lines : word_at m part 15 ≡ sum_by (λ j. 2 ^ j) x.pending
  read_lines = read_there 15 (omega arith)

  -- one word of the descriptor is written
  module _ (i w : ℕ) (low : i < 1024) (n : Memory) (is : n ≡ put_word m part i w) where
    put_shape : IsMemory n
    put_shape = rw is (IsMemory-put m part i w k.shape control_frame)

    put_count : length n ≡ length m
    put_count = rw (is, length-put_word m part i w)

    put_rest : (g j : ℕ) → g ≢ x.name → word_at n g j ≡ word_at m g j
    put_rest g j ne =
        rw (is, word_at-put_frame m part i w g j k.shape control_frame low (λ e. ne (e ∙ sym name)))

    put_words_are : (y : Node) → descriptor_word y i ≡ w → ((j : ℕ) → j ≢ i → descriptor_word y j ≡ descriptor_word x j)
        → (j : ℕ) → j < 1024 → word_at n x.name j ≡ descriptor_word y j
    put_words_are y here else j j_in =
        ap (λ p. word_at n p j) name ∙ ap (λ z. word_at z part j) is ∙ elim (cases_eq j i) [
          | inl e ↦ rw e (word_at-put_same m part i w k.shape control_frame low ∙ sym here)
          | inr ne ↦
              rw (word_at-put_index m part i w part j k.shape control_frame low ne, read_there j j_in, ← else j ne)
        ]

    pub put_node : (y : Node) → memory y ≡ memory x → descriptor_word y i ≡ w
        → ((j : ℕ) → j ≢ i → descriptor_word y j ≡ descriptor_word x j) → NodeIn n y cells × OthersStay x m n
    put_node y same here else = (
      control_node m n x y cells k same put_shape put_count (put_words_are y here else) put_rest,
      control_stays m n x y cells k same put_shape put_count (put_words_are y here else) put_rest,
    )

  -- masked or not
  pub masked_put : (b : Bool) (w : ℕ) (n : Memory) → n ≡ put_word m part 14 w → w ≡ flag b 1
      → NodeIn n (record x { masked = b }) cells × OthersStay x m n
  masked_put b w n is value =
      put_node 14 w (omega arith) n is (record x { masked = b }) refl (sym value) (masked_apart x b)

  -- other lines
  pub pending_put : (js : List ℕ) (w : ℕ) (n : Memory) → n ≡ put_word m part 15 w → w ≡ sum_by (λ j. 2 ^ j) js
      → NodeIn n (record x { pending = js }) cells × OthersStay x m n
  pending_put js w n is value =
      put_node 15 w (omega arith) n is (record x { pending = js }) refl (sym value) (pending_apart x js)
