-- Entries of the directories and the number of tables, when they are written.
use Rattle.std.proofs.Common.{◌≡◌, ◌≢◌, ℕ, ◌<◌, length, sym, ap, ◌∙◌, subst, arith, Some}
use Rattle.pip_base.specs.Memory.{IsMemory, Memory, put_word, word_at}
use Rattle.pip_base.proofs.Memory.{IsMemory-put, length-put_word, word_at-put_frame, word_at-put_index}
use Rattle.pip_base.proofs.Memory.{word_at-put_same}
use Rattle.pip_model.specs.NodeWords.{DescriptorPage, DirectoryPage, Role, role}
use Rattle.pip_model.specs.declared.level.Level.{Level}
use Rattle.pip_model.specs.declared.level.Level.TheVariants.{Mmu, Shadow1, Shadow2}
use Rattle.pip_model.specs.Lists.{Distinct, In}
use Rattle.pip_model.specs.NodeIn.{directory_of}
use Rattle.pip_model.specs.Tree.{Node, config}
use Rattle.pip_model.proofs.Nodes.Roles.{role_config, role_of_descriptor, role_of_directory}

-- one word was written
record IsPut (m n : Memory) (f i w : ℕ) : Type 0 where
  shape : IsMemory n
  count : length n ≡ length m
  here : word_at n f i ≡ w
  index : (j : ℕ) → j ≢ i → word_at n f j ≡ word_at m f j
  frame : (g j : ℕ) → g ≢ f → word_at n g j ≡ word_at m g j

put_is : (m : Memory) (f i w : ℕ) → IsMemory m → f < length m → i < 1024 → IsPut m (put_word m f i w) f i w
put_is m f i w shape inside low = record {
  shape = IsMemory-put m f i w shape inside;
  count = length-put_word m f i w;
  here = word_at-put_same m f i w shape inside low;
  index = λ j ne. word_at-put_index m f i w f j shape inside low ne;
  frame = λ g j ne. word_at-put_frame m f i w g j shape inside low ne;
}

-- the entries of directory index i are w, the number of tables is c, and all other words stay
pub record Entered (m n : Memory) (x : Node) (i : ℕ) (w : Level → ℕ) (c : ℕ) : Type 0 where
  pub shape : IsMemory n
  pub count : length n ≡ length m
  pub entry : (l : Level) → word_at n (directory_of l x.base).frame i ≡ w l
  pub entries : (l : Level) (j : ℕ) → j ≢ i
      → word_at n (directory_of l x.base).frame j ≡ word_at m (directory_of l x.base).frame j
  pub tables : word_at n x.base.descriptor.frame 12 ≡ c
  pub descriptor : (j : ℕ) → j ≢ 12 → word_at n x.base.descriptor.frame j ≡ word_at m x.base.descriptor.frame j
  pub rest : (f j : ℕ) → f ≢ x.base.descriptor.frame → ((l : Level) → f ≢ (directory_of l x.base).frame)
      → word_at n f j ≡ word_at m f j

-- pages of different roles differ
pub roles_apart : (x : Node) (f g : ℕ) (r q : Role) → role x f ≡ Some r → role x g ≡ Some q → (r ≡ q → ⊥) → f ≢ g
roles_apart x f g r q f_is g_is ne e = let same : Some r ≡ Some q = rw (← f_is, e, g_is) in
    ne (let k : r ≡ q = cc in k)

module _ (x : Node) (once : Distinct (config x)) where
  dir_apart : (l k : Level) → (l ≡ k → ⊥) → (directory_of l x.base).frame ≢ (directory_of k x.base).frame
  dir_apart l k ne = roles_apart x _ _ (DirectoryPage l) (DirectoryPage k) (role_of_directory x once l)
      (role_of_directory x once k) (λ e. ne (let s : l ≡ k = cc in s))

  top_apart : (l : Level) → x.base.descriptor.frame ≢ (directory_of l x.base).frame
  top_apart l = roles_apart x _ _ DescriptorPage (DirectoryPage l) (role_of_descriptor x once)
      (role_of_directory x once l) (λ e. cc)

  top_apart_back : (l : Level) → (directory_of l x.base).frame ≢ x.base.descriptor.frame
  top_apart_back l e = top_apart l (sym e)

  module _ (m n1 n2 n3 n : Memory) (i a b c t : ℕ) (p1 : IsPut m n1 x.base.mmu.frame i a)
      (p2 : IsPut n1 n2 x.base.shadow1.frame i b) (p3 : IsPut n2 n3 x.base.shadow2.frame i c)
      (p4 : IsPut n3 n x.base.descriptor.frame 12 t) where
    entry_at : (w : Level → ℕ) → a ≡ w Mmu → b ≡ w Shadow1 → c ≡ w Shadow2 → (l : Level)
        → word_at n (directory_of l x.base).frame i ≡ w l
    entry_at w e f g Mmu = p4.frame _ i (top_apart_back Mmu) ∙ (p3.frame _ i (dir_apart Mmu Shadow2 (λ e. cc))
        ∙ (p2.frame _ i (dir_apart Mmu Shadow1 (λ e. cc)) ∙ (p1.here ∙ e)))
    entry_at w e f g Shadow1 =
        rw (p4.frame _ i (top_apart_back Shadow1), p3.frame _ i (dir_apart Shadow1 Shadow2 (λ e. cc)), p2.here, f)
    entry_at w e f g Shadow2 = p4.frame _ i (top_apart_back Shadow2) ∙ (p3.here ∙ g)

    entries_at : (l : Level) (j : ℕ) → j ≢ i
        → word_at n (directory_of l x.base).frame j ≡ word_at m (directory_of l x.base).frame j
    entries_at Mmu j ne = p4.frame _ j (top_apart_back Mmu) ∙ (p3.frame _ j (dir_apart Mmu Shadow2 (λ e. cc))
        ∙ (p2.frame _ j (dir_apart Mmu Shadow1 (λ e. cc)) ∙ p1.index j ne))
    entries_at Shadow1 j ne = p4.frame _ j (top_apart_back Shadow1) ∙ (p3.frame _ j
        (dir_apart Shadow1 Shadow2 (λ e. cc)) ∙ (p2.index j ne ∙ p1.frame _ j (dir_apart Shadow1 Mmu (λ e. cc))))
    entries_at Shadow2 j ne = p4.frame _ j (top_apart_back Shadow2) ∙ (p3.index j ne
        ∙ (p2.frame _ j (dir_apart Shadow2 Shadow1 (λ e. cc)) ∙ p1.frame _ j (dir_apart Shadow2 Mmu (λ e. cc))))

    entered_puts : (w : Level → ℕ) → a ≡ w Mmu → b ≡ w Shadow1 → c ≡ w Shadow2 → Entered m n x i w t
    entered_puts w e f g = record {
      shape = p4.shape;
      count = rw (p4.count, p3.count, p2.count, p1.count);
      entry = entry_at w e f g;
      entries = entries_at;
      tables = p4.here;
      descriptor = λ j ne. p4.index j ne
          ∙ (p3.frame _ j (top_apart Shadow2) ∙ (p2.frame _ j (top_apart Shadow1) ∙ p1.frame _ j (top_apart Mmu)));
      rest = λ g j off dirs. p4.frame g j off
          ∙ (p3.frame g j (dirs Shadow2) ∙ (p2.frame g j (dirs Shadow1) ∙ p1.frame g j (dirs Mmu)));
    }

  -- the four words of the code
  pub entered : (m n : Memory) → IsMemory m → ((f : ℕ) → In f (config x) → f < length m) → (i a b c t : ℕ) → i < 1024
      → n ≡ put_word (put_word (put_word (put_word m x.base.mmu.frame i a) x.base.shadow1.frame i b)
      x.base.shadow2.frame i c) x.base.descriptor.frame 12 t
      → (w : Level → ℕ) → a ≡ w Mmu → b ≡ w Shadow1 → c ≡ w Shadow2 → Entered m n x i w t
  entered m n shape inside i a b c t low written w e f g =
      let in_a = inside x.base.mmu.frame (role_config x _ _ (role_of_directory x once Mmu)) in
      let in_b = inside x.base.shadow1.frame (role_config x _ _ (role_of_directory x once Shadow1)) in
      let in_c = inside x.base.shadow2.frame (role_config x _ _ (role_of_directory x once Shadow2)) in
      let in_d = inside x.base.descriptor.frame (role_config x _ _ (role_of_descriptor x once)) in
      let p1 = put_is m x.base.mmu.frame i a shape in_a low in
      let c1 = p1.count in
      let p2 = put_is (put_word m x.base.mmu.frame i a) x.base.shadow1.frame i b p1.shape (omega arith) low in
      let c2 = p2.count in
      let p3 = put_is (put_word (put_word m x.base.mmu.frame i a) x.base.shadow1.frame i b) x.base.shadow2.frame i c
      p2.shape (omega arith) low in
      let c3 = p3.count in
      let p4 = put_is (put_word (put_word (put_word m x.base.mmu.frame i a) x.base.shadow1.frame i b)
      x.base.shadow2.frame i c) x.base.descriptor.frame 12 t p3.shape (omega arith) (omega arith) in
      rw written (entered_puts m _ _ _ _ i a b c t p1 p2 p3 p4 w e f g)
