-- The words of a node's pages, by what is read of it.
use Rattle.std.proofs.Common.{◌≡◌, ℕ, zero, suc, ◌+◌, ◌-◌, ◌*◌, ◌/◌, ◌%◌, ◌^◌, ◌<◌, ◌≤◌, ◌==◌, List, ◌∷◌, length, refl}
use Rattle.std.proofs.Common.{sym, ap, ap₂, ◌∙◌, subst, arith, inl, inr, Option, Some, None, Bool, true, false, cond}
use Rattle.std.proofs.Common.{eq-eqb, ne_eqb}
use Rattle.std.specs.Prelude.{slice_index, slice_index_or, sum_by, option_map}
use Rattle.std.proofs.lemmas.Bool.{cases_eq}
use Rattle.std.proofs.lemmas.Bool.Decides.{nat_tests}
use Rattle.std.proofs.lemmas.List.{get_or_past}
use Rattle.std.proofs.lemmas.List.Sums.{sum_by-cons}
use Rattle.pip_base.specs.Memory.{Memory, word_at}
use Rattle.pip_base.specs.declared.types.Pair.{Pair}
use Rattle.pip_model.specs.Boot.{own}
use Rattle.pip_model.specs.NodeWords.{DescriptorPage, DirectoryPage, ListPage, TablePage, descriptor_word}
use Rattle.pip_model.specs.NodeWords.{directory_entry, flag, role_word, list_word, next_list_page, no_table, page_word}
use Rattle.pip_model.specs.NodeWords.{slot_words, slots}
use Rattle.pip_model.specs.declared.level.Level.{Level}
use Rattle.pip_model.specs.declared.level.Level.TheVariants.{Shadow1, Shadow2}
use Rattle.pip_model.specs.ReadOff.{base_read, lines_read, more_read, node_read, row_read, cell_read, slot_start}
use Rattle.pip_model.specs.ReadOff.{table_from, table_read}
use Rattle.pip_model.specs.declared.level.Level.TheVariants.{Mmu}
use Rattle.pip_model.specs.Tree.{Node, Row, Table, lists, table_at}
use Rattle.pip_audit.specs.Comparing.{entry_held}
use Rattle.pip_audit.specs.Tables.{triple_of}
use Rattle.pip_audit.specs.Links.{list_read, page_after}
use Rattle.pip_audit.proofs.EachNode.{halves, power}
use Rattle.pip_audit.proofs.Links.{slot_list}
use Rattle.pip_audit.proofs.TableWords.{listed_at, listed_long}

-- ---- the descriptor

pub base_word : (m : Memory) (f i : ℕ) → i < 10 → word_at m f i ≡ descriptor_word (node_read m f) i
unfolding node_read
base_word m f zero h = refl
base_word m f (suc zero) h = refl
base_word m f (suc (suc zero)) h = refl
base_word m f (suc (suc (suc zero))) h = refl
base_word m f (suc (suc (suc (suc zero)))) h = refl
base_word m f (suc (suc (suc (suc (suc zero))))) h = refl
base_word m f (suc (suc (suc (suc (suc (suc zero)))))) h = refl
base_word m f (suc (suc (suc (suc (suc (suc (suc zero))))))) h = refl
base_word m f (suc (suc (suc (suc (suc (suc (suc (suc zero)))))))) h = refl
base_word m f (suc (suc (suc (suc (suc (suc (suc (suc (suc zero))))))))) h = refl
base_word m f (suc (suc (suc (suc (suc (suc (suc (suc (suc (suc i)))))))))) h = absurd (omega (arith, h))

pub up_word : (m : Memory) (f i : ℕ) → i ≡ 11 → word_at m f i ≡ descriptor_word (node_read m f) i
unfolding node_read
up_word m f i e = ap (word_at m f) e ∙ ap (descriptor_word (node_read m f)) (sym e)

pub tables_long : (m : Memory) (f : ℕ) → length (node_read m f).tables ≡ word_at m f 12
unfolding node_read
tables_long m f = listed_long (table_read m (base_read m f) (list_read m f (word_at m f 12))) 0 (word_at m f 12)

pub count_word : (m : Memory) (f i : ℕ) → i ≡ 12 → word_at m f i ≡ descriptor_word (node_read m f) i
count_word m f i e = ap (word_at m f) e ∙ sym (tables_long m f) ∙ ap (descriptor_word (node_read m f)) (sym e)

mask_of : (w : ℕ) → w % 2 ≡ flag (w % 2 == 1) 1
mask_of w = elim (cases_eq (w % 2) 1) [
  | inl q ↦ q ∙ ap (λ b. flag b 1) (sym (eq-eqb (w % 2) 1 q))
  | inr ne ↦ let z : w % 2 ≡ 0 = omega (arith, ne) in z ∙ ap (λ b. flag b 1) (sym (ne_eqb (w % 2) 1 ne))
]

pub mask_word : (m : Memory) (f i : ℕ) → i ≡ 14 → word_at m f i % 2 ≡ descriptor_word (node_read m f) i
unfolding node_read
mask_word m f i e =
    ap (λ k. word_at m f k % 2) e ∙ mask_of (word_at m f 14) ∙ ap (descriptor_word (node_read m f)) (sym e)

with_one : (p q : ℕ) → p + 2 * p * q ≡ p * (2 * q + 1)
with_one p q = grind arith

with_none : (p q : ℕ) → 2 * p * q ≡ p * (2 * q + 0)
with_none p q = grind arith

lines_sum : (k low w : ℕ) → sum_by (λ j. 2 ^ j) (lines_read k low w) ≡ 2 ^ low * (w % 2 ^ k)
unfolding lines_read
lines_sum zero low w = none (2 ^ low) w
  where
    none : (p v : ℕ) → 0 ≡ p * (v % 1)
    none p v = let z : v % 1 ≡ 0 = omega arith in sym (ap (λ n. p * n) z ∙ nothing p)
      where
        nothing : (p : ℕ) → p * 0 ≡ 0
        nothing p = omega arith
lines_sum (suc k) low w =
    let q : ℕ = w / 2 % 2 ^ k in
    let h : w % 2 ^ suc k ≡ 2 * q + w % 2 = ap (λ n. w % n) (power k) ∙ halves w (2 ^ k) in
    let next : 2 ^ (low + 1) ≡ 2 * 2 ^ low = (let s : low + 1 ≡ suc low = omega arith in
    ap (λ n. 2 ^ n) s ∙ power low) in
    let rest : sum_by (λ j. 2 ^ j) (lines_read k (low + 1) (w / 2)) ≡ 2 * 2 ^ low * q =
    lines_sum k (low + 1) (w / 2) ∙ ap (λ p. p * q) next in
    elim (cases_eq (w % 2) 1) [
      | inl one ↦
          ap (λ b. sum_by (λ j. 2 ^ j) (cond b
          (low ∷ lines_read k (low + 1) (w / 2)) (lines_read k (low + 1) (w / 2)))) (eq-eqb (w % 2) 1 one)
          ∙ sum_by-cons (λ j. 2 ^ j) low (lines_read k (low + 1) (w / 2))
          ∙ ap (λ n. 2 ^ low + n) rest
          ∙ with_one (2 ^ low) q
          ∙ ap (λ b. 2 ^ low * (2 * q + b)) (sym one)
          ∙ ap (λ n. 2 ^ low * n) (sym h)
      | inr ne ↦
          let z : w % 2 ≡ 0 = omega (arith, ne) in
          ap (λ b. sum_by (λ j. 2 ^ j) (cond b
          (low ∷ lines_read k (low + 1) (w / 2)) (lines_read k (low + 1) (w / 2)))) (ne_eqb (w % 2) 1 ne)
          ∙ rest
          ∙ with_none (2 ^ low) q
          ∙ ap (λ b. 2 ^ low * (2 * q + b)) (sym z)
          ∙ ap (λ n. 2 ^ low * n) (sym h)
    ]

pub lines_word : (m : Memory) (f i : ℕ) → i ≡ 15 → word_at m f i % 65536 ≡ descriptor_word (node_read m f) i
unfolding node_read
lines_word m f i e =
    let s : sum_by (λ j. 2 ^ j) (lines_read 16 0 (word_at m f 15)) ≡ 2 ^ 0 * (word_at m f 15 % 2 ^ 16) =
    lines_sum 16 0 (word_at m f 15) in
    ap (λ k. word_at m f k % 65536) e
    ∙ (let z : word_at m f 15 % 65536 ≡ sum_by (λ j. 2 ^ j) (lines_read 16 0 (word_at m f 15)) = omega (arith, s) in
    z) ∙ ap (descriptor_word (node_read m f)) (sym e)

-- ---- the list pages

more_or : (m : Memory) (f n j : ℕ) (d : Pair) → j < n → slice_index_or (more_read m f n) j d
    ≡ record { va = word_at m (page_after m f j) 1; frame = word_at m (page_after m f j) 0 }
unfolding more_read page_after
more_or m f zero j d h = absurd (omega (arith, h))
more_or m f (suc n) zero d h = refl
more_or m f (suc n) (suc j) d h = more_or m (word_at m f 0) n j d (omega (arith, h))

more_long : (m : Memory) (f k : ℕ) → length (more_read m f k) ≡ k
unfolding more_read
more_long m f zero = refl
more_long m f (suc k) = ap suc (more_long m (word_at m f 0) k)

module _ (m : Memory) (f k i c page : ℕ) (count : c ≡ word_at m f 12) (is : page ≡ page_after m (word_at m f 9) k) where
  abbrev told : ℕ
  told = word_at m page i

  first_word : (more : List Pair) (s : ℕ → Table) (j : ℕ) → j ≡ 0 → page_word more s k j ≡ (next_list_page more k).frame
  unfolding page_word
  first_word more s j e = ap (page_word more s k) e

  second_word : (more : List Pair) (s : ℕ → Table) (j : ℕ) → j ≡ 1 → page_word more s k j ≡ (next_list_page more k).va
  unfolding page_word
  second_word more s j e = ap (page_word more s k) e

  pub link_word : i < 2 → k + 1 < lists c → word_at m page i ≡ list_word (node_read m f) k i
  unfolding node_read
  link_word h l =
      let at : next_list_page (list_read m f (word_at m f 12)) k
      ≡ record { va = word_at m page 1; frame = word_at m page 0 } =
      more_or m (word_at m f 9) (lists (word_at m f 12) - 1) k (own 0)
      (subst (λ n. k < lists n - 1) count (omega (arith, l)))
      ∙ ap (λ p. record { va = word_at m p 1; frame = word_at m p 0 }) (sym is) in
      elim (cases_eq i 0) [
        | inl z ↦ ap (word_at m page) z ∙ sym (ap (λ (p : Pair). p.frame) at)
            ∙ sym (first_word (node_read m f).more (slots (node_read m f).tables) i z)
        | inr nz ↦ let o : i ≡ 1 = omega (arith, h, nz) in ap (word_at m page) o ∙ sym (ap (λ (p : Pair). p.va) at)
            ∙ sym (second_word (node_read m f).more (slots (node_read m f).tables) i o)
      ]

  pub last_link : i < 2 → lists c ≤ k + 1 → 0 ≡ list_word (node_read m f) k i
  unfolding node_read
  last_link h l =
      let n : length (list_read m f (word_at m f 12)) ≡ lists (word_at m f 12) - 1 =
      more_long m (word_at m f 9) (lists (word_at m f 12) - 1) in
      let past : length (list_read m f (word_at m f 12)) ≤ k =
      subst (λ q. q ≤ k) (sym n) (subst (λ q. lists q - 1 ≤ k) count (omega (arith, l))) in
      let at : next_list_page (list_read m f (word_at m f 12)) k ≡ own 0 =
      get_or_past (list_read m f (word_at m f 12)) k (own 0) past in
      elim (cases_eq i 0) [
        | inl z ↦ sym (ap (λ (p : Pair). p.frame) at)
            ∙ sym (first_word (node_read m f).more (slots (node_read m f).tables) i z)
        | inr nz ↦ let o : i ≡ 1 = omega (arith, h, nz) in
            sym (ap (λ (p : Pair). p.va) at) ∙ sym (second_word (node_read m f).more (slots (node_read m f).tables) i o)
      ]

  mid : (more : List Pair) (s : ℕ → Table) → 2 ≤ i → i < 1022
      → page_word more s k i ≡ slice_index (slot_words (s (170 * k + (i - 2) / 6))) ((i - 2) % 6)
  unfolding page_word
  mid more s a b = grind (arith, a, b)

  past : (more : List Pair) (s : ℕ → Table) → 1022 ≤ i → page_word more s k i ≡ 0
  unfolding page_word
  past more s a = grind (arith, nat_tests, a)

  pub end_word : 1022 ≤ i → 0 ≡ list_word (node_read m f) k i
  end_word h = sym (past (node_read m f).more (slots (node_read m f).tables) h)

  none_word : (r : ℕ) → r < 6 → slice_index (slot_words no_table) r ≡ 0
  none_word zero h = refl
  none_word (suc zero) h = refl
  none_word (suc (suc zero)) h = refl
  none_word (suc (suc (suc zero))) h = refl
  none_word (suc (suc (suc (suc zero)))) h = refl
  none_word (suc (suc (suc (suc (suc zero))))) h = refl
  none_word (suc (suc (suc (suc (suc (suc r)))))) h = absurd (omega (arith, h))

  pub no_slot_word : 2 ≤ i → i < 1022 → c ≤ 170 * k + (i - 2) / 6 → 0 ≡ list_word (node_read m f) k i
  unfolding slots
  no_slot_word lo hi l =
      let n = tables_long m f in
      let none : slots (node_read m f).tables (170 * k + (i - 2) / 6) ≡ no_table =
      get_or_past (node_read m f).tables (170 * k + (i - 2) / 6) no_table (omega (arith, n, l, count)) in
      sym (mid (node_read m f).more (slots (node_read m f).tables) lo hi
      ∙ ap (λ t. slice_index (slot_words t) ((i - 2) % 6)) none ∙ none_word ((i - 2) % 6) (omega arith))

  from_word : (d p at r : ℕ) → r < 6 → slice_index (slot_words (table_from m d p at)) r ≡ word_at m p (at + r)
  from_word d p at zero h = let z : at ≡ at + 0 = omega arith in ap (word_at m p) z
  from_word d p at (suc zero) h = refl
  from_word d p at (suc (suc zero)) h = refl
  from_word d p at (suc (suc (suc zero))) h = let z : at + 2 + 1 ≡ at + 3 = omega arith in ap (word_at m p) z
  from_word d p at (suc (suc (suc (suc zero)))) h = refl
  from_word d p at (suc (suc (suc (suc (suc zero))))) h = let z : at + 4 + 1 ≡ at + 5 = omega arith in
      ap (word_at m p) z
  from_word d p at (suc (suc (suc (suc (suc (suc r)))))) h = absurd (omega (arith, h))

  slot_there : (j : ℕ) → j < word_at m f 12 → slots (node_read m f).tables j
      ≡ table_from m (word_at m f 3) (page_after m (word_at m f 9) (j / 170)) (slot_start j)
  unfolding node_read slots table_read
  slot_there j h =
      listed_at (table_read m (base_read m f) (list_read m f (word_at m f 12))) 0 (word_at m f 12) j no_table h
      ∙ ap (λ q. table_read m (base_read m f) (list_read m f (word_at m f 12)) q) (omega arith)
      ∙ ap (λ p. table_from m (word_at m f 3) p (slot_start j)) (slot_list m f (word_at m f 12) j h)

  pub slot_word : 2 ≤ i → i < 1022 → 170 * k + (i - 2) / 6 < c → word_at m page i ≡ list_word (node_read m f) k i
  slot_word lo hi l =
      let j = 170 * k + (i - 2) / 6 in
      let q : k ≡ j / 170 = omega (arith, hi) in
      let at : i ≡ slot_start j + (i - 2) % 6 = omega (arith, lo, hi) in
      sym (mid (node_read m f).more (slots (node_read m f).tables) lo hi
      ∙ ap (λ t. slice_index (slot_words t) ((i - 2) % 6)) (slot_there j (omega (arith, l, count)))
      ∙ from_word (word_at m f 3) (page_after m (word_at m f 9) (j / 170)) (slot_start j) ((i - 2) % 6) (omega arith)
      ∙ ap₂ (word_at m) (ap (page_after m (word_at m f 9)) (sym q) ∙ sym is) (sym at))

-- ---- rows

pub rights_small : (m : Memory) (ts : List Table) (v : ℕ) (r : Row) → row_read m ts v ≡ Some r → r.rights < 8
unfolding row_read
rights_small m ts v r e = go (cell_read m ts Mmu v == 0) e
  where
    go : (b : Bool) → cond b None
        (Some (record { at = v; frame = cell_read m ts Mmu v / 4096; rights = cell_read m ts Mmu v / 4 % 8 })) ≡ Some r
        → r.rights < 8
    go true q = cc
    go false q = let s : r.rights ≡ cell_read m ts Mmu v / 4 % 8 = at q in omega (arith, s)
      where
        at : {s : Row} → Some s ≡ Some r → r.rights ≡ s.rights
        at z = cc

-- ---- by role

pub entry_is : (level : Level) (o : Option Table) → entry_held level (option_map triple_of o) ≡ directory_entry level o
entry_is level None = refl
entry_is Mmu (Some b) = refl
entry_is Shadow1 (Some b) = refl
entry_is Shadow2 (Some b) = refl

pub descriptor_role : (x : Node) (cells : Level → ℕ → ℕ) (i : ℕ)
    → role_word x cells DescriptorPage i ≡ descriptor_word x i
unfolding role_word
descriptor_role x cells i = refl

-- a descriptor's words after its lines are 0
pub no_descriptor_word : (x : Node) (i : ℕ) → 16 ≤ i → descriptor_word x i ≡ 0
no_descriptor_word x i h = grind (arith, nat_tests, h)

pub directory_role : (x : Node) (cells : Level → ℕ → ℕ) (level : Level) (i : ℕ)
    → role_word x cells (DirectoryPage level) i ≡ directory_entry level (table_at x.tables i)
unfolding role_word
directory_role x cells level i = refl

pub table_role : (x : Node) (cells : Level → ℕ → ℕ) (level : Level) (d i : ℕ)
    → role_word x cells (TablePage level d) i ≡ cells level (1024 * d + i)
unfolding role_word
table_role x cells level d i = refl

pub list_role : (x : Node) (cells : Level → ℕ → ℕ) (k i : ℕ) → role_word x cells (ListPage k) i ≡ list_word x k i
unfolding role_word
list_role x cells k i = refl

-- ---- the directories

pub mmu_directory : (m : Memory) (f : ℕ) → word_at m f 3 ≡ (node_read m f).base.mmu.frame
unfolding node_read
mmu_directory m f = refl

pub shadow1_directory : (m : Memory) (f : ℕ) → word_at m f 5 ≡ (node_read m f).base.shadow1.frame
unfolding node_read
shadow1_directory m f = refl

pub shadow2_directory : (m : Memory) (f : ℕ) → word_at m f 7 ≡ (node_read m f).base.shadow2.frame
unfolding node_read
shadow2_directory m f = refl
