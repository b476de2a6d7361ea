-- A node that a memory holds is the node that is read off it, and the reading of it doesn't stop.
use Rattle.std.proofs.Common.{◌≡◌, ◌≢◌, ℕ, zero, suc, ◌+◌, ◌-◌, ◌/◌, ◌%◌, ◌^◌, ◌<◌, ◌==◌, ◌⊎◌, inl, inr, Bool, true}
use Rattle.std.proofs.Common.{false, cond, List, [], ◌∷◌, length, refl, sym, ap, ap₂, ◌∙◌, subst, arith, eqb-true}
use Rattle.std.proofs.Common.{eq-eqb, ne_eqb, Option, Some, None}
use Rattle.std.specs.Prelude.{is_some, slice_index, slice_index_or, sum_by, nat_lt, unwrap_or}
use Rattle.std.proofs.lemmas.Bool.Decides.{nat_tests}
use Rattle.std.proofs.lemmas.Bool.{cases_eq}
use Rattle.pip_base.specs.declared.types.Pair.{Pair}
use Rattle.pip_base.specs.Memory.{word_at}
use Rattle.pip_base.specs.Words.{directory_word}
use Rattle.pip_model.specs.Boot.{own}
use Rattle.pip_model.specs.NodeWords.{descriptor_word, directory_entry, flag, next_list_page, no_table, TablePage, role}
use Rattle.pip_model.specs.NodeWords.{page_word, slot_words, slots}
use Rattle.pip_model.specs.declared.level.Level.{Level}
use Rattle.pip_model.specs.declared.level.Level.TheVariants.{Mmu, Shadow1, Shadow2}
use Rattle.pip_model.specs.Lists.{In}
use Rattle.pip_model.specs.NodeIn.{NodeIn, list_page}
use Rattle.pip_model.specs.ReadOff.{base_read, base_stop, first, lines_read, more_read, more_stop, or_first}
use Rattle.pip_model.specs.ReadOff.{place_of_table, slot_page, slot_start, slot_stop, stop_at_frame, stop_unless}
use Rattle.pip_model.specs.ReadOff.{table_read, tables_read}
use Rattle.pip_model.specs.declared.reading.Stop.{Stop}
use Rattle.pip_model.specs.Sound.{AreLines}
use Rattle.pip_model.specs.Tree.{Node, Table, lists, table_at}
use Rattle.pip_model.proofs.Nodes.Reads.{read_descriptor, read_directory, read_list, list_inside, table_inside}
use Rattle.pip_model.proofs.Nodes.Roles.{in_table, role_of_table, table_found}
use Rattle.pip_model.proofs.Audit.Over.{first_none, first_only, listed_same}
use Rattle.pip_model.proofs.Frames.Same.{index_in, bits, bits_sum, bits_double, slot_word}

-- ---- lines

-- the lines of the bits that lines set
lines_from : (k low : ℕ) (js : List ℕ) → low + k ≡ 16 → AreLines low js → lines_read k low (bits low js) ≡ js
unfolding lines_read bits
lines_from zero low [] e l = refl
lines_from zero low (j ∷ js) e l = absurd (omega (arith, e))
lines_from (suc k) low [] e l = lines_from k (low + 1) [] (omega arith) tt
lines_from (suc k) low (j ∷ js) e l = elim (cases_eq j low) [
  | inl q ↦
      let p : 2 ^ (j - low) ≡ 1 = rw (none j low q) in
      let after : AreLines (suc low) js = rw (← q) l.2 in
      let d = bits_double low (suc low) js (omega arith) after in
      let odd : (2 ^ (j - low) + bits low js) % 2 ≡ 1 = omega arith in
      let half : (2 ^ (j - low) + bits low js) / 2 ≡ bits (suc low) js = omega arith in
      let s : suc low ≡ low + 1 = omega arith in
      let next : lines_read k (low + 1) (bits (low + 1) js) ≡ js =
      lines_from k (low + 1) js (omega arith) (rw (← s) after) in
      on low (2 ^ (j - low) + bits low js) (lines_read k (low + 1) ((2 ^ (j - low) + bits low js) / 2)) odd
      ∙ ap₂ (λ a b. a ∷ b) (sym q) (rw (half, s, next))
  | inr ne ↦
      let a = l.0 in
      let after : AreLines (suc low) (j ∷ js) = (omega arith, l.1, l.2) in
      let d = bits_double low (suc low) (j ∷ js) (omega arith) after in
      let even : bits low (j ∷ js) % 2 ≢ 1 = λ o. absurd (omega arith) in
      let half : bits low (j ∷ js) / 2 ≡ bits (suc low) (j ∷ js) = omega arith in
      let s : suc low ≡ low + 1 = omega arith in
      let next : lines_read k (low + 1) (bits (low + 1) (j ∷ js)) ≡ j ∷ js =
      lines_from k (low + 1) (j ∷ js) (omega arith) (rw (← s) after) in
      cc (off low (bits low (j ∷ js)) (lines_read k (low + 1) (bits low (j ∷ js) / 2)) even)
]
  where
    none : (j low : ℕ) → j ≡ low → j - low ≡ 0
    none j low a = omega arith

    on : (low w : ℕ) (rest : List ℕ) → w % 2 ≡ 1 → cond (w % 2 == 1) (low ∷ rest) rest ≡ low ∷ rest
    on low w rest e = rw (eq-eqb (w % 2) 1 e)

    off : (low w : ℕ) (rest : List ℕ) → w % 2 ≢ 1 → cond (w % 2 == 1) (low ∷ rest) rest ≡ rest
    off low w rest e = rw (ne_eqb (w % 2) 1 e)

pub lines_back : (js : List ℕ) → AreLines 0 js → lines_read 16 0 (sum_by (λ j. 2 ^ j) js) ≡ js
lines_back js l = rw (bits_sum js, lines_from 16 0 js refl l)

-- ---- the mask

masked_back : (a : Bool) → (flag a 1 % 2 == 1) ≡ a
masked_back true = refl
masked_back false = refl

-- ---- places in a row that don't stop

pub two : (a b : Option Stop) → a ≡ None → b ≡ None → or_first a b ≡ None
two a b e f = rw (e, f)

four : (a b c d : Option Stop) → a ≡ None → b ≡ None → c ≡ None → d ≡ None
    → or_first a (or_first b (or_first c d)) ≡ None
four a b c d e f g h = two a _ e (two b _ f (two c d g h))

five : (a b c d z : Option Stop) → a ≡ None → b ≡ None → c ≡ None → d ≡ None → z ≡ None
    → or_first a (or_first b (or_first c (or_first d z))) ≡ None
five a b c d z e f g h k = two a _ e (four b c d z f g h k)

-- ---- a node in a memory

module _ (m : List (List ℕ)) (x : Node) (cells : Level → ℕ → ℕ) (n : NodeIn m x cells) where
  word : (i : ℕ) → i < 1024 → word_at m x.name i ≡ descriptor_word x i
  word i h = read_descriptor m x cells n i h

  pub base_back : base_read m x.name ≡ x.base
  unfolding word
  base_back =
      let w0 : word_at m x.name 0 ≡ x.base.descriptor.va = word 0 (omega arith) in
      let w1 : word_at m x.name 1 ≡ x.base.descriptor.frame = word 1 (omega arith) in
      let w2 : word_at m x.name 2 ≡ x.base.mmu.va = word 2 (omega arith) in
      let w3 : word_at m x.name 3 ≡ x.base.mmu.frame = word 3 (omega arith) in
      let w4 : word_at m x.name 4 ≡ x.base.shadow1.va = word 4 (omega arith) in
      let w5 : word_at m x.name 5 ≡ x.base.shadow1.frame = word 5 (omega arith) in
      let w6 : word_at m x.name 6 ≡ x.base.shadow2.va = word 6 (omega arith) in
      let w7 : word_at m x.name 7 ≡ x.base.shadow2.frame = word 7 (omega arith) in
      let w8 : word_at m x.name 8 ≡ x.base.list.va = word 8 (omega arith) in
      let w9 : word_at m x.name 9 ≡ x.base.list.frame = word 9 (omega arith) in
      λ i. record {
        descriptor = record { va = w0 i; frame = w1 i };
        mmu = record { va = w2 i; frame = w3 i };
        shadow1 = record { va = w4 i; frame = w5 i };
        shadow2 = record { va = w6 i; frame = w7 i };
        list = record { va = w8 i; frame = w9 i };
      }

  pub up_back : word_at m x.name 11 ≡ x.up
  up_back = word 11 (omega arith)

  pub count_back : word_at m x.name 12 ≡ length x.tables
  count_back = word 12 (omega arith)

  pub masked_is : (word_at m x.name 14 % 2 == 1) ≡ x.masked
  masked_is = rw (word 14 (omega arith), masked_back x.masked)

  pub pending_back : AreLines 0 x.pending → lines_read 16 0 (word_at m x.name 15) ≡ x.pending
  pending_back l = rw (word 15 (omega arith), lines_back x.pending l)

  -- ---- the list pages

  next_words : (k : ℕ) → k < length x.more → (word_at m (list_page x k).frame 0 ≡ (next_list_page x.more k).frame)
      × (word_at m (list_page x k).frame 1 ≡ (next_list_page x.more k).va)
  unfolding page_word
  next_words k h = (
    read_list m x cells n k (omega arith) 0 (omega arith),
    read_list m x cells n k (omega arith) 1 (omega arith),
  )

  more_from : (k : ℕ) (gs : List Pair) → k + length gs ≡ length x.more
      → ((j : ℕ) → j < length gs → slice_index_or x.more (k + j) (own 0) ≡ slice_index_or gs j (own 0))
      → (more_read m (list_page x k).frame (length gs) ≡ gs) × (more_stop m (list_page x k).frame (length gs) ≡ None)
  unfolding more_read more_stop
  more_from k [] e h = (refl, refl)
  more_from k (g ∷ gs) e h =
      let z : k + 0 ≡ k = omega arith in
      let s : k + 1 ≡ suc k = omega arith in
      let here : next_list_page x.more k ≡ g = rw (← z, h 0 (omega arith)) in
      let w = next_words k (omega arith) in
      let frame : word_at m (list_page x k).frame 0 ≡ g.frame = rw (w.0, here) in
      let va : word_at m (list_page x k).frame 1 ≡ g.va = rw (w.1, here) in
      let page : word_at m (list_page x k).frame 0 ≡ (list_page x (suc k)).frame = w.0 in
      let rest = more_from (suc k) gs (omega arith) (λ j l. let q : suc k + j ≡ k + suc j = omega arith in
      rw (q, h (suc j) (omega (arith, l)))) in
      let inside : word_at m (list_page x k).frame 0 < length m =
      rw page (list_inside m x cells n (suc k) (omega (arith, e))) in (
        (let tail : more_read m (word_at m (list_page x k).frame 0) (length gs) ≡ gs =
            rw (page, rest.0) in
            λ i. record { va = va i; frame = frame i } ∷ tail i),
        rw (in_test (word_at m (list_page x k).frame 0) (length m) inside, page, rest.1),
      )
    where
      in_test : (a b : ℕ) → a < b → nat_lt a b ≡ true
      in_test a b h = grind (arith, nat_tests, h)

  pub more_back : (more_read m x.base.list.frame (length x.more) ≡ x.more)
      × (more_stop m x.base.list.frame (length x.more) ≡ None)
  more_back = more_from 0 x.more (omega arith) (λ j l. ap (λ i. slice_index_or x.more i (own 0)) (omega arith))

  -- ---- the slots

  module _ (long : length x.more ≡ lists (length x.tables) - 1) where
    slot_at : (j k : ℕ) → j < length x.tables → k < 6
        → word_at m (list_page x (j / 170)).frame (slot_start j + k) ≡ slice_index (slot_words (slots x.tables j)) k
    slot_at j k h l = read_list m x cells n (j / 170) (omega (arith, long, h)) (slot_start j + k) (omega (arith, l))
        ∙ sym (slot_word x j k l)

    -- a table's place in the directory is its index
    only_place : (b : Table) → In b x.tables → (j : ℕ) → j < 1024 → (c : Bool) → (word_at m x.base.mmu.frame j
        == directory_word b.mmu.frame) ≡ c → (cond c (Some j) None ≡ None) ⊎ (cond c (Some j) None ≡ Some b.index)
    only_place b i j h false e = inl refl
    only_place b i j h true e =
        let w : directory_entry Mmu (table_at x.tables j) ≡ directory_word b.mmu.frame =
        sym (read_directory m x cells n Mmu j h)
        ∙ eqb-true (word_at m x.base.mmu.frame j) (directory_word b.mmu.frame) e in
        inr (rw (at (table_at x.tables j) refl w))
      where
        at : (o : Option Table) → table_at x.tables j ≡ o → directory_entry Mmu o ≡ directory_word b.mmu.frame
            → j ≡ b.index
        at None f w = absurd (omega arith)
        at (Some c) f w =
            let found = table_found x.tables j c f in
            let frame : c.mmu.frame ≡ b.mmu.frame = omega arith in
            let rc = role_of_table x n.once Mmu c found.0 in
            let rb = role_of_table x n.once Mmu b i in
            let same : Some (TablePage Mmu c.index) ≡ Some (TablePage Mmu b.index) = rw (← rc, frame, rb) in
            let ix : c.index ≡ b.index = cc in
            cc (found.1)

    pub place_back : (b : Table) → In b x.tables → place_of_table m x.base.mmu.frame b.mmu.frame ≡ Some b.index
    unfolding place_of_table
    place_back b i =
        let small = n.small_dirs b i in
        let here : word_at m x.base.mmu.frame b.index ≡ directory_word b.mmu.frame =
        rw (read_directory m x cells n Mmu b.index small, in_table x.tables n.dirs b i) in
        first_only (λ k. cond (word_at m x.base.mmu.frame k == directory_word b.mmu.frame) (Some k) None) 0 1024 b.index
        b.index (omega arith) (omega arith)
        (rw (eq-eqb (word_at m x.base.mmu.frame b.index) (directory_word b.mmu.frame) here))
        (λ j lo hi.
        only_place b i j (omega arith) (word_at m x.base.mmu.frame j == directory_word b.mmu.frame) refl)

    slot_in : (j : ℕ) → j < length x.tables → In (slots x.tables j) x.tables
    unfolding slots
    slot_in j h = index_in x.tables j no_table h

    -- the words of a slot, as they are read
    slot_words_at : (j : ℕ) → j < length x.tables → (b : Table) → slots x.tables j ≡ b →
        (word_at m (slot_page x.base.list x.more j) (slot_start j) ≡ b.mmu.va)
        × (word_at m (slot_page x.base.list x.more j) (slot_start j + 1) ≡ b.mmu.frame)
        × (word_at m (slot_page x.base.list x.more j) (slot_start j + 2) ≡ b.shadow1.va)
        × (word_at m (slot_page x.base.list x.more j) (slot_start j + 2 + 1) ≡ b.shadow1.frame)
        × (word_at m (slot_page x.base.list x.more j) (slot_start j + 4) ≡ b.shadow2.va)
        × (word_at m (slot_page x.base.list x.more j) (slot_start j + 4 + 1) ≡ b.shadow2.frame)
    slot_words_at j h b e =
        let f : ℕ → ℕ = word_at m (slot_page x.base.list x.more j) in
        let z : slot_start j ≡ slot_start j + 0 = omega arith in
        let p : slot_start j + 2 + 1 ≡ slot_start j + 3 = omega arith in
        let q : slot_start j + 4 + 1 ≡ slot_start j + 5 = omega arith in (
          rw (z, slot_at j 0 h (omega arith), e),
          rw (slot_at j 1 h (omega arith), e),
          rw (slot_at j 2 h (omega arith), e),
          rw (p, slot_at j 3 h (omega arith), e),
          rw (slot_at j 4 h (omega arith), e),
          rw (q, slot_at j 5 h (omega arith), e),
        )

    table_back : (j : ℕ) → j < length x.tables → table_read m x.base x.more j ≡ slots x.tables j
    unfolding table_read
    table_back j h =
        let b = slots x.tables j in
        let (w0, w1, w2, w3, w4, w5) = slot_words_at j h b refl in
        let ix : unwrap_or (place_of_table m x.base.mmu.frame
        (word_at m (slot_page x.base.list x.more j) (slot_start j + 1))) 0 ≡ b.index =
        rw (w1, place_back b (slot_in j h)) in
        λ i. record {
          index = ix i;
          mmu = record { va = w0 i; frame = w1 i };
          shadow1 = record { va = w2 i; frame = w3 i };
          shadow2 = record { va = w4 i; frame = w5 i };
        }

    pub tables_back : tables_read m x.base x.more (length x.tables) ≡ x.tables
    unfolding slots
    tables_back = listed_same (table_read m x.base x.more) no_table 0 x.tables
        (λ k h. ap (table_read m x.base x.more) (omega arith) ∙ table_back k h)

    in_test : (a b : ℕ) → a < b → nat_lt a b ≡ true
    in_test a b h = grind (arith, nat_tests, h)

    stops_nowhere : (f i g : ℕ) → word_at m f i ≡ g → g < length m → stop_at_frame m f i ≡ None
    stops_nowhere f i g e h = rw (in_test (word_at m f i) (length m) (subst (λ k. k < length m) (sym e) h))

    slot_passes : (j : ℕ) → j < length x.tables → slot_stop m x.base x.more j ≡ None
    unfolding slot_stop
    slot_passes j h =
        let b = slots x.tables j in
        let f : ℕ = slot_page x.base.list x.more j in
        let i : ℕ = slot_start j in
        let (w0, w1, w2, w3, w4, w5) = slot_words_at j h b refl in
        let p3 : i + 3 ≡ i + 2 + 1 = omega arith in
        let p5 : i + 5 ≡ i + 4 + 1 = omega arith in
        let k = slot_in j h in
        let a0 = stops_nowhere f (i + 1) b.mmu.frame w1 (table_inside m x cells n Mmu b k) in
        let a1 : stop_unless (is_some (place_of_table m x.base.mmu.frame (word_at m f (i + 1)))) f (i + 1) ≡ None =
        rw (w1, place_back b k) in
        let a2 =
        stops_nowhere f (i + 3) b.shadow1.frame (rw (p3, w3)) (table_inside m x cells n Shadow1 b k) in
        let a3 =
        stops_nowhere f (i + 5) b.shadow2.frame (rw (p5, w5)) (table_inside m x cells n Shadow2 b k) in
        four _ _ _ _ a0 a1 a2 a3

    pub slots_pass : first (slot_stop m x.base x.more) 0 (length x.tables) ≡ None
    slots_pass =
        first_none (slot_stop m x.base x.more) 0 (length x.tables) (λ k lo hi. slot_passes k (omega arith))

    -- ---- the descriptor

    pub base_passes : base_stop m x.name ≡ None
    base_passes =
        let w1 : word_at m x.name 1 ≡ x.base.descriptor.frame = word 1 (omega arith) in
        let w3 : word_at m x.name 3 ≡ x.base.mmu.frame = word 3 (omega arith) in
        let w5 : word_at m x.name 5 ≡ x.base.shadow1.frame = word 5 (omega arith) in
        let w7 : word_at m x.name 7 ≡ x.base.shadow2.frame = word 7 (omega arith) in
        let w9 : word_at m x.name 9 ≡ x.base.list.frame = word 9 (omega arith) in
        five _ _ _ _ _
        (stops_nowhere x.name 1 x.base.descriptor.frame w1 (n.inside x.base.descriptor.frame (inl refl)))
        (stops_nowhere x.name 3 x.base.mmu.frame w3 (n.inside x.base.mmu.frame (inr (inl refl))))
        (stops_nowhere x.name 5 x.base.shadow1.frame w5 (n.inside x.base.shadow1.frame (inr (inr (inl refl)))))
        (stops_nowhere x.name 7 x.base.shadow2.frame w7 (n.inside x.base.shadow2.frame (inr (inr (inr (inl refl))))))
        (stops_nowhere x.name 9 x.base.list.frame w9 (n.inside x.base.list.frame (inr (inr (inr (inr (inl refl)))))))
