-- The text of a memory is read as this memory.
use Rattle.std.specs.Prelude.{◌≡◌, ◌≢◌, ◌⊎◌, refl, ℕ, zero, suc, ◌+◌, ◌*◌, ◌%◌, ◌-◌, ◌<◌, ◌≤◌, ◌^◌, ◌==◌, ◌&&◌, ◌||◌}
use Rattle.std.specs.Prelude.{Bool, true, false, not, List, [], ◌∷◌, ◌++◌, length, map, flat_map, Option, Some, None}
use Rattle.std.specs.Prelude.{codes, decimal, nat_le, nat_lt, replicate, slice_index}
use Rattle.std.specs.List.{list_any}
use Rattle.std.proofs.Common.{eq-eqb, inl, inr, ap, sym, subst, ◌∙◌, arith, cond, append_assoc, append-nil}
use Rattle.std.proofs.lemmas.Bool.Decides.{nat_tests}
use Rattle.std.proofs.lemmas.Bool.{eqb-true, eqb-false, le-leb, lt-ltb, ltb-true}
use Rattle.pip_base.specs.Memory.{IsMemory, Memory, put_words, word_at, zeros}
use Rattle.pip_base.proofs.Memory.{IsMemory-put_words, IsMemory-replicate_zeros, length-put_words}
use Rattle.pip_base.proofs.Memory.{length-replicate_zeros, same_words, word_at-put_words_frame, word_at-put_words_here}
use Rattle.pip_base.proofs.Memory.{word_at-put_words_index, word_at-replicate_zeros}
use Rattle.pip_model.specs.Dump.{group_line, group_text, with_frame_line, numbers_from}
use Rattle.pip_model.specs.Run.{end_line}
use Rattle.pip_audit.specs.Lines.{core_line}
use Rattle.pip_audit.specs.Core.{Bad, CoreState, CoreText, Ends, Goes, Whole, above, after_step, at_first}
use Rattle.pip_audit.specs.Core.{core_after, core_step, core_text, is_closed, is_nothing}
use Rattle.pip_audit.proofs.LineTexts.{end_again, end_plain, frame_again, frame_plain, group_again, group_body}
use Rattle.pip_audit.proofs.LineTexts.{group_plain}
use Rattle.pip_audit.proofs.Reading.{line_follows}
use Rattle.pip_audit.proofs.Splitting.{split}

-- ---- words that are 0

or_none : (a b : Bool) → (a || b) ≡ false → (a ≡ false) × (b ≡ false)
or_none true b h = absurd cc
or_none false b h = (refl, h)

not_zero : (x : ℕ) → not (x == 0) ≡ false → x ≡ 0
not_zero x h = elim (x == 0) as (λ b. (x == 0) ≡ b → not b ≡ false → x ≡ 0) [
  | true ↦ λ e h. eqb-true x 0 e
  | false ↦ λ e h. absurd cc
] refl h

pub none_zero : (w : ℕ → ℕ) (i k : ℕ) → list_any (λ i. not (w i == 0)) (numbers_from i k) ≡ false → (j : ℕ) → i ≤ j
    → j < i + k → w j ≡ 0
none_zero w i zero h j low high = absurd (omega (arith, low, high))
none_zero w i (suc k) h j low high =
    let both = or_none (not (w i == 0)) (list_any (λ i. not (w i == 0)) (numbers_from (i + 1) k)) h in
    elim (j == i) as (λ b. (j == i) ≡ b → w j ≡ 0) [
      | true ↦ λ e. ap w (eqb-true j i e) ∙ not_zero (w i) both.0
      | false ↦ λ e. let ne = eqb-false j i e in
          none_zero w (i + 1) k both.1 j (omega (arith, low, ne)) (omega (arith, high))
    ] refl

not_empty : (b : ℕ) (bs : List ℕ) → b ∷ bs ≢ []
not_empty b bs h = cc

pub any_mapped : (w : ℕ → ℕ) (is : List ℕ) → list_any (λ x. not (x == 0)) (map w is) ≡ list_any (λ i. not (w i == 0)) is
any_mapped w [] = refl
any_mapped w (i ∷ is) = ap (λ b. not (w i == 0) || b) (any_mapped w is)

abbrev pub some : (ℕ → ℕ) → ℕ → Bool
some w k = list_any (λ i. not (w i == 0)) (numbers_from (8 * k) 8)

no_line : (w : ℕ → ℕ) (k : ℕ) (rest : List ℕ) → group_text w k ++ rest ≡ [] → (some w k ≡ false) × (rest ≡ [])
no_line w k rest h = go (some w k) refl h
  where
    go : (b : Bool) → some w k ≡ b → cond b (group_line w k) [] ++ rest ≡ [] → (some w k ≡ false) × (rest ≡ [])
    go true e h = absurd cc
    go false e h = (e, h)

no_lines : (w : ℕ → ℕ) (j k : ℕ) → flat_map (group_text w) (numbers_from k j) ≡ [] → (i : ℕ) → 8 * k ≤ i
    → i < 8 * (k + j) → w i ≡ 0
no_lines w zero k h i low high = absurd (omega (arith, low, high))
no_lines w (suc j) k h i low high =
    let both = no_line w k (flat_map (group_text w) (numbers_from (k + 1) j)) h in
    elim (nat_lt i (8 * k + 8)) as (λ b. nat_lt i (8 * k + 8) ≡ b → w i ≡ 0) [
      | true ↦ λ e. none_zero w (8 * k) 8 both.0 i low (ltb-true i (8 * k + 8) e)
      | false ↦ λ e. no_lines w j (k + 1) both.1 i (above_eight e) (omega (arith, high))
    ] refl
  where
    above_eight : nat_lt i (8 * k + 8) ≡ false → 8 * (k + 1) ≤ i
    above_eight e = grind (arith, nat_tests, e)

mapped_word : (w : ℕ → ℕ) (i k j : ℕ) → j < k → slice_index (map w (numbers_from i k)) j ≡ w (i + j)
mapped_word w i zero j h = absurd (omega (arith, h))
mapped_word w i (suc k) zero h = let e : i ≡ i + 0 = omega arith in ap w e
mapped_word w i (suc k) (suc j) h = let e : i + 1 + j ≡ i + suc j = omega arith in
    mapped_word w (i + 1) k j (omega (arith, h)) ∙ ap w e

mapped_length : (w : ℕ → ℕ) (i k : ℕ) → length (map w (numbers_from i k)) ≡ k
mapped_length w i zero = refl
mapped_length w i (suc k) = ap suc (mapped_length w (i + 1) k)

above_more : (g : Option ℕ) (i j : ℕ) → i ≤ j → above g i ≡ true → above g j ≡ true
above_more None i j h a = refl
above_more (Some l) i j h a = let low = ltb-true l i a in lt-ltb l j (omega (arith, h, low))

all_true : (a b : Bool) → a ≡ true → b ≡ true → (a && b) ≡ true
all_true true true h k = refl
all_true true false h k = cc
all_true false b h k = cc

-- ---- the words that are read so far

module _ (n : ℕ) (word : ℕ → ℕ → ℕ) where
  -- those before word i of frame f are there, and the others are 0
  pub record IsPartial (f i : ℕ) (mm : Memory) : Type 0 where
    pub shape : IsMemory mm
    pub count : length mm ≡ n
    pub before : (g j : ℕ) → g < f → j < 1024 → word_at mm g j ≡ word g j
    pub here : (j : ℕ) → j < i → word_at mm f j ≡ word f j
    pub further : (j : ℕ) → i ≤ j → j < 1024 → word_at mm f j ≡ 0
    pub after : (g j : ℕ) → f < g → j < 1024 → word_at mm g j ≡ 0

  first_part : IsPartial 0 0 (replicate n (zeros 1024))
  first_part = record {
    shape = IsMemory-replicate_zeros n;
    count = length-replicate_zeros n;
    before = λ g j low. absurd (omega (arith, low));
    here = λ j low. absurd (omega (arith, low));
    further = λ j low high. word_at-replicate_zeros n 0 j;
    after = λ g j low high. word_at-replicate_zeros n g j;
  }

  -- words that are 0 are there already
  skip : (f i j : ℕ) (mm : Memory) → i ≤ j → ((l : ℕ) → i ≤ l → l < j → word f l ≡ 0) → j ≤ 1024 → IsPartial f i mm
      → IsPartial f j mm
  skip f i j mm le none most p = record {
    shape = p.shape;
    count = p.count;
    before = p.before;
    here = λ l low. elim (nat_lt l i) as (λ b. nat_lt l i ≡ b → word_at mm f l ≡ word f l) [
      | true ↦ λ e. p.here l (ltb-true l i e)
      | false ↦ λ e. let high : i ≤ l = grind (arith, nat_tests, e) in
          p.further l high (omega (arith, low, most)) ∙ sym (none l high low)
    ] refl;
    further = λ l low high. p.further l (omega (arith, le, low)) high;
    after = p.after;
  }

  next_frame : (f : ℕ) (mm : Memory) → IsPartial f 1024 mm → IsPartial (f + 1) 0 mm
  next_frame f mm p = record {
    shape = p.shape;
    count = p.count;
    before = λ g j low high. elim (g == f) as (λ b. (g == f) ≡ b → word_at mm g j ≡ word g j) [
      | true ↦ λ e. subst (λ h. word_at mm h j ≡ word h j) (sym (eqb-true g f e)) (p.here j high)
      | false ↦ λ e. let ne = eqb-false g f e in p.before g j (omega (arith, low, ne)) high
    ] refl;
    here = λ j low. absurd (omega (arith, low));
    further = λ j low high. p.after (f + 1) j (omega arith) high;
    after = λ g j low high. p.after g j (omega (arith, low)) high;
  }

  -- a group is written
  put_group : (f k : ℕ) (mm : Memory) → f < n → k < 128 → IsPartial f (8 * k) mm
      → IsPartial f (8 * (k + 1)) (put_words mm f (8 * k) (map (word f) (numbers_from (8 * k) 8)))
  put_group f k mm low few p =
      let ws = map (word f) (numbers_from (8 * k) 8) in
      let size : length ws ≡ 8 = mapped_length (word f) (8 * k) 8 in
      let inside : f < length mm = subst (λ x. f < x) (sym p.count) low in
      let fits : 8 * k + length ws ≤ 1024 = omega (arith, size, few) in
      record {
        shape = IsMemory-put_words mm f (8 * k) ws p.shape inside;
        count = length-put_words mm f (8 * k) ws ∙ p.count;
        before = λ g j lower high. word_at-put_words_frame mm f (8 * k) ws g j p.shape inside fits
            (λ e. omega (arith, e, lower)) ∙ p.before g j lower high;
        here = λ j lower. elim (nat_lt j (8 * k)) as (λ b. nat_lt j (8 * k) ≡ b
            → word_at (put_words mm f (8 * k) ws) f j ≡ word f j) [
              | true ↦ λ e. let l = ltb-true j (8 * k) e in
                  word_at-put_words_index mm f (8 * k) ws j p.shape inside fits (inl l) ∙ p.here j l
              | false ↦ λ e.
                  let l : 8 * k ≤ j = grind (arith, nat_tests, e) in
                  let at : 8 * k + (j - 8 * k) ≡ j = omega (arith, l) in
                  let few : j - 8 * k < 8 = omega (arith, lower, l) in
                  ap (word_at (put_words mm f (8 * k) ws) f) (sym at)
                  ∙ word_at-put_words_here mm f (8 * k) ws (j - 8 * k) p.shape inside fits (omega (arith, few, size))
                  ∙ mapped_word (word f) (8 * k) 8 (j - 8 * k) few
                  ∙ ap (word f) at
            ] refl;
        further = λ j lower high. word_at-put_words_index mm f (8 * k) ws j p.shape inside fits
            (inr (omega (arith, lower, size))) ∙ p.further j (omega (arith, lower)) high;
        after = λ g j lower high. word_at-put_words_frame mm f (8 * k) ws g j p.shape inside fits
            (λ e. omega (arith, e, lower)) ∙ p.after g j lower high;
      }

  -- ---- lines

  abbrev st : Option ℕ → Option ℕ → Memory → CoreState
  st f g mm = record { frame = f; group = g; memory = mm }

  -- a line after which reading goes on
  pub line_goes : (l : ℕ) (s u : CoreState) (body rest : List ℕ) (whole : CoreText)
      → (split_plain : list_any (λ b. b == 10) body ≡ false) → core_step n s (core_line body) ≡ Goes u
      → core_after n (l + 1) u rest ≡ whole → core_after n l s ((body ++ 10 ∷ []) ++ rest) ≡ whole
  line_goes l s u body rest whole plain e more =
      line_follows n l s body rest plain
      ∙ ap (λ t. after_step t l (is_nothing (split rest)) (λ u. core_after n (l + 1) u rest)) e
      ∙ more

  frame_goes : (f : ℕ) (s : CoreState) → f < n → f < 2 ^ 32 → is_closed s.frame s.group ≡ true → above s.frame f ≡ true
      → core_step n s (core_line (codes "frame " ++ decimal f)) ≡ Goes (st (Some f) None s.memory)
  frame_goes f s low small closed high =
      ap (core_step n s) (frame_again f small)
      ∙ ap (λ b. cond b (Goes (st (Some f) None s.memory)) Bad) (all_true (is_closed s.frame s.group)
      (above s.frame f && nat_lt f n) closed (all_true (above s.frame f) (nat_lt f n) high (lt-ltb f n low)))

  pub group_goes : (f k : ℕ) (g : Option ℕ) (mm : Memory) → k < 128 → ((i : ℕ) → i < 1024 → word f i < 2 ^ 32)
      → above g (8 * k) ≡ true → some (word f) k ≡ true
      → core_step n (st (Some f) g mm) (core_line (group_body (word f) k))
      ≡ Goes (st (Some f) (Some (8 * k)) (put_words mm f (8 * k) (map (word f) (numbers_from (8 * k) 8))))
  group_goes f k g mm few small high is =
      let ws = map (word f) (numbers_from (8 * k) 8) in
      let even : (8 * k % 8 == 0) ≡ true = eq-eqb (8 * k % 8) 0 (omega arith) in
      let most : nat_le (8 * k) 1016 ≡ true = le-leb (8 * k) 1016 (omega (arith, few)) in
      ap (core_step n (st (Some f) g mm)) (group_again (word f) k few small)
      ∙ ap (λ b. cond b (Goes (st (Some f) (Some (8 * k)) (put_words mm f (8 * k) ws))) Bad)
      (all_true (8 * k % 8 == 0 && nat_le (8 * k) 1016) (above g (8 * k) && list_any (λ w. not (w == 0)) ws)
      (all_true (8 * k % 8 == 0) (nat_le (8 * k) 1016) even most)
      (all_true (above g (8 * k)) (list_any (λ w. not (w == 0)) ws) high
      (any_mapped (word f) (numbers_from (8 * k) 8) ∙ is)))

  pub end_ends : (l t : ℕ) (s : CoreState) → t ≤ 10000000 → is_closed s.frame s.group ≡ true
      → core_after n l s (end_line t) ≡ Whole s.memory
  end_ends l t s most closed =
      let body : List ℕ = codes "end " ++ decimal t in
      ap (core_after n l s) (sym (append-nil (end_line t)))
      ∙ line_follows n l s body [] (end_plain t (omega (arith, most)))
      ∙ ap (λ o.
      after_step (core_step n s o) l true (λ u. core_after n (l + 1) u [])) (end_again t (omega (arith, most)))
      ∙ ap (λ b. after_step (cond b (Ends s.memory) Bad) l true (λ u. core_after n (l + 1) u
      [])) (all_true (is_closed s.frame s.group) (nat_le t 10000000) closed (le-leb t 10000000 most))

  -- ---- groups, and frames

  groups : (j k l f : ℕ) (g : Option ℕ) (mm : Memory) (rest : List ℕ) (whole : CoreText) → k + j ≡ 128 → f < n
      → ((i : ℕ) → i < 1024 → word f i < 2 ^ 32)
      → above g (8 * k) ≡ true → IsPartial f (8 * k) mm
      → (is_closed (Some f) g ≡ true) ⊎ (flat_map (group_text (word f)) (numbers_from k j) ≢ [])
      → ((l' : ℕ) (g' : Option ℕ) (mm' : Memory) → is_closed (Some f) g' ≡ true → IsPartial f 1024 mm'
      → core_after n l' (st (Some f) g' mm') rest ≡ whole)
      → core_after n l (st (Some f) g mm) (flat_map (group_text (word f)) (numbers_from k j) ++ rest) ≡ whole
  groups zero k l f g mm rest whole all low small high p closes go_on =
      let e : 8 * k ≡ 1024 = omega (arith, all) in
      let closed : is_closed (Some f) g ≡ true = elim closes [
        | inl c ↦ c
        | inr c ↦ absurd (c refl)
      ] in
      go_on l g mm closed (subst (λ i. IsPartial f i mm) e p)
  groups (suc j) k l f g mm rest whole all low small high p closes go_on =
      go (some (word f) k) refl closes (groups j (k + 1))
    where
      more : List ℕ
      more = flat_map (group_text (word f)) (numbers_from (k + 1) j)

      go : (b : Bool) → some (word f) k ≡ b → (is_closed (Some f) g ≡ true)
          ⊎ (cond b (group_line (word f) k) [] ++ flat_map (group_text (word f)) (numbers_from (k + 1) j) ≢ [])
          → ((l f : ℕ) (g : Option ℕ) (mm : Memory) (rest : List ℕ) (whole : CoreText) → k + 1 + j ≡ 128 → f < n
          → ((i : ℕ) → i < 1024 → word f i < 2 ^ 32)
          → above g (8 * (k + 1)) ≡ true → IsPartial f (8 * (k + 1)) mm
          → (is_closed (Some f) g ≡ true) ⊎ (flat_map (group_text (word f)) (numbers_from (k + 1) j) ≢ [])
          → ((l' : ℕ) (g' : Option ℕ) (mm' : Memory) → is_closed (Some f) g' ≡ true → IsPartial f 1024 mm'
          → core_after n l' (st (Some f) g' mm') rest ≡ whole)
          → core_after n l (st (Some f) g mm) (flat_map (group_text (word f)) (numbers_from (k + 1) j) ++ rest)
          ≡ whole)
          → core_after n l (st (Some f) g mm) ((cond b (group_line (word f) k) []
          ++ flat_map (group_text (word f)) (numbers_from (k + 1) j)) ++ rest) ≡ whole
      go true e closes next =
          let after = flat_map (group_text (word f)) (numbers_from (k + 1) j) in
          ap (core_after n l (st (Some f) g mm)) (append_assoc (group_line (word f) k) after rest)
          ∙ line_goes l (st (Some f) g mm) (st (Some f) (Some (8 * k)) (put_words mm f
          (8 * k) (map (word f) (numbers_from (8 * k) 8)))) (group_body (word f) k) (after ++ rest) whole
          (group_plain (word f) k) (group_goes f k g mm (omega (arith, all)) small high e)
          (next (l + 1) f (Some (8 * k)) (put_words mm f (8 * k) (map (word f) (numbers_from (8 * k) 8))) rest whole
          (omega (arith, all)) low small
          (lt-ltb (8 * k) (8 * (k + 1)) (omega arith)) (put_group f k mm low (omega (arith, all)) p) (inl refl) go_on)
      go false e closes next =
          next l f g mm rest whole (omega (arith, all)) low small
          (above_more g (8 * k) (8 * (k + 1)) (omega arith) high)
          (skip f (8 * k) (8 * (k + 1)) mm (omega arith)
          (λ i a b. none_zero (word f) (8 * k) 8 e i a (omega (arith, b))) (omega (arith, all)) p) closes go_on

  module _ (c : ℕ) (is_c : c ≡ 128) (m : Memory) (shape : IsMemory m)
      (count : length m ≡ n) (is : (f i : ℕ) → f < n → i < 1024 → word_at m f i ≡ word f i)
      (small : (f i : ℕ) → f < n → i < 1024 → word f i < 2 ^ 32) (most : n ≤ 4096) (t : ℕ) (few : t ≤ 10000000) where
    abbrev lines_of_frame : ℕ → List ℕ
    lines_of_frame f = with_frame_line f (flat_map (group_text (word f)) (numbers_from 0 c))

    frames : (j f l : ℕ) (s : CoreState) → f + j ≡ n → is_closed s.frame s.group ≡ true → above s.frame f ≡ true
        → IsPartial f 0 s.memory
        → core_after n l s (flat_map lines_of_frame (numbers_from f j) ++ end_line t) ≡ Whole m
    frames zero f l s all closed high p =
        let e : f ≡ n = omega (arith, all) in
        let end : IsPartial n 0 s.memory = subst (λ h. IsPartial h 0 s.memory) e p in
        end_ends l t s few closed
        ∙ ap Whole (same_words s.memory m end.shape shape (end.count ∙ sym count) (λ g i low high. let low' =
        subst (λ x. g < x) end.count low in end.before g i low' high ∙ sym (is g i low' high)))
    frames (suc j) f l s all closed high p =
        go (flat_map (group_text (word f)) (numbers_from 0 c)) refl (frames j (f + 1))
      where
        go : (gs : List ℕ) → flat_map (group_text (word f)) (numbers_from 0 c) ≡ gs
            → ((l : ℕ) (s : CoreState) → f + 1 + j ≡ n → is_closed s.frame s.group ≡ true → above s.frame (f + 1) ≡ true
            → IsPartial (f + 1) 0 s.memory
            → core_after n l s (flat_map lines_of_frame (numbers_from (f + 1) j) ++ end_line t) ≡ Whole m)
            → core_after n l s ((with_frame_line f gs ++ flat_map lines_of_frame (numbers_from (f + 1) j)) ++ end_line
            t)
            ≡ Whole m
        go [] e next =
            next l s (omega (arith, all)) closed (above_more s.frame f (f + 1) (omega arith) high)
            (next_frame f s.memory (skip f 0 1024 s.memory (omega arith)
            (λ i a b. no_lines (word f) c 0 e i (omega arith) (omega (arith, b, is_c))) (omega arith) p))
        go (b ∷ bs) e next =
            let after = flat_map lines_of_frame (numbers_from (f + 1) j) in
            let body : List ℕ = codes "frame " ++ decimal f in
            let low : f < n = omega (arith, all) in
            let tiny : f < 2 ^ 32 = omega (arith, low, most) in
            ap (core_after n l s) (append_assoc ((body ++ 10 ∷ []) ++ b ∷ bs) after (end_line t)
            ∙ append_assoc (body ++ 10 ∷ []) (b ∷ bs) (after ++ end_line t))
            ∙ line_goes l s (st (Some f) None s.memory) body ((b ∷ bs) ++ (after ++ end_line t)) (Whole m)
            (frame_plain f tiny) (frame_goes f s low tiny closed high)
            (ap (λ gs. core_after n (l + 1) (st (Some f) None s.memory) (gs ++ (after ++ end_line t))) (sym e)
            ∙ groups c 0 (l + 1) f None s.memory (after ++ end_line t) (Whole m) (omega (arith, is_c)) low
            (λ i h. small f i low h) refl p
            (inr (λ none. not_empty b bs (sym e ∙ none)))
            (λ l' g' mm' closed' p'. next l' (st (Some f) g' mm') (omega (arith, all)) closed'
            (lt-ltb f (f + 1) (omega arith)) (next_frame f mm' p')))

    pub all_frames : core_text n (flat_map lines_of_frame (numbers_from 0 n) ++ end_line t) ≡ Whole m
    all_frames = frames n 0 1 (at_first n) (omega arith) refl refl first_part
