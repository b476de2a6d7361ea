-- Slots read from list pages, and the least place of a table.
use Rattle.std.specs.Prelude.{◌≡◌, ◌≢◌, ℕ, ◌<◌, ◌≤◌, ◌+◌, ◌-◌, ◌*◌, ◌/◌, ◌%◌, ◌^◌, Bool, true, false, cond, ◌==◌, List}
use Rattle.std.specs.Prelude.{[], ◌∷◌, length, nat_lt, Some, None, position, slice_index, refl}
use Rattle.std.specs.List.{position_or_len}
use Rattle.std.proofs.Common.{arith, sym, ap, subst, ◌∙◌, inl, inr, get_or, eq-eqb, ne_eqb}
use Rattle.std.proofs.lemmas.Bool.{cases_lt, lt-ltb, le-ltb}
use Rattle.std.proofs.lemmas.List.Elements.{All-get_or}
use Rattle.std.proofs.lemmas.List.Sums.{position_or_len_is}
use Rattle.pip_base.specs.declared.types.Pair.{Pair}
use Rattle.pip_base.specs.Memory.{Memory, word_at}
use Rattle.pip_model.specs.Tree.{Table, table_pairs}
use Rattle.pip_model.specs.NodeWords.{no_table, slot_words, slots}
use Rattle.pip_config.specs.Lists.{HasSmallFrames, ListIn, list_frame}
use Rattle.pip_config.proofs.PageWords.{link_small, next_is, page_inside, same_pair, slot_word}

-- ---- slot k of n

module _ (m : Memory) (first n k page : ℕ) (more : List Pair) (ts : List Table) (list : ListIn m first more ts)
    (count : length ts ≡ n) (k_in : k < n) (page_is : page ≡ list_frame first more (k / 170)) where
  word_is : (i : ℕ) → i < 6 → word_at m page (2 + 6 * (k % 170) + i) ≡ slice_index (slot_words (slots ts k)) i
  word_is i h = slot_word m first more (slots ts) list.pages (k / 170) page page_is k i refl (omega arith) h

  small : HasSmallFrames (slots ts k)
  unfolding slots
  small = All-get_or HasSmallFrames ts k no_table (omega arith) list.small

  second : 2 + 6 * (k % 170) + 2 + 1 ≡ 2 + 6 * (k % 170) + 3
  second = omega arith

  third : 2 + 6 * (k % 170) + 4 + 1 ≡ 2 + 6 * (k % 170) + 5
  third = omega arith

  -- the three words that are frames
  pub small_mmu : word_at m page (2 + 6 * (k % 170) + 1) < 2 ^ 20
  small_mmu = rw (word_is 1 (omega arith)) small.mmu

  pub small_shadow1 : word_at m page (2 + 6 * (k % 170) + 2 + 1) < 2 ^ 20
  small_shadow1 = rw (second, word_is 3 (omega arith)) small.shadow1

  pub small_shadow2 : word_at m page (2 + 6 * (k % 170) + 4 + 1) < 2 ^ 20
  small_shadow2 = rw (third, word_is 5 (omega arith)) small.shadow2

  -- three pairs that were read are the table's
  pub slot_is : (a b c : Pair) → a.va ≡ word_at m page (2 + 6 * (k % 170))
      → a.frame ≡ word_at m page (2 + 6 * (k % 170) + 1)
      → b.va ≡ word_at m page (2 + 6 * (k % 170) + 2) → b.frame ≡ word_at m page (2 + 6 * (k % 170) + 2 + 1)
      → c.va ≡ word_at m page (2 + 6 * (k % 170) + 4) → c.frame ≡ word_at m page (2 + 6 * (k % 170) + 4 + 1)
      → a ∷ b ∷ c ∷ [] ≡ table_pairs (slots ts k)
  slot_is a b c a0 a1 b0 b1 c0 c1 =
      let start : 2 + 6 * (k % 170) ≡ 2 + 6 * (k % 170) + 0 = omega arith in
      let one : a ≡ (slots ts k).mmu = same_pair a (slots ts k).mmu
      (rw (a0, start, word_is 0 (omega arith))) (a1 ∙ word_is 1 (omega arith)) in
      let two : b ≡ (slots ts k).shadow1 = same_pair b (slots ts k).shadow1 (b0 ∙ word_is 2 (omega arith))
      (rw (b1, second, word_is 3 (omega arith))) in
      let three : c ≡ (slots ts k).shadow2 = same_pair c (slots ts k).shadow2 (c0 ∙ word_is 4 (omega arith))
      (rw (c1, third, word_is 5 (omega arith))) in
      rw (one, two, three) refl

-- ---- the page of slot k, from that of the slot before

module _ (m : Memory) (first k page : ℕ) (more : List Pair) (ts : List Table) (list : ListIn m first more ts)
    (k_in : k < length ts) (page_is : page ≡ list_frame first more ((k - 1) / 170)) where
  before_in : (k - 1) / 170 ≤ length more
  before_in = omega arith

  -- the page before is a frame
  pub before_inside : page < length m
  before_inside = page_inside m first more (slots ts) list.pages ((k - 1) / 170) page page_is before_in

  -- and its link a frame's number
  pub before_small : length m ≤ 4096 → word_at m page 0 < 2 ^ 20
  before_small few = link_small m first more (slots ts) list.pages ((k - 1) / 170) page page_is before_in few

  module _
      (p : ℕ) (same : (k - 1) / 170 ≡ k / 170 → p ≡ page) (next : (k - 1) / 170 < k / 170 → p ≡ word_at m page 0) where
    -- it is the page of slot k, or its link leads there
    pub page_of : p ≡ list_frame first more (k / 170)
    page_of = elim (cases_lt ((k - 1) / 170) (k / 170)) [
      | inl low ↦
          let further : (k - 1) / 170 + 1 ≡ k / 170 = omega arith in
          let inside : (k - 1) / 170 < length more = omega arith in
          rw (next low, next_is m first more (slots ts) list.pages ((k - 1) / 170) page page_is inside, further)
      | inr high ↦ let e : (k - 1) / 170 ≡ k / 170 = omega arith in rw (same e, page_is, e)
    ]

    pub page_of_inside : p < length m
    page_of_inside = page_inside m first more (slots ts) list.pages (k / 170) p page_of (omega arith)

    -- where the frame of the MMU table is
    pub page_of_word : word_at m p (2 + 6 * (k % 170) + 1) ≡ (slots ts k).mmu.frame
    page_of_word = slot_word m first more (slots ts) list.pages (k / 170) p page_of k 1 refl (omega arith) (omega arith)

-- ---- the least place

-- the test for a table in frame f
abbrev is_at : ℕ → Table → Bool
is_at f t = t.mmu.frame == f

pub table_found : (ts : List Table) (f k : ℕ) → k < length ts → (slots ts k).mmu.frame ≡ f
    → ((j : ℕ) → j < k → (slots ts j).mmu.frame ≢ f) → Some k ≡ position (λ (t : Table). t.mmu.frame == f) ts
unfolding slots
table_found ts f k h at before =
    let least : position_or_len (is_at f) ts ≡ k =
    position_or_len_is (is_at f) ts k no_table (omega arith) (λ j j_in. ne_eqb (slots ts j).mmu.frame f (before j j_in))
    (λ z. eq-eqb (slots ts k).mmu.frame f at) in
    let inside : nat_lt k (length ts) ≡ true = lt-ltb k (length ts) h in
    cc

pub table_absent : (ts : List Table) (f : ℕ) → ((j : ℕ) → j < length ts → (slots ts j).mmu.frame ≢ f)
    → None ≡ position (λ (t : Table). t.mmu.frame == f) ts
unfolding slots
table_absent ts f none =
    let long : position_or_len (is_at f) ts ≡ length ts =
    position_or_len_is (is_at f) ts (length ts) no_table (omega arith)
    (λ j j_in. ne_eqb (slots ts j).mmu.frame f (none j j_in)) (λ z. absurd (omega arith)) in
    let outside : nat_lt (length ts) (length ts) ≡ false = le-ltb (length ts) (length ts) (omega arith) in
    cc

-- ---- a slot that was read

module _ (t : Table) (ps : List Pair) (e : table_pairs t ≡ ps) where
  -- the frame of the first pair
  first_frame : (none : Pair) → (get_or ps 0 none).frame ≡ t.mmu.frame
  first_frame none = rw (← e)

  second_frame : (none : Pair) → (get_or ps 1 none).frame ≡ t.shadow1.frame
  second_frame none = rw (← e)

  third_frame : (none : Pair) → (get_or ps 2 none).frame ≡ t.shadow2.frame
  third_frame none = rw (← e)

  -- the frames of pairs are small
  pub small_frames : (a b c : Pair) → (get_or ps 0 a).frame < 2 ^ 20 → (get_or ps 1 b).frame < 2 ^ 20
      → (get_or ps 2 c).frame < 2 ^ 20 → HasSmallFrames t
  small_frames a b c x y z = record {
    mmu = rw (← first_frame a) x;
    shadow1 = rw (← second_frame b) y;
    shadow2 = rw (← third_frame c) z;
  }
