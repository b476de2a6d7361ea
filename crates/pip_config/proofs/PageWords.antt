-- The words of list pages, and how one page leads to the next.
use Rattle.std.specs.Prelude.{◌≡◌, ◌≢◌, ℕ, zero, suc, ◌<◌, ◌≤◌, ◌+◌, ◌-◌, ◌*◌, ◌/◌, ◌%◌, ◌^◌, ◌==◌, nat_lt}
use Rattle.std.specs.Prelude.{if◌then◌else◌, true, List, length, slice_index, refl}
use Rattle.std.proofs.Common.{arith, sym, ap, subst, ◌∙◌, inl, inr, eq-eqb, ne_eqb}
use Rattle.std.proofs.lemmas.Bool.{cases_eq, cases_lt, lt-ltb, le-ltb}
use Rattle.std.proofs.lemmas.List.{get_or_past}
use Rattle.pip_base.specs.declared.types.Pair.{Pair}
use Rattle.pip_base.specs.Memory.{Memory, word_at}
use Rattle.pip_model.specs.Boot.{own}
use Rattle.pip_model.specs.Tree.{Table}
use Rattle.pip_model.specs.NodeWords.{next_list_page, no_table, page_word, slot_words}
use Rattle.pip_config.specs.Lists.{PagesIn, list_frame}

-- ---- words

-- a pair by its two numbers
pub same_pair : (p q : Pair) → p.va ≡ q.va → p.frame ≡ q.frame → p ≡ q
same_pair p q va frame =
    let e : record { va = p.va; frame = p.frame } ≡ record { va = q.va; frame = q.frame } = rw (va, frame) refl in
    e

-- the two words of the link
pub word_frame : (more : List Pair) (slot : ℕ → Table) (k : ℕ) → page_word more slot k 0 ≡ (next_list_page more k).frame
unfolding page_word
word_frame more slot k = refl

pub word_va : (more : List Pair) (slot : ℕ → Table) (k : ℕ) → page_word more slot k 1 ≡ (next_list_page more k).va
unfolding page_word
word_va more slot k = refl

-- pages with one link have the same words
pub word_link : (a b : List Pair) (slot : ℕ → Table) (k i : ℕ) → next_list_page a k ≡ next_list_page b k
    → page_word a slot k i ≡ page_word b slot k i
unfolding page_word
word_link a b slot k i e = rw e

-- after the two words of the link, the link says nothing
pub word_after : (a b : List Pair) (slot : ℕ → Table) (k i : ℕ) → i ≢ 0 → i ≢ 1
    → page_word a slot k i ≡ page_word b slot k i
unfolding page_word
word_after a b slot k i not_zero not_one = rw (ne_eqb i 0 not_zero, ne_eqb i 1 not_one) refl

no_table_word : (j : ℕ) → slice_index (slot_words no_table) j ≡ 0
no_table_word zero = refl
no_table_word (suc zero) = refl
no_table_word (suc (suc zero)) = refl
no_table_word (suc (suc (suc zero))) = refl
no_table_word (suc (suc (suc (suc zero)))) = refl
no_table_word (suc (suc (suc (suc (suc zero))))) = refl
no_table_word (suc (suc (suc (suc (suc (suc j)))))) = refl

-- a last page without slots is of zeros
pub word_none : (more : List Pair) (slot : ℕ → Table) (k i : ℕ) → next_list_page more k ≡ own 0
    → ((q : ℕ) → 170 * k ≤ q → slot q ≡ no_table) → page_word more slot k i ≡ 0
unfolding page_word
word_none more slot k i e none = elim (cases_eq i 0) [
  | inl z ↦ rw (eq-eqb i 0 z) (rw e)
  | inr not_zero ↦ rw (ne_eqb i 0 not_zero) (elim (cases_eq i 1) [
    | inl z ↦ rw (eq-eqb i 1 z) (rw e)
    | inr not_one ↦ rw (ne_eqb i 1 not_one) (elim (cases_lt i 1022) [
      | inl low ↦ rw (lt-ltb i 1022 low) (rw (none (170 * k + (i - 2) / 6) (omega arith), no_table_word ((i - 2) % 6)))
      | inr high ↦ rw (le-ltb i 1022 high) refl
    ])
  ])
]

-- word i of slot j
pub word_slot : (more : List Pair) (slot : ℕ → Table) (j i : ℕ) → i < 6
    → page_word more slot (j / 170) (2 + 6 * (j % 170) + i) ≡ slice_index (slot_words (slot j)) i
unfolding page_word
word_slot more slot j i h =
    let not_zero : 2 + 6 * (j % 170) + i ≢ 0 = λ z. omega arith in
    let not_one : 2 + 6 * (j % 170) + i ≢ 1 = λ z. omega arith in
    let low : nat_lt (2 + 6 * (j % 170) + i) 1022 ≡ true = lt-ltb (2 + 6 * (j % 170) + i) 1022 (omega arith) in
    let place : 170 * (j / 170) + (2 + 6 * (j % 170) + i - 2) / 6 ≡ j = omega arith in
    let field : (2 + 6 * (j % 170) + i - 2) % 6 ≡ i = omega arith in
    rw (ne_eqb (2 + 6 * (j % 170) + i) 0 not_zero, ne_eqb (2 + 6 * (j % 170) + i) 1 not_one, low)
    (rw (place, field))

-- ---- frames

-- the page after page k
pub frame_next : (first : ℕ) (more : List Pair) (k : ℕ) → list_frame first more (k + 1) ≡ (next_list_page more k).frame
frame_next first more k = let e : k + 1 ≡ suc k = omega arith in rw e

module _ (m : Memory) (first : ℕ) (more : List Pair) (slot : ℕ → Table) (list : PagesIn m first more slot)
    (k page : ℕ) (page_is : page ≡ list_frame first more k) where
  -- a page is a frame of the memory
  pub page_inside : k ≤ length more → page < length m
  page_inside h = let i = list.inside k h in rw page_is i

  -- word 0 of a page that isn't the last
  pub next_is : k < length more → word_at m page 0 ≡ list_frame first more (k + 1)
  next_is h = rw (page_is, list.each k 0 (omega arith) (omega arith), word_frame more slot k, ← frame_next first more k)

  -- a word of a slot of the page
  pub slot_word : (j i : ℕ) → k ≡ j / 170 → k ≤ length more → i < 6
      → word_at m page (2 + 6 * (j % 170) + i) ≡ slice_index (slot_words (slot j)) i
  slot_word j i at h i_in =
      rw (page_is, list.each k (2 + 6 * (j % 170) + i) h (omega arith), at, word_slot more slot j i i_in)

-- word 0 of a page that isn't the last is a frame's number
pub next_small : (m : Memory) (first : ℕ) (more : List Pair) (slot : ℕ → Table) → PagesIn m first more slot
    → (k page w : ℕ) → page ≡ list_frame first more k → w ≡ word_at m page 0 → k < length more → length m ≤ 4096
    → w < 2 ^ 20
next_small m first more slot list k page w page_is is h few =
    let w_is : w ≡ list_frame first more (k + 1) = is ∙ next_is m first more slot list k page page_is h in
    let i = list.inside (k + 1) (omega arith) in
    rw w_is (omega arith)

-- word 0 of the last page is 0, so the link of each page is a frame's number
pub link_small : (m : Memory) (first : ℕ) (more : List Pair) (slot : ℕ → Table) → PagesIn m first more slot
    → (k page : ℕ) → page ≡ list_frame first more k → k ≤ length more → length m ≤ 4096 → word_at m page 0 < 2 ^ 20
link_small m first more slot list k page page_is h few = elim (cases_lt k (length more)) [
  | inl low ↦ next_small m first more slot list k page (word_at m page 0) page_is refl low few
  | inr high ↦
      let none : word_at m page 0 ≡ 0 = ap (λ f. word_at m f 0) page_is ∙ (list.each k 0 h (omega arith)
      ∙ (word_frame more slot k ∙ ap (λ (p : Pair). p.frame) (get_or_past more k (own 0) high))) in
      omega arith
]
