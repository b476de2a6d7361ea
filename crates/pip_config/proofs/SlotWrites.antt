-- Slots written into list pages and read from them.
use Rattle.std.specs.Prelude.{◌≡◌, ◌≢◌, ℕ, ◌<◌, ◌≤◌, ◌+◌, ◌-◌, ◌*◌, ◌/◌, ◌%◌, ◌⊎◌, List, [], ◌∷◌, ◌++◌, All, length}
use Rattle.std.specs.Prelude.{slice_index, slice_set, refl}
use Rattle.std.proofs.Common.{arith, sym, ap, subst, ◌∙◌, inl, inr, eq-eqb, ne_eqb, get_or, get_or-set_same}
use Rattle.std.proofs.Common.{get_or-set_other}
use Rattle.std.proofs.Math.Path.{fun_ext}
use Rattle.std.proofs.Math.Seq.{get_or-append_seam}
use Rattle.std.proofs.lemmas.Bool.{cases_eq, cases_lt, le-ltb}
use Rattle.std.proofs.lemmas.List.{get_or_append_left, get_or_past, length-append, length-set}
use Rattle.std.proofs.lemmas.List.Elements.{All-push, All-set, All-get_or, All-from_get_or}
use Rattle.pip_base.specs.declared.types.Pair.{Pair}
use Rattle.pip_base.specs.Memory.{Memory, put_words, word_at}
use Rattle.pip_base.proofs.Memory.{length-put_words, IsMemory-put_words, word_at-put_words_frame}
use Rattle.pip_base.proofs.Memory.{word_at-put_words_index, word_at-put_words_here}
use Rattle.pip_model.specs.Tree.{Table, lists, table_pairs}
use Rattle.pip_model.specs.NodeWords.{no_table, page_word, slot_words, slots}
use Rattle.pip_config.specs.Lists.{HasSmallFrames, ListIn, ListStays, PagesIn, list_frame, pair_words, put_slot}
use Rattle.pip_config.proofs.PageWords.{word_slot}

-- ---- one slot written

-- words of other slots, and of none
word_far : (more : List Pair) (slot : ℕ → Table) (p : ℕ) (t : Table) (k i : ℕ) → ((2 ≤ i) × (i < 1022)
    → 170 * k + (i - 2) / 6 ≢ p) → page_word more (put_slot slot p t) k i ≡ page_word more slot k i
unfolding page_word
word_far more slot p t k i far = elim (cases_eq i 0) [
  | inl e ↦ rw (eq-eqb i 0 e) refl
  | inr not_zero ↦ rw (ne_eqb i 0 not_zero) (elim (cases_eq i 1) [
    | inl e ↦ rw (eq-eqb i 1 e) refl
    | inr not_one ↦ rw (ne_eqb i 1 not_one) (elim (cases_lt i 1022) [
      | inl low ↦ rw (ne_eqb (170 * k + (i - 2) / 6) p (far (omega arith, low))) refl
      | inr high ↦ rw (le-ltb i 1022 high) refl
    ])
  ])
]

-- words of this slot
word_here : (more : List Pair) (slot : ℕ → Table) (p : ℕ) (t : Table) (i : ℕ) → i < 6
    → page_word more (put_slot slot p t) (p / 170) (2 + 6 * (p % 170) + i) ≡ slice_index (slot_words t) i
word_here more slot p t i h =
    cc (word_slot more (put_slot slot p t) p i h, here (cases_eq p p))
  where
    here : (p ≡ p) ⊎ (p ≢ p) → put_slot slot p t p ≡ t
    here (inl e) = rw (eq-eqb p p e) refl
    here (inr ne) = absurd (ne refl)

module _ (m : Memory) (first : ℕ) (more : List Pair) (slot : ℕ → Table) (list : PagesIn m first more slot)
    (p : ℕ) (t : Table) (low : p / 170 ≤ length more) where
  abbrev written : Memory
  written = put_words m (list_frame first more (p / 170)) (2 + 6 * (p % 170)) (slot_words t)

  here : list_frame first more (p / 170) < length m
  here = list.inside (p / 170) low

  fits : 2 + 6 * (p % 170) + length (slot_words t) ≤ 1024
  fits = omega arith

  on_page : (i : ℕ) → i < 1024
      → word_at written (list_frame first more (p / 170)) i ≡ page_word more (put_slot slot p t) (p / 170) i
  on_page i i_in = elim (cases_lt i (2 + 6 * (p % 170))) [
    | inl before ↦
        word_at-put_words_index m (list_frame first more (p / 170)) (2 + 6 * (p % 170)) (slot_words t) i list.shape here
        fits (inl before)
        ∙ (list.each (p / 170) i low i_in
        ∙ sym (word_far more slot p t (p / 170) i (λ h z. let a = h.0 in let b = h.1 in omega arith)))
    | inr from ↦ elim (cases_lt i (2 + 6 * (p % 170) + 6)) [
      | inr after ↦
          word_at-put_words_index m (list_frame first more (p / 170)) (2 + 6 * (p % 170)) (slot_words t) i list.shape
          here fits (inr after)
          ∙ (list.each (p / 170) i low i_in
          ∙ sym (word_far more slot p t (p / 170) i (λ h z. let a = h.0 in let b = h.1 in omega arith)))
      | inl inside ↦
          let back : 2 + 6 * (p % 170) + (i - (2 + 6 * (p % 170))) ≡ i = omega arith in
          let small : i - (2 + 6 * (p % 170)) < 6 = omega arith in
          ap (word_at written (list_frame first more (p / 170))) (sym back)
          ∙ (word_at-put_words_here m (list_frame first more (p / 170)) (2 + 6 * (p % 170)) (slot_words t)
          (i - (2 + 6 * (p % 170))) list.shape here fits small
          ∙ (sym (word_here more slot p t (i - (2 + 6 * (p % 170))) small)
          ∙ ap (page_word more (put_slot slot p t) (p / 170)) back))
    ]
  ]

  word_is : (k i : ℕ) → k ≤ length more → i < 1024
      → word_at written (list_frame first more k) i ≡ page_word more (put_slot slot p t) k i
  word_is k i k_in i_in = elim (cases_eq k (p / 170)) [
    | inr ne ↦
        word_at-put_words_frame m (list_frame first more (p / 170)) (2 + 6 * (p % 170)) (slot_words t)
        (list_frame first more k) i list.shape here fits (λ e. ne (list.apart k (p / 170) k_in low e))
        ∙ (list.each k i k_in i_in
        ∙ sym (word_far more slot p t k i (λ h z. let a = h.0 in let b = h.1 in ne (omega arith))))
    | inl e ↦ rw (e, on_page i i_in, ← e)
  ]

  PagesIn-put : PagesIn written first more (put_slot slot p t)
  PagesIn-put = let n = length-put_words m (list_frame first more (p / 170)) (2 + 6 * (p % 170)) (slot_words t) in
      record {
        shape =
            IsMemory-put_words m (list_frame first more (p / 170)) (2 + 6 * (p % 170)) (slot_words t) list.shape here;
        inside = λ k h. omega arith;
        apart = list.apart;
        each = word_is;
      }

  ListStays-put : ListStays first more m written
  ListStays-put = record {
    count = length-put_words m (list_frame first more (p / 170)) (2 + 6 * (p % 170)) (slot_words t);
    words = λ f i off. word_at-put_words_frame m (list_frame first more (p / 170)) (2 + 6 * (p % 170)) (slot_words t) f
        i list.shape here fits (off (p / 170) low);
  }

-- the six words of a table written at place p
pub put_list : (m n : Memory) (first : ℕ) (more : List Pair) (slot : ℕ → Table) → PagesIn m first more slot
    → (p : ℕ) (t : Table) → p / 170 ≤ length more → (page : ℕ) (ps : List Pair)
    → page ≡ list_frame first more (p / 170) → table_pairs t ≡ ps → n ≡ put_words m page
    (2 + 6 * (p % 170)) (pair_words ps) → PagesIn n first more (put_slot slot p t) × ListStays first more m n
put_list m n first more slot list p t low page ps page_is pairs_are n_is =
    let e : put_words m (list_frame first more (p / 170)) (2 + 6 * (p % 170)) (slot_words t) ≡ n =
    cc in (
      rw (← e) (PagesIn-put m first more slot list p t low),
      rw (← e) (ListStays-put m first more slot list p t low),
    )

-- ---- slots as lists

slots_push : (ts : List Table) (t : Table) (q : ℕ) → put_slot (slots ts) (length ts) t q ≡ slots (ts ++ t ∷ []) q
unfolding slots
slots_push ts t q = elim (cases_eq q (length ts)) [
  | inl e ↦ rw (eq-eqb q (length ts) e)
      (cc (get_or-append_seam ts t [] no_table))
  | inr ne ↦ rw (ne_eqb q (length ts) ne) (sym (same (cases_lt q (length ts)) ne))
]
  where
    same : ((q < length ts) ⊎ (length ts ≤ q)) → q ≢ length ts → get_or (ts ++ t ∷ []) q no_table ≡ get_or ts q no_table
    same (inl low) ne = get_or_append_left ts (t ∷ []) no_table q low
    same (inr high) ne = get_or_past (ts ++ t ∷ []) q no_table (let n = length-append ts (t ∷ []) in
        omega arith) ∙ sym (get_or_past ts q no_table high)

-- the last slot moves to place k
slots_swap : (ts : List Table) (t : Table) (k q : ℕ) → k ≤ length ts
    → put_slot (put_slot (slots (ts ++ t ∷ [])) k t) (length ts) no_table q ≡ slots (slice_set ts k t) q
unfolding slots
slots_swap ts t k q h = elim (cases_eq q (length ts)) [
  | inl e ↦ rw (eq-eqb q (length ts) e)
      (sym (get_or_past (slice_set ts k t) q no_table (omega (arith, length-set ts k t))))
  | inr ne ↦ rw (ne_eqb q (length ts) ne) (elim (cases_eq q k) [
    | inl e ↦
        let there : q < length ts = omega arith in
        rw (eq-eqb q k e)
        (cc (get_or-set_same ts q t no_table there))
    | inr off ↦ rw (ne_eqb q k off) (sym (get_or-set_other ts k q t no_table off ∙ elim (cases_lt q (length ts)) [
      | inl low ↦ sym (get_or_append_left ts (t ∷ []) no_table q low)
      | inr high ↦ get_or_past ts q no_table high
          ∙ sym (get_or_past (ts ++ t ∷ []) q no_table (let n = length-append ts (t ∷ []) in omega arith))
    ]))
  ])
]

-- the last slot
pub slots_last : (ts : List Table) (t : Table) → slots (ts ++ t ∷ []) (length ts) ≡ t
unfolding slots
slots_last ts t = get_or-append_seam ts t [] no_table

all_front : (ts : List Table) (t : Table) → All HasSmallFrames (ts ++ t ∷ []) → All HasSmallFrames ts
all_front ts t all = All-from_get_or HasSmallFrames ts no_table each
  where
    each : (i : ℕ) → i < length ts → HasSmallFrames (get_or ts i no_table)
    each i h =
        let n = length-append ts (t ∷ []) in
        rw (← get_or_append_left ts (t ∷ []) no_table i h)
        (All-get_or HasSmallFrames (ts ++ t ∷ []) i no_table (omega arith) all)

all_last : (ts : List Table) (t : Table) → All HasSmallFrames (ts ++ t ∷ []) → HasSmallFrames t
all_last ts t all =
    let n = length-append ts (t ∷ []) in
    rw (← get_or-append_seam ts t [] no_table) (All-get_or HasSmallFrames (ts ++ t ∷ []) (length ts) no_table
    (omega arith) all)

-- ---- what the calls do

pub push_list : (m n : Memory) (first : ℕ) (more : List Pair) (ts : List Table) (t : Table) → ListIn m first more ts
    → lists (length ts + 1) ≤ length more + 1 → HasSmallFrames t
    → PagesIn n first more (put_slot (slots ts) (length ts) t) → ListIn n first more (ts ++ t ∷ [])
push_list m n first more ts t list room small pages = record {
  pages = rw (← fun_ext (λ q. slots_push ts t q)) pages;
  room = let k = length-append ts (t ∷ []) in rw k room;
  small = All-push HasSmallFrames ts t list.small small;
}

pub swap_list : (m n : Memory) (first : ℕ) (more : List Pair) (ts : List Table) (t : Table) (k : ℕ)
    → ListIn m first more (ts ++ t ∷ []) → k ≤ length ts
    → PagesIn n first more (put_slot (put_slot (slots (ts ++ t ∷ [])) k t) (length ts) no_table)
    → ListIn n first more (slice_set ts k t)
swap_list m n first more ts t k list h pages = record {
  pages = rw (← fun_ext (λ q. slots_swap ts t k q h)) pages;
  room = omega (arith, length-append ts (t ∷ []), length-set ts k t);
  small = All-set HasSmallFrames ts k t (all_last ts t list.small) (all_front ts t list.small);
}

pub ListStays-trans : (first : ℕ) (more : List Pair) (a b c : Memory) → ListStays first more a b
    → ListStays first more b c → ListStays first more a c
ListStays-trans first more a b c ab bc =
    record { count = bc.count ∙ ab.count; words = λ f i off. bc.words f i off ∙ ab.words f i off }
