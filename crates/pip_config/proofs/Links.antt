-- List pages appended and taken off: one link is written.
use Rattle.std.specs.Prelude.{◌≡◌, ◌≢◌, ℕ, zero, suc, ◌<◌, ◌≤◌, ◌+◌, ◌*◌, ◌⊎◌, List, [], ◌∷◌, ◌++◌, length, refl}
use Rattle.std.proofs.Common.{arith, sym, ap, subst, ◌∙◌, inl, inr}
use Rattle.std.proofs.Math.Seq.{get_or-append_seam}
use Rattle.std.proofs.lemmas.Bool.{cases_eq, cases_lt}
use Rattle.std.proofs.lemmas.List.{get_or_append_left, get_or_past, length-append}
use Rattle.std.proofs.lemmas.List.Elements.{All-nil}
use Rattle.pip_base.specs.declared.types.Pair.{Pair}
use Rattle.pip_base.specs.Memory.{IsMemory, Memory, put_words, word_at}
use Rattle.pip_base.proofs.Memory.{length-put_words, IsMemory-put_words, word_at-put_words_frame}
use Rattle.pip_base.proofs.Memory.{word_at-put_words_index, word_at-put_words_here}
use Rattle.pip_model.specs.Boot.{own}
use Rattle.pip_model.specs.Tree.{Table, lists}
use Rattle.pip_model.specs.NodeWords.{next_list_page, no_table, page_word, slots}
use Rattle.pip_config.specs.Lists.{HasSmallFrames, IsFresh, ListIn, ListStays, PagesIn, list_frame}
use Rattle.pip_config.proofs.PageWords.{frame_next, same_pair, word_after, word_frame, word_link, word_none, word_va}

-- ---- one link written: page j now leads to q

module _ (m : Memory) (first : ℕ) (more new : List Pair) (slot : ℕ → Table) (list : PagesIn m first more slot)
    (j : ℕ) (q : Pair) (j_in : j ≤ length more) (at : next_list_page new j ≡ q)
    (other : (k : ℕ) → k ≤ length more → k ≢ j → next_list_page new k ≡ next_list_page more k) where
  abbrev linked : Memory
  linked = put_words m (list_frame first more j) 0 (q.frame ∷ q.va ∷ [])

  here : list_frame first more j < length m
  here = list.inside j j_in

  on_page : (i : ℕ) → i < 1024 → word_at linked (list_frame first more j) i ≡ page_word new slot j i
  on_page i i_in = elim (cases_eq i 0) [
    | inl z ↦
        ap (word_at linked (list_frame first more j)) z
        ∙ (word_at-put_words_here m (list_frame first more j) 0 (q.frame ∷ q.va ∷ []) 0 list.shape here (omega arith)
        (omega arith)
        ∙ (sym (ap (λ (p : Pair). p.frame) at) ∙ (sym (word_frame new slot j) ∙ ap (page_word new slot j) (sym z))))
    | inr not_zero ↦ elim (cases_eq i 1) [
      | inl z ↦
          ap (word_at linked (list_frame first more j)) z
          ∙ (word_at-put_words_here m (list_frame first more j) 0 (q.frame ∷ q.va ∷ []) 1 list.shape here (omega arith)
          (omega arith)
          ∙ (sym (ap (λ (p : Pair). p.va) at) ∙ (sym (word_va new slot j) ∙ ap (page_word new slot j) (sym z))))
      | inr not_one ↦
          word_at-put_words_index m (list_frame first more j) 0 (q.frame ∷ q.va ∷ []) i list.shape here (omega arith)
          (inr (omega arith))
          ∙ (list.each j i j_in i_in ∙ word_after more new slot j i not_zero not_one)
    ]
  ]

  linked_word : (k i : ℕ) → k ≤ length more → i < 1024
      → word_at linked (list_frame first more k) i ≡ page_word new slot k i
  linked_word k i k_in i_in = elim (cases_eq k j) [
    | inr ne ↦
        word_at-put_words_frame m (list_frame first more j) 0 (q.frame ∷ q.va ∷ []) (list_frame first more k) i
        list.shape here (omega arith) (λ e. ne (list.apart k j k_in j_in e))
        ∙ (list.each k i k_in i_in ∙ sym (word_link new more slot k i (other k k_in ne)))
    | inl e ↦ rw (e, on_page i i_in, ← e)
  ]

  linked_count : length linked ≡ length m
  linked_count = length-put_words m (list_frame first more j) 0 (q.frame ∷ q.va ∷ [])

  linked_shape : IsMemory linked
  linked_shape = IsMemory-put_words m (list_frame first more j) 0 (q.frame ∷ q.va ∷ []) list.shape here

  linked_far : (f i : ℕ) → f ≢ list_frame first more j → word_at linked f i ≡ word_at m f i
  linked_far f i ne =
      word_at-put_words_frame m (list_frame first more j) 0 (q.frame ∷ q.va ∷ []) f i list.shape here (omega arith) ne

-- ---- lists of pages

link_old : (more : List Pair) (q : Pair) (k : ℕ) → k < length more
    → next_list_page (more ++ q ∷ []) k ≡ next_list_page more k
link_old more q k h = get_or_append_left more (q ∷ []) (own 0) k h

pub link_last : (more : List Pair) (q : Pair) → next_list_page (more ++ q ∷ []) (length more) ≡ q
link_last more q = get_or-append_seam more q [] (own 0)

pub link_past : (more : List Pair) (k : ℕ) → length more ≤ k → next_list_page more k ≡ own 0
link_past more k h = get_or_past more k (own 0) h

pub length_more : (more : List Pair) (q : Pair) → length (more ++ q ∷ []) ≡ length more + 1
length_more more q = length-append more (q ∷ [])

pub frame_old : (first : ℕ) (more : List Pair) (q : Pair) (k : ℕ) → k ≤ length more
    → list_frame first (more ++ q ∷ []) k ≡ list_frame first more k
frame_old first more q zero h = refl
frame_old first more q (suc k) h = cc (link_old more q k (omega arith))

pub frame_new : (first : ℕ) (more : List Pair) (q : Pair)
    → list_frame first (more ++ q ∷ []) (length more + 1) ≡ q.frame
frame_new first more q = rw (frame_next first (more ++ q ∷ []) (length more), link_last more q)

-- ---- a list without slots

-- a frame of zeros holds it
pub empty_list : (m : Memory) (f : ℕ) → IsMemory m → f < length m → ((i : ℕ) → i < 1024 → word_at m f i ≡ 0)
    → ListIn m f [] []
unfolding slots
empty_list m f shape inside zeros = record {
  pages = record {
    shape = shape;
    inside = λ k h. let z : k ≡ 0 = omega arith in rw z inside;
    apart = λ j k j_in k_in e. omega arith;
    each = λ k i k_in i_in.
        let z : k ≡ 0 = omega arith in
        cc (zeros i i_in, word_none [] (slots []) k i (link_past [] k (omega arith)) (λ q h. refl));
  };
  room = omega arith;
  small = All-nil HasSmallFrames;
}

-- ---- a page more

module _ (m : Memory) (first : ℕ) (more : List Pair) (ts : List Table) (list : ListIn m first more ts)
    (q : Pair) (fresh : IsFresh m first more q.frame) where
  abbrev longer : List Pair
  longer = more ++ q ∷ []

  long : length longer ≡ length more + 1
  long = length_more more q

  last_in : length more ≤ length more
  last_in = omega arith

  other : (k : ℕ) → k ≤ length more → k ≢ length more → next_list_page longer k ≡ next_list_page more k
  other k h ne = link_old more q k (omega arith)

  abbrev appended : Memory
  appended = put_words m (list_frame first more (length more)) 0 (q.frame ∷ q.va ∷ [])

  old_or_new : (k : ℕ) → k ≤ length longer → (k ≤ length more) ⊎ (k ≡ length more + 1)
  old_or_new k h = let n = long in
      elim (cases_lt k (length more + 1)) [ inl low ↦ inl (omega arith) | inr high ↦ inr (omega arith) ]

  none : (j : ℕ) → 170 * (length more + 1) ≤ j → slots ts j ≡ no_table
  unfolding slots
  none j h = get_or_past ts j no_table (omega arith)

  new_page : (k : ℕ) → k ≡ length more + 1 → list_frame first longer k ≡ q.frame
  new_page k e = rw (e, frame_new first more q)

  -- the page's words are those of a last page without slots
  new_word : (k i : ℕ) → k ≡ length more + 1 → i < 1024
      → word_at appended (list_frame first longer k) i ≡ page_word longer (slots ts) k i
  new_word k i e i_in =
      ap (λ f. word_at appended f i) (new_page k e)
      ∙ (linked_far m first more longer (slots ts) list.pages (length more) q last_in (link_last more q) other q.frame i
      (fresh.further (length more) last_in)
      ∙ (fresh.zeros i i_in ∙ sym (word_none longer (slots ts) k i (link_past longer k (let n = long in
      omega arith)) (λ j h. none j (omega arith)))))

  PagesIn-append : PagesIn appended first longer (slots ts)
  PagesIn-append = let n =
      linked_count m first more longer (slots ts) list.pages (length more) q last_in (link_last more q) other in
      record {
        shape = linked_shape m first more longer (slots ts) list.pages (length more) q last_in (link_last more q) other;
        inside = λ k h. elim (old_or_new k h) [
          | inl low ↦ omega (arith, list.pages.inside k low, frame_old first more q k low)
          | inr e ↦ omega (arith, new_page k e)
        ];
        apart = λ j k j_in k_in e. elim (old_or_new j j_in) [
          | inl j_low ↦ elim (old_or_new k k_in) [
            | inl k_low ↦ list.pages.apart j k j_low k_low
                (rw (← frame_old first more q j j_low, e, frame_old first more q k k_low))
            | inr k_is ↦
                absurd (fresh.further j j_low (rw (← new_page k k_is, ← e, frame_old first more q j j_low)))
          ]
          | inr j_is ↦ elim (old_or_new k k_in) [
            | inl k_low ↦ absurd (fresh.further k k_low (rw (← new_page j j_is, e, frame_old first more q k k_low)))
            | inr k_is ↦ cc
          ]
        ];
        each = λ k i k_in i_in. elim (old_or_new k k_in) [
          | inl low ↦ ap (λ f. word_at appended f i) (frame_old first more q k low) ∙ linked_word m first more longer
              (slots ts) list.pages (length more) q last_in (link_last more q) other k i low i_in
          | inr e ↦ new_word k i e i_in
        ];
      }

  ListIn-append : ListIn appended first longer ts
  ListIn-append = record {
    pages = PagesIn-append;
    room = omega (arith, long);
    small = list.small;
  }

  ListStays-append : ListStays first more m appended
  ListStays-append = record {
    count = linked_count m first more longer (slots ts) list.pages (length more) q last_in (link_last more q) other;
    words = λ f i off. linked_far m first more longer (slots ts) list.pages (length more) q last_in (link_last more q)
        other f i (off (length more) last_in);
  }

-- the link to a fresh page written into the last page
pub append_list : (m n : Memory) (first : ℕ) (more : List Pair) (ts : List Table) → ListIn m first more ts → (q : Pair)
    → IsFresh m first more q.frame → (k page : ℕ) → k ≡ length more → page ≡ list_frame first more k
    → n ≡ put_words m page 0 (q.frame ∷ q.va ∷ []) → ListIn n first (more ++ q ∷ []) ts × ListStays first more m n
append_list m n first more ts list q fresh k page last page_is is =
    let at : page ≡ list_frame first more (length more) = rw (page_is, last) in
    let same : put_words m (list_frame first more (length more)) 0 (q.frame ∷ q.va ∷ []) ≡ n =
    rw (← at, ← is) in (
      rw (← same) (ListIn-append m first more ts list q fresh),
      rw (← same) (ListStays-append m first more ts list q fresh),
    )

-- ---- a page less

module _ (m : Memory) (first : ℕ) (more : List Pair) (q : Pair) (ts : List Table)
    (list : ListIn m first (more ++ q ∷ []) ts) (room : lists (length ts) ≤ length more + 1) where
  abbrev whole : List Pair
  whole = more ++ q ∷ []

  whole_length : length whole ≡ length more + 1
  whole_length = length_more more q

  before_in : length more ≤ length whole
  before_in = omega (arith, whole_length)

  kept : (k : ℕ) → k ≤ length whole → k ≢ length more → next_list_page more k ≡ next_list_page whole k
  kept k h ne = elim (cases_lt k (length more)) [
    | inl low ↦ sym (link_old more q k low)
    | inr high ↦ cc (link_past more k high, link_past whole k (let n = whole_length in omega arith))
  ]

  last_gone : next_list_page more (length more) ≡ own 0
  last_gone = link_past more (length more) (omega arith)

  abbrev popped : Memory
  popped = put_words m (list_frame first whole (length more)) 0 (0 ∷ 0 ∷ [])

  ListIn-pop : ListIn popped first more ts
  ListIn-pop = let n =
      linked_count m first whole more (slots ts) list.pages (length more) (own 0) before_in last_gone kept in record {
        pages = record {
          shape = linked_shape m first whole more (slots ts) list.pages (length more) (own 0) before_in last_gone kept;
          inside = λ k h. let l = whole_length in let i = list.pages.inside k (omega arith) in
              let e = frame_old first more q k h in omega arith;
          apart = λ j k j_in k_in e. let l = whole_length in list.pages.apart j k (omega arith) (omega arith)
              (rw (frame_old first more q j j_in, e, ← frame_old first more q k k_in));
          each = λ k i k_in i_in. let l = whole_length in
              ap (λ f. word_at popped f i) (sym (frame_old first more q k k_in))
              ∙ linked_word m first whole more (slots ts)
              list.pages (length more) (own 0) before_in last_gone kept k i (omega arith) i_in;
        };
        room = room;
        small = list.small;
      }

  ListStays-pop : ListStays first more m popped
  ListStays-pop = record {
    count = linked_count m first whole more (slots ts) list.pages (length more) (own 0) before_in last_gone kept;
    words = λ f i off. let low : length more ≤ length more = omega arith in
        linked_far m first whole more (slots ts) list.pages (length more) (own 0) before_in last_gone kept f i
        (λ e. off (length more) low (e ∙ frame_old first more q (length more) low));
  }

-- the link to the last page zeroed
pub pop_list : (m n : Memory) (first : ℕ) (more : List Pair) (q : Pair) (ts : List Table)
    → ListIn m first (more ++ q ∷ []) ts → lists (length ts) ≤ length more + 1 → (k page : ℕ) → k ≡ length more
    → page ≡ list_frame first (more ++ q ∷ []) k
    → (blank : ℕ) → blank ≡ 0 → n ≡ put_words m page 0 (blank ∷ 0 ∷ [])
    → ListIn n first more ts × ListStays first more m n
pop_list m n first more q ts list room k page before page_is blank is_zero is =
    let at : page ≡ list_frame first (more ++ q ∷ []) (length more) =
    rw (page_is, before) in
    let same : put_words m (list_frame first (more ++ q ∷ []) (length more)) 0 (0 ∷ 0 ∷ []) ≡ n = cc in (
      rw (← same) (ListIn-pop m first more q ts list room),
      rw (← same) (ListStays-pop m first more q ts list room),
    )

-- the pair of the last page is read from the page before it
pub last_read : (m : Memory) (first : ℕ) (more : List Pair) (q : Pair) (ts : List Table)
    → ListIn m first (more ++ q ∷ []) ts → (k page : ℕ) → k ≡ length more → page ≡ list_frame first (more ++ q ∷ []) k
    → (r : Pair) (w : ℕ) → r.va ≡ word_at m page 1 → r.frame ≡ w → w ≡ word_at m page 0 → r ≡ q
last_read m first more q ts list k page before page_is r w va frame word =
    let n = length_more more q in
    let at : page ≡ list_frame first (more ++ q ∷ []) (length more) =
    rw (page_is, before) in
    let last = link_last more q in
    same_pair r q
    (va ∙ (ap (λ f. word_at m f 1) at ∙ (list.pages.each (length more) 1 (omega arith) (omega arith)
    ∙ (word_va (more ++ q ∷ []) (slots ts) (length more) ∙ ap (λ (p : Pair). p.va) last))))
    (frame ∙ (word ∙ (ap (λ f. word_at m f 0) at ∙ (list.pages.each (length more) 0 (omega arith) (omega arith)
    ∙ (word_frame (more ++ q ∷ []) (slots ts) (length more) ∙ ap (λ (p : Pair). p.frame) last)))))

-- ---- between two calls
