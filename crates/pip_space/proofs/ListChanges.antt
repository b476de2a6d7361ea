-- A partition's list when a table comes or goes.
use Rattle.std.proofs.Common.{None, ◌≡◌, ◌≢◌, ℕ, ◌+◌, ◌<◌, ◌≤◌, ◌==◌, if◌then◌else◌, inl, inr, Bool, true, false, List}
use Rattle.std.proofs.Common.{[], ◌∷◌, ◌++◌, length, refl, sym, ap, ◌∙◌, subst, arith, Option, Some}
use Rattle.std.specs.Prelude.{nat_lt, position, slice_index_or, slice_set, MatchOption}
use Rattle.std.proofs.lemmas.Bool.{le-ltb, lt-ltb}
use Rattle.std.proofs.lemmas.List.{length-append}
use Rattle.pip_base.specs.declared.types.Pair.{Pair}
use Rattle.pip_base.specs.Memory.{Memory, zero_frame}
use Rattle.pip_base.proofs.Memory.{IsMemory-zero, length-zero_frame, word_at-zero_frame, word_at-zero_same}
use Rattle.pip_config.specs.Lists.{HasPages, IsFresh, ListIn, ListStays, list_frame, IsPlaceOfTable}
use Rattle.pip_config.proofs.Links.{frame_new, frame_old, length_more}
use Rattle.pip_config.proofs.Nodes.{front_of-append, last_pair-append, last_split, swap_out-set}
use Rattle.pip_model.specs.Collect.{front_of, last_pair, swap_out}
use Rattle.pip_model.specs.NodeWords.{slots}
use Rattle.pip_model.specs.Lists.{In}
use Rattle.pip_model.specs.Tree.{Table, lists, table_pairs}
use Rattle.pip_space.specs.Lists.{IsOutsideList}
use Rattle.pip_space.specs.Tables.{AreInPages, page_list}

-- ---- a list page more

module _ (m : Memory) (first : ℕ) (more : List Pair) (ts : List Table) (list : ListIn m first more ts)
    (p : Pair) (far : (k : ℕ) → k ≤ length more → p.frame ≢ list_frame first more k) where
  -- zeroing a further frame leaves the list
  pub list_zero : ListIn (zero_frame m p.frame) first more ts
  list_zero = record {
    pages = record {
      shape = IsMemory-zero m p.frame list.pages.shape;
      inside = λ k h. omega (arith, list.pages.inside k h, length-zero_frame m p.frame);
      apart = list.pages.apart;
      each = λ k i k_in i_in. word_at-zero_frame m p.frame (list_frame first more k) i (λ e. far k k_in (sym e))
          ∙ list.pages.each k i k_in i_in;
    };
    room = list.room;
    small = list.small;
  }

  pub zero_pages : (n : ℕ) → length more + 1 ≡ n → HasPages (zero_frame m p.frame) first n
  zero_pages n count = record { more = more; tables = ts; is_in = list_zero; count = count }

  pub zero_fresh : p.frame < length m → IsFresh (zero_frame m p.frame) first more p.frame
  zero_fresh inside = record {
    inside = omega (arith, length-zero_frame m p.frame);
    further = far;
    zeros = λ i low. word_at-zero_same m p.frame i inside;
  }

  -- and the page that is appended is the one that changes
  pub zero_stays : (n : Memory) → ListStays first more (zero_frame m p.frame) n → ListStays first (more ++ p ∷ []) m n
  zero_stays n stays = record {
    count = stays.count ∙ length-zero_frame m p.frame;
    words = λ f i off.
        let long = length_more more p in
        stays.words f i (λ k k_in e. off k (omega arith) (cc (frame_old first more p k k_in)))
        ∙ word_at-zero_frame m p.frame f i
        (λ e. off (length more + 1) (omega arith) (cc (frame_new first more p)));
  }

-- the memory after a page was appended, by what append_page says
pub page_added : (m z n : Memory) (first pages : ℕ) (more : List Pair) (ts : List Table) (p : Pair) (o : Option Pair)
    → o ≡ Some p → ListIn m first more ts → length more + 1 ≡ pages → IsOutsideList first more o → p.frame < length m
    → z ≡ zero_frame m p.frame
    → ((more : List Pair) (ts : List Table) → ListIn z first more ts → length more + 1 ≡ pages
    → IsFresh z first more p.frame → ListIn n first (more ++ p ∷ []) ts × ListStays first more z n)
    → ListIn n first (more ++ page_list o) ts × ListStays first (more ++ page_list o) m n
page_added m z n first pages more ts p o is list count far inside zeroed append =
    let off = far p is in
    let done = append more ts (rw zeroed (list_zero m first more ts list p off))
    count (rw zeroed (zero_fresh m first more ts list p off inside)) in
    let stays = zero_stays m first more ts list p off n (rw (← zeroed) done.1) in
    rw is (done.0, stays)

-- ---- a slot less

-- what find answers
pub found_place : (ts : List Table) (b : Table) (k table : ℕ) (o : Option ℕ) → IsPlaceOfTable ts b k
    → b.mmu.frame ≡ table → o ≡ position (λ (t : Table). t.mmu.frame == table) ts → o ≡ Some k
found_place ts b k table o place frame found =
    rw (found, ← frame, place.is_first)

-- the memory after the slot was taken, by what swap_remove says
pub slot_taken : (m n : Memory) (first count : ℕ) (more : List Pair) (ts : List Table) (b : Table) (k : ℕ)
    → ListIn m first more ts → length ts ≡ count → IsPlaceOfTable ts b k
    → ((more : List Pair) (us : List Table) (u : Table) → ListIn m first more (us ++ u ∷ []) → length us + 1 ≡ count
    → ListIn n first more (slice_set us k u) × ListStays first more m n)
    → ListIn n first more (swap_out b.index ts) × ListStays first more m n
slot_taken m n first count more [] b k list long place swap = absurd (omega arith)
slot_taken m n first count more (t ∷ ts) b k list long place swap =
    let split = last_split t ts in
    let us = split.0 in
    let u = split.1 in
    let e : t ∷ ts ≡ us ++ u ∷ [] = split.2 in
    let size = ap length e ∙ length-append us (u ∷ []) in
    let inside = place.inside in
    let done = swap more us u (rw (← e) list) (omega arith) in
    let out = swap_out-set us u k b.index (omega arith) (ap (λ ws. (slots ws k).index) (sym e) ∙ ap (λ (z : Table).
    z.index) place.is_table) (λ j j_in z. place.before j j_in (rw (e, z))) in
    (rw (← out, ← e) at done.0, done.1)

-- ---- a list page less

abbrev pub less_pages : ℕ → List Pair → List Pair
less_pages m more = if nat_lt (lists m) (lists (m + 1)) then front_of more else more

abbrev pub page_gone : ℕ → List Pair → List Pair
page_gone m more = if nat_lt (lists m) (lists (m + 1)) then last_pair more else []

-- the memory after the last page was taken off, by what pop_page says
pub shrunk : (m n : Memory) (first count : ℕ) (p : Pair) (more : List Pair) (ts : List Table)
    → lists count < lists (count + 1) → ListIn m first more ts → length ts ≡ count → length more + 1 ≡ lists (count + 1)
    → ((more : List Pair) (q : Pair) (ts : List Table) → ListIn m first (more ++ q ∷ []) ts
    → length more + 2 ≡ lists (count + 1) → p ≡ q)
    → ((more : List Pair) (q : Pair) (ts : List Table) → ListIn m first (more ++ q ∷ []) ts → length more + 2
    ≡ lists (count + 1) → lists (length ts) ≤ length more + 1 → ListIn n first more ts × ListStays first more m n)
    → (p ∷ [] ≡ page_gone count more) × ListIn n first (less_pages count more) ts × ListStays first more m n
shrunk m n first count p [] ts less list long pages last pop = absurd (omega arith)
shrunk m n first count p (g ∷ gs) ts less list long pages last pop =
    let split = last_split g gs in
    let front = split.0 in
    let q = split.1 in
    let e : g ∷ gs ≡ front ++ q ∷ [] = split.2 in
    let size = ap length e ∙ length_more front q in
    let there = subst (λ ms. ListIn m first ms ts) e list in
    let less_is : nat_lt (lists count) (lists (count + 1)) ≡ true = lt-ltb (lists count) (lists (count + 1)) less in
    let few : lists (length ts) ≤ length front + 1 = (omega arith) in
    let done = pop front q ts there (omega arith) few in
    let gone : page_gone count (g ∷ gs) ≡ q ∷ [] =
    cc (last_pair-append front q) in
    let rest : less_pages count (g ∷ gs) ≡ front = cc (front_of-append front q) in (
      rw (last front q ts there (omega arith), ← gone),
      rw rest done.0,
      record {
        count = done.1.count;
        words = λ f i off. done.1.words f i (λ k k_in h. off k (omega arith)
            (rw (h, ← frame_old first front q k k_in, ← e)));
      },
    )

-- ---- pages of a slot

module _ (b : Table) (ps : List Pair) (e : table_pairs b ≡ ps) where
  pub slot_mmu : (none : Pair) → (slice_index_or ps 0 none).frame ≡ b.mmu.frame
  slot_mmu none = rw (← e)

  pub slot_shadow1 : (none : Pair) → (slice_index_or ps 1 none).frame ≡ b.shadow1.frame
  slot_shadow1 none = rw (← e)

  pub slot_shadow2 : (none : Pair) → (slice_index_or ps 2 none).frame ≡ b.shadow2.frame
  slot_shadow2 none = rw (← e)

module _ (m : Memory) (ps : List Pair) (a : AreInPages m ps) where
  page_in : (g : Pair) → In g (table_pairs a.table) → g.frame < length m
  page_in g i = a.inside g (rw (← a.pages) i)

  pub slot_in_mmu : (none : Pair) → (slice_index_or ps 0 none).frame < length m
  slot_in_mmu none = rw (slot_mmu a.table ps a.pages none) (page_in a.table.mmu (inl refl))

  pub slot_in_shadow1 : (none : Pair) → (slice_index_or ps 1 none).frame < length m
  slot_in_shadow1 none = rw (slot_shadow1 a.table ps a.pages none) (page_in a.table.shadow1 (inr (inl refl)))

  pub slot_in_shadow2 : (none : Pair) → (slice_index_or ps 2 none).frame < length m
  slot_in_shadow2 none = rw (slot_shadow2 a.table ps a.pages none) (page_in a.table.shadow2 (inr (inr (inl refl))))

pub some_same : (o : Option ℕ) (j k : ℕ) → o ≡ Some j → o ≡ Some k → j ≡ k
some_same o j k a b = cc

-- a list that loses its last page, where the number of its pages has a name
pub shrunk_at : (m n : Memory) (first count pages : ℕ) (p : Pair) (more : List Pair) (ts : List Table)
    → pages ≡ lists (count + 1) → lists count < lists (count + 1) → ListIn m first more ts → length ts ≡ count
    → length more + 1 ≡ lists (count + 1)
    → ((more : List Pair) (q : Pair) (ts : List Table) → ListIn m first (more ++ q ∷ []) ts → length more + 2 ≡ pages
    → p ≡ q)
    → ((more : List Pair) (q : Pair) (ts : List Table) → ListIn m first (more ++ q ∷ []) ts → length more + 2 ≡ pages
    → lists (length ts) ≤ length more + 1 → ListIn n first more ts × ListStays first more m n)
    → (p ∷ [] ≡ page_gone count more) × ListIn n first (less_pages count more) ts × ListStays first more m n
shrunk_at m n first count pages p more ts named less list long fits last pop =
    shrunk m n first count p more ts less list long fits (λ us q vs l z. last us q vs l (cc))
    (λ us q vs l z few. pop us q vs l (cc) few)

-- a page that may be none, as a slice
pub page_list-slice : (o : Option Pair) (ps : List Pair) → MatchOption o (ps ≡ []) (λ p. ps ≡ p ∷ []) → ps ≡ page_list o
page_list-slice None ps e = e
page_list-slice (Some p) ps e = e
