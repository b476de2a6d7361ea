-- Keys by the numbers of their blocks.
use Rattle.std.proofs.Common.{◌≡◌, ◌≢◌, ℕ, zero, suc, ◌+◌, ◌-◌, ◌^◌, ◌<◌, ◌≤◌, List, [], ◌∷◌, ◌++◌, refl, ap, ◌∙◌}
use Rattle.std.proofs.Common.{arith, length, Some, slice_get, All, take, get_or, map, append-nil, append_assoc}
use Rattle.std.proofs.Common.{add-one, length-append}
use Rattle.std.proofs.lemmas.List.{append_cancel_left, length-take-le, map-append, take-append-le, take_at}
use Rattle.std.proofs.lemmas.List.Elements.{All-cons, All-head, All-nil, All-push, All-tail}
use Rattle.std.proofs.lemmas.Option.{get_or_from_slice_get, slice_get-map}
use Rattle.std.proofs.Math.ListN.{get_or-append}
use Rattle.std.proofs.Math.Seq.{take-append-add, take-append_seam, take-nil}
use Rattle.pip_search.specs.Collapsing.{AddsNumber, AreCollapsed, IsByBlocks, IsEntryOf, IsExtended, IsKeyByBlocks}
use Rattle.pip_search.specs.Collapsing.{IsKeyEntry, blocks_of, joined_blocks, key_of_entry, key_of_words, keys_in}
use Rattle.pip_search.specs.Packing.{packed_word, unpacked_key, word_with}
use Rattle.pip_search.specs.Storing.{listed}
use Rattle.pip_search.specs.declared.key_store.KeyStore.{KeyStore}
use Rattle.pip_search.proofs.Packed.{last_bits, word_back, words_none}
use Rattle.pip_search.proofs.Places.{get-below}

pub joined_none : (blocks : List (List ℕ)) → joined_blocks blocks [] ≡ []
unfolding joined_blocks
joined_none blocks = refl

pub joined_next : (blocks : List (List ℕ)) (n : ℕ) (ns b : List ℕ) → slice_get blocks n ≡ Some b
    → joined_blocks blocks (n ∷ ns) ≡ b ++ joined_blocks blocks ns
unfolding joined_blocks
joined_next blocks n ns b at = rw (get_or_from_slice_get blocks n b [] at)

-- one block more at the end
joined_push : (blocks : List (List ℕ)) (ns : List ℕ) (n : ℕ) (b : List ℕ) → slice_get blocks n ≡ Some b
    → joined_blocks blocks (ns ++ n ∷ []) ≡ joined_blocks blocks ns ++ b
unfolding joined_blocks
joined_push blocks [] n b at = joined_next blocks n [] b at ∙ append-nil b
joined_push blocks (m ∷ ns) n b at =
    let front = get_or blocks m [] in
    rw (joined_push blocks ns n b at, ← append_assoc front (joined_blocks blocks ns) b)

pub all_next : (count n : ℕ) (ns : List ℕ) → All (λ k. k < count) (n ∷ ns) → All (λ k. k < count) ns
all_next count n ns h = All-tail (λ k. k < count) n ns h

pub key_of_count : (blocks : List (List ℕ)) (n : ℕ) (ns : List ℕ)
    → key_of_words blocks (n ∷ ns) ≡ take (n - 1) (joined_blocks blocks ns)
unfolding key_of_words
key_of_count blocks n ns = refl

-- the first word is one more than the length
key_of_most : (blocks : List (List ℕ)) (most : ℕ) (ns : List ℕ)
    → key_of_words blocks (suc most ∷ ns) ≡ take most (joined_blocks blocks ns)
key_of_most blocks most ns = let less : suc most - 1 ≡ most = omega arith in
    rw (key_of_count blocks (suc most) ns, less)

-- ---- an entry

pub whole_key : (blocks : List (List ℕ)) (bytes : List ℕ) → key_of_entry blocks (0 ∷ bytes) ≡ bytes
unfolding key_of_entry
whole_key blocks bytes = refl

pub block_key : (blocks : List (List ℕ)) (entry : List ℕ) → IsKeyEntry blocks entry
    → ((bytes : List ℕ) → entry ≢ 0 ∷ bytes)
    → IsByBlocks blocks entry × (key_of_entry blocks entry ≡ key_of_words blocks (unpacked_key entry))
unfolding key_of_entry
block_key blocks [] h other = absurd h
block_key blocks (zero ∷ bytes) h other = absurd (other bytes refl)
block_key blocks (suc b ∷ bytes) h other = (h, refl)

no_word : (bytes : List ℕ) → unpacked_key (0 ∷ bytes) ≡ 0 ∷ unpacked_key bytes
unfolding word_with
no_word bytes = last_bits 0 0 bytes (omega arith)

-- an entry by blocks is that of its key
pub made_entry : (blocks : List (List ℕ)) (key entry : List ℕ) → IsKeyByBlocks blocks key entry
    → IsEntryOf blocks key entry
unfolding key_of_entry
made_entry blocks key [] h = absurd (let e = h.by.back in let n = words_none 0 in cc)
made_entry blocks key (zero ∷ bytes) h = absurd (let e = h.by.back in let n = no_word bytes in cc)
made_entry blocks key (suc b ∷ bytes) h = record { made = h.by; is = h.is }

pub whole_entry : (blocks : List (List ℕ)) (key : List ℕ) → IsEntryOf blocks key (0 ∷ key)
whole_entry blocks key = record { made = tt; is = whole_key blocks key }

module _ (x : KeyStore) (i : ℕ) (entry : List ℕ) (at : slice_get (listed x.entries) i ≡ Some entry) where
  pub key_at : slice_get (keys_in x) i ≡ Some (key_of_entry (blocks_of x.blocks) entry)
  key_at = rw (slice_get-map (key_of_entry (blocks_of x.blocks)) (listed x.entries) i, at)

  pub is_entry : AreCollapsed x → IsKeyEntry (blocks_of x.blocks) entry
  is_entry h = rw (← get_or_from_slice_get (listed x.entries) i entry [] at)
      (h.entries i [] (get-below (listed x.entries) i entry at))

  -- the key of an entry that has it whole
  pub whole_at : (bytes : List ℕ) → entry ≡ 0 ∷ bytes → slice_get (keys_in x) i ≡ Some bytes
  whole_at bytes is =
      rw (key_at, is, whole_key (blocks_of x.blocks) bytes)

  -- the key of another one
  pub blocks_at : AreCollapsed x → ((bytes : List ℕ) → entry ≢ 0 ∷ bytes) → IsByBlocks (blocks_of x.blocks) entry
      × (slice_get (keys_in x) i ≡ Some (key_of_words (blocks_of x.blocks) (unpacked_key entry)))
  blocks_at h other =
      let (by, is) = block_key (blocks_of x.blocks) entry (is_entry h) other in
      (by, rw (key_at, is))

-- ---- a key that is compared

-- the bytes of these blocks begin with these
abbrev pub Begins : List (List ℕ) → List ℕ → List ℕ → Type 0
Begins blocks bytes ns = take (length bytes) (joined_blocks blocks ns) ≡ bytes

pub key_begins : (blocks : List (List ℕ)) (key words : List ℕ) (n : ℕ) (ns : List ℕ) → words ≡ n ∷ ns
    → n - 1 ≡ length key → key_of_words blocks words ≡ take (length key) (joined_blocks blocks ns)
key_begins blocks key words n ns is long = rw (is, key_of_count blocks n ns, long)

-- how long the key of an entry is
pub key_length : (blocks : List (List ℕ)) (entry : List ℕ) (n : ℕ) (ns : List ℕ) → IsByBlocks blocks entry
    → unpacked_key entry ≡ n ∷ ns → length (key_of_words blocks (unpacked_key entry)) ≡ n - 1
key_length blocks entry n ns h is =
    let same : suc h.most ≡ n = let e = h.back in cc in
    let rest : h.numbers ≡ ns = let e = h.back in cc in
    let long : n - 1 ≤ length (joined_blocks blocks ns) = rw (← rest) (omega arith) in
    rw (is, key_of_count blocks n ns, length-take-le (n - 1) (joined_blocks blocks ns) long)

module _ (blocks : List (List ℕ)) (n : ℕ) (words ns b : List ℕ) (is : words ≡ n ∷ ns)
    (at : slice_get blocks n ≡ Some b) where
  next_block : joined_blocks blocks words ≡ b ++ joined_blocks blocks ns
  next_block = rw (is, joined_next blocks n ns b at)

  -- fewer bytes than a block has
  pub begins_last : (rest : List ℕ) → length rest ≤ length b
      → take (length rest) (joined_blocks blocks words) ≡ take (length rest) b
  begins_last rest low = rw (next_block, take-append-le (length rest) b (joined_blocks blocks ns) low)

  module _ (rest front after : List ℕ) (whole : rest ≡ front ++ after) where
    begins_front : length front ≡ length b
        → take (length rest) (joined_blocks blocks words) ≡ b ++ take (length after) (joined_blocks blocks ns)
    begins_front long =
        let all = length-append front after in
        let count : length rest ≡ length b + length after = rw (whole, all, long) in
        rw (count, next_block, take-append-add b (joined_blocks blocks ns) (length after))

    -- a block that is the next one
    pub begins_more : front ≡ b → Begins blocks after ns → Begins blocks rest words
    begins_more same h = rw (begins_front (ap length same), h, ← same, ← whole)

    pub begins_back : front ≡ b → Begins blocks rest words → Begins blocks after ns
    begins_back same h = append_cancel_left b (take (length after) (joined_blocks blocks ns)) after
        (rw (← begins_front (ap length same), h, whole, same))

    -- no other one is
    pub begins_same : length front ≡ length b → Begins blocks rest words → front ≡ b
    begins_same long h =
        let more = take (length after) (joined_blocks blocks ns) in
        let e : b ++ more ≡ front ++ after = rw (← begins_front long, h, whole) in
        rw (← take_at front after (length b) long, ← e, take_at b more (length b) refl)

-- no blocks
pub begins_none : (blocks : List (List ℕ)) (rest ns : List ℕ) → ns ≡ []
    → take (length rest) (joined_blocks blocks ns) ≡ []
begins_none blocks rest ns none = rw (none, joined_none blocks, take-nil (length rest))

-- ---- an entry that is made

-- an entry has a count and the numbers of blocks that have these bytes
pub record IsBegun (blocks : List (List ℕ)) (count : ℕ) (bytes entry : List ℕ) : Type 0 where
  pub numbers : List ℕ
  pub back : (more : List ℕ) → unpacked_key (entry ++ more) ≡ suc count ∷ (numbers ++ unpacked_key more)
  pub low : All (λ n. n < length blocks) numbers
  pub joined : joined_blocks blocks numbers ≡ bytes

pub begun_none : (blocks : List (List ℕ)) (count : ℕ) (entry : List ℕ) → count + 1 < 2 ^ 32
    → entry ≡ packed_word (count + 1) → IsBegun blocks count [] entry
begun_none blocks count entry low is = record {
  numbers = [];
  back = λ more. rw (is, word_back (count + 1) more low, add-one count);
  low = All-nil (λ n. n < length blocks);
  joined = joined_none blocks;
}

joined_extended : (blocks rest : List (List ℕ)) (ns : List ℕ) → All (λ n. n < length blocks) ns
    → joined_blocks (blocks ++ rest) ns ≡ joined_blocks blocks ns
unfolding joined_blocks
joined_extended blocks rest [] low = refl
joined_extended blocks rest (n ∷ ns) low =
    let here : get_or (blocks ++ rest) n [] ≡ get_or blocks n [] = get_or-append blocks rest [] n
    (All-head (λ k. k < length blocks) n ns low) in
    let there = joined_extended blocks rest ns (all_next (length blocks) n ns low) in
    rw (here, there)

low_extended : (blocks rest : List (List ℕ)) (ns : List ℕ) → All (λ n. n < length blocks) ns
    → All (λ n. n < length (blocks ++ rest)) ns
low_extended blocks rest ns low k d here =
    omega (arith, low k d here, length-append blocks rest)

begun_extended : (blocks more : List (List ℕ)) (count : ℕ) (bytes entry : List ℕ) → IsExtended blocks more
    → IsBegun blocks count bytes entry → IsBegun more count bytes entry
begun_extended blocks more count bytes entry e h = rw e.whole (record {
  numbers = h.numbers;
  back = h.back;
  low = low_extended blocks e.rest h.numbers h.low;
  joined = joined_extended blocks e.rest h.numbers h.low ∙ h.joined;
})

begun_next : (blocks : List (List ℕ)) (count : ℕ) (bytes block entry next : List ℕ) → IsBegun blocks count bytes entry
    → AddsNumber blocks block entry next → IsBegun blocks count (bytes ++ block) next
begun_next blocks count bytes block entry next h a = record {
  numbers = h.numbers ++ a.number ∷ [];
  back = λ more.
      let w = packed_word a.number in
      rw (
        a.packed,
        append_assoc entry w more,
        h.back (w ++ more),
        word_back a.number more a.fits,
        ← append_assoc
            h.numbers (a.number ∷ []) (unpacked_key more),
      );
  low = All-push (λ n. n < length blocks) h.numbers a.number h.low (get-below blocks a.number block a.at);
  joined = rw (joined_push blocks h.numbers a.number block a.at, h.joined);
}

-- one block more, of blocks that may be more
pub begun_more : (blocks more : List (List ℕ)) (count : ℕ) (bytes block entry next : List ℕ) → IsExtended blocks more
    → IsBegun blocks count bytes entry → AddsNumber more block entry next → IsBegun more count (bytes ++ block) next
begun_more blocks more count bytes block entry next e h a = begun_next more count bytes block entry next
    (begun_extended blocks more count bytes entry e h) a

-- the blocks have the key, and maybe more after it
pub begun_done : (blocks : List (List ℕ)) (key rest bytes entry : List ℕ) → IsBegun blocks (length key) bytes entry
    → bytes ≡ key ++ rest → IsKeyByBlocks blocks key entry
begun_done blocks key rest bytes entry h is =
    let joined : joined_blocks blocks h.numbers ≡ key ++ rest = h.joined ∙ is in
    let back : unpacked_key entry ≡ suc (length key) ∷ h.numbers =
    rw (← append-nil entry, h.back [], words_none 0, append-nil h.numbers) in
    record {
      by = record {
        most = length key;
        numbers = h.numbers;
        back = back;
        low = h.low;
        long = rw joined (omega (arith, length-append key rest));
      };
      is = rw (back, key_of_most blocks (length key) h.numbers, joined, take-append_seam key rest);
    }

-- ---- entries, and more blocks

pub extended_again : (a b c : List (List ℕ)) → IsExtended a b → IsExtended b c → IsExtended a c
extended_again a b c e f = record {
  rest = e.rest ++ f.rest;
  whole = rw (f.whole, e.whole, append_assoc a e.rest f.rest);
}

by_extended : (blocks rest : List (List ℕ)) (entry : List ℕ) → IsByBlocks blocks entry
    → IsByBlocks (blocks ++ rest) entry
    × (key_of_words (blocks ++ rest) (unpacked_key entry) ≡ key_of_words blocks (unpacked_key entry))
by_extended blocks rest entry h =
    let same = joined_extended blocks rest h.numbers h.low in
    let all : (x : List (List ℕ)) → key_of_words x (unpacked_key entry) ≡ take h.most (joined_blocks x h.numbers) =
    λ x. rw (h.back, key_of_most x h.most h.numbers) in (
      record {
        most = h.most;
        numbers = h.numbers;
        back = h.back;
        low = low_extended blocks rest h.numbers h.low;
        long = rw same h.long;
      },
      rw (all (blocks ++ rest), same, ← all blocks),
    )

entry_extended : (blocks rest : List (List ℕ)) (entry : List ℕ) → IsKeyEntry blocks entry
    → IsKeyEntry (blocks ++ rest) entry × (key_of_entry (blocks ++ rest) entry ≡ key_of_entry blocks entry)
unfolding key_of_entry
entry_extended blocks rest [] h = absurd h
entry_extended blocks rest (zero ∷ bytes) h = (tt, refl)
entry_extended blocks rest (suc b ∷ bytes) h = by_extended blocks rest (suc b ∷ bytes) h

entries_extended : (blocks rest : List (List ℕ)) (es : List (List ℕ)) → All (IsKeyEntry blocks) es
    → All (IsKeyEntry (blocks ++ rest)) es
    × (map (key_of_entry (blocks ++ rest)) es ≡ map (key_of_entry blocks) es)
entries_extended blocks rest [] h = (All-nil (IsKeyEntry (blocks ++ rest)), refl)
entries_extended blocks rest (e ∷ es) h =
    let (here, key) = entry_extended blocks rest e (All-head (IsKeyEntry blocks) e es h) in
    let (there, keys) = entries_extended blocks rest es (All-tail (IsKeyEntry blocks) e es h) in
    (All-cons (IsKeyEntry (blocks ++ rest)) e es here there, cc)

-- one entry more
pub entries_more : (blocks more : List (List ℕ)) (es new : List (List ℕ)) (key entry : List ℕ) → IsExtended blocks more
    → All (IsKeyEntry blocks) es → IsEntryOf more key entry → new ≡ es ++ entry ∷ []
    → All (IsKeyEntry more) new × (map (key_of_entry more) new ≡ map (key_of_entry blocks) es ++ key ∷ [])
entries_more blocks more es new key entry e h made grew =
    let (all, same) = rw (← e.whole) at (entries_extended blocks e.rest es h) in (
      rw grew (All-push (IsKeyEntry more) es entry all made.made),
      rw (grew, map-append (key_of_entry more) es (entry ∷ []), same, made.is),
    )
