-- Keys that are kept one after another.
use Rattle.std.proofs.Common.{◌≡◌, ℕ, zero, suc, ◌+◌, ◌-◌, ◌*◌, ◌/◌, ◌<◌, ◌≤◌, inl, inr, List, [], ◌∷◌, ◌++◌, length}
use Rattle.std.proofs.Common.{Some, slice_get, refl, ap, ap₂, sym, subst, ◌∙◌, arith, get_or, drop, length-append}
use Rattle.std.specs.Prelude.{slice_range}
use Rattle.std.proofs.lemmas.Bool.{cases_lt}
use Rattle.std.proofs.lemmas.List.{drop-append-le, length-drop, take-append-le}
use Rattle.std.proofs.Math.ListN.{get_or-append}
use Rattle.std.proofs.Math.Seq.{drop-append_seam, get_or-append_seam, take-length}
use Rattle.pip_search.specs.Storing.{AreEnds, HasOpenBlock, IsStored, ends_from, ends_of, listed, listed_from}
use Rattle.pip_search.specs.declared.byte_lists.ByteLists.{ByteLists}

pub none_listed : (start : ℕ) (bytes : List ℕ) → listed_from start bytes [] ≡ []
unfolding listed_from
none_listed start bytes = refl

pub listed_count : (start : ℕ) (bytes ends : List ℕ) → length (listed_from start bytes ends) ≡ length ends
unfolding listed_from
listed_count start bytes [] = refl
listed_count start bytes (end ∷ ends) = rw (listed_count end bytes ends)

-- ---- the key at a place

pub listed_at : (start : ℕ) (bytes ends : List ℕ) (i : ℕ) → i < length ends
    → slice_get (listed_from start bytes ends) i
    ≡ Some (slice_range bytes (get_or (start ∷ ends) i 0) (get_or ends i 0))
unfolding listed_from
listed_at start bytes [] i low = absurd (omega arith)
listed_at start bytes (end ∷ ends) zero low = refl
listed_at start bytes (end ∷ ends) (suc i) low = listed_at end bytes ends i (omega arith)

-- it ends after it begins, and where there are bytes
pub end_rises : (start : ℕ) (ends : List ℕ) (last i : ℕ) → AreEnds start ends last → i < length ends
    → get_or (start ∷ ends) i 0 ≤ get_or ends i 0
end_rises start [] last i h low = absurd (omega arith)
end_rises start (end ∷ ends) last zero h low = h.0
end_rises start (end ∷ ends) last (suc i) h low = end_rises end ends last i h.1 (omega arith)

start_low : (start : ℕ) (ends : List ℕ) (last : ℕ) → AreEnds start ends last → start ≤ last
start_low start [] last h = omega arith
start_low start (end ∷ ends) last h = omega (arith, start_low end ends last h.1)

pub end_low : (start : ℕ) (ends : List ℕ) (last i : ℕ) → AreEnds start ends last → i < length ends
    → get_or ends i 0 ≤ last
end_low start [] last i h low = absurd (omega arith)
end_low start (end ∷ ends) last zero h low = start_low end ends last h.1
end_low start (end ∷ ends) last (suc i) h low = end_low end ends last i h.1 (omega arith)

-- ---- one key more

range_more : (bytes more : List ℕ) (start end : ℕ) → start ≤ end → end ≤ length bytes
    → slice_range (bytes ++ more) start end ≡ slice_range bytes start end
range_more bytes more start end rise low =
    let rest : length (drop start bytes) ≡ length bytes - start = length-drop start bytes in
    rw (
      drop-append-le start bytes more (omega arith),
      take-append-le (end - start) (drop start bytes) more
          (omega arith),
    )

range_new : (bytes more : List ℕ) → slice_range (bytes ++ more) (length bytes) (length bytes + length more) ≡ more
range_new bytes more =
    let count : length bytes + length more - length bytes ≡ length more = omega arith in
    rw (drop-append_seam bytes more, count, take-length more)

pub listed_more : (start : ℕ) (bytes ends more : List ℕ) → AreEnds start ends (length bytes)
    → listed_from start (bytes ++ more) (ends ++ (length bytes + length more) ∷ [])
    ≡ listed_from start bytes ends ++ more ∷ []
unfolding listed_from
listed_more start bytes [] more h = rw (h, range_new bytes more)
listed_more start bytes (end ∷ ends) more h =
    let low = start_low end ends (length bytes) h.1 in
    rw (range_more bytes more start end h.0 low, listed_more end bytes ends more h.1)

ends_more : (start : ℕ) (ends : List ℕ) (last next : ℕ) → AreEnds start ends last → last ≤ next
    → AreEnds start (ends ++ next ∷ []) next
ends_more start [] last next h rise = (omega arith, refl)
ends_more start (end ∷ ends) last next h rise = (h.0, ends_more end ends last next h.1 rise)

-- ---- blocks

pub ends_count : (place : ℕ) (blocks ends : List ℕ) → length (ends_from place blocks ends) ≡ length ends
unfolding ends_from
ends_count place blocks [] = refl
ends_count place blocks (end ∷ ends) = rw (ends_count (place + 1) blocks ends)

pub ends_at : (place : ℕ) (blocks ends : List ℕ) (i : ℕ) → i < length ends
    → get_or (ends_from place blocks ends) i 0 ≡ get_or blocks ((place + i) / 64) 0 + get_or ends i 0
unfolding ends_from
ends_at place blocks [] i low = absurd (omega arith)
ends_at place blocks (end ∷ ends) zero low =
    let here : place ≡ place + 0 = omega arith in cc
ends_at place blocks (end ∷ ends) (suc i) low =
    let there : place + 1 + i ≡ place + suc i = omega arith in
    rw (ends_at (place + 1) blocks ends i (omega arith), there)

-- one block more
ends_later : (place : ℕ) (blocks more ends : List ℕ) → place + length ends ≤ 64 * length blocks
    → ends_from place (blocks ++ more) ends ≡ ends_from place blocks ends
unfolding ends_from
ends_later place blocks more [] low = refl
ends_later place blocks more (end ∷ ends) low =
    let there : place / 64 < length blocks = omega arith in
    ap₂ (λ n ns. (n + end) ∷ ns) (get_or-append blocks more 0 (place / 64) there)
    (ends_later (place + 1) blocks more ends (omega arith))

-- one end more
ends_push : (place : ℕ) (blocks ends : List ℕ) (end : ℕ) → ends_from place blocks (ends ++ end ∷ [])
    ≡ ends_from place blocks ends ++ (get_or blocks ((place + length ends) / 64) 0 + end) ∷ []
unfolding ends_from
ends_push place blocks [] end =
    let here : place ≡ place + 0 = omega arith in cc
ends_push place blocks (first ∷ ends) end =
    let there : place + 1 + length ends ≡ place + suc (length ends) = omega arith in
    rw (ends_push (place + 1) blocks ends end, there)

last_end : (start : ℕ) (ends : List ℕ) (last : ℕ) → AreEnds start ends last
    → get_or (start ∷ ends) (length ends) 0 ≡ last
last_end start [] last h = h
last_end start (end ∷ ends) last h = last_end end ends last h.1

starts_low : (start : ℕ) (ends : List ℕ) (last i : ℕ) → AreEnds start ends last → i ≤ length ends
    → get_or (start ∷ ends) i 0 ≤ last
starts_low start ends last zero h low = start_low start ends last h
starts_low start ends last (suc i) h low = end_low start ends last i h (omega arith)

-- where a block begins there are bytes, or they end
pub block_low : (x : ByteLists) (k : ℕ) → IsStored x → k < length x.blocks.items
    → get_or x.blocks.items k 0 ≤ length x.bytes.items
block_low x k h low =
    let count = ends_count 0 x.blocks.items x.ends.items in
    let within : 64 * k ≤ length (ends_of x) = omega arith in
    omega (arith, h.blocks k low, starts_low 0 (ends_of x) (length x.bytes.items) (64 * k) h.ends within)

-- the end of a key, by its block
module _ (x : ByteLists) (i : ℕ) (h : IsStored x) (low : i < length x.ends.items) where
  pub its_block : i / 64 < length x.blocks.items
  its_block = omega arith

  pub its_end : get_or (ends_of x) i 0 ≡ get_or x.blocks.items (i / 64) 0 + get_or x.ends.items i 0
  its_end = let here : 0 + i ≡ i = omega arith in
      rw (ends_at 0 x.blocks.items x.ends.items i low, here)

  pub its_end_low : get_or (ends_of x) i 0 ≤ length x.bytes.items
  its_end_low = end_low 0 (ends_of x) (length x.bytes.items) i h.ends
      (omega (arith, ends_count 0 x.blocks.items x.ends.items))

-- a store has room, and the keys that it had
pub record HasOpened (x y : ByteLists) : Type 0 where
  pub stored : IsStored y
  pub room : HasOpenBlock y
  pub same : listed y ≡ listed x

-- after a block was begun where the bytes end
module _ (x y : ByteLists) (h : IsStored x) (full : length x.ends.items / 64 ≡ length x.blocks.items)
    (bytes : y.bytes ≡ x.bytes) (blocks : y.blocks.items ≡ x.blocks.items ++ length x.bytes.items ∷ [])
    (ends : y.ends ≡ x.ends) where
  all : length x.ends.items ≡ 64 * length x.blocks.items
  all = omega arith

  same_ends : ends_of y ≡ ends_of x
  same_ends = ap₂ (ends_from 0) blocks (rw ends)
      ∙ ends_later 0 x.blocks.items (length x.bytes.items ∷ []) x.ends.items (omega arith)

  one_more : length y.blocks.items ≡ length x.blocks.items + 1
  one_more = rw (blocks, length-append x.blocks.items (length x.bytes.items ∷ []))

  as_many : length y.ends.items ≡ length x.ends.items
  as_many = rw ends

  begins : (k : ℕ) → k < length y.blocks.items → get_or y.blocks.items k 0 ≡ get_or (0 ∷ ends_of y) (64 * k) 0
  begins k low = elim (cases_lt k (length x.blocks.items)) [
    | inl less ↦ simp (
      blocks,
      get_or-append x.blocks.items (length x.bytes.items ∷ []) 0 k less,
      h.blocks k less,
      ←
          same_ends,
    )
    | inr most ↦
        let m = one_more in
        let last : k ≡ length x.blocks.items = omega arith in
        let count = ends_count 0 x.blocks.items x.ends.items in
        let a = all in
        let there : length (ends_of x) ≡ 64 * k = omega arith in
        ap (λ ns. get_or ns k 0) blocks ∙ ap (λ n. get_or (x.blocks.items ++ length x.bytes.items ∷ []) n 0) last
        ∙ get_or-append_seam x.blocks.items (length x.bytes.items) [] 0
        ∙ sym (last_end 0 (ends_of x) (length x.bytes.items) h.ends)
        ∙ ap (λ n. get_or (0 ∷ ends_of x) n 0) there ∙ ap (λ ns. get_or (0 ∷ ns) (64 * k) 0) (sym same_ends)
  ]

  pub block_opened : HasOpened x y
  block_opened = let a = all in let m = one_more in let n = as_many in record {
    stored = record {
      ends = rw same_ends (subst (λ v. AreEnds 0 (ends_of x) (length v.items)) (sym bytes) h.ends);
      enough = (omega arith, omega arith);
      blocks = begins;
    };
    room = omega arith;
    same = ap₂ (λ v es. listed_from 0 v.items es) bytes same_ends;
  }

-- there is room where not all blocks are full
pub has_room : (x : ByteLists) → IsStored x → (length x.ends.items / 64 ≡ length x.blocks.items → ⊥) → HasOpenBlock x
has_room x h other = elim (cases_lt (length x.ends.items) (64 * length x.blocks.items)) [
  | inl less ↦ less
  | inr most ↦
      let e = h.enough.0 in
      let full : length x.ends.items / 64 ≡ length x.blocks.items = omega arith in
      absurd (other full)
]

-- a store has a key more
pub record HasAdded (x y : ByteLists) (key : List ℕ) : Type 0 where
  pub stored : IsStored y
  pub added : listed y ≡ listed x ++ key ∷ []

-- after a key was added, by its bytes and its end
module _ (x y : ByteLists) (key : List ℕ) (end : ℕ) (h : IsStored x) (room : HasOpenBlock x)
    (bytes : y.bytes.items ≡ x.bytes.items ++ key) (blocks : y.blocks ≡ x.blocks)
    (ends : y.ends.items ≡ x.ends.items ++ end ∷ [])
    (is : end ≡ length y.bytes.items - get_or x.blocks.items (length x.ends.items / 64) 0) where
  whole : length y.bytes.items ≡ length x.bytes.items + length key
  whole = rw (bytes, length-append x.bytes.items key)

  all_ends : ends_of y ≡ ends_of x ++ (length x.bytes.items + length key) ∷ []
  all_ends =
      let n = length x.ends.items in
      let here : 0 + n ≡ n = omega arith in
      let low = block_low x (n / 64) h (omega arith) in
      let w = whole in
      let sum : get_or x.blocks.items (n / 64) 0 + end ≡ length x.bytes.items + length key =
      omega arith in
      rw (ap₂ (λ v es. ends_from 0 v.items es) blocks ends, ends_push 0 x.blocks.items x.ends.items end, here, sum)

  more_ends : length y.ends.items ≡ length x.ends.items + 1
  more_ends = rw (ends, length-append x.ends.items (end ∷ []))

  begins_still : (k : ℕ) → k < length y.blocks.items → get_or y.blocks.items k 0 ≡ get_or (0 ∷ ends_of y) (64 * k) 0
  begins_still k low =
      let old : k < length x.blocks.items = rw (← blocks) low in
      let count = ends_count 0 x.blocks.items x.ends.items in
      let e = h.enough.1 in
      let within : 64 * k < suc (length (ends_of x)) = omega arith in
      simp (
        blocks,
        h.blocks k old,
        ← get_or-append (0 ∷ ends_of x) ((length x.bytes.items + length key) ∷ []) 0
            (64 * k) within,
        ← all_ends,
      )

  pub key_added : HasAdded x y key
  key_added = record {
    stored = record {
      ends = rw all_ends (subst (λ n. AreEnds 0 (ends_of x ++ n ∷ []) (length y.bytes.items)) whole
          (ends_more 0 (ends_of x) (length x.bytes.items) (length y.bytes.items) h.ends
          (let w = whole in omega arith)));
      enough =
          let e = h.enough.1 in
          let m = more_ends in
          let b : length y.blocks.items ≡ length x.blocks.items = rw blocks in
          (omega arith, omega arith);
      blocks = begins_still;
    };
    added = ap₂ (listed_from 0) bytes all_ends ∙ listed_more 0 x.bytes.items (ends_of x) key h.ends;
  }

-- a store has as many keys as ends
pub key_count : (x : ByteLists) → length (listed x) ≡ length x.ends.items
key_count x = listed_count 0 x.bytes.items (ends_of x) ∙ ends_count 0 x.blocks.items x.ends.items

-- ---- no keys

none_ended : (blocks : List ℕ) → ends_from 0 blocks [] ≡ []
unfolding ends_from
none_ended blocks = refl

module _ (x : ByteLists) (ends : x.ends.items ≡ []) where
  none : ends_of x ≡ []
  none = rw (ends, none_ended x.blocks.items)

  pub none_kept : listed x ≡ []
  none_kept = rw (none, none_listed 0 x.bytes.items)

  pub none_stored : x.bytes.items ≡ [] → x.blocks.items ≡ [] → IsStored x
  none_stored bytes blocks =
      let b : length x.blocks.items ≡ 0 = rw blocks in
      let e : length x.ends.items ≡ 0 = rw ends in
      record {
        ends = rw none (sym (ap length bytes));
        enough = (omega arith, omega arith);
        blocks = λ k low. absurd (omega arith);
      }
