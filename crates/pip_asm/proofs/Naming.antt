-- A name more, in the table and in the map.
use Rattle.std.specs.Prelude.{◌≡◌, ◌≢◌, ℕ, zero, suc, ◌+◌, ◌*◌, ◌-◌, ◌%◌, ◌^◌, ◌<◌, ◌≤◌, ◌==◌, ◌||◌}
use Rattle.std.specs.Prelude.{if◌then◌else◌, Bool, true, false, List, [], ◌∷◌, ◌++◌, Option, Some, None, bit_xor, drop}
use Rattle.std.specs.Prelude.{is_some, length, replicate, set, slice_get, take, refl}
use Rattle.std.specs.BTreeMap.{BTreeMap}
use Rattle.std.specs.Str.{bytes_eq}
use Rattle.std.proofs.Common.{sym, ◌∙◌, Bor, arith, add-one, get_or, inl, inr, eq-eqb, ne_eqb, length-set}
use Rattle.std.proofs.Math.Seq.{drop-cons}
use Rattle.std.proofs.lemmas.Bool.{and_right, cases_eq, eqb-true, or_right}
use Rattle.std.proofs.lemmas.Grind.{common_steps}
use Rattle.std.proofs.lemmas.List.{drop_all}
use Rattle.std.proofs.lemmas.Option.{none-some, slice_get-get_or}
use Rattle.std.proofs.lemmas.Slice.Eq.{bytes_eq-Decides}
use Rattle.pip_model.specs.Assembly.{with_name}
use Rattle.pip_asm.specs.Names.{IsKept, address_at, first_there, found_in, has_free, has_room, home_of, in_map}
use Rattle.pip_asm.specs.Names.{address_of_name, in_table, is_free, is_name_at, mark_of, hash_on}
use Rattle.pip_asm.specs.declared.names.Addresses.{Addresses}
use Rattle.pip_asm.specs.declared.names.NameSlot.{NameSlot}

-- ---- a place that changes

get-set_same : (xs : List NameSlot) (k : ℕ) (x : NameSlot) → k < length xs → slice_get (set xs k x) k ≡ Some x
get-set_same [] k x h = absurd (omega arith)
get-set_same (y ∷ ys) zero x h = refl
get-set_same (y ∷ ys) (suc k) x h = get-set_same ys k x (omega arith)

get-set_other : (xs : List NameSlot) (k i : ℕ) (x : NameSlot) → i ≢ k → slice_get (set xs k x) i ≡ slice_get xs i
get-set_other [] k i x ne = refl
get-set_other (y ∷ ys) zero zero x ne = absurd (ne refl)
get-set_other (y ∷ ys) zero (suc i) x ne = refl
get-set_other (y ∷ ys) (suc k) zero x ne = refl
get-set_other (y ∷ ys) (suc k) (suc i) x ne = get-set_other ys k i x (λ e. ne (rw e))

-- another name stays where it is
pub found-set : (xs : List NameSlot) (k : ℕ) (x : NameSlot) (mark : ℕ) (t : List ℕ) → k < length xs
    → address_at mark t (slice_get xs k) ≡ None → address_at mark t (Some x) ≡ None → (i n : ℕ)
    → found_in (set xs k x) mark t i n ≡ found_in xs mark t i n
unfolding found_in
found-set xs k x mark t h was is i zero = refl
found-set xs k x mark t h was is i (suc n) =
    let rest = found-set xs k x mark t h was is (i + 1) n in
    elim (cases_eq i k) [
      | inl e ↦ cc (get-set_same xs k x h)
      | inr ne ↦ rw (get-set_other xs k i x ne, rest)
    ]

-- where the first isn't there, it is the second
first_none : (a b : Option ℕ) → first_there a b ≡ None → (a ≡ None) × (b ≡ None)
first_none None b e = (refl, e)
first_none (Some x) b e = absurd (none-some x (sym e))

-- the new name is found at its place
pub found-new : (xs : List NameSlot) (k : ℕ) (x : NameSlot) (mark a : ℕ) (t : List ℕ) → k < length xs
    → address_at mark t (Some x) ≡ Some a → (i n : ℕ) → i ≤ k → k < i + n → found_in xs mark t i n ≡ None
    → found_in (set xs k x) mark t i n ≡ Some a
unfolding found_in
found-new xs k x mark a t h is i zero low high none = absurd (omega arith)
found-new xs k x mark a t h is i (suc n) low high none =
    let (here, later) = first_none (address_at mark t (slice_get xs i)) (found_in xs mark t (i + 1) n) none in
    elim (cases_eq i k) [
      | inl e ↦ rw (e, get-set_same xs k x h, is)
      | inr ne ↦ rw (
        get-set_other xs k i x ne,
        here,
        found-new xs k x mark a t h is (i + 1) n (omega arith)
            (omega arith) later,
      )
    ]

or_more : (a b c : Bool) → (b ≡ true → c ≡ true) → (a || b) ≡ true → (a || c) ≡ true
or_more true b c f e = refl
or_more false b c f e = f e

-- a place that is taken makes no room
pub free-set : (xs : List NameSlot) (k : ℕ) (x : NameSlot) → k < length xs → is_free (Some x) ≡ false → (i n : ℕ)
    → has_free (set xs k x) i n ≡ true → has_free xs i n ≡ true
unfolding has_free
free-set xs k x h taken i zero free = free
free-set xs k x h taken i (suc n) free =
    elim (cases_eq i k) [
      | inl e ↦
          let same : slice_get (set xs k x) i ≡ Some x = rw e (get-set_same xs k x h) in
          or_right _ _ (free-set xs k x h taken (i + 1) n (rw (same, taken) at free))
      | inr ne ↦ or_more _ _ _ (free-set xs k x h taken (i + 1) n) (rw (get-set_other xs k i x ne) at free)
    ]

-- there is room where one of the places is free
pub free-here : (xs : List NameSlot) (k : ℕ) → is_free (slice_get xs k) ≡ true → (i n : ℕ) → i ≤ k → k < i + n
    → has_free xs i n ≡ true
unfolding has_free
free-here xs k free i zero low high = absurd (omega arith)
free-here xs k free i (suc n) low high = elim (cases_eq i k) [
  | inl e ↦ rw (e, free)
  | inr ne ↦ or_right _ _ (free-here xs k free (i + 1) n (omega arith) (omega arith))
]

-- a free place has no name
pub free-none : (mark : ℕ) (t : List ℕ) (o : Option NameSlot) → mark ≢ 0 → is_free o ≡ true → address_at mark t o ≡ None
free-none mark t None ne e = refl
free-none mark t (Some s) ne e =
    rw (ne_eqb s.mark mark (λ q. ne (cc (eqb-true s.mark 0 e))))

-- another name isn't at a place
pub other-none : (mark m a : ℕ) (name t : List ℕ) → bytes_eq name t ≡ false → (s : NameSlot) → s.name.now ≡ name
    → address_at mark t (Some s) ≡ None
other-none mark m a name t ne s is = rw (is, ne, and_right (s.mark == mark) false refl)

-- the name of a place is there
pub own-there : (mark : ℕ) (t : List ℕ) (s : NameSlot) → s.mark ≡ mark → s.name.now ≡ t
    → address_at mark t (Some s) ≡ Some s.address
own-there mark t s e is = rw (eq-eqb s.mark mark e, is, (bytes_eq-Decides t t).1 refl)

-- ---- a table of free places

-- no name is found where all places are free
pub found-none : (size : ℕ) (s : NameSlot) (mark : ℕ) (t : List ℕ) → mark ≢ 0 → s.mark ≡ 0 → (i n : ℕ)
    → found_in (replicate size s) mark t i n ≡ None
unfolding found_in
found-none size s mark t ne free i zero = refl
found-none size s mark t ne free i (suc n) =
    rw (go size i, found-none size s mark t ne free (i + 1) n)
  where
    go : (size i : ℕ) → address_at mark t (slice_get (replicate size s) i) ≡ None
    go zero i = refl
    go (suc size) zero = free-none mark t (Some s) ne (eq-eqb s.mark 0 free)
    go (suc size) (suc i) = go size i

-- ---- loops

-- the hash after one more byte
pub mixed-next : (hash i : ℕ) (t : List ℕ) → i < length t
    → hash_on hash (drop i t) ≡ hash_on ((bit_xor hash (get_or t i 0) * 0x9e3779b97f4a7c15) % 2 ^ 64) (drop (i + 1) t)
unfolding hash_on
mixed-next hash i t h = rw (drop-cons t i 0 h, ← add-one i)

-- the hash after all bytes
pub mixed-end : (hash i : ℕ) (t : List ℕ) → length t ≤ i → hash_on hash (drop i t) ≡ hash
unfolding hash_on
mixed-end hash i t h = rw (drop_all i t h)

-- a place that has the name ends the search
pub found-here : (xs : List NameSlot) (mark : ℕ) (t : List ℕ) (i n : ℕ) (d : NameSlot) → i < length xs → i < n
    → is_name_at mark t (get_or xs i d) ≡ true → found_in xs mark t i (n - i) ≡ Some (get_or xs i d).address
unfolding found_in
found-here xs mark t i n d h low is =
    let e : n - i ≡ suc (n - (i + 1)) = omega arith in
    rw (e, slice_get-get_or xs i d h, is)

-- another doesn't
pub found-next : (xs : List NameSlot) (mark : ℕ) (t : List ℕ) (i n : ℕ) (d : NameSlot) → i < length xs → i < n
    → is_name_at mark t (get_or xs i d) ≡ false → found_in xs mark t i (n - i) ≡ found_in xs mark t (i + 1)
    (n - (i + 1))
unfolding found_in
found-next xs mark t i n d h low is =
    let e : n - i ≡ suc (n - (i + 1)) = omega arith in
    rw (e, slice_get-get_or xs i d h, is)

pub found-end : (xs : List NameSlot) (mark : ℕ) (t : List ℕ) (i n : ℕ) → n ≤ i → found_in xs mark t i (n - i) ≡ None
unfolding found_in
found-end xs mark t i n h = let e : n - i ≡ 0 = omega arith in rw e

-- a place that isn't free
pub free-next : (xs : List NameSlot) (i n : ℕ) (d : NameSlot) → i < length xs → i < n → (get_or xs i d).mark ≢ 0
    → has_free xs i (n - i) ≡ has_free xs (i + 1) (n - (i + 1))
unfolding has_free
free-next xs i n d h low taken =
    let e : n - i ≡ suc (n - (i + 1)) = omega arith in
    rw (e, slice_get-get_or xs i d h, ne_eqb (get_or xs i d).mark 0 taken)

pub free-end : (xs : List NameSlot) (i n : ℕ) → n ≤ i → has_free xs i (n - i) ≡ false
unfolding has_free
free-end xs i n h = let e : n - i ≡ 0 = omega arith in rw e

pub free-there : (xs : List NameSlot) (i : ℕ) (d : NameSlot) → i < length xs → (get_or xs i d).mark ≡ 0
    → is_free (slice_get xs i) ≡ true
free-there xs i d h free = rw (slice_get-get_or xs i d h, eq-eqb (get_or xs i d).mark 0 free)

-- ---- the names as a function

mark-positive : (hash : ℕ) → mark_of hash ≢ 0
unfolding mark_of
mark-positive hash e = omega arith

home-set : (xs : List NameSlot) (k : ℕ) (x : NameSlot) (hash : ℕ) → home_of (set xs k x) hash ≡ home_of xs hash
unfolding home_of
home-set xs k x hash = rw (length-set xs k x)

-- what a look at the table answers
pub table_found : (n : Addresses) (t : List ℕ) (xs ys : List NameSlot) (hash mark home : ℕ) (r : Option ℕ)
    → hash ≡ hash_on n.seed t → mark ≡ mark_of hash → xs ≡ n.slots.items → home ≡ home_of xs hash → ys ≡ n.slots.items
    → r ≡ found_in ys mark t home 8 → r ≡ in_table n t
table_found n t xs ys hash mark home r h m x o y e = cc

-- no name has an address in a table of free places and an empty map
pub none_named : (n : Addresses) (size : ℕ) (s : NameSlot) → n.slots.items ≡ replicate size s → s.mark ≡ 0
    → n.others.entries ≡ [] → address_of_name n ≡ (λ _. None)
unfolding address_of_name
none_named n size s e free empty = λ i t. at t i
  where
    at : (t : List ℕ) → address_of_name n t ≡ None
    at t = rw (e, found-none size s (mark_of (hash_on n.seed t)) t (mark-positive (hash_on n.seed t)) free, empty)

-- a name that is found in the table has an address
pub named-found : (n : Addresses) (t : List ℕ) (r : Option ℕ) → r ≡ in_table n t → is_some r ≡ true
    → is_some (address_of_name n t) ≡ true
unfolding address_of_name
named-found n t r e h = grind (arith, e, h)

-- what find answers
pub named-table : (n : Addresses) (t : List ℕ) (r : Option ℕ) (a : ℕ) → r ≡ in_table n t → r ≡ Some a
    → Some a ≡ address_of_name n t
unfolding address_of_name
named-table n t r a e h = cc

pub named-map : (n : Addresses) (t : List ℕ) (r : Option ℕ) → r ≡ in_table n t → r ≡ None
    → in_map n.others t ≡ address_of_name n t
unfolding address_of_name
named-map n t r e h = cc

-- ---- a name more

-- the names with one at a free place of the table
pub record IsPlaced (n : Addresses) (t : Bor (List ℕ)) (i mark a : ℕ) : Type 0 where
  pub kept : IsKept n
  pub marked : mark ≡ mark_of (hash_on n.seed t.now)
  pub none : in_table n t.now ≡ None
  pub inside : i < length n.slots.items
  pub low : home_of n.slots.items (hash_on n.seed t.now) ≤ i
  pub high : i < home_of n.slots.items (hash_on n.seed t.now) + 8
  pub free : is_free (slice_get n.slots.items i) ≡ true

module _ (n : Addresses) (t : Bor (List ℕ)) (i mark a : ℕ) (p : IsPlaced n t i mark a) where
  slot : NameSlot
  slot = record { mark = mark; address = a; name = t }

  slots : List NameSlot
  slots = set n.slots.items i slot

  taken : is_free (Some slot) ≡ false
  unfolding slot
  taken = ne_eqb mark 0 (λ e. mark-positive (hash_on n.seed t.now) (cc (p.marked)))

  pub place-fresh : address_of_name n t.now ≡ None
  unfolding address_of_name
  place-fresh = rw p.none
      (p.kept.others t.now (free-here n.slots.items i p.free
      (home_of n.slots.items (hash_on n.seed t.now)) 8 p.low p.high))

  -- a map and a table with the name
  pub place-kept : (m : Addresses) → m.seed ≡ n.seed → m.slots.items
      ≡ set n.slots.items i (record { mark = mark; address = a; name = t }) → m.others ≡ n.others → IsKept m
  unfolding slot slots
  place-kept m seed items others = record {
    room = rw (items, length-set) p.kept.room;
    others = λ u room. rw others (p.kept.others u (free-set n.slots.items i slot p.inside taken _ 8
        (rw (items, seed, home-set n.slots.items i slot) at room)));
  }

  pub place-added : (m : Addresses) → m.seed ≡ n.seed
      → m.slots.items ≡ set n.slots.items i (record { mark = mark; address = a; name = t }) → m.others ≡ n.others
      → address_of_name m ≡ with_name t.now a (address_of_name n)
  unfolding address_of_name slot slots
  place-added m seed items others = λ j u. at u j
    where
      in_new : (u : List ℕ)
          → in_table m u ≡ found_in slots (mark_of (hash_on n.seed u)) u (home_of n.slots.items (hash_on n.seed u)) 8
      in_new u =
          rw (seed, items, home-set n.slots.items i slot (hash_on n.seed u))

      own : in_table m t.now ≡ Some a
      own =
          in_new t.now
          ∙ found-new n.slots.items i slot (mark_of (hash_on n.seed t.now)) a t.now p.inside
          (own-there (mark_of (hash_on n.seed t.now)) t.now slot p.marked refl)
          (home_of n.slots.items (hash_on n.seed t.now)) 8 p.low p.high p.none

      other : (u : List ℕ) → bytes_eq t.now u ≡ false → in_table m u ≡ in_table n u
      other u ne =
          in_new u
          ∙ found-set n.slots.items i slot (mark_of (hash_on n.seed u)) u p.inside
          (free-none (mark_of (hash_on n.seed u)) u
          (slice_get n.slots.items i) (mark-positive (hash_on n.seed u)) p.free)
          (other-none (mark_of (hash_on n.seed u)) mark a t.now u ne slot refl)
          (home_of n.slots.items (hash_on n.seed u)) 8

      at : (u : List ℕ) → address_of_name m u ≡ with_name t.now a (address_of_name n) u
      at u = go (bytes_eq t.now u) refl
        where
          go : (b : Bool) → bytes_eq t.now u ≡ b → first_there (in_table m u) (in_map m.others u)
              ≡ (if b then Some a else first_there (in_table n u) (in_map n.others u))
          go true e =
              let same : t.now ≡ u = (bytes_eq-Decides t.now u).0 e in
              rw (← same, own)
          go false e = rw (others, other u e)

-- the map with a name for which the table has no room
pub record IsPut (n : Addresses) (t : Bor (List ℕ)) (a : ℕ) (others : BTreeMap (Bor (List ℕ)) ℕ) : Type 0 where
  pub kept : IsKept n
  pub none : in_table n t.now ≡ None
  pub full : has_room n t.now ≡ false
  pub update : (u : List ℕ) → in_map others u ≡ (if bytes_eq t.now u then Some a else in_map n.others u)

module _ (n : Addresses) (t : Bor (List ℕ)) (a : ℕ) (others : BTreeMap (Bor (List ℕ)) ℕ) (p : IsPut n t a others) where
  pub put-kept : IsKept (record n { others = others })
  put-kept = record {
    room = p.kept.room;
    others = λ u room. p.update u ∙ go u room (bytes_eq t.now u) refl;
  }
    where
      go : (u : List ℕ) → has_room n u ≡ true → (b : Bool) → bytes_eq t.now u ≡ b
          → (if b then Some a else in_map n.others u) ≡ None
      go u room true e = let same : t.now ≡ u = (bytes_eq-Decides t.now u).0 e in absurd (cc p.full)
      go u room false e = p.kept.others u room

  pub put-added : address_of_name (record n { others = others }) ≡ with_name t.now a (address_of_name n)
  unfolding address_of_name
  put-added = λ j u. at u j
    where
      at : (u : List ℕ) → address_of_name (record n { others = others }) u ≡ with_name t.now a (address_of_name n) u
      at u = rw (p.update u, go (bytes_eq t.now u) refl)
        where
          go : (b : Bool) → bytes_eq t.now u ≡ b → first_there (in_table n u) (if b then Some a else in_map n.others u)
              ≡ (if b then Some a else first_there (in_table n u) (in_map n.others u))
          go true e = rw (← (bytes_eq-Decides t.now u).0 e, p.none)
          go false e = refl

-- a name that isn't in the table has the address that the map says
pub named-both : (n : Addresses) (t : List ℕ) (o : Option ℕ) → in_table n t ≡ None → in_map n.others t ≡ o
    → address_of_name n t ≡ o
unfolding address_of_name
named-both n t o none e = rw (none, e)

pub none_there : (o : Option ℕ) → is_some o ≡ false → o ≡ None
none_there None e = refl
none_there (Some x) e = cc

-- a vector that had no place is filled with one
pub resized : (old new : List NameSlot) (n m : ℕ) (s : NameSlot) → old ≡ [] → m ≡ 0
    → new ≡ take n old ++ replicate (n - m) s
    → new ≡ replicate n s
resized old new n m s none zero_long e = rw (e, none, zero_long) (grind (arith, common_steps))
