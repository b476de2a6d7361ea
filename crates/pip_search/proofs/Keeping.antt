-- Keys that are kept as bytes, and lists that are found by name.
use Rattle.std.proofs.Common.{◌≡◌, ℕ, List, [], ◌∷◌, inl, inr, Some, None, slice_get, ap, sym, subst, ◌∙◌}
use Rattle.std.specs.Prelude.{Option, MatchOption, is_some, true, false}
use Rattle.pip_search.specs.Growing.{Grew, HasKey, HasLabel, WasVisited}
use Rattle.pip_search.specs.Keys.{AreKept, Keyed, key_bytes, key_of, keys, labels}
use Rattle.pip_search.specs.Naming.{AreDistinct, IsAbsent}
use Rattle.pip_search.specs.Packing.{packed_key, unpacked_key}
use Rattle.pip_search.specs.declared.found.Found.{Found}
use Rattle.pip_search.proofs.Places.{get-back}
use Rattle.pip_search.proofs.Walking.{at_named, named_at}

-- ---- what a search by name says

module _ (names : List (List ℕ)) (name : List ℕ) where
  pub is_there : (r : Option ℕ) → MatchOption r (IsAbsent names name) (λ j. slice_get names j ≡ Some name)
      → is_some r ≡ true → (j : ℕ) × (slice_get names j ≡ Some name)
  is_there None h e = absurd (cc)
  is_there (Some j) h e = (j, h)

  pub is_absent : (r : Option ℕ) → MatchOption r (IsAbsent names name) (λ j. slice_get names j ≡ Some name)
      → is_some r ≡ false → IsAbsent names name
  is_absent None h e = h
  is_absent (Some j) h e = absurd (cc)

pub has_key : (vs : List Keyed) (key : List ℕ) → (j : ℕ) × (slice_get (key_bytes vs) j ≡ Some key) → HasKey vs key
has_key vs key (j, e) = let (v, (at, same)) = at_named (λ (v : Keyed). v.key) vs j key e in
    record { place = j; at = record { visit = v; at = at; same = same } }

pub has_label : (fs : List Found) (label : List ℕ) → (j : ℕ) × (slice_get (labels fs) j ≡ Some label)
    → HasLabel fs label
has_label fs label (j, e) = let (f, (at, same)) = at_named (λ (f : Found). f.label.items) fs j label e in
    record { place = j; at = record { found = f; at = at; same = same } }

-- ---- keys as bytes

-- bytes of a key are those of their own words
pub kept_bytes : (key bytes : List ℕ) → bytes ≡ packed_key key → unpacked_key bytes ≡ key
    → packed_key (unpacked_key bytes) ≡ bytes
kept_bytes key bytes packed words = rw (words, ← packed)

pub kept_more : (vs ws : List Keyed) (bytes : List ℕ) (parent choice depth run : ℕ) → AreKept vs
    → packed_key (unpacked_key bytes) ≡ bytes → Grew vs ws bytes parent choice depth run → AreKept ws
kept_more vs ws bytes parent choice depth run h is (inl keeps) = rw keeps.same h
kept_more vs ws bytes parent choice depth run h is (inr adds) = rw adds.whole
    (λ j v e. elim (get-back vs adds.visit j v e) [
      | inl old ↦ h j v old
      | inr new ↦ subst
          (λ y. packed_key (key_of y) ≡ y.key) (sym new.1)
          (subst (λ k. packed_key (unpacked_key k) ≡ k) (sym adds.key_is) is)
    ])

pub kept_one : (v : Keyed) → packed_key (key_of v) ≡ v.key → AreKept (v ∷ [])
kept_one v is j u e = elim (get-back [] v j u e) [
  | inl old ↦ absurd (cc)
  | inr new ↦ rw new.1 is
]

-- visits with distinct bytes have distinct keys
pub distinct_keys : (vs : List Keyed) → AreKept vs → AreDistinct (key_bytes vs) → AreDistinct (keys vs)
distinct_keys vs kept distinct i j key e f =
    let (u, (at, is)) = at_named key_of vs i key e in
    let (v, (bt, js)) = at_named key_of vs j key f in
    let first : slice_get (key_bytes vs) i ≡ Some (packed_key key) = rw
    (named_at (λ (w : Keyed). w.key) vs i u at, ← kept i u at, is) in
    let other : slice_get (key_bytes vs) j ≡ Some (packed_key key) = rw
    (named_at (λ (w : Keyed). w.key) vs j v bt, ← kept j v bt, js) in
    distinct i j (packed_key key) first other

-- a key whose bytes are absent is absent
pub absent_key : (vs : List Keyed) (bytes key : List ℕ) → AreKept vs → bytes ≡ packed_key key
    → IsAbsent (key_bytes vs) bytes → IsAbsent (keys vs) key
absent_key vs bytes key kept is absent j e =
    let (u, (at, same)) = at_named key_of vs j key e in
    absent j (rw (named_at (λ (w : Keyed). w.key) vs j u at, ← kept j u at, same, ← is))

-- the words of a visit are those of its key
pub kept_words : (vs : List Keyed) (i : ℕ) (v : Keyed) {words : List ℕ} → AreKept vs → slice_get vs i ≡ Some v
    → words ≡ key_of v → WasVisited vs words
kept_words vs i v kept at is =
    let same = ap packed_key is ∙ kept i v at in
    record {
      has = record { place = i; at = record { visit = v; at = at; same = sym same } };
      back = rw (same, ← is);
    }
