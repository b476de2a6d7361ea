-- Visits with their keys, and without them.
use Rattle.std.proofs.Common.{◌≡◌, ℕ, zero, suc, List, [], ◌∷◌, ◌++◌, length, Some, slice_get}
use Rattle.std.proofs.Common.{refl, sym, ◌∙◌, arith}
use Rattle.std.proofs.lemmas.List.{map-append}
use Rattle.pip_search.specs.Keys.{HaveKeys, IsAtHand, Keyed, key_bytes, keyed_visit, keyed_visits, step_of, steps_of}
use Rattle.pip_search.specs.Keys.{visits_of}
use Rattle.pip_search.specs.Packing.{unpacked_key}
use Rattle.pip_search.specs.Collapsing.{keys_in}
use Rattle.pip_search.specs.declared.searching.Search.{Search}
use Rattle.pip_search.specs.declared.visits.Visit.{Visit}

-- ---- visits with as many keys

pub steps_are : (ks : List (List ℕ)) (vs : List Visit) → length ks ≡ length vs → steps_of (keyed_visits ks vs) ≡ vs
unfolding keyed_visits
steps_are [] [] count = refl
steps_are [] (v ∷ vs) count = absurd (omega arith)
steps_are (key ∷ ks) [] count = absurd (omega arith)
steps_are (key ∷ ks) (v ∷ vs) count = rw (steps_are ks vs (omega arith))

pub bytes_are : (ks : List (List ℕ)) (vs : List Visit) → length ks ≡ length vs → key_bytes (keyed_visits ks vs) ≡ ks
unfolding keyed_visits
bytes_are [] [] count = refl
bytes_are [] (v ∷ vs) count = absurd (omega arith)
bytes_are (key ∷ ks) [] count = absurd (omega arith)
bytes_are (key ∷ ks) (v ∷ vs) count = rw (bytes_are ks vs (omega arith))

pub keyed_count : (ks : List (List ℕ)) (vs : List Visit) → length ks ≡ length vs
    → length (keyed_visits ks vs) ≡ length vs
unfolding keyed_visits
keyed_count [] [] count = refl
keyed_count [] (v ∷ vs) count = absurd (omega arith)
keyed_count (key ∷ ks) [] count = absurd (omega arith)
keyed_count (key ∷ ks) (v ∷ vs) count = rw (keyed_count ks vs (omega arith))

pub keyed_at : (ks : List (List ℕ)) (vs : List Visit) (i : ℕ) (v : Visit) → length ks ≡ length vs
    → slice_get vs i ≡ Some v → (key : List ℕ) × (slice_get (keyed_visits ks vs) i ≡ Some (keyed_visit key v))
unfolding keyed_visits
keyed_at [] [] i v count at = absurd (cc)
keyed_at [] (w ∷ vs) i v count at = absurd (omega arith)
keyed_at (key ∷ ks) [] i v count at = absurd (omega arith)
keyed_at (key ∷ ks) (w ∷ vs) zero v count at = let same : w ≡ v = cc in
    (key, rw same)
keyed_at (key ∷ ks) (w ∷ vs) (suc i) v count at = keyed_at ks vs i v (omega arith) at

-- the key of a visit is the one at its place
pub own_key : (ks : List (List ℕ)) (vs : List Visit) (i : ℕ) (v : Keyed) → slice_get (keyed_visits ks vs) i ≡ Some v
    → slice_get ks i ≡ Some v.key
unfolding keyed_visits
own_key [] vs i v at = absurd (cc)
own_key (key ∷ ks) [] i v at = absurd (cc)
own_key (key ∷ ks) (w ∷ vs) zero v at = let same : keyed_visit key w ≡ v = cc in cc
own_key (key ∷ ks) (w ∷ vs) (suc i) v at = own_key ks vs i v at

-- one visit more
pub keyed_more : (ks : List (List ℕ)) (vs : List Visit) (key : List ℕ) (v : Visit) → length ks ≡ length vs
    → keyed_visits (ks ++ key ∷ []) (vs ++ v ∷ []) ≡ keyed_visits ks vs ++ keyed_visit key v ∷ []
unfolding keyed_visits
keyed_more [] [] key v count = refl
keyed_more [] (w ∷ vs) key v count = absurd (omega arith)
keyed_more (k ∷ ks) [] key v count = absurd (omega arith)
keyed_more (k ∷ ks) (w ∷ vs) key v count = rw (keyed_more ks vs key v (omega arith))

pub keyed_one : (ks : List (List ℕ)) (vs : List Visit) (key : List ℕ) (v : Visit) → ks ≡ key ∷ [] → vs ≡ v ∷ []
    → keyed_visits ks vs ≡ keyed_visit key v ∷ []
unfolding keyed_visits
keyed_one ks vs key v one only = rw (one, only)

pub steps_more : (vs : List Keyed) (v : Keyed) → steps_of (vs ++ v ∷ []) ≡ steps_of vs ++ step_of v ∷ []
steps_more vs v = map-append step_of vs (v ∷ [])

-- ---- the visits of a search

-- words that were unpacked from the bytes at a place are those of the visit there
pub at_hand : (s : Search) (i : ℕ) (bytes words : List ℕ) → slice_get (keys_in s.store) i ≡ Some bytes
    → words ≡ unpacked_key bytes → IsAtHand (visits_of s) i words
at_hand s i bytes words at is v there = rw (is, some_same (sym at ∙ own_key (keys_in s.store) s.visits.items i v there))
  where
    some_same : {x y : List ℕ} → Some x ≡ Some y → x ≡ y
    some_same e = cc

module _ (s : Search) (h : HaveKeys s.visits.items s.store s.keys) where
  pub all_steps : steps_of (visits_of s) ≡ s.visits.items
  all_steps = steps_are (keys_in s.store) s.visits.items h.count

  pub all_bytes : key_bytes (visits_of s) ≡ keys_in s.store
  all_bytes = bytes_are (keys_in s.store) s.visits.items h.count

  pub visit_count : length (visits_of s) ≡ length s.visits.items
  visit_count = keyed_count (keys_in s.store) s.visits.items h.count

  pub visit_at : (i : ℕ) (v : Visit) → slice_get s.visits.items i ≡ Some v
      → (key : List ℕ) × (slice_get (visits_of s) i ≡ Some (keyed_visit key v))
  visit_at i v at = keyed_at (keys_in s.store) s.visits.items i v h.count at
