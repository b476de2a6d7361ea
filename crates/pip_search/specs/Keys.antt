-- The keys of visits, and the labels that were found.
use Rattle.std.specs.Prelude.{◌≡◌, ℕ, List, [], ◌∷◌, map, length, Some, slice_get}
use Rattle.pip_search.specs.Naming.{AreNamed}
use Rattle.pip_search.specs.Packing.{packed_key, unpacked_key}
use Rattle.pip_search.specs.Collapsing.{AreCollapsed, keys_in}
use Rattle.pip_search.specs.declared.key_store.KeyStore.{KeyStore}
use Rattle.pip_search.specs.declared.hash_table.HashTable.{HashTable}
use Rattle.pip_search.specs.declared.searching.Search.{Search}
use Rattle.pip_search.specs.declared.visits.Visit.{Visit}
use Rattle.pip_search.specs.declared.found.Found.{Found}

-- a visit with its key, as bytes
pub record Keyed : Type 0 where
  pub key : List ℕ
  pub parent : ℕ
  pub choice : ℕ
  pub depth : ℕ
  pub run : ℕ

-- a visit and its key
abbrev pub keyed_visit : List ℕ → Visit → Keyed
keyed_visit key v = record { key = key; parent = v.parent; choice = v.choice; depth = v.depth; run = v.run }

-- visits and their keys
unfoldable pub keyed_visits : List (List ℕ) → List Visit → List Keyed
keyed_visits [] vs = []
keyed_visits (key ∷ keys) [] = []
keyed_visits (key ∷ keys) (v ∷ vs) = keyed_visit key v ∷ keyed_visits keys vs

-- the visits of a search, with their keys
abbrev pub visits_of : Search → List Keyed
visits_of s = keyed_visits (keys_in s.store) s.visits.items

-- a visit without its key
abbrev pub step_of : Keyed → Visit
step_of v = record { parent = v.parent; choice = v.choice; depth = v.depth; run = v.run }

-- visits without their keys
abbrev pub steps_of : List Keyed → List Visit
steps_of vs = map step_of vs

-- the key of a visit, which was kept as bytes
abbrev pub key_of : Keyed → List ℕ
key_of v = unpacked_key v.key

-- the keys of visits
abbrev pub keys : List Keyed → List (List ℕ)
keys vs = map key_of vs

-- the keys of visits as bytes
abbrev pub key_bytes : List Keyed → List (List ℕ)
key_bytes vs = map (λ v. v.key) vs

-- visits have as many keys, no two of which are the same, and each is found by its hash
pub record HaveKeys (vs : List Visit) (x : KeyStore) (table : HashTable) : Type 0 where
  pub stored : AreCollapsed x
  pub count : length (keys_in x) ≡ length vs
  pub named : AreNamed (keys_in x) table

-- each visit keeps the bytes of its key, and no other bytes of the same words
abbrev pub AreKept : List Keyed → Type 0
AreKept vs = (j : ℕ) (v : Keyed) → slice_get vs j ≡ Some v → packed_key (key_of v) ≡ v.key

-- these are the words of the key of visit i
abbrev pub IsAtHand : List Keyed → ℕ → List ℕ → Type 0
IsAtHand vs i words = (v : Keyed) → slice_get vs i ≡ Some v → words ≡ key_of v

-- the labels that were found
abbrev pub labels : List Found → List (List ℕ)
labels fs = map (λ f. f.label.items) fs
