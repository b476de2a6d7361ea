-- One more list that is found by its hash.
use Rattle.std.proofs.Common.{◌≡◌, ℕ, zero, suc, ◌<◌, inl, inr, List, [], ◌∷◌, ◌++◌, length}
use Rattle.std.proofs.Common.{length-append, map, Some, slice_get, refl, sym, ◌∙◌, arith}
use Rattle.std.proofs.Math.ListN.{get_or-append}
use Rattle.std.proofs.Math.Seq.{get_or-append_seam}
use Rattle.pip_search.specs.Cells.{HasHashes}
use Rattle.pip_search.specs.Naming.{AreNamed, IsAbsent, hash_of}
use Rattle.pip_search.specs.declared.hash_table.HashTable.{HashTable}
use Rattle.pip_search.proofs.Places.{get-back, get-below}

-- one more list, with its hash
pub named_more : (names : List (List ℕ)) (x y : HashTable) (name : List ℕ) (hash : ℕ) → AreNamed names x
    → hash ≡ hash_of x.seed name → IsAbsent names name → HasHashes y → y.hashes.items ≡ x.hashes.items ++ hash ∷ []
    → y.seed ≡ x.seed → AreNamed (names ++ name ∷ []) y
named_more names x y name hash n is none filled more same = record {
  filled = filled;
  count = rw (more, length-append x.hashes.items (hash ∷ []), n.count, ← length-append names (name ∷ []));
  hashed = λ j m e. elim (get-back names name j m e) [
    | inl old ↦ let b : j < length names = get-below names j m old in let q = n.count in
        rw (more, get_or-append x.hashes.items (hash ∷ []) 0 j (omega arith), n.hashed j m old, ← same)
    | inr new ↦ rw (more, new.0, ← n.count, get_or-append_seam x.hashes.items hash [] 0, is, ← new.1, ← same)
  ];
  distinct = λ i j m e f. elim (get-back names name i m e) [
    | inl old ↦ elim (get-back names name j m f) [
      | inl early ↦ n.distinct i j m old early
      | inr late ↦ absurd (none i (rw (← late.1) old))
    ]
    | inr new ↦ elim (get-back names name j m f) [
      | inl early ↦ absurd (none j (rw (← new.1) early))
      | inr late ↦ new.0 ∙ sym late.0
    ]
  ];
}

-- no list
pub none_named : (x : HashTable) → HasHashes x → x.hashes.items ≡ [] → AreNamed [] x
none_named x filled none = record {
  filled = filled;
  count = rw none;
  hashed = λ j m e. absurd (cc);
  distinct = λ i j m e f. absurd (cc);
}

-- ---- lists that are parts of others

module _ {X : Type 0} (f : X → List ℕ) where
  pub named_at : (xs : List X) (j : ℕ) (x : X) → slice_get xs j ≡ Some x → slice_get (map f xs) j ≡ Some (f x)
  named_at [] j x e = absurd (cc)
  named_at (y ∷ xs) zero x e = let same : y ≡ x = cc in rw same
  named_at (y ∷ xs) (suc j) x e = named_at xs j x e

  pub at_named : (xs : List X) (j : ℕ) (name : List ℕ) → slice_get (map f xs) j ≡ Some name → (x : X)
      × ((slice_get xs j ≡ Some x) × (f x ≡ name))
  at_named [] j name e = absurd (cc)
  at_named (y ∷ xs) zero name e = (y, (refl, cc))
  at_named (y ∷ xs) (suc j) name e = at_named xs j name e

  pub named_push : (xs : List X) (x : X) → map f (xs ++ x ∷ []) ≡ map f xs ++ f x ∷ []
  named_push [] x = refl
  named_push (y ∷ xs) x = rw (named_push xs x)

  -- one more of them, with its hash
  pub named_push_more : (xs ys : List X) (x y : HashTable) (one : X) (hash : ℕ) → AreNamed (map f xs) x
      → hash ≡ hash_of x.seed (f one) → IsAbsent (map f xs) (f one) → HasHashes y
      → y.hashes.items ≡ x.hashes.items ++ hash ∷ [] → y.seed ≡ x.seed → ys ≡ xs ++ one ∷ []
      → AreNamed (map f ys) y
  named_push_more xs ys x y one hash n is none filled more same whole =
      rw (whole, named_push xs one) (named_more (map f xs) x y (f one) hash n is none filled more same)
