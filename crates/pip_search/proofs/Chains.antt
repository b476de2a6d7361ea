-- Chains of hashes, one more at a time.
use Rattle.std.proofs.Common.{◌≡◌, ◌≢◌, ℕ, zero, suc, ◌+◌, ◌<◌, ◌≤◌, ◌%◌, inl, inr, List, [], ◌∷◌, ◌++◌, length, refl}
use Rattle.std.proofs.Common.{ap, sym, subst, ◌∙◌, arith, add-one, get_or, set, get_or-set_same, get_or-set_other}
use Rattle.std.proofs.lemmas.Bool.{cases_eq, cases_lt}
use Rattle.std.proofs.Math.ListN.{length-set, replicate, get_or-append}
use Rattle.std.proofs.lemmas.Bool.Decides.{nat_tests}
use Rattle.std.proofs.lemmas.List.{get_or-replicate}
use Rattle.pip_search.specs.Filing.{AreLinked, IsFiled, last_below}
use Rattle.pip_search.specs.declared.index.Index.{Index}

pub last_same : (hashes : List ℕ) (n r k : ℕ) → get_or hashes k 0 % n ≡ r → last_below hashes n r (suc k) ≡ suc k
unfolding last_below
last_same hashes n r k e = grind (arith, nat_tests)

pub last_other : (hashes : List ℕ) (n r k : ℕ) → get_or hashes k 0 % n ≢ r
    → last_below hashes n r (suc k) ≡ last_below hashes n r k
unfolding last_below
last_other hashes n r k e = grind (arith, nat_tests)

-- the one that is found is below k
pub last_le : (hashes : List ℕ) (n r k : ℕ) → last_below hashes n r k ≤ k
unfolding last_below
last_le hashes n r zero = omega arith
last_le hashes n r (suc k) = let h = last_le hashes n r k in elim (cases_eq (get_or hashes k 0 % n) r) [
  | inl e ↦ omega (arith, last_same hashes n r k e)
  | inr e ↦ omega (arith, last_other hashes n r k e)
]

-- its hash leaves the rest
pub last_rest : (hashes : List ℕ) (n r k p : ℕ) → last_below hashes n r k ≡ p + 1 → get_or hashes p 0 % n ≡ r
unfolding last_below
last_rest hashes n r zero p h = absurd (omega arith)
last_rest hashes n r (suc k) p h = elim (cases_eq (get_or hashes k 0 % n) r) [
  | inl e ↦ let l = last_same hashes n r k e in let same : p ≡ k = omega arith in rw same e
  | inr e ↦ last_rest hashes n r k p (rw (← last_other hashes n r k e) h)
]

-- and none between it and k leaves the rest
pub last_gap : (hashes : List ℕ) (n r k j : ℕ) → last_below hashes n r k ≤ j → j < k → get_or hashes j 0 % n ≢ r
unfolding last_below
last_gap hashes n r zero j a b = absurd (omega arith)
last_gap hashes n r (suc k) j a b = elim (cases_eq (get_or hashes k 0 % n) r) [
  | inl e ↦ absurd (omega (arith, last_same hashes n r k e))
  | inr e ↦ elim (cases_lt j k) [
    | inl less ↦ last_gap hashes n r k j (omega (arith, last_other hashes n r k e)) less
    | inr most ↦ let same : j ≡ k = omega arith in rw same e
  ]
]

pub last_more : (hashes more : List ℕ) (n r k : ℕ) → k ≤ length hashes
    → last_below (hashes ++ more) n r k ≡ last_below hashes n r k
unfolding last_below
last_more hashes more n r zero h = refl
last_more hashes more n r (suc k) h = rw
    (get_or-append hashes more 0 k (omega arith), last_more hashes more n r k (omega arith))

-- ---- one more hash is linked

module _ (hashes chains heads : List ℕ) (k : ℕ) (below : k < length hashes) (count : length chains ≡ length hashes)
    (some : 0 < length heads) (l : AreLinked hashes chains heads k) where
  abbrev rest : ℕ
  rest = get_or hashes k 0 % length heads

  rest_lt : rest < length heads
  rest_lt = omega arith

  heads_then : (r : ℕ) → r < length heads → get_or (set heads rest (k + 1)) r 0 ≡ last_below hashes (length heads) r
      (k + 1)
  heads_then r h = elim (cases_eq r rest) [
    | inl e ↦ rw e (cc (
      get_or-set_same heads rest (k + 1) 0 rest_lt,
      add-one k,
      last_same hashes (length heads) rest k
          refl,
      add-one k,
    ))
    | inr e ↦ rw (
      get_or-set_other heads rest r (k + 1) 0 e,
      l.heads_are r h,
      ← last_other hashes (length heads) r k
          (λ f. e (sym f)),
      ← add-one k,
    )
  ]

  chains_then : (j : ℕ) → j < k + 1 → get_or (set chains k (get_or heads rest 0)) j 0 ≡ last_below hashes
      (length heads) (get_or hashes j 0 % length heads) j
  chains_then j h = elim (cases_eq j k) [
    | inl e ↦ rw e (get_or-set_same chains k (get_or heads rest 0) 0 (omega arith) ∙ l.heads_are rest rest_lt)
    | inr e ↦ get_or-set_other chains k j (get_or heads rest 0) 0 e ∙ l.chains_are j (omega arith)
  ]

  pub link_step : AreLinked hashes (set chains k (get_or heads rest 0)) (set heads rest (k + 1)) (k + 1)
  link_step = let e : length (set heads rest (k + 1)) ≡ length heads = length-set heads rest (k + 1) in record {
    heads_are = λ r h. rw e (heads_then r (omega (arith, e, h)));
    chains_are = λ j h. rw e (chains_then j h);
  }

-- ---- no hash is linked

pub none_linked : (hashes chains heads : List ℕ) (n : ℕ) → heads ≡ replicate n 0 → length heads ≡ n
    → AreLinked hashes chains heads 0
unfolding last_below
none_linked hashes chains heads n is count = record {
  heads_are = λ r h. rw is (get_or-replicate n r 0 0 (omega arith));
  chains_are = λ j h. absurd (omega arith);
}

-- ---- there is a hash more, not linked yet

pub linked_more : (hashes chains heads : List ℕ) (h c : ℕ) → length chains ≡ length hashes
    → AreLinked hashes chains heads (length hashes) → AreLinked (hashes ++ h ∷ []) (chains ++ c ∷ []) heads
    (length hashes)
linked_more hashes chains heads h c count l = record {
  heads_are = λ r a. cc (l.heads_are r a, last_more hashes (h ∷ []) (length heads) r (length hashes) (omega arith));
  chains_are = λ j a. rw (
    get_or-append chains (c ∷ []) 0 j (omega arith),
    l.chains_are j a,
    ← last_more hashes
        (h ∷ []) (length heads) (get_or hashes j 0 % length heads) j (omega arith),
    ← get_or-append hashes (h ∷ []) 0 j
        a,
  );
}

pub linked_at : (hashes chains heads : List ℕ) (h c : ℕ) {hs cs hd : List ℕ} {k : ℕ} → hs ≡ hashes ++ h ∷ []
    → cs ≡ chains ++ c ∷ [] → hd ≡ heads → k ≡ length hashes → length chains ≡ length hashes
    → AreLinked hashes chains heads (length hashes) → AreLinked hs cs hd k
linked_at hashes chains heads h c is_hashes is_chains is_heads is_length count l =
    rw (is_hashes, is_chains, is_heads, is_length) (linked_more hashes chains heads h c count l)

pub none_filed : (x : Index) (n : ℕ) → 0 < n → n ≤ 16 → x.hashes.items ≡ [] → x.chains.items ≡ []
    → x.heads.items ≡ replicate n 0 → length x.heads.items ≡ n → IsFiled x
none_filed x n some few no_hash no_chain zeros count = record {
  some = omega arith;
  load = omega (arith, ap length no_hash);
  spare = omega arith;
  count = cc;
  linked = subst (λ k. AreLinked x.hashes.items x.chains.items x.heads.items k) (cc)
      (none_linked x.hashes.items x.chains.items x.heads.items n zeros count);
}
