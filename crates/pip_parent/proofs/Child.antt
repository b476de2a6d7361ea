-- The child that is being built: what it holds, and how p sees it.
use Rattle.std.proofs.Common.{◌≡◌, ◌≢◌, ℕ, zero, suc, ◌+◌, ◌≤◌, ◌<◌, ◌==◌, inl, inr, Bool, true, false, cond, List, []}
use Rattle.std.proofs.Common.{◌∷◌, ◌++◌, refl, sym, ap, ◌∙◌, subst, arith, eqb-true, Option, Some, None}
use Rattle.std.specs.Prelude.{flat_map}
use Rattle.std.proofs.lemmas.Bool.{eqb-false}
use Rattle.pip_base.specs.declared.types.Pair.{Pair}
use Rattle.pip_model.specs.Answers.{page_of, pair_at}
use Rattle.pip_model.specs.Lists.{In}
use Rattle.pip_model.specs.Tree.{Row, Tree, base_pairs, config, held_pages, pairs, row_at, row_pages, table_pairs}
use Rattle.pip_model.specs.Tree.{vpage}
use Rattle.pip_model.proofs.OnLists.Members.{In-append_cases, In-map_from, find_in, flat_append}
use Rattle.pip_model.proofs.Calls.Add.{insert-in}
use Rattle.pip_parent.specs.declared.wants.Want.{Want}
use Rattle.pip_parent.specs.Wants.{want_at, dir_of, earlier, opens, opened_before, pages_used, place}
use Rattle.pip_parent.specs.Pool.{pool_at}
use Rattle.pip_parent.specs.Built.{child_with, lists_more, more_of, pairs_from, want_row, want_rows, pool_table}
use Rattle.pip_parent.specs.Built.{tables_of}
use Rattle.pip_parent.proofs.Counting.{place_next, place_opens, used_before, used_least, used_within}

module _ (t : Tree) (p : ℕ) (pool : List ℕ) where
  -- a pair of the pool below a place
  abbrev pub IsPair : ℕ → Pair → Type 0
  IsPair bound g = (k : ℕ) × (k < bound) × (g ≡ pair_at t p (pool_at pool k))

  abbrev pub IsPage : ℕ → ℕ → Type 0
  IsPage bound g = (k : ℕ) × (k < bound) × (g ≡ page_of t p (pool_at pool k))

  more_pair : (a b : ℕ) (g : Pair) → a ≤ b → IsPair a g → IsPair b g
  more_pair a b g h (k, l, e) = (k, omega arith, e)

  pairs_in : (k n : ℕ) (g : Pair) → In g (pairs_from t p pool k n) → IsPair (k + n) g
  pairs_in k zero g i = absurd i
  pairs_in k (suc n) g (inl e) = (k, omega arith, e)
  pairs_in k (suc n) g (inr i) = more_pair (suc k + n) (k + suc n) g (omega arith) (pairs_in (suc k) n g i)

  table_in : (k i : ℕ) (g : Pair) → In g (table_pairs (pool_table t p pool k i)) → IsPair (k + 3) g
  table_in k i g (inl e) = (k, omega arith, e)
  table_in k i g (inr (inl e)) = (suc k, omega arith, e)
  table_in k i g (inr (inr (inl e))) = (suc (suc k), omega arith, e)
  table_in k i g (inr (inr (inr j))) = absurd j

  module _ (ws : List Want) where
    -- where want i opens a table, the places before its own
    tables_next : (i : ℕ) (g : Pair) → (In g (flat_map table_pairs (tables_of t p pool ws i))
        → IsPair (pages_used ws i) g)
        → In g (flat_map table_pairs (tables_of t p pool ws (suc i))) → IsPair (place ws i) g
    tables_next i g ih h = go (opens ws i) refl ih h
      where
        go : (b : Bool) → opens ws i ≡ b → (In g (flat_map table_pairs (tables_of t p pool ws i))
            → IsPair (pages_used ws i) g) → In g (flat_map table_pairs
            (cond b (tables_of t p pool ws i ++ pool_table t p pool
            (pages_used ws i) (dir_of (want_at ws i)) ∷ []) (tables_of t p pool ws i))) → IsPair (place ws i) g
        go false o ih h = more_pair (pages_used ws i) (place ws i) g (used_before ws i) (ih h)
        go true o ih h =
            let b = pool_table t p pool (pages_used ws i) (dir_of (want_at ws i)) in
            let e = place_opens ws i o in
            elim (In-append_cases g (flat_map table_pairs (tables_of t p pool ws i)) (flat_map table_pairs
            (b ∷ [])) (subst (In g) (flat_append table_pairs (tables_of t p pool ws i) (b ∷ [])) h)) [
              | inl j ↦ more_pair (pages_used ws i) (place ws i) g (used_before ws i) (ih j)
              | inr j ↦ more_pair (pages_used ws i + 3) (place ws i) g
                  (omega arith) (table_in (pages_used ws i) (dir_of (want_at ws i)) g j)
            ]

    tables_step : (i : ℕ) (g : Pair) → In g (flat_map table_pairs (tables_of t p pool ws i))
        → IsPair (pages_used ws i) g
    tables_step zero g i = absurd i
    tables_step (suc n) g i = let q = place_next ws n in
        more_pair (place ws n) (pages_used ws (suc n)) g (omega arith) (tables_next n g (tables_step n g) i)

    more_next : (i : ℕ) (g : Pair) → (In g (more_of t p pool ws i) → IsPair (pages_used ws i) g)
        → In g (more_of t p pool ws (suc i)) → IsPair (place ws i) g
    more_next i g ih h = go (opens ws i) refl ih h
      where
        go : (b : Bool) → opens ws i ≡ b → (In g (more_of t p pool ws i) → IsPair (pages_used ws i) g)
            → In g (cond b (more_of t p pool ws i ++ pairs_from t p pool (suc (suc (suc (pages_used ws i))))
            (lists_more (opened_before ws i))) (more_of t p pool ws i)) → IsPair (place ws i) g
        go false o ih h = more_pair (pages_used ws i) (place ws i) g (used_before ws i) (ih h)
        go true o ih h =
            let e = place_opens ws i o in
            elim (In-append_cases g (more_of t p pool ws i)
            (pairs_from t p pool (suc (suc (suc (pages_used ws i)))) (lists_more (opened_before ws i))) h) [
              | inl j ↦ more_pair (pages_used ws i) (place ws i) g (used_before ws i) (ih j)
              | inr j ↦ more_pair (suc (suc (suc (pages_used ws i))) + lists_more (opened_before ws i)) (place ws i) g
                  (omega arith) (pairs_in (suc (suc (suc (pages_used ws i)))) (lists_more (opened_before ws i)) g
                  j)
            ]

    more_step : (i : ℕ) (g : Pair) → In g (more_of t p pool ws i) → IsPair (pages_used ws i) g
    more_step zero g i = absurd i
    more_step (suc n) g i = let q = place_next ws n in
        more_pair (place ws n) (pages_used ws (suc n)) g (omega arith) (more_next n g (more_step n g) i)

    -- a row is that of a want
    pub rows_in : (j : ℕ) (r : Row) → In r (want_rows t p pool ws j) → (m : ℕ) × (m < j) × (r ≡ want_row t p pool ws m)
    rows_in zero r i = absurd i
    rows_in (suc j) r i = elim (insert-in (want_row t p pool ws j) r (want_rows t p pool ws j) i) [
      | inl k ↦ let (m, l, e) = rows_in j r k in (m, omega arith, e)
      | inr e ↦ (j, omega arith, e)
    ]

    -- no row is at an address that no earlier want has
    earlier_not : (f : Want → Bool) (j m : ℕ) → earlier f ws j ≡ false → m < j → f (want_at ws m) ≡ false
    earlier_not f zero m e l = absurd (let z : ⊥ = omega arith in z)
    earlier_not f (suc j) m e l = go (m == j) refl (λ k. earlier_not f j m (grind (arith, e)) k)
      where
        go : (b : Bool) → (m == j) ≡ b → (m < j → f (want_at ws m) ≡ false) → f (want_at ws m) ≡ false
        go true q ih = let h : m ≡ j = eqb-true m j q in
            subst (λ z. f (want_at ws z) ≡ false) (sym h) (grind (arith, e))
        go false q ih = let h : m ≢ j = eqb-false m j q in ih (omega arith)

    pub no_row : (v j : ℕ) → earlier (λ w. vpage w.va == v) ws j ≡ false → row_at (want_rows t p pool ws j) v ≡ None
    no_row v j e = go (row_at (want_rows t p pool ws j) v) refl
      where
        go : (o : Option Row) → row_at (want_rows t p pool ws j) v ≡ o → o ≡ None
        go None q = refl
        go (Some r) q =
            let f = find_in (λ r. r.at == v) r (want_rows t p pool ws j) q in
            let (m, l, k) = rows_in j r f.0 in
            let z : (vpage (want_at ws m).va == v) ≡ true = subst (λ r. (r.at == v) ≡ true) k f.1 in
            let y : (vpage (want_at ws m).va == v) ≡ false = earlier_not (λ w. vpage w.va == v) j m e l in
            absurd (grind (arith, z, y))

    -- what the child holds is in the pool below a bound
    module _ (i j bound : ℕ) (least : 5 ≤ bound) (of_tables : (q : Pair)
        → In q (flat_map table_pairs (tables_of t p pool ws i)) → IsPair bound q)
        (of_more : (q : Pair) → In q (more_of t p pool ws i) → IsPair bound q) (of_rows : pages_used ws j ≤ bound) where
      of_base : (q : Pair) → In q (base_pairs (child_with t p pool ws i j).base) → IsPair bound q
      of_base q (inl e) = (0, omega arith, e)
      of_base q (inr (inl e)) = (1, omega arith, e)
      of_base q (inr (inr (inl e))) = (2, omega arith, e)
      of_base q (inr (inr (inr (inl e)))) = (3, omega arith, e)
      of_base q (inr (inr (inr (inr (inl e))))) = (4, omega arith, e)
      of_base q (inr (inr (inr (inr (inr k))))) = absurd k

      of_pair : (q : Pair) → In q (pairs (child_with t p pool ws i j)) → IsPair bound q
      of_pair q k = elim (In-append_cases q (base_pairs (child_with t p pool ws i j).base)
          (flat_map table_pairs (tables_of t p pool ws i) ++ more_of t p pool ws i) k) [
            | inl l ↦ of_base q l
            | inr l ↦
                elim (In-append_cases q (flat_map table_pairs (tables_of t p pool ws i)) (more_of t p pool ws i) l) [
                  | inl m ↦ of_tables q m
                  | inr m ↦ of_more q m
                ]
          ]

      held_in : (g : ℕ) → In g (held_pages (child_with t p pool ws i j)) → IsPage bound g
      held_in g h =
          elim (In-append_cases g (config (child_with t p pool ws i j)) (row_pages (child_with t p pool ws i j)) h) [
            | inl c ↦ let (q, k, e) = In-map_from (λ q. q.frame) g (pairs (child_with t p pool ws i j)) c in
                let (m, l, f) = of_pair q k in (m, l, e ∙ ap (λ q. q.frame) f)
            | inr c ↦ let (r, k, e) = In-map_from (λ r. r.frame) g (want_rows t p pool ws j) c in
                let (m, l, f) = rows_in j r k in
                let a = used_within ws (suc m) j (omega arith) in
                let b = place_next ws m in
                (place ws m, omega arith, e ∙ ap (λ r. r.frame) f)
          ]

    -- before the page for want i is lent: below its place
    pub holds_below : (i g : ℕ) → In g (held_pages (child_with t p pool ws (suc i) i)) → IsPage (place ws i) g
    holds_below i g h =
        let a = used_least ws i in
        let b = used_before ws i in
        held_in (suc i) i (place ws i) (omega arith) (λ q k. tables_next i q (tables_step i q) k)
        (λ q k. more_next i q (more_step i q) k) b g h

    -- before want i has its table: below what is used
    pub holds_used : (i g : ℕ) → In g (held_pages (child_with t p pool ws i i)) → IsPage (pages_used ws i) g
    holds_used i g h =
        held_in i i (pages_used ws i) (used_least ws i) (λ q k. tables_step i q k) (λ q k. more_step i q k)
        (omega arith) g h
