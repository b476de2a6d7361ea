-- How many pages the wants take.
use Rattle.std.proofs.Common.{◌≡◌, ℕ, zero, suc, ◌+◌, ◌-◌, ◌≤◌, ◌<◌, ◌==◌, ◌||◌, Bool, true, false, cond, List, [], ◌∷◌}
use Rattle.std.proofs.Common.{◌++◌, length, refl, sym, ap, ◌∙◌, subst, arith, eqb-true, length-append}
use Rattle.std.specs.List.{list_any}
use Rattle.pip_model.specs.Tree.{Tree, lists}
use Rattle.pip_parent.specs.declared.wants.Want.{Want}
use Rattle.pip_parent.specs.Wants.{want_at, dir_of, earlier, opens, opened_before, pages_used, place, need}
use Rattle.pip_parent.specs.Built.{lists_more, pool_table, tables_of}

pub used_opens : (ws : List Want) (i : ℕ) → opens ws i ≡ true
    → pages_used ws (suc i) ≡ pages_used ws i + 4 + lists_more (opened_before ws i)
used_opens ws i e = let q : opened_before ws (suc i) ≡ opened_before ws i + 1 =
    ap (λ b. opened_before ws i + cond b 1 0) e in omega arith

pub used_stays : (ws : List Want) (i : ℕ) → opens ws i ≡ false → pages_used ws (suc i) ≡ pages_used ws i + 1
used_stays ws i e = let q : opened_before ws (suc i) ≡ opened_before ws i + 0 =
    ap (λ b. opened_before ws i + cond b 1 0) e in omega arith

pub place_opens : (ws : List Want) (i : ℕ) → opens ws i ≡ true
    → place ws i ≡ pages_used ws i + 3 + lists_more (opened_before ws i)
place_opens ws i e = let q : opened_before ws (suc i) ≡ opened_before ws i + 1 =
    ap (λ b. opened_before ws i + cond b 1 0) e in omega arith

pub place_stays : (ws : List Want) (i : ℕ) → opens ws i ≡ false → place ws i ≡ pages_used ws i
place_stays ws i e = let q : opened_before ws (suc i) ≡ opened_before ws i + 0 =
    ap (λ b. opened_before ws i + cond b 1 0) e in omega arith

pub opened_opens : (ws : List Want) (i : ℕ) → opens ws i ≡ true → opened_before ws (suc i) ≡ opened_before ws i + 1
opened_opens ws i e = ap (λ b. opened_before ws i + cond b 1 0) e

pub opened_stays : (ws : List Want) (i : ℕ) → opens ws i ≡ false → opened_before ws (suc i) ≡ opened_before ws i
opened_stays ws i e = let q : opened_before ws (suc i) ≡ opened_before ws i + 0 =
    ap (λ b. opened_before ws i + cond b 1 0) e in omega arith

-- how many pages are linked for a table: two and the list pages that it adds, as the wants before it have t tables
pub stores_are : (ws : List Want) (i t a b : ℕ) → t ≡ opened_before ws i → a ≡ lists (t + 1) → b ≡ lists t
    → 2 + (a - b) ≡ suc (suc (lists_more (opened_before ws i)))
stores_are ws i t a b e f g = rw (f, g, e) (omega arith)

pub place_next : (ws : List Want) (i : ℕ) → pages_used ws (suc i) ≡ place ws i + 1
place_next ws i = omega arith

pub used_least : (ws : List Want) (i : ℕ) → 5 ≤ pages_used ws i
used_least ws i = omega arith

pub used_before : (ws : List Want) (i : ℕ) → pages_used ws i ≤ place ws i
used_before ws i = go (opens ws i) refl
  where
    go : (b : Bool) → opens ws i ≡ b → pages_used ws i ≤ place ws i
    go true e = let q = place_opens ws i e in omega arith
    go false e = let q = place_stays ws i e in omega arith

pub used_rises : (ws : List Want) (i k : ℕ) → pages_used ws i ≤ pages_used ws (i + k)
used_rises ws i zero = let e : pages_used ws (i + 0) ≡ pages_used ws i = ap (pages_used ws) (omega arith) in omega
    (arith, e)
used_rises ws i (suc k) =
    let q = used_rises ws i k in
    let r = used_before ws (i + k) in
    let s = place_next ws (i + k) in
    let e : pages_used ws (i + suc k) ≡ pages_used ws (suc (i + k)) = ap (pages_used ws) (omega arith) in
    omega arith

pub used_within : (ws : List Want) (i j : ℕ) → i ≤ j → pages_used ws i ≤ pages_used ws j
used_within ws i j h = let q = used_rises ws i (j - i) in
    let e : pages_used ws (i + (j - i)) ≡ pages_used ws j = ap (pages_used ws) (omega arith) in omega arith

-- a want's page is within what is needed
pub place_within : (ws : List Want) (i : ℕ) → i < length ws → place ws i < need ws
place_within ws i h = let q = used_within ws (suc i) (length ws) (omega arith) in let r = place_next ws i in
    omega arith

any_last : {A : Type 0} (f : A → Bool) (xs : List A) (y : A) → list_any f (xs ++ y ∷ []) ≡ (list_any f xs || f y)
any_last f [] y = bool (f y)
  where
    bool : (b : Bool) → (b || false) ≡ b
    bool true = refl
    bool false = refl
any_last f (x ∷ xs) y = step (f x) (any_last f xs y)
  where
    step : (b : Bool) → list_any f (xs ++ y ∷ []) ≡ (list_any f xs || f y)
        → (b || list_any f (xs ++ y ∷ [])) ≡ ((b || list_any f xs) || f y)
    step true e = refl
    step false e = e

-- the tables are those of the directory indexes of the wants
pub tables_known : (t : Tree) (p : ℕ) (pool : List ℕ) (ws : List Want) (v i : ℕ)
    → list_any (λ b. b.index == v) (tables_of t p pool ws i) ≡ earlier (λ w. dir_of w == v) ws i
tables_known t p pool ws v zero = refl
tables_known t p pool ws v (suc i) = go (opens ws i) refl (tables_known t p pool ws v i)
  where
    same : (b : Bool) → (dir_of (want_at ws i) == v) ≡ b → opens ws i ≡ false
        → earlier (λ w. dir_of w == v) ws i ≡ (earlier (λ w. dir_of w == v) ws i || b)
    same false e o = bool (earlier (λ w. dir_of w == v) ws i)
      where
        bool : (b : Bool) → b ≡ (b || false)
        bool true = refl
        bool false = refl
    same true e o =
        let q : dir_of (want_at ws i) ≡ v = eqb-true (dir_of (want_at ws i)) v e in
        let h : earlier (λ w. dir_of w == dir_of (want_at ws i)) ws i ≡ true = grind (arith, o) in
        let k : earlier (λ w. dir_of w == v) ws i ≡ true = subst (λ z. earlier (λ w. dir_of w == z) ws i ≡ true) q h in
        k ∙ sym (ap (λ b. b || true) k)

    go : (b : Bool) → opens ws i ≡ b → list_any (λ b. b.index == v) (tables_of t p pool ws i)
        ≡ earlier (λ w. dir_of w == v) ws i → list_any (λ b. b.index == v) (tables_of t p pool ws (suc i))
        ≡ (earlier (λ w. dir_of w == v) ws i || (dir_of (want_at ws i) == v))
    go true o ih =
        ap (λ b. list_any (λ b. b.index == v) (cond b (tables_of t p pool ws i
        ++ pool_table t p pool (pages_used ws i) (dir_of (want_at ws i)) ∷ []) (tables_of t p pool ws i))) o
        ∙ any_last (λ b. b.index == v) (tables_of t p pool ws i)
        (pool_table t p pool (pages_used ws i) (dir_of (want_at ws i)))
        ∙ ap (λ b. b || (dir_of (want_at ws i) == v)) ih
    go false o ih =
        ap (λ b. list_any (λ b. b.index == v) (cond b (tables_of t p pool ws i
        ++ pool_table t p pool (pages_used ws i) (dir_of (want_at ws i)) ∷ []) (tables_of t p pool ws i))) o
        ∙ ih ∙ same (dir_of (want_at ws i) == v) refl o

-- there are as many as directory indexes
pub tables_count : (t : Tree) (p : ℕ) (pool : List ℕ) (ws : List Want) (i : ℕ)
    → length (tables_of t p pool ws i) ≡ opened_before ws i
tables_count t p pool ws zero = refl
tables_count t p pool ws (suc i) = go (opens ws i) (tables_count t p pool ws i)
  where
    go : (b : Bool) → length (tables_of t p pool ws i) ≡ opened_before ws i
        → length (cond b (tables_of t p pool ws i ++ pool_table t p pool (pages_used ws i) (dir_of (want_at ws i))
        ∷ []) (tables_of t p pool ws i)) ≡ opened_before ws i + cond b 1 0
    go true ih = length-append (tables_of t p pool ws i) (pool_table t p pool (pages_used ws i) (dir_of (want_at ws i))
        ∷ [])
        ∙ ap (λ n. n + 1) ih
    go false ih = ih ∙ omega arith

pub opened_most : (ws : List Want) (i : ℕ) → opened_before ws i ≤ i
opened_most ws zero = omega arith
opened_most ws (suc i) = go (opens ws i) (opened_most ws i)
  where
    go : (b : Bool) → opened_before ws i ≤ i → opened_before ws i + cond b 1 0 ≤ suc i
    go true h = omega arith
    go false h = omega arith
