-- The page for a want is lent: where the caller has the rights, no condition of addVAddr is met, and the tree is the
-- next.
use Rattle.std.proofs.Common.{◌≡◌, ◌≢◌, ℕ, zero, suc, ◌%◌, ◌≤◌, ◌<◌, ◌==◌, ◌||◌, Bool, true, false, not, cond, List, []}
use Rattle.std.proofs.Common.{◌∷◌, length, refl, sym, ap, ap₂, ◌∙◌, arith, eqb-true, eq-eqb, Option, Some, None}
use Rattle.std.proofs.Common.{bit_and}
use Rattle.std.specs.Prelude.{nat_lt, is_some, is_none, unwrap_or, option_map}
use Rattle.std.specs.List.{list_any}
use Rattle.std.proofs.lemmas.Bool.{eqb-false, ne_eqb}
use Rattle.pip_base.specs.declared.outcome.Status.{Status}
use Rattle.pip_base.specs.declared.outcome.Status.TheVariants as S
use Rattle.pip_model.specs.AddVAddr.{add_refusals, add_vaddr, tree_with_row, exceeds, with_row}
use Rattle.pip_model.specs.Answers.{accept, answer_unless, child_name, first_met, nobody, page_of, refuse, rights_at}
use Rattle.pip_model.specs.Lists.{In}
use Rattle.pip_model.specs.Sound.{IsSound}
use Rattle.pip_model.specs.Tree.{Node, Row, Tree, child_at, has_table, held_pages, holds, is_place, change_at, node}
use Rattle.pip_model.specs.Tree.{nodes, row_at, vpage}
use Rattle.pip_model.proofs.OnLists.Members.{has_in}
use Rattle.pip_model.proofs.Trees.ChangeNode.{change-else, change-here}
use Rattle.pip_model.specs.Accepted.{CanBeGiven}
use Rattle.pip_model.proofs.Trees.Free.{IsName, node_found, row_found, address-usable, usable_same}
use Rattle.pip_parent.specs.declared.wants.Want.{Want}
use Rattle.pip_parent.specs.Wants.{want_at, dir_of, earlier, is_bad, is_malformed, place, need}
use Rattle.pip_parent.specs.Pool.{HasPool, pool_at}
use Rattle.pip_parent.specs.Built.{child_with, lacks_right, want_row, want_rows}
use Rattle.pip_parent.proofs.Counting.{place_within, tables_known, used_least}
use Rattle.pip_parent.proofs.Child.{holds_below, no_row}
use Rattle.pip_parent.proofs.Seen.{changed_child, no_name, same_mapped, same_page, same_rights, still_free, the_child}
use Rattle.pip_parent.proofs.Seen.{with_child}

-- conditions that are not met
pub pass : (c : Bool × Status) (cs : List (Bool × Status)) → c.0 ≡ false → first_met (c ∷ cs) ≡ first_met cs
pass c cs e = ap (λ b. cond b (Some c.1) (first_met cs)) e

pub any_three : (f : ℕ → Bool) (a b c : ℕ) → f a ≡ false → f b ≡ false → f c ≡ false
    → list_any f (a ∷ b ∷ c ∷ []) ≡ false
any_three f a b c e g h = ap₂ (λ x y. x || y) e (ap₂ (λ x y. x || y) g (ap (λ x. x || false) h))

pub no_or : (a b : Bool) → (a || b) ≡ false → (a ≡ false) × (b ≡ false)
no_or true b e = cc
no_or false b e = (refl, e)

pub or_true : (b : Bool) → (b || true) ≡ true
or_true true = refl
or_true false = refl

pub seven : (r : ℕ) → r ≤ 7 → (bit_and r 7 == r) ≡ true
seven zero l = refl
seven (suc zero) l = refl
seven (suc (suc zero)) l = refl
seven (suc (suc (suc zero))) l = refl
seven (suc (suc (suc (suc zero)))) l = refl
seven (suc (suc (suc (suc (suc zero))))) l = refl
seven (suc (suc (suc (suc (suc (suc zero)))))) l = refl
seven (suc (suc (suc (suc (suc (suc (suc zero))))))) l = refl
seven (suc (suc (suc (suc (suc (suc (suc (suc r)))))))) l = absurd (let z : ⊥ = omega arith in z)

-- the conditions of addVAddr: one alone may be met
lend_met : (a b c d e f g h l : Bool) → a ≡ false → b ≡ false → c ≡ false → d ≡ false → e ≡ false → f ≡ l → g ≡ false
    → h ≡ false → first_met ((a, S.NotAligned) ∷ (b, S.NullPage) ∷ (c, S.NotChild) ∷ (d, S.NotMapped) ∷ (e, S.NotFree)
    ∷ (f, S.NoRight) ∷ (g, S.NoTable) ∷ (h, S.Taken) ∷ []) ≡ cond l (Some S.NoRight) None
lend_met a b c d e f g h l ea eb ec ed ee ef eg eh =
    pass (a, S.NotAligned) ((b, S.NullPage) ∷ (c, S.NotChild) ∷ (d, S.NotMapped) ∷ (e, S.NotFree) ∷ (f, S.NoRight)
    ∷ (g, S.NoTable) ∷ (h, S.Taken) ∷ []) ea
    ∙ pass (b, S.NullPage) ((c, S.NotChild) ∷ (d, S.NotMapped) ∷ (e, S.NotFree) ∷ (f, S.NoRight) ∷ (g, S.NoTable)
    ∷ (h, S.Taken) ∷ []) eb
    ∙ pass (c, S.NotChild) ((d, S.NotMapped) ∷ (e, S.NotFree) ∷ (f, S.NoRight) ∷ (g, S.NoTable) ∷ (h, S.Taken) ∷ []) ec
    ∙ pass (d, S.NotMapped) ((e, S.NotFree) ∷ (f, S.NoRight) ∷ (g, S.NoTable) ∷ (h, S.Taken) ∷ []) ed
    ∙ pass (e, S.NotFree) ((f, S.NoRight) ∷ (g, S.NoTable) ∷ (h, S.Taken) ∷ []) ee
    ∙ ap₂ (λ b o. cond b (Some S.NoRight) o) ef (pass (g, S.NoTable) ((h, S.Taken) ∷ []) eg ∙ pass (h, S.Taken) [] eh)

-- a want that can be met
pub record IsFit (ws : List Want) (i : ℕ) : Type 0 where
  pub nonzero : ((want_at ws i).va == 0) ≡ false
  pub aligned : is_place (want_at ws i).va ≡ true
  pub readable : (bit_and 1 (want_at ws i).rights == 1) ≡ true
  pub small : nat_lt 7 (want_at ws i).rights ≡ false
  pub fresh : earlier (λ v. v.va == (want_at ws i).va) ws i ≡ false

pub not_not : (b : Bool) → not b ≡ false → b ≡ true
not_not true e = refl
not_not false e = cc

pub fit : (ws : List Want) (i : ℕ) → is_bad ws i ≡ false → IsFit ws i
fit ws i e =
    let w = want_at ws i in
    let z = no_or (is_malformed w) (earlier (λ v. v.va == w.va) ws i) e in
    let a = no_or (w.va == 0) (not (is_place w.va) || (not (bit_and 1 w.rights == 1) || nat_lt 7 w.rights)) z.0 in
    let b = no_or (not (is_place w.va)) (not (bit_and 1 w.rights == 1) || nat_lt 7 w.rights) a.1 in
    let c = no_or (not (bit_and 1 w.rights == 1)) (nat_lt 7 w.rights) b.1 in
    record {
      nonzero = a.0;
      aligned = not_not (is_place w.va) b.0;
      readable = not_not (bit_and 1 w.rights == 1) c.0;
      small = c.1;
      fresh = z.1;
    }

-- places of different addresses are different vpages
apart_pages : (ws : List Want) (a : ℕ) → is_place a ≡ true → (j : ℕ) → ((m : ℕ) → m < j → is_place (want_at ws m).va
    ≡ true) → earlier (λ v. v.va == a) ws j ≡ false → earlier (λ v. vpage v.va == vpage a) ws j ≡ false
apart_pages ws a l zero h e = refl
apart_pages ws a l (suc j) h e =
    let q = no_or (earlier (λ v. v.va == a) ws j) ((want_at ws j).va == a) e in
    let b = eqb-false (want_at ws j).va a q.1 in
    let c = eqb-true ((want_at ws j).va % 4096) 0 (h j (omega arith)) in
    let d = eqb-true (a % 4096) 0 l in
    let f : vpage (want_at ws j).va ≢ vpage a = omega arith in
    ap₂ (λ x y. x || y) (apart_pages ws a l j (λ m k. h m (omega arith)) q.0)
    (ne_eqb (vpage (want_at ws j).va) (vpage a) f)

module _ (t : Tree) (p : ℕ) (pool : List ℕ) (ws : List Want) (s : IsSound t) (n : IsName t p) (h : HasPool t p pool)
    (room : need ws ≤ length pool) where
  pub usable_at : (k : ℕ) → k < length pool → CanBeGiven t p (pool_at pool k)
  usable_at k l = address-usable t p (pool_at pool k) (h.places k l) (h.mapped k l) (h.free k l)

  pub page_apart : (j k : ℕ) → j < length pool → k < length pool
      → page_of t p (pool_at pool j) ≡ page_of t p (pool_at pool k) → j ≡ k
  page_apart j k a b e =
      h.differ j k a b (usable_same t p s n (pool_at pool j) (pool_at pool k) (usable_at j a) (usable_at k b) e)

  pub nonzero_at : (k : ℕ) → k < length pool → pool_at pool k ≢ 0
  nonzero_at k l z =
      let u = usable_at k l in
      let (r, i, at, pg) = row_found (node t p) (vpage (pool_at pool k)) (page_of t p (pool_at pool k)) u.placed in
      (s.tables (node t p) (node_found t p n).0).first r i (at ∙ ap vpage z)

  pub has_five : 5 ≤ length pool
  has_five = let q = used_least ws (length ws) in omega arith

  pub new_name : (i j : ℕ) (y : Node) → In y (nodes t) → y.name ≢ (child_with t p pool ws i j).name
  new_name i j y k = let f = has_five in no_name t p (pool_at pool 0) s n (usable_at 0 (omega arith)) y k

  pub new_other : (i j : ℕ) → (child_with t p pool ws i j).name ≢ p
  new_other i j e = let f = node_found t p n in new_name i j (node t p) f.0 (f.1 ∙ sym e)

  module _ (words : ℕ → Option (ℕ → ℕ)) (i : ℕ) (low : i < length ws)
      (fits : (j : ℕ) → j < length ws → is_bad ws j ≡ false) where
    abbrev with_it : Tree
    with_it = with_child t (child_with t p pool ws (suc i) i) words

    abbrev page : ℕ
    page = pool_at pool (place ws i)

    abbrev want : Want
    want = want_at ws i

    there : place ws i < length pool
    there = let q = place_within ws i low in omega arith

    first : 0 < length pool
    first = let f = has_five in omega arith

    not_held : holds (child_with t p pool ws (suc i) i) (page_of t p page) ≡ false
    not_held = go (holds (child_with t p pool ws (suc i) i) (page_of t p page)) refl
      where
        go : (b : Bool) → holds (child_with t p pool ws (suc i) i) (page_of t p page) ≡ b → b ≡ false
        go false e = refl
        go true e =
            let (k, l, q) = holds_below t p pool ws i (page_of t p page)
            (has_in (page_of t p page) (held_pages (child_with t p pool ws (suc i) i)) e) in
            let same = page_apart (place ws i) k there (omega (arith, there)) q in
            absurd (let z : ⊥ = omega arith in z)

    is_child : child_at with_it p (pool_at pool 0) ≡ Some (child_with t p pool ws (suc i) i)
    is_child = the_child t p (child_with t p pool ws (suc i) i) words (new_other (suc i) i) refl

    f_i : IsFit ws i
    f_i = fit ws i (fits i low)

    tabled : has_table (child_with t p pool ws (suc i) i) (vpage want.va) ≡ true
    tabled = tables_known t p pool ws (dir_of want) (suc i) ∙ ap (λ b. earlier (λ w. dir_of w == dir_of want) ws i
        || b) (eq-eqb (dir_of want) (dir_of want) refl) ∙ or_true (earlier (λ w. dir_of w == dir_of want) ws i)

    untaken : row_at (want_rows t p pool ws i) (vpage want.va) ≡ None
    untaken = no_row t p pool ws (vpage want.va) i
        (apart_pages ws want.va f_i.aligned i (λ m l. (fit ws m (fits m (omega arith))).aligned) f_i.fresh)

    exceeding : exceeds want.rights (rights_at with_it p (vpage page)) ≡ lacks_right t p pool ws i
    exceeding =
        let small : want.rights ≤ 7 = let q = f_i.small in grind (arith, q) in
        ap₂ (λ a b. not a || (not b || not (bit_and want.rights (rights_at with_it p (vpage page)) == want.rights)))
        f_i.readable (seven want.rights small)
        ∙ ap (λ r. not (bit_and want.rights r == want.rights)) (same_rights t p (child_with t p pool ws (suc i) i) words
        (new_other (suc i) i) refl (vpage page))

    pub lend_status : first_met (add_refusals with_it p page (pool_at pool 0) want.va want.rights)
        ≡ cond (lacks_right t p pool ws i) (Some S.NoRight) None
    lend_status =
        lend_met _ _ _ _ _ _ _ _ (lacks_right t p pool ws i)
        (any_three (λ a. not (is_place a)) page (pool_at pool 0) want.va (ap not (h.places (place ws i) there))
        (ap not (h.places 0 first)) (ap not f_i.aligned))
        (any_three (λ a. a == 0) page (pool_at pool 0) want.va (ne_eqb page 0 (nonzero_at (place ws i) there))
        (ne_eqb (pool_at pool 0) 0 (nonzero_at 0 first)) f_i.nonzero)
        (ap is_none is_child)
        (ap not (same_mapped t p (child_with t p pool ws (suc i) i) words (new_other (suc i) i) refl (vpage page)
        ∙ h.mapped (place ws i) there))
        (ap not (still_free t p (child_with t p pool ws (suc i) i) words (new_other (suc i) i) refl page
        (h.free (place ws i) there) not_held))
        exceeding
        (ap (λ o. not (has_table (unwrap_or o nobody) (vpage want.va))) is_child ∙ ap not tabled)
        (ap (λ o. is_some (row_at (unwrap_or o nobody).rows (vpage want.va))) is_child ∙ ap is_some untaken)

    stays : (r : Row) (y : Node) → In y (nodes t) → change_at (child_with t p pool ws (suc i) i).name (with_row r) y ≡ y
    stays r y k = change-else (child_with t p pool ws (suc i) i).name (with_row r) y (new_name (suc i) i y k)

    pub lend_tree : tree_with_row with_it (child_name with_it p (pool_at pool 0)) (record {
      at = vpage want.va;
      frame =
          page_of with_it p page;
      rights = want.rights;
    }) ≡ with_child t (child_with t p pool ws (suc i) (suc i)) words
    lend_tree =
        let x = child_with t p pool ws (suc i) i in
        ap₂ (λ c g. tree_with_row with_it c (record { at = vpage want.va; frame = g; rights = want.rights })) (ap (λ o.
        unwrap_or (option_map (λ x. x.name) o) 0) is_child) (same_page t p x words (new_other (suc i) i) refl page)
        ∙ changed_child (change_at x.name (with_row (want_row t p pool ws i))) t x words
        (stays (want_row t p pool ws i))
        ∙ ap (λ y. with_child t y words) (change-here x.name (with_row (want_row t p pool ws i)) x refl)

    -- addVAddr for want i
    pub lends : add_vaddr with_it p page (pool_at pool 0) want.va want.rights ≡ cond (lacks_right t p pool ws i)
        (refuse with_it S.NoRight) (accept 0 (with_child t (child_with t p pool ws (suc i) (suc i)) words))
    lends =
        ap₂ (λ o u. answer_unless with_it o (accept 0 u)) lend_status lend_tree ∙ go (lacks_right t p pool ws i)
      where
        go : (b : Bool) → answer_unless with_it (cond b (Some S.NoRight) None)
            (accept 0 (with_child t (child_with t p pool ws (suc i) (suc i)) words))
            ≡ cond b (refuse with_it S.NoRight) (accept 0 (with_child t (child_with t p pool ws (suc i) (suc i)) words))
        go true = refl
        go false = refl
