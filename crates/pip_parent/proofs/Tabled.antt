-- The table for a want is prepared: where its pages are linked, no condition of prepare is met, and the tree is the
-- next.
use Rattle.std.proofs.Common.{◌≡◌, ℕ, zero, suc, ◌+◌, ◌-◌, ◌≤◌, ◌<◌, ◌==◌, ◌||◌, inl, inr, Bool, true, false, not, cond}
use Rattle.std.proofs.Common.{List, [], ◌∷◌, ◌++◌, length, refl, sym, ap, ap₂, ◌∙◌, arith, Option, Some, None}
use Rattle.std.specs.Prelude.{is_none, unwrap_or, option_map}
use Rattle.std.specs.List.{list_any}
use Rattle.std.proofs.lemmas.Bool.{ne_eqb}
use Rattle.pip_base.specs.declared.types.Pair.{Pair}
use Rattle.pip_base.specs.declared.outcome.Status.TheVariants as S
use Rattle.pip_model.specs.Answers.{accept, answer_unless, first_met, nobody, page_of, pair_frames, pair_at}
use Rattle.pip_model.specs.Answers.{words_without}
use Rattle.pip_model.specs.CountToMap.{count_refusals, pages_needed}
use Rattle.pip_model.specs.Prepare.{Pages, go_on, next_in_chain, page_chain, page_refusals, prepare, prepare_with}
use Rattle.pip_model.specs.Prepare.{tree_with_table, with_table}
use Rattle.pip_model.specs.Lists.{In, has}
use Rattle.pip_model.specs.Sound.{IsSound}
use Rattle.pip_model.specs.Tree.{Node, Table, Tree, change_at, child_at, dir, has_table, held_pages, holds, is_place}
use Rattle.pip_model.specs.Tree.{lists, nodes, vpage}
use Rattle.pip_model.proofs.OnLists.Members.{has_in}
use Rattle.pip_model.proofs.Trees.ChangeNode.{change-else, change-here}
use Rattle.pip_model.proofs.Trees.Free.{IsName}
use Rattle.pip_parent.specs.declared.wants.Want.{Want}
use Rattle.pip_parent.specs.Wants.{want_at, dir_of, earlier, is_bad, opens, opened_before, pages_used, need}
use Rattle.pip_parent.specs.Pool.{HasPool, pool_at}
use Rattle.pip_parent.specs.Built.{child_with, lists_more, more_of, pairs_from, pool_table, tables_of}
use Rattle.pip_parent.proofs.Counting.{place_opens, place_within, tables_count, tables_known}
use Rattle.pip_parent.proofs.Child.{holds_used}
use Rattle.pip_parent.proofs.Lent.{fit, has_five, new_name, new_other, nonzero_at, page_apart, pass}
use Rattle.pip_parent.proofs.Seen.{changed_child, same_mapped, same_pair, same_writable, still_free, the_child}
use Rattle.pip_parent.proofs.Seen.{with_child}

page_met : (a b c d e f : Bool) → a ≡ false → b ≡ false → c ≡ false → d ≡ false → e ≡ false → f ≡ false → first_met ((
  a,
  S.NotAligned,
) ∷ (b, S.NullPage) ∷ (c, S.Repeated) ∷ (d, S.NotMapped) ∷ (e, S.NotFree) ∷ (f, S.NoRight) ∷ []) ≡ None
page_met a b c d e f ea eb ec ed ee ef =
    pass (
      a,
      S.NotAligned,
    ) ((b, S.NullPage) ∷ (c, S.Repeated) ∷ (d, S.NotMapped) ∷ (e, S.NotFree) ∷ (f, S.NoRight) ∷ []) ea
    ∙ pass (b, S.NullPage) ((c, S.Repeated) ∷ (d, S.NotMapped) ∷ (e, S.NotFree) ∷ (f, S.NoRight) ∷ []) eb
    ∙ pass (c, S.Repeated) ((d, S.NotMapped) ∷ (e, S.NotFree) ∷ (f, S.NoRight) ∷ []) ec
    ∙ pass (d, S.NotMapped) ((e, S.NotFree) ∷ (f, S.NoRight) ∷ []) ed
    ∙ pass (e, S.NotFree) ((f, S.NoRight) ∷ []) ee
    ∙ pass (f, S.NoRight) [] ef

count_met : (a b c : Bool) → a ≡ false → b ≡ false → c ≡ false
    → first_met ((a, S.NotAligned) ∷ (b, S.NullPage) ∷ (c, S.NotChild) ∷ []) ≡ None
count_met a b c ea eb ec = pass (a, S.NotAligned) ((b, S.NullPage) ∷ (c, S.NotChild) ∷ []) ea
    ∙ pass (b, S.NullPage) ((c, S.NotChild) ∷ []) eb ∙ pass (c, S.NotChild) [] ec

any_one : (f : ℕ → Bool) (a : ℕ) → f a ≡ false → list_any f (a ∷ []) ≡ false
any_one f a e = ap (λ x. x || false) e

any_two : (f : ℕ → Bool) (a b : ℕ) → f a ≡ false → f b ≡ false → list_any f (a ∷ b ∷ []) ≡ false
any_two f a b e g = ap₂ (λ x y. x || y) e (ap (λ x. x || false) g)

module _ (t : Tree) (p : ℕ) (pool : List ℕ) (ws : List Want) (s : IsSound t) (n : IsName t p) (h : HasPool t p pool)
    (room : need ws ≤ length pool) (words : ℕ → Option (ℕ → ℕ)) (i : ℕ) (low : i < length ws)
    (fits : (j : ℕ) → j < length ws → is_bad ws j ≡ false) where
  abbrev before : Node
  before = child_with t p pool ws i i

  abbrev with_it : Tree
  with_it = with_child t before words

  pub not_in : (k : ℕ) → pages_used ws i ≤ k → k < length pool → holds before (page_of t p (pool_at pool k)) ≡ false
  not_in k a b = go (holds before (page_of t p (pool_at pool k))) refl
    where
      go : (c : Bool) → holds before (page_of t p (pool_at pool k)) ≡ c → c ≡ false
      go false e = refl
      go true e =
          let (m, l, q) = holds_used t p pool ws i (page_of t p (pool_at pool k))
          (has_in (page_of t p (pool_at pool k)) (held_pages before) e) in
          let same = page_apart t p pool ws s n h room k m b (omega arith) q in
          absurd (let z : ⊥ = omega arith in z)

  unseen : (k : ℕ) (seen : List ℕ) → k < length pool → ((z : ℕ) → In z seen → (m : ℕ) × (m < k) × (z ≡ pool_at pool m))
      → has seen (pool_at pool k) ≡ false
  unseen k seen b f = go (has seen (pool_at pool k)) refl
    where
      go : (c : Bool) → has seen (pool_at pool k) ≡ c → c ≡ false
      go false e = refl
      go true e =
          let (m, l, q) = f (pool_at pool k) (has_in (pool_at pool k) seen e) in
          let same = h.differ k m b (omega arith) q in
          absurd (let z : ⊥ = omega arith in z)

  page_fits : (k : ℕ) (seen : List ℕ) → pages_used ws i ≤ k → k < length pool → ((z : ℕ) → In z seen
      → (m : ℕ) × (m < k) × (z ≡ pool_at pool m)) → first_met (page_refusals with_it p seen (pool_at pool k)) ≡ None
  page_fits k seen a b f =
      page_met _ _ _ _ _ _
      (any_one (λ a. not (is_place a)) (pool_at pool k) (ap not (h.places k b)))
      (any_one (λ a. a == 0) (pool_at pool k) (ne_eqb (pool_at pool k) 0 (nonzero_at t p pool ws s n h room k b)))
      (unseen k seen b f)
      (ap not (same_mapped t p before words (new_other t p pool ws s n h room i i) refl (vpage (pool_at pool k))
      ∙ h.mapped k b))
      (ap not (still_free t p before words (new_other t p pool ws s n h room i i) refl (pool_at pool k) (h.free k b)
      (not_in k a b)))
      (ap not (same_writable t p before words (new_other t p pool ws s n h room i i) refl (vpage (pool_at pool k))
      ∙ h.writable k b))

  -- the chain of pages from place k on
  more_seen : (k : ℕ) (seen : List ℕ) → ((z : ℕ) → In z seen → (m : ℕ) × (m < k) × (z ≡ pool_at pool m)) → (z : ℕ)
      → In z (pool_at pool k ∷ seen) → (m : ℕ) × (m < suc k) × (z ≡ pool_at pool m)
  more_seen k seen f z (inl e) = (k, omega arith, e)
  more_seen k seen f z (inr j) = let (m, l, q) = f z j in (m, omega arith, q)

  chain_runs : (c k : ℕ) (seen : List ℕ) → k + c ≤ length pool → pages_used ws i ≤ k
      → ((z : ℕ) → In z seen → (m : ℕ) × (m < k) × (z ≡ pool_at pool m))
      → ((m : ℕ) → k ≤ m → suc m < k + c → next_in_chain with_it p (pool_at pool m) ≡ pool_at pool (suc m))
      → page_chain with_it p c seen (pool_at pool k) ≡ Pages (pairs_from t p pool k c)
  chain_runs zero k seen r a f links = refl
  chain_runs (suc zero) k seen r a f links =
      ap₂ (λ o g. go_on o g (Pages [])) (page_fits k seen a (omega arith) f)
      (same_pair t p before words (new_other t p pool ws s n h room i i) refl (pool_at pool k))
  chain_runs (suc (suc c)) k seen r a f links =
      let ih = chain_runs (suc c) (suc k) (pool_at pool k ∷ seen) (omega arith) (omega arith) (more_seen k
      seen f) (λ m l g. links m (omega arith) (omega arith)) in
      let next = links k (omega arith) (omega arith) in
      ap₂ (λ o g. go_on o g (page_chain with_it p (suc c)
      (pool_at pool k ∷ seen) (next_in_chain with_it p (pool_at pool k)))) (page_fits k seen a (omega arith) f)
      (same_pair t p before words (new_other t p pool ws s n h room i i) refl (pool_at pool k))
      ∙ ap (λ z. go_on None (pair_at t p (pool_at pool k)) (page_chain with_it p (suc c) (pool_at pool k ∷ seen) z))
      next
      ∙ ap (λ z. go_on None (pair_at t p (pool_at pool k)) z) ih

  -- where want i needs no table, the child is that with the tables up to it
  pub no_table : opens ws i ≡ false → child_with t p pool ws (suc i) i ≡ before
  no_table o = ap (λ b. record before {
    tables = cond b (tables_of t p pool ws i ++ pool_table t p pool (pages_used ws i) (dir_of (want_at ws i))
        ∷ []) (tables_of t p pool ws i);
    more = cond b (more_of t p pool ws i
        ++ pairs_from t p pool (suc (suc (suc (pages_used ws i)))) (lists_more (opened_before ws i)))
        (more_of t p pool ws i);
  }) o

  module _ (o : opens ws i ≡ true) where
    abbrev va : ℕ
    va = (want_at ws i).va

    abbrev table : Table
    table = pool_table t p pool (pages_used ws i) (dir_of (want_at ws i))

    abbrev rest : List Pair
    rest = pairs_from t p pool (suc (suc (suc (pages_used ws i)))) (lists_more (opened_before ws i))

    pub a_table : child_with t p pool ws (suc i) i
        ≡ record before { tables = tables_of t p pool ws i ++ table ∷ []; more = more_of t p pool ws i ++ rest }
    a_table = ap (λ b. record before {
      tables = cond b (tables_of t p pool ws i ++ table ∷ []) (tables_of t p pool ws i);
      more = cond b (more_of t p pool ws i ++ rest) (more_of t p pool ws i);
    }) o

    -- how many pages prepare takes
    abbrev pub count : ℕ
    count = suc (suc (suc (lists_more (opened_before ws i))))

    untabled : has_table before (vpage va) ≡ false
    untabled = tables_known t p pool ws (dir_of (want_at ws i)) i
        ∙ unmade (earlier (λ w. dir_of w == dir_of (want_at ws i)) ws i) o
      where
        unmade : (b : Bool) → not b ≡ true → b ≡ false
        unmade true e = cc
        unmade false e = refl

    needed : pages_needed before (vpage va) ≡ count
    needed =
        ap₂ (λ b m. cond b 0 (3 + lists (m + 1) - lists m)) untabled (tables_count t p pool ws i) ∙ omega arith

    is_child : child_at with_it p (pool_at pool 0) ≡ Some before
    is_child = the_child t p before words (new_other t p pool ws s n h room i i) refl

    first : 0 < length pool
    first = let f = has_five t p pool ws s n h room in omega arith

    enough : pages_used ws i + count ≤ length pool
    enough =
        let q = place_within ws i low in
        let r = place_opens ws i o in
        omega arith

    no_refusal : first_met (count_refusals with_it p (pool_at pool 0) va) ≡ None
    no_refusal = let f = fit ws i (fits i low) in count_met _ _ _
        (any_two (λ a. not (is_place a)) (pool_at pool 0) va (ap not (h.places 0 first)) (ap not f.aligned))
        (any_two (λ a. a == 0) (pool_at pool 0) va
        (ne_eqb (pool_at pool 0) 0 (nonzero_at t p pool ws s n h room 0 first)) f.nonzero)
        (ap is_none is_child)

    stays : (y : Node) → In y (nodes t) → change_at before.name (with_table table rest) y ≡ y
    stays y k = change-else before.name (with_table table rest) y (new_name t p pool ws s n h room i i y k)

    abbrev taken : List Pair
    taken = pairs_from t p pool (pages_used ws i) count

    grown : tree_with_table with_it before.name (dir (vpage va)) taken
        ≡ with_child t (child_with t p pool ws (suc i) i) (words_without (pair_frames taken) words)
    grown =
        ap {A = Tree} {B = Tree} (λ u. record u { words = words_without (pair_frames taken) words })
        (changed_child (change_at before.name (with_table table rest)) t before words stays)
        ∙ ap (λ x. with_child t x (words_without (pair_frames taken) words))
        (change-here before.name (with_table table rest) before refl ∙ sym a_table)

    -- prepare for want i
    pub prepares : ((m : ℕ) → pages_used ws i ≤ m → suc m < pages_used ws i + count → next_in_chain with_it p
        (pool_at pool m)
        ≡ pool_at pool (suc m)) → prepare with_it p (pool_at pool 0) va (pool_at pool (pages_used ws i))
        ≡ accept count (with_child t (child_with t p pool ws (suc i) i) (words_without (pair_frames taken) words))
    prepares links =
        ap₂ (λ q c. answer_unless with_it q (let k = pages_needed (unwrap_or c nobody) (vpage va) in
        prepare_with with_it (unwrap_or (option_map (λ x. x.name) c) 0) (vpage va) k
        (page_chain with_it p k [] (pool_at pool (pages_used ws i))))) no_refusal is_child
        ∙ ap (λ k. prepare_with with_it before.name (vpage va) k
        (page_chain with_it p k [] (pool_at pool (pages_used ws i))))
        needed
        ∙ ap (prepare_with with_it before.name (vpage va) count)
        (chain_runs count (pages_used ws i) [] enough (omega arith) (λ z j. absurd j) links)
        ∙ ap (accept count) grown
