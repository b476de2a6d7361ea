-- The pages for a table are linked, taken, and the want's page is lent: the tree is the next.
use Rattle.std.proofs.Common.{◌≡◌, ◌≢◌, ℕ, zero, suc, ◌+◌, ◌-◌, ◌≤◌, ◌<◌, ◌==◌, ◌||◌, inl, inr, Bool, true, false, cond}
use Rattle.std.proofs.Common.{List, length, refl, sym, ap, ap₂, ◌∙◌, subst, arith, eqb-true, eq-eqb, Option, Some, None}
use Rattle.std.proofs.Math.Path.{fun_ext}
use Rattle.std.proofs.lemmas.Bool.{eqb-false, ne_eqb}
use Rattle.pip_base.specs.declared.types.Pair.{Pair}
use Rattle.pip_base.specs.declared.outcome.Status.TheVariants as S
use Rattle.pip_model.specs.AddVAddr.{add_vaddr}
use Rattle.pip_model.specs.Answers.{accept, page_of, pair_frames, refuse, words_without}
use Rattle.pip_model.specs.Prepare.{prepare}
use Rattle.pip_model.specs.Lists.{In, has}
use Rattle.pip_model.specs.Sound.{IsSound}
use Rattle.pip_model.specs.Tree.{Node, Tree, config, word_of}
use Rattle.pip_model.proofs.OnLists.Members.{count, count-in, has_in, in-count, in_has, no_count}
use Rattle.pip_model.proofs.Trees.Free.{IsName, tests_agree}
use Rattle.pip_model.proofs.Calls.Prepare.{times_with}
use Rattle.pip_parent.specs.declared.wants.Want.{Want}
use Rattle.pip_parent.specs.Wants.{want_at, dir_of, is_bad, opens, opened_before, pages_used, place, need}
use Rattle.pip_parent.specs.Pool.{HasPool, pool_at}
use Rattle.pip_parent.specs.Built.{built_before, child_with, lacks_right, lists_more, pairs_from, pool_table}
use Rattle.pip_parent.specs.Stages.{link_words}
use Rattle.pip_parent.proofs.Counting.{place_opens, place_within}
use Rattle.pip_parent.proofs.Lent.{lends, new_other, page_apart}
use Rattle.pip_parent.proofs.Seen.{same_page, with_child}
use Rattle.pip_parent.proofs.Tabled.{a_table, no_table, prepares}

pairs_have : (t : Tree) (p : ℕ) (pool : List ℕ) (k c m : ℕ) → m < c
    → In (page_of t p (pool_at pool (k + m))) (pair_frames (pairs_from t p pool k c))
pairs_have t p pool k zero m l = absurd (let z : ⊥ = omega arith in z)
pairs_have t p pool k (suc c) zero l = inl (ap (λ z. page_of t p (pool_at pool z)) (omega arith))
pairs_have t p pool k (suc c) (suc m) l =
    inr (subst (λ z. In (page_of t p (pool_at pool z)) (pair_frames (pairs_from t p pool (suc k) c)))
    (let e : suc k + m ≡ k + suc m = omega arith in e) (pairs_have t p pool (suc k) c m (omega arith)))

module _ (t : Tree) (p : ℕ) (pool : List ℕ) (ws : List Want) (s : IsSound t) (n : IsName t p) (h : HasPool t p pool)
    (room : need ws ≤ length pool) (i : ℕ) (low : i < length ws)
    (fits : (j : ℕ) → j < length ws → is_bad ws j ≡ false) where
  abbrev now : Tree
  now = built_before t p pool ws i

  abbrev before : Node
  before = child_with t p pool ws i i

  -- where no table is wanted, the page is lent at once
  pub lends_now : opens ws i ≡ false
      → add_vaddr now p (pool_at pool (place ws i)) (pool_at pool 0) (want_at ws i).va (want_at ws i).rights
      ≡ cond (lacks_right t p pool ws i) (refuse now S.NoRight) (accept 0 (built_before t p pool ws (suc i)))
  lends_now o =
      let e = no_table t p pool ws s n h room now.words i low fits o in
      let k = lends t p pool ws s n h room now.words i low fits in
      ap (λ x. add_vaddr (with_child t x now.words) p (pool_at pool (place ws i)) (pool_at pool 0) (want_at ws i).va
      (want_at ws i).rights) (sym e)
      ∙ k
      ∙ ap₂ (λ x y. cond (lacks_right t p pool ws i) (refuse (with_child t x now.words) S.NoRight) (accept 0
      (with_child t (child_with t p pool ws (suc i) (suc i)) (words_without (config y) t.words)))) e (sym e)

  module _ (o : opens ws i ≡ true) where
    abbrev count_of : ℕ
    count_of = suc (suc (suc (lists_more (opened_before ws i))))

    abbrev taken : List Pair
    taken = pairs_from t p pool (pages_used ws i) count_of

    abbrev links : ℕ → ℕ → Option (ℕ → ℕ)
    links c = link_words now p pool (pages_used ws i) c

    page_same : (a : ℕ) → page_of now p a ≡ page_of t p a
    page_same a = same_page t p before now.words (new_other t p pool ws s n h room i i) refl a

    inside : pages_used ws i + count_of ≤ length pool
    inside = let q = place_within ws i low in let r = place_opens ws i o in omega arith

    -- other pages keep their words
    links_other : (c g : ℕ) → c < count_of → has (pair_frames taken) g ≡ false → links c g ≡ now.words g
    links_other zero g l e = refl
    links_other (suc c) g l e =
        let a = page_of now p (pool_at pool (pages_used ws i + c)) in
        let d : g ≢ a = λ q. let f : has (pair_frames taken) g ≡ true =
        subst (λ z. has (pair_frames taken) z ≡ true) (sym (q ∙ page_same (pool_at pool (pages_used ws i + c))))
        (in_has _
        (pair_frames taken) (pairs_have t p pool (pages_used ws i) count_of c (omega arith))) in
        absurd (grind (arith, e, f)) in
        ap (λ b. cond b (Some (λ j. cond (j == 0) (pool_at pool (suc (pages_used ws i + c))) (word_of (links c a) j)))
        (links c g)) (ne_eqb g a d)
        ∙ links_other c g (omega arith) e

    abbrev a : ℕ → ℕ
    a z = page_of now p (pool_at pool (pages_used ws i + z))

    -- each page but the last names the next
    links_on : (c m : ℕ) → c < count_of → m < c
        → word_of (links c (page_of now p (pool_at pool (pages_used ws i + m)))) 0
        ≡ pool_at pool (suc (pages_used ws i + m))
    links_on zero m l k = absurd (let z : ⊥ = omega arith in z)
    links_on (suc c) m l k = go (m == c) refl (λ d. links_on c m (omega arith) d)
      where
        go : (b : Bool) → (m == c) ≡ b → (m < c → word_of (links c (a m)) 0 ≡ pool_at pool (suc (pages_used ws i + m)))
            → word_of (cond (a m == a c) (Some (λ j. cond (j == 0) (pool_at pool
            (suc (pages_used ws i + c))) (word_of (links c (a c)) j))) (links c (a m))) 0
            ≡ pool_at pool (suc (pages_used ws i + m))
        go true q ih =
            let e : m ≡ c = eqb-true m c q in
            ap (λ b. word_of (cond b (Some (λ j. cond (j == 0) (pool_at pool
            (suc (pages_used ws i + c))) (word_of (links c (a c)) j))) (links c (a m))) 0) (eq-eqb (a m) (a c) (ap a e))
            ∙ ap (λ z. pool_at pool (suc (pages_used ws i + z))) (sym e)
        go false q ih =
            let d : m ≢ c = eqb-false m c q in
            let low : m < c = omega arith in
            let apart : a m ≢ a c = λ e. let r = inside in
            let same = page_apart t p pool ws s n h room (pages_used ws i + m) (pages_used ws i
            + c) (omega arith) (omega arith) (sym (page_same (pool_at pool (pages_used ws i + m)))
            ∙ e
            ∙ page_same (pool_at pool (pages_used ws i + c))) in let z : ⊥ = omega arith in z in
            ap (λ b. word_of (cond b (Some (λ j. cond (j == 0) (pool_at pool
            (suc (pages_used ws i + c))) (word_of (links c (a c)) j))) (links c (a m))) 0) (ne_eqb (a m) (a c) apart)
            ∙ ih low

    abbrev stores : ℕ
    stores = suc (suc (lists_more (opened_before ws i)))

    -- what is configuration then
    more_config : (g : ℕ)
        → has (config (child_with t p pool ws (suc i) i)) g ≡ (has (pair_frames taken) g || has (config before) g)
    more_config g = tests_agree (has (config (child_with t p pool ws (suc i) i)) g)
        (has (pair_frames taken) g || has (config before) g) (λ e. ap (λ b. b || has (config before) g) refl
        ∙ fore (has (pair_frames taken) g) refl (count-in g (config (child_with t p pool ws (suc i) i))
        (has_in g (config (child_with t p pool ws (suc i) i)) e))) (λ e. in_has g (config (child_with t p pool ws
        (suc i) i)) (in-count g (config (child_with t p pool ws (suc i) i)) (back (has (pair_frames taken) g) refl e)))
      where
        key : count g (config (child_with t p pool ws (suc i) i))
            ≡ count g (config before) + count g (pair_frames taken)
        key = ap (λ x. count g (config x)) (a_table t p pool ws s n h room now.words i low fits o)
            ∙ times_with g before (pool_table t p pool (pages_used ws i) (dir_of (want_at ws i)))
            (pairs_from t p pool (suc (suc (suc (pages_used ws i)))) (lists_more (opened_before ws i)))

        fore : (b : Bool) → has (pair_frames taken) g ≡ b → 1 ≤ count g (config (child_with t p pool ws (suc i) i))
            → (b || has (config before) g) ≡ true
        fore true q k = refl
        fore false q k =
            let z = no_count g (pair_frames taken) (λ j. let f = in_has g (pair_frames taken) j in
            absurd (grind (arith, q, f))) in
            let y = key in
            in_has g (config before) (in-count g (config before) (omega arith))

        back : (b : Bool) → has (pair_frames taken) g ≡ b → (b || has (config before) g) ≡ true
            → 1 ≤ count g (config (child_with t p pool ws (suc i) i))
        back true q e = let z = count-in g (pair_frames taken) (has_in g (pair_frames taken) q) in let y = key in
            omega arith
        back false q e = let z = count-in g (config before) (has_in g (config before) e) in let y = key in
            omega arith

    words_next : words_without (pair_frames taken) (links stores)
        ≡ words_without (config (child_with t p pool ws (suc i) i)) t.words
    words_next = fun_ext (λ g. go g (has (pair_frames taken) g) refl)
      where
        go : (g : ℕ) (b : Bool) → has (pair_frames taken) g ≡ b → words_without (pair_frames taken) (links stores) g
            ≡ words_without (config (child_with t p pool ws (suc i) i)) t.words g
        go g true e = ap (λ b. cond b None (links stores g)) e
            ∙ sym (ap (λ b. cond b None (t.words g)) (more_config g ∙ ap (λ b. b || has (config before) g) e))
        go g false e = ap (λ b. cond b None (links stores g)) e ∙ links_other stores g (omega arith) e
            ∙ sym (ap (λ b. cond b None (t.words g)) (more_config g ∙ ap (λ b. b || has (config before) g) e))

    -- prepare in the tree with the links
    pub prepares_now : prepare (record now { words = links stores }) p (pool_at pool 0) (want_at ws i).va
        (pool_at pool (pages_used ws i)) ≡ accept count_of (with_child t (child_with t p pool ws (suc i) i)
        (words_without (config (child_with t p pool ws (suc i) i)) t.words))
    prepares_now =
        prepares t p pool ws s n h room (links stores) i low fits o
        (λ m a b. subst (λ z. word_of (links stores (page_of now p (pool_at pool z))) 0 ≡ pool_at pool (suc z))
        (let e : pages_used ws i + (m - pages_used ws i) ≡ m = omega arith in
        e) (links_on stores (m - pages_used ws i) (omega arith) (omega arith)))
        ∙ ap (λ ws'. accept count_of (with_child t (child_with t p pool ws (suc i) i) ws')) words_next

    -- and then addVAddr
    pub lends_then : add_vaddr (with_child t (child_with t p pool ws (suc i) i)
        (words_without (config (child_with t p pool ws (suc i) i)) t.words)) p (pool_at pool (place ws i)) (pool_at pool
        0) (want_at ws i).va (want_at ws i).rights ≡ cond (lacks_right t p pool ws i) (refuse (with_child t
        (child_with t p pool ws (suc i) i) (words_without (config (child_with t p pool ws (suc i) i)) t.words))
        S.NoRight) (accept 0 (built_before t p pool ws (suc i)))
    lends_then =
        lends t p pool ws s n h room (words_without (config (child_with t p pool ws (suc i) i)) t.words) i low fits
