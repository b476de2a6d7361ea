-- The laws of prepare.
use Rattle.std.proofs.Common.{◌≡◌, ℕ, zero, suc, ◌==◌, false, not, cond, List, [], ◌∷◌, length, refl, sym, ap, ◌∙◌}
use Rattle.std.proofs.Common.{subst, arith, Option, Some, None}
use Rattle.std.specs.Prelude.{is_none, is_some, unwrap_or, option_map, bit_and}
use Rattle.std.proofs.lemmas.Bool.{ne_eqb, or_parts}
use Rattle.pip_base.specs.declared.outcome.Status.{Status}
use Rattle.pip_base.specs.declared.outcome.Status.TheVariants as S
use Rattle.pip_base.specs.declared.types.Pair.{Pair}
use Rattle.pip_model.specs.Answers.{Answer, Five, accept, child_name, child_of, first_met, page_of, pair_at}
use Rattle.pip_model.specs.Answers.{pair_frames, some_null, some_unaligned, words_without}
use Rattle.pip_model.specs.CountToMap.{count_refusals, pages_needed}
use Rattle.pip_model.specs.declared.call_name.MemoryCall.TheVariants.{Prepare}
use Rattle.pip_model.specs.Lists.{In, has}
use Rattle.pip_model.specs.Prepare.{PageChain, Pages, Refused, go_on, next_in_chain, page_chain, page_refusals, prepare}
use Rattle.pip_model.specs.Prepare.{prepare_with, put_first, tree_with_table, with_table}
use Rattle.pip_model.specs.Sound.{IsSound, IsWord}
use Rattle.pip_model.specs.Tree.{Node, Table, Tree, change_node, child_at, dir, hidden, node, row_at, row_pages, vpage}
use Rattle.pip_model.specs.Tree.{word_of}
use Rattle.pip_model.specs.Worlds.{World}
use Rattle.pip_model.proofs.OnLists.Members.{In-map_from}
use Rattle.pip_model.proofs.Trees.ChangeNode.{change-keeps}
use Rattle.pip_model.proofs.Trees.Free.{IsName, passed}
use Rattle.pip_model.specs.Happens.{answer}
use Rattle.pip_model.proofs.Calls.Prepare.{IsChain, chain_each, chain_is, hidden_now, may_prepare, page_may}
use Rattle.pip_model.proofs.Calls.Prepare.{prepare-sound}
use Rattle.pip_model.proofs.Calls.CountLaws.{count_same, needs_word}
use Rattle.pip_model.proofs.Locality.Agree.{AgreeAnswers, AgreeTrees, Agreeing, agree_child, agree_unless, caller-same}
use Rattle.pip_model.proofs.Locality.Agree.{child_of-same, free-same, page-same, without_same}
use Rattle.pip_model.proofs.Locality.Leaves.{without_out}
use Rattle.pip_model.proofs.Trees.Children.{named_child}
use Rattle.pip_model.proofs.Calls.Laws.{Keeps, MemoryLaws, changed_child, same_tree, unless}

-- how many pages the child needs, and those that are in the chain
abbrev needed : Tree → ℕ → ℕ → ℕ → ℕ
needed t p d cv = pages_needed (child_of t p d) (vpage cv)

abbrev chain_of : Tree → ℕ → ℕ → ℕ → ℕ → PageChain
chain_of t p d cv first = page_chain t p (needed t p d cv) [] first

-- what they make of the child, and of the words
abbrev given : ℕ → Pair → Pair → Pair → List Pair → Node → Node
given i g0 g1 g2 gs = with_table (record { index = i; mmu = g0; shadow1 = g1; shadow2 = g2 }) gs

abbrev frames_of : Pair → Pair → Pair → List Pair → List ℕ
frames_of g0 g1 g2 gs = pair_frames (g0 ∷ g1 ∷ g2 ∷ gs)

-- they are rows of p
chain_rows : (t : Tree) (p : ℕ) (gs : List Pair) → IsChain t p [] gs → (g : ℕ) → In g (pair_frames gs)
    → In g (row_pages (node t p))
chain_rows t p gs c g i =
    let (d, j, e) = In-map_from (λ d. d.frame) g gs i in
    let r = chain_each t p [] gs c d j in
    rw (e, r.0) r.1.row

module _ (w : World) (p : ℕ) (a : Five) (s : IsSound w.tree) (n : IsName w.tree p) where
  abbrev t : Tree
  t = w.tree

  abbrev wanted : ℕ
  wanted = needed w.tree p a.x0 a.x1

  abbrev small : IsWord wanted
  small = needs_word (child_of w.tree p a.x0) (vpage a.x1)

  module _ (there : is_none (child_at w.tree p a.x0) ≡ false) where
    -- a page that is open afterwards is none of them
    open_page : (g0 g1 g2 : Pair) (gs : List Pair) → IsChain t p [] (g0 ∷ g1 ∷ g2 ∷ gs)
        → length (g0 ∷ g1 ∷ g2 ∷ gs) ≡ wanted → IsWord a.x1 → (g : ℕ)
        → hidden (change_node (child_name t p a.x0) (given (dir (vpage a.x1)) g0 g1 g2 gs) t) g ≡ false
        → has (frames_of g0 g1 g2 gs) g ≡ false
    open_page g0 g1 g2 gs chain long word g shown =
        let (c, k) = named_child t p a.x0 there in
        let b : Table = record { index = dir (vpage a.x1); mmu = g0; shadow1 = g1; shadow2 = g2 } in
        let len = long ∙ ap (λ x. pages_needed x (vpage a.x1)) k.node in
        let may = may_prepare t p c (vpage a.x1) g0 g1 g2 gs s n k.child k.up (omega arith) chain len in
        let now = subst (λ q. hidden (change_node q (with_table b gs) t) g ≡ false) k.name shown in
        (or_parts (hidden t g) (has (frames_of g0 g1 g2 gs) g) (rw (← hidden_now t p c b gs s n may g) now)).1

    prepared : (gs : List Pair) → IsChain t p [] gs → length gs ≡ wanted
        → Keeps Prepare w p a (accept wanted (tree_with_table t (child_name t p a.x0) (dir (vpage a.x1)) gs))
    prepared [] chain long = same_tree S.Ok wanted small
    prepared (g0 ∷ []) chain long = same_tree S.Ok wanted small
    prepared (g0 ∷ g1 ∷ []) chain long = same_tree S.Ok wanted small
    prepared (g0 ∷ g1 ∷ g2 ∷ gs) chain long =
        let f : Node → Node = given (dir (vpage a.x1)) g0 g1 g2 gs in
        let fs = frames_of g0 g1 g2 gs in
        changed_child s n a.x0 wanted f (words_without (frames_of g0 g1 g2 gs) t.words) (record {
          there = there;
          name = λ x. refl;
          up = λ x. refl;
          value = small;
          rows = λ q i h. change-keeps (child_name t p a.x0) f (λ z. z.rows) (λ z. refl) (node t q);
          other_words = λ g h. without_out t fs g (λ i. h (chain_rows t p (g0 ∷ g1 ∷ g2 ∷ gs) chain g i));
          open_words = λ l g h i. rw (open_page g0 g1 g2 gs chain long l g i);
          entries = λ h.
              let e : (wanted == 0) ≡ false = ne_eqb wanted 0 (λ q. let z = long ∙ q in cc) in
              absurd (grind (arith, h, e));
        })

    with_pages : (o : PageChain) → chain_of t p a.x0 a.x1 a.x2 ≡ o
        → Keeps Prepare w p a (prepare_with t (child_name t p a.x0) (vpage a.x1) wanted o)
    with_pages (Refused q) e = same_tree q 0 (omega arith)
    with_pages (Pages gs) e = let c = chain_is t p wanted [] a.x2 gs e in prepared gs c.0 c.1

  keeps : Keeps Prepare w p a (answer Prepare w p a)
  keeps = unless (λ e.
      with_pages (passed (count_refusals t p a.x0 a.x1) e S.NotChild) (chain_of t p a.x0 a.x1 a.x2) refl)

module _ {p : ℕ} {t u : Tree} (g : Agreeing p t u) where
  -- the chain is the same, page by page
  page_refusals_same : (seen : List ℕ) (b : ℕ) → page_refusals t p seen b ≡ page_refusals u p seen b
  page_refusals_same seen b =
      let f = free-same g (vpage b) in
      let own = caller-same g in
      λ i. some_unaligned (b ∷ []) ∷ some_null (b ∷ []) ∷ (has seen b, S.Repeated)
      ∷ (not (is_some (row_at (own i).rows (vpage b))), S.NotMapped)
      ∷ (not (f i), S.NotFree)
      ∷ (not (bit_and 3 (unwrap_or (option_map (λ r. r.rights) (row_at (own i).rows (vpage b))) 0) == 3), S.NoRight)
      ∷ []

  next_same : (seen : List ℕ) (b : ℕ) → first_met (page_refusals t p seen b) ≡ None
      → next_in_chain t p b ≡ next_in_chain u p b
  next_same seen b e =
      rw (← g.trees.words (page_of t p b) 0 (page_may t p seen b e).0.row (omega arith), page-same g b)

  go_on_same : (b : ℕ) (o e : Option Status) (x y : PageChain) → o ≡ e → (o ≡ None → x ≡ y)
      → go_on o (pair_at t p b) x ≡ go_on e (pair_at u p b) y
  go_on_same b None None x y q h = let e = page-same g b in λ i. put_first (record { va = b; frame = e i }) (h refl i)
  go_on_same b None (Some z) x y q h = cc
  go_on_same b (Some z) None x y q h = cc
  go_on_same b (Some z) (Some r) x y q h = let w : z ≡ r = cc in rw w

  chain_same : (n : ℕ) (seen : List ℕ) (b : ℕ) → page_chain t p n seen b ≡ page_chain u p n seen b
  chain_same zero seen b = refl
  chain_same (suc n) seen b =
      go_on_same b (first_met (page_refusals t p seen b)) (first_met (page_refusals u p seen b)) _ _
      (cc (page_refusals_same seen b))
      (λ e. rw (chain_same n (b ∷ seen) (next_in_chain t p b), next_same seen b e))

  prepared-agree : (d i : ℕ) → is_none (child_at t p d) ≡ false → (gs : List Pair)
      → AgreeTrees p (tree_with_table t (child_name t p d) i gs) (tree_with_table u (child_name u p d) i gs)
  prepared-agree d i e [] = g.trees
  prepared-agree d i e (g0 ∷ []) = g.trees
  prepared-agree d i e (g0 ∷ g1 ∷ []) = g.trees
  prepared-agree d i e (g0 ∷ g1 ∷ g2 ∷ gs) =
      let fs = frames_of g0 g1 g2 gs in
      agree_child g (given i g0 g1 g2 gs) (λ x. refl) (λ x. refl) d e
      (words_without fs t.words) (words_without fs u.words) (λ h j k l.
      without_same fs fs t.words u.words h j refl (g.trees.words h j k l))

  with_pages-agree : (d v k : ℕ) → is_none (child_at t p d) ≡ false → (o : PageChain)
      → AgreeAnswers p (prepare_with t (child_name t p d) v k o) (prepare_with u (child_name u p d) v k o)
  with_pages-agree d v k e (Refused q) = record { status = refl; value = refl; tree = g.trees }
  with_pages-agree d v k e (Pages gs) = record { status = refl; value = refl; tree = prepared-agree d (dir v) e gs }

  agrees : (d cv b : ℕ) → AgreeAnswers p (prepare t p d cv b) (prepare u p d cv b)
  agrees d cv b =
      let o = child_of-same g d in
      let k = needed t p d cv in
      let chain = chain_of t p d cv b in
      let same : ◌≡◌ {A = ℕ × PageChain} (needed t p d cv, chain_of t p d cv b) (needed u p d cv, chain_of u p d cv b) =
      ap (λ z. (needed t p d cv, z)) (chain_same (needed t p d cv) [] b)
      ∙ (λ i. (pages_needed (o i) (vpage cv), page_chain u p (pages_needed (o i) (vpage cv)) [] b)) in
      let with : ℕ × PageChain → Answer = λ z. prepare_with u (child_name u p d) (vpage cv) z.0 z.1 in
      agree_unless g (count_same g d cv) (λ h.
      let there = passed (count_refusals t p d cv) h S.NotChild in
      subst (λ z. AgreeAnswers p (prepare_with t (child_name t p d) (vpage cv) k chain) (with z)) same
      (with_pages-agree d (vpage cv) k there chain))

pub laws : MemoryLaws Prepare
laws = record {
  sound = λ w p a s n l. prepare-sound w.tree p a.x0 a.x1 a.x2 s n l;
  keeps = keeps;
  agrees = λ w v p a g h. agrees g a.x0 a.x1 a.x2;
  caches = λ w cs p a. refl;
}
