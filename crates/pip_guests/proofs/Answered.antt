-- What calls on memory answer where words differ in what isn't seen of them.
use Rattle.std.proofs.Common.{◌≡◌, ℕ, zero, suc, ◌==◌, Bool, true, false, cond, List, [], ◌∷◌, refl, ap, ◌∙◌}
use Rattle.std.proofs.Common.{Option, Some, None}
use Rattle.pip_base.specs.declared.outcome.Status.{Status}
use Rattle.pip_base.specs.declared.types.Pair.{Pair}
use Rattle.pip_model.specs.AddVAddr.{add_refusals, add_vaddr}
use Rattle.pip_model.specs.RemoveVAddr.{remove_refusals, remove_vaddr}
use Rattle.pip_model.specs.MappedInChild.{find_refusals, mapped_in_child}
use Rattle.pip_model.specs.Answers.{Answer, Five, answer_unless, child_name, child_of, first_met, page_of, pair_at}
use Rattle.pip_model.specs.Answers.{pair_frames}
use Rattle.pip_model.specs.Answers.{words_cleared, words_without}
use Rattle.pip_model.specs.Collect.{chain_word, collect, collect_refusals, first_va, returned_pages, table_for}
use Rattle.pip_model.specs.Collect.{words_with_chain}
use Rattle.pip_model.specs.CountToMap.{count_refusals, count_to_map, pages_needed}
use Rattle.pip_model.specs.CreatePartition.{create_partition, create_refusals, newborn}
use Rattle.pip_model.specs.DeletePartition.{delete_partition, delete_refusals}
use Rattle.pip_model.specs.Boot.{zero_words}
use Rattle.pip_model.specs.Lists.{has}
use Rattle.pip_model.specs.Prepare.{PageChain, Pages, Refused, go_on, next_in_chain, page_chain, page_refusals, prepare}
use Rattle.pip_model.specs.Prepare.{prepare_with, tree_with_table}
use Rattle.pip_model.specs.Tree.{Tree, config, vpage}
use Rattle.pip_guests.specs.Outside.{AlikeTrees, AlikeWord, ChainMisses}

-- two answers are one, and the trees differ in what isn't seen of words alone
pub record AlikeAnswers (look : ℕ → ℕ → ℕ → ℕ) (a b : Answer) : Type 0 where
  pub status : a.status ≡ b.status
  pub value : a.value ≡ b.value
  pub tree : AlikeTrees look a.tree b.tree

module _ (look : ℕ → ℕ → ℕ → ℕ) (t : Tree) (u : ℕ → Option (ℕ → ℕ)) (h : (g : ℕ) → AlikeWord look g (t.words g) (u g))
  where
    -- the same tree with other words
    abbrev other : Tree
    other = record t { words = u }

    same : AlikeTrees look t other
    same = record { nodes = refl; words = h }

    unless : (o : Option Status) (a b : Answer) → AlikeAnswers look a b
        → AlikeAnswers look (answer_unless t o a) (answer_unless other o b)
    unless None a b k = k
    unless (Some s) a b k = record { status = refl; value = refl; tree = same }

    -- of two words, or two that are alike
    either : (g : ℕ) (b : Bool) (x : Option (ℕ → ℕ)) (o p : Option (ℕ → ℕ)) → AlikeWord look g o p
        → AlikeWord look g (cond b x o) (cond b x p)
    either g true x o p a = record { there = refl; words = λ i. refl }
    either g false x o p a = a

    without : (gs : List ℕ) (g : ℕ) → AlikeWord look g (words_without gs t.words g) (words_without gs u g)
    without gs g = either g (has gs g) None (t.words g) (u g) (h g)

    cleared : (gs : List ℕ) (g : ℕ) → AlikeWord look g (words_cleared gs t.words g) (words_cleared gs u g)
    cleared gs g = either g (has gs g) (Some zero_words) (t.words g) (u g) (h g)

    chained : (gs : List Pair) (g : ℕ) → AlikeWord look g (words_with_chain gs t.words g) (words_with_chain gs u g)
    chained [] g = h g
    chained (p ∷ gs) g = either g (p.frame == g) (Some (chain_word (first_va gs))) (words_with_chain gs t.words g)
        (words_with_chain gs u g) (chained gs g)

    chain_same : (p k : ℕ) (seen : List ℕ) (a : ℕ) → ChainMisses look t p k seen a
        → page_chain t p k seen a ≡ page_chain other p k seen a
    chain_same p zero seen a m = refl
    chain_same p (suc zero) seen a m = refl
    chain_same p (suc (suc k)) seen a m =
        ap (go_on (first_met (page_refusals t p seen a)) (pair_at t p a))
        (chain_same p (suc k) (a ∷ seen) (next_in_chain t p a) m.1
        ∙ ap (page_chain other p (suc k) (a ∷ seen)) (m.0 _ _ ((h (page_of t p a)).words 0)))

    table_alike : (c i : ℕ) (gs : List Pair) → AlikeTrees look (tree_with_table t c i gs)
        (tree_with_table other c i gs)
    table_alike c i [] = same
    table_alike c i (g0 ∷ []) = same
    table_alike c i (g0 ∷ g1 ∷ []) = same
    table_alike c i (g0 ∷ g1 ∷ g2 ∷ gs) =
        record { nodes = refl; words = without (pair_frames (g0 ∷ g1 ∷ g2 ∷ gs)) }

    prepared : (c v k : ℕ) (q : PageChain) → AlikeAnswers look (prepare_with t c v k q) (prepare_with other c v k q)
    prepared c v k (Refused s) = record { status = refl; value = refl; tree = same }
    prepared c v k (Pages gs) = record { status = refl; value = refl; tree = table_alike c _ gs }

    pub prepare_alike : (p : ℕ) (a : Five)
        → ChainMisses look t p (pages_needed (child_of t p a.x0) (vpage a.x1)) [] a.x2
        → AlikeAnswers look (prepare t p a.x0 a.x1 a.x2) (prepare other p a.x0 a.x1 a.x2)
    prepare_alike p a m =
        let k = pages_needed (child_of t p a.x0) (vpage a.x1) in
        let c = child_name t p a.x0 in
        let v = vpage a.x1 in
        unless (first_met (count_refusals t p a.x0 a.x1)) (prepare_with t c v k (page_chain t p k [] a.x2))
        (prepare_with other c v k (page_chain other p k [] a.x2))
        (rw (← chain_same p k [] a.x2 m) (prepared c v k (page_chain t p k [] a.x2)))

    pub collect_alike : (p : ℕ) (a : Five) → AlikeAnswers look (collect t p a.x0 a.x1) (collect other p a.x0 a.x1)
    collect_alike p a =
        let x = child_of t p a.x0 in
        let gs = returned_pages x (table_for x (vpage a.x1)) in
        unless (first_met (collect_refusals t p a.x0 a.x1)) _ _
        (record { status = refl; value = refl; tree = record { nodes = refl; words = chained gs } })

    pub delete_alike : (rs : List ℕ) (p d : ℕ)
        → AlikeAnswers look (delete_partition t rs p d) (delete_partition other rs p d)
    delete_alike rs p d = unless (first_met (delete_refusals t rs p d)) _ _
        (record { status = refl; value = refl; tree = record { nodes = refl; words = cleared _ } })

    pub create_alike : (p : ℕ) (a : Five) → AlikeAnswers look (create_partition t p a) (create_partition other p a)
    create_alike p a = unless (first_met (create_refusals t p a)) _ _
        (record {
          status = refl;
          value = refl;
          tree = record {
            nodes = refl;
            words = without (config (newborn t p a));
          };
        })

    pub count_alike : (p : ℕ) (a : Five) → AlikeAnswers look (count_to_map t p a.x0 a.x1)
        (count_to_map other p a.x0 a.x1)
    count_alike p a = unless (first_met (count_refusals t p a.x0 a.x1)) _ _
        (record { status = refl; value = refl; tree = same })

    pub add_alike : (p : ℕ) (a : Five)
        → AlikeAnswers look (add_vaddr t p a.x0 a.x1 a.x2 a.x3) (add_vaddr other p a.x0 a.x1 a.x2 a.x3)
    add_alike p a = unless (first_met (add_refusals t p a.x0 a.x1 a.x2 a.x3)) _ _
        (record { status = refl; value = refl; tree = record { nodes = refl; words = h } })

    pub remove_alike : (p : ℕ) (a : Five)
        → AlikeAnswers look (remove_vaddr t p a.x0 a.x1) (remove_vaddr other p a.x0 a.x1)
    remove_alike p a = unless (first_met (remove_refusals t p a.x0 a.x1)) _ _
        (record { status = refl; value = refl; tree = record { nodes = refl; words = h } })

    pub mapped_alike : (p : ℕ) (a : Five) → AlikeAnswers look (mapped_in_child t p a.x0) (mapped_in_child other p a.x0)
    mapped_alike p a = unless (first_met (find_refusals t p a.x0)) _ _
        (record { status = refl; value = refl; tree = same })
