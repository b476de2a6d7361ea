-- The laws of collect.
use Rattle.std.proofs.Common.{◌≡◌, ◌≢◌, ℕ, ◌==◌, inl, inr, Bool, true, false, cond, List, [], ◌∷◌, ◌++◌, refl, sym, ap}
use Rattle.std.proofs.Common.{◌∙◌, subst, arith, Option, Some, None}
use Rattle.std.specs.Prelude.{is_none, flat_map}
use Rattle.std.proofs.lemmas.Bool.{ne_eqb}
use Rattle.pip_base.specs.declared.outcome.Status.TheVariants as S
use Rattle.pip_base.specs.declared.types.Pair.{Pair}
use Rattle.pip_model.specs.Answers.{Five, child_name, child_of, first_met, some_null, some_unaligned}
use Rattle.pip_model.specs.Collect.{chain_word, collect, collect_refusals, falls, first_va, has_row_in, last_pair}
use Rattle.pip_model.specs.Collect.{returned_pages, table_for, without_table, words_with_chain}
use Rattle.pip_model.specs.declared.call_name.MemoryCall.TheVariants.{Collect}
use Rattle.pip_model.specs.Lists.{In}
use Rattle.pip_model.specs.Sound.{IsSound, IsWord}
use Rattle.pip_model.specs.Tree.{Node, Table, Tree, base_pairs, child_at, config, dir, hidden, node, pairs, row_pages}
use Rattle.pip_model.specs.Tree.{table_pairs, vpage, word_of}
use Rattle.pip_model.specs.Worlds.{World}
use Rattle.pip_model.proofs.OnLists.Members.{In-append_cases, In-append_left, In-append_right, In-map, find_in}
use Rattle.pip_model.proofs.Trees.ChangeNode.{change-keeps, with_child}
use Rattle.pip_model.proofs.Trees.Free.{IsName, hidden_by, passed}
use Rattle.pip_model.proofs.Trees.Numbers.{va_small}
use Rattle.pip_model.specs.Happens.{answer}
use Rattle.pip_model.proofs.Calls.Collect.{collect-sound, pairs_flat}
use Rattle.pip_model.proofs.Locality.Agree.{AgreeAnswers, AgreeTrees, Agreeing, agree_child, agree_unless, child-same}
use Rattle.pip_model.proofs.Locality.Agree.{child_of-same}
use Rattle.pip_model.proofs.Locality.Leaves.{child_pages}
use Rattle.pip_model.proofs.Trees.Children.{IsNamed, named_child}
use Rattle.pip_model.proofs.Calls.Laws.{Keeps, MemoryLaws, changed_child, unless}

-- the pages that come back
abbrev returned : Tree → ℕ → ℕ → ℕ → List Pair
returned t p d cv = returned_pages (child_of t p d) (table_for (child_of t p d) (vpage cv))

-- their words change, and no others
chain_out : (gs : List Pair) (w : ℕ → Option (ℕ → ℕ)) (g : ℕ) → ((d : Pair) → In d gs → d.frame ≢ g)
    → words_with_chain gs w g ≡ w g
chain_out [] w g h = refl
chain_out (d ∷ gs) w g h =
    rw (ne_eqb d.frame g (h d (inl refl)), chain_out gs w g (λ e i. h e (inr i)))

last_in : (gs : List Pair) (d : Pair) → In d (last_pair gs) → In d gs
last_in [] d k = k
last_in (g ∷ []) d k = k
last_in (g ∷ h ∷ gs) d k = inr (last_in (h ∷ gs) d k)

-- they are the child's
returned_in : (c : Node) (v : ℕ) (o : Option Table) → table_for c v ≡ o → (d : Pair) → In d (returned_pages c o)
    → In d (pairs c)
returned_in c v None e d i = absurd i
returned_in c v (Some b) e d i =
    In-append_right d (base_pairs c.base) (flat_map table_pairs c.tables ++ c.more)
    (elim (In-append_cases d (table_pairs b) (cond (falls c) (last_pair c.more) []) i) [
      | inl k ↦
          let j = (find_in (λ t. t.index == dir v) b c.tables e).0 in
          In-append_left d (flat_map table_pairs c.tables) c.more (pairs_flat d b c.tables j k)
      | inr k ↦ In-append_right d (flat_map table_pairs c.tables) c.more (one (falls c) k)
    ])
  where
    one : (q : Bool) → In d (cond q (last_pair c.more) []) → In d c.more
    one true k = last_in c.more d k
    one false k = absurd k

module _ (t : Tree) (p d cv : ℕ) (there : is_none (child_at t p d) ≡ false) where
  -- the first of them is at a word
  returned_word : IsSound t → IsWord (first_va (returned t p d cv))
  returned_word s =
      let (c, k) = named_child t p d there in
      rw k.node (of c (table_for c (vpage cv)) k.child refl)
    where
      of : (x : Node) (o : Option Table) → In x t.others → table_for x (vpage cv) ≡ o
          → IsWord (first_va (returned_pages x o))
      of x None i e = omega arith
      of x (Some b) i e = va_small t s x (inr i) b.mmu (returned_in x (vpage cv) (Some b) e b.mmu (inl refl))

  -- a page that is none of the child's keeps its words
  others_kept : (g : ℕ) → ((c : Node) → IsNamed t p d c → In g (config c) → ⊥)
      → words_with_chain (returned t p d cv) t.words g ≡ t.words g
  others_kept g h =
      let (c, k) = named_child t p d there in
      chain_out (returned t p d cv) t.words g (λ b i z.
      let l = subst (λ x. In b (returned_pages x (table_for x (vpage cv)))) k.node i in
      let j = returned_in c (vpage cv) (table_for c (vpage cv)) refl b l in
      h c k (subst (λ g. In g (config c)) z (In-map (λ b. b.frame) b (pairs c) j)))

module _ (w : World) (p : ℕ) (a : Five) (s : IsSound w.tree) (n : IsName w.tree p) where
  abbrev t : Tree
  t = w.tree

  abbrev f : Node → Node
  f = without_table (dir (vpage a.x1))

  abbrev words : ℕ → Option (ℕ → ℕ)
  words = words_with_chain (returned w.tree p a.x0 a.x1) w.tree.words

  -- the child's pages are rows of p, and hidden
  other_words : is_none (child_at t p a.x0) ≡ false → (g : ℕ) → (In g (row_pages (node t p)) → ⊥) → words g ≡ t.words g
  other_words there g h = others_kept t p a.x0 a.x1 there g (λ c k i.
      h (child_pages t p s n a.x0 c k.found g (In-append_left g (config c) (row_pages c) i)))

  open_words : is_none (child_at t p a.x0) ≡ false → (g : ℕ) → hidden t g ≡ false → words g ≡ t.words g
  open_words there g h = others_kept t p a.x0 a.x1 there g (λ c k i.
      let e = hidden_by t g c (inr k.child) i in
      absurd (grind (arith, h, e)))

  keeps : Keeps Collect w p a (answer Collect w p a)
  keeps = unless (λ e.
      let there = passed (collect_refusals t p a.x0 a.x1) e S.NotChild in
      changed_child s n a.x0 (first_va (returned t p a.x0 a.x1)) f words (record {
        there = there;
        name = λ x. refl;
        up = λ x. refl;
        value = returned_word t p a.x0 a.x1 there s;
        rows = λ q i h. change-keeps (child_name t p a.x0) f (λ z. z.rows) (λ z. refl) (node t q);
        other_words = other_words there;
        open_words = λ l g h i. open_words there g h;
        entries = λ h. cc;
      }))

either_same : (b : Bool) (x l m : Option (ℕ → ℕ)) (i : ℕ) → word_of l i ≡ word_of m i
    → word_of (cond b x l) i ≡ word_of (cond b x m) i
either_same true x l m i h = refl
either_same false x l m i h = h

chain_same : (gs : List Pair) (v w : ℕ → Option (ℕ → ℕ)) (g i : ℕ) → word_of (w g) i ≡ word_of (v g) i
    → word_of (words_with_chain gs w g) i ≡ word_of (words_with_chain gs v g) i
chain_same [] v w g i h = h
chain_same (d ∷ gs) v w g i h =
    either_same (d.frame == g) (Some (chain_word (first_va gs))) (words_with_chain gs w g) (words_with_chain gs v g) i
    (chain_same gs v w g i h)

module _ {p : ℕ} {t u : Tree} (g : Agreeing p t u) where
  refusals_same : (d cv : ℕ) → first_met (collect_refusals t p d cv) ≡ first_met (collect_refusals u p d cv)
  refusals_same d cv =
      let o = child_of-same g d in
      let c = child-same g d in
      λ i. first_met (some_unaligned (d ∷ cv ∷ []) ∷ some_null (d ∷ cv ∷ []) ∷ (is_none (c i), S.NotChild)
      ∷ (is_none (table_for (o i) (vpage cv)), S.NoTable) ∷ (has_row_in (o i) (dir (vpage cv)), S.NotEmpty) ∷ [])

  agrees : (d cv : ℕ) → AgreeAnswers p (collect t p d cv) (collect u p d cv)
  agrees d cv =
      let f : Node → Node = without_table (dir (vpage cv)) in
      let gs = returned t p d cv in
      let words = words_with_chain (returned t p d cv) t.words in
      let words' = words_with_chain (returned t p d cv) u.words in
      let o = child_of-same g d in
      let same : returned t p d cv ≡ returned u p d cv = λ i. returned_pages (o i) (table_for (o i) (vpage cv)) in
      agree_unless g (refusals_same d cv) (λ h.
      let there = passed (collect_refusals t p d cv) h S.NotChild in
      let tree = agree_child g f (λ x. refl) (λ x. refl) d there words words'
      (λ h i j l. chain_same gs t.words u.words h i (g.trees.words h i j l)) in
      let changed : List Pair → Type 0 =
      λ hs. AgreeTrees p (with_child t p d f words) (with_child u p d f (words_with_chain hs u.words)) in
      record { status = refl; value = rw same; tree = rw (← same) tree })

pub laws : MemoryLaws Collect
laws = record {
  sound = λ w p a s n l. collect-sound w.tree p a.x0 a.x1 s;
  keeps = keeps;
  agrees = λ w v p a g h. agrees g a.x0 a.x1;
  caches = λ w cs p a. refl;
}
