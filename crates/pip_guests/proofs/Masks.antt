-- The mask of a partition that isn't the root is read by no event.
use Rattle.std.proofs.Common.{◌≡◌, ◌≢◌, ℕ, zero, suc, ◌+◌, ◌*◌, ◌==◌, not, Bool, true, false, cond}
use Rattle.std.proofs.Common.{List, [], ◌∷◌}
use Rattle.std.proofs.Common.{map, refl, sym, ap, ap₂, ◌∙◌, Option, Some, None}
use Rattle.std.specs.Prelude.{filter, find, flat_map, is_none, is_some, option_map, slice_set}
use Rattle.std.specs.Prelude.{unwrap_or}
use Rattle.std.specs.List.{list_any}
use Rattle.std.proofs.lemmas.Bool.{ne_eqb}
use Rattle.pip_base.specs.declared.types.Access.{Access}
use Rattle.pip_base.specs.declared.types.Access.TheVariants.{Load, Store, Fetch}
use Rattle.pip_base.specs.declared.types.Ctx.{Ctx}
use Rattle.pip_base.specs.declared.types.Size.{Size}
use Rattle.pip_base.specs.declared.types.Size.TheVariants.{Word}
use Rattle.pip_base.specs.declared.outcome.Status.{Status}
use Rattle.pip_model.specs.Answers.{Answer, Five, answer_unless, first_met, nobody}
use Rattle.pip_model.specs.Answers.{words_without}
use Rattle.pip_model.specs.CountToMap.{count_refusals, count_to_map, pages_needed}
use Rattle.pip_model.specs.CreatePartition.{create_partition, create_refusals, newborn}
use Rattle.pip_model.specs.DeletePartition.{delete_refusals, delete_partition, some_run, tree_without_subtree}
use Rattle.pip_model.specs.Answers.{child_name, child_of, page_of}
use Rattle.pip_model.specs.Deliver.{deliver, deliver_to, nearest_above, nearest_among, nearest_taker, taker_or}
use Rattle.pip_model.specs.Handlers.{block, block_at, context_reached, handler, handler_at, save_place}
use Rattle.pip_model.specs.Handlers.{store_at}
use Rattle.pip_model.specs.Lists.{has}
use Rattle.pip_model.specs.Reach.{Faulted, Place, Reached, reach}
use Rattle.pip_model.specs.Reach.{reach_by_row, word_reached}
use Rattle.pip_model.specs.Tree.{Node, Row, Table, Tree, dir, word_of, ancestry, below, chain, chain_in, change_at}
use Rattle.pip_model.specs.Tree.{change_node, child_at, children, config}
use Rattle.pip_model.specs.Tree.{free, hidden, holder, is_free_row, names_of, node, nodes, row_at, vpage}
use Rattle.pip_model.specs.Worlds.{Happened, World, lines_in, masked_node, running, runs_on, save_running}
use Rattle.pip_model.specs.Worlds.{with_masked, with_pending}
use Rattle.pip_base.specs.Status.{status_number}
use Rattle.pip_base.specs.declared.outcome.Outcome.{Outcome}
use Rattle.pip_base.specs.declared.outcome.Outcome.TheVariants as O
use Rattle.pip_base.specs.declared.types.Pair.{Pair}
use Rattle.pip_model.specs.AddVAddr.{add_refusals, add_vaddr, with_row}
use Rattle.pip_model.specs.Collect.{collect_refusals, collect, returned_pages, table_for}
use Rattle.pip_model.specs.Collect.{without_table}
use Rattle.pip_model.specs.Events.{Event}
use Rattle.pip_model.specs.Events as E
use Rattle.pip_model.specs.Handlers.{save}
use Rattle.pip_model.specs.Happens.{access_number, answer, call, call_named, fault_number, fault_vector, load_happens}
use Rattle.pip_model.specs.Happens.{on_running, read_of, what_happens, with_word, written_over, wrote}
use Rattle.pip_model.specs.MappedInChild.{find_refusals, holder_born, mapped_in_child}
use Rattle.pip_model.specs.Poll.{lines_with, lowest_line, may_take, none_taken, poll, poll_line, take_line}
use Rattle.pip_model.specs.Prepare.{PageChain, Pages, Refused, next_in_chain, page_chain, prepare}
use Rattle.pip_model.specs.Prepare.{prepare_with, tree_with_table, with_table}
use Rattle.pip_model.specs.RemoveVAddr.{remove_refusals, remove_vaddr, without_row}
use Rattle.pip_model.specs.Switching.{node_name, reply_happens, reply_unless, target_node, with_reply}
use Rattle.pip_model.specs.Switching.{yield}
use Rattle.pip_model.specs.Switching.{yield_happens, yield_refusals, yield_to, yielded_tree}
use Rattle.pip_model.specs.declared.call_name.CallName.{CallName}
use Rattle.pip_model.specs.declared.call_name.CallName.TheVariants.{Masks, OnMemory, Unknown, Yields}
use Rattle.pip_model.specs.declared.call_name.MemoryCall.{MemoryCall}
use Rattle.pip_model.specs.declared.call_name.MemoryCall.TheVariants.{AddVAddr, Collect, CountToMap, CreatePartition}
use Rattle.pip_model.specs.declared.call_name.MemoryCall.TheVariants.{DeletePartition, MappedInChild, Prepare}
use Rattle.pip_model.specs.declared.call_name.MemoryCall.TheVariants.{RemoveVAddr}
use Rattle.pip_model.specs.declared.processors.Occupant.{Occupant}
use Rattle.pip_model.specs.declared.processors.Taker.{Taker}
use Rattle.pip_guests.specs.Outside.{AlikeTrees, one_mask, unmasked}

-- ---- lists of nodes

found : (p : Node → Bool) (xs : List Node)
    → find p (map unmasked xs) ≡ option_map unmasked (find (λ x. p (unmasked x)) xs)
found p [] = refl
found p (x ∷ xs) = by (p (unmasked x)) (found p xs)
  where
    by : (b : Bool) → find p (map unmasked xs) ≡ option_map unmasked (find (λ x. p (unmasked x)) xs)
        → cond b (Some (unmasked x)) (find p (map unmasked xs))
        ≡ option_map unmasked (cond b (Some x) (find (λ x. p (unmasked x)) xs))
    by true e = refl
    by false e = e

filtered : (p : Node → Bool) (xs : List Node)
    → filter p (map unmasked xs) ≡ map unmasked (filter (λ x. p (unmasked x)) xs)
filtered p [] = refl
filtered p (x ∷ xs) = by (p (unmasked x)) (filtered p xs)
  where
    by : (b : Bool) → filter p (map unmasked xs) ≡ map unmasked (filter (λ x. p (unmasked x)) xs)
        → cond b (unmasked x ∷ filter p (map unmasked xs)) (filter p (map unmasked xs))
        ≡ map unmasked (cond b (x ∷ filter (λ x. p (unmasked x)) xs) (filter (λ x. p (unmasked x)) xs))
    by true e = rw e
    by false e = e

any : (p : Node → Bool) (xs : List Node) → list_any p (map unmasked xs) ≡ list_any (λ x. p (unmasked x)) xs
any p [] = refl
any p (x ∷ xs) = rw (any p xs)

mapped : (f : Node → Node) → ((x : Node) → unmasked (f (unmasked x)) ≡ unmasked (f x)) → (xs : List Node)
    → map unmasked (map f (map unmasked xs)) ≡ map unmasked (map f xs)
mapped f s [] = refl
mapped f s (x ∷ xs) = ap₂ (λ y ys. y ∷ ys) (s x) (mapped f s xs)

twice : (xs : List Node) → map unmasked (map unmasked xs) ≡ map unmasked xs
twice [] = refl
twice (x ∷ xs) = rw (twice xs)

names : (xs : List Node) → names_of (map unmasked xs) ≡ names_of xs
names [] = refl
names (x ∷ xs) = rw (names xs)

configs : (xs : List Node) → flat_map config (map unmasked xs) ≡ flat_map config xs
configs [] = refl
configs (x ∷ xs) = rw (configs xs)

ancestors : (root : Node) (xs : List Node) (p : ℕ)
    → map unmasked (chain_in root (map unmasked xs) p) ≡ map unmasked (chain_in root xs p)
ancestors root [] p = refl
ancestors root (x ∷ xs) p = by (x.name == p) _ _ _ _ (ancestors root xs x.up) (ancestors root xs p)
  where
    by : (b : Bool) (us vs ys zs : List Node) → map unmasked us ≡ map unmasked vs → map unmasked ys ≡ map unmasked zs
        → map unmasked (cond b (unmasked x ∷ us) ys) ≡ map unmasked (cond b (x ∷ vs) zs)
    by true us vs ys zs e d = rw e
    by false us vs ys zs e d = d

no_node : (o : Option Node) → is_none (option_map unmasked o) ≡ is_none o
no_node None = refl
no_node (Some x) = refl

joined : (n : ℕ) (root : Node) (xs ys : List Node) (u v : ℕ → Option (ℕ → ℕ)) → xs ≡ ys → u ≡ v
    → ◌≡◌ {A = Tree} (record { frames = n; root = root; others = xs; words = u })
    (record { frames = n; root = root; others = ys; words = v })
joined n root xs ys u v e d = λ i. record { frames = n; root = root; others = e i; words = d i }

-- ---- what is read of a tree

module _ (t : Tree) where
  node_bare : (p : ℕ) → unmasked (node (one_mask t) p) ≡ unmasked (node t p)
  node_bare p = rw (found (λ x. x.name == p) t.others, by (t.root.name == p) (find (λ x. x.name == p) t.others))
    where
      by : (b : Bool) (o : Option Node) → unmasked (unwrap_or (cond b (Some t.root) (option_map unmasked o)) t.root)
          ≡ unmasked (unwrap_or (cond b (Some t.root) o) t.root)
      by true o = refl
      by false None = refl
      by false (Some x) = refl

  rows_bare : (p : ℕ) → (node (one_mask t) p).rows ≡ (node t p).rows
  rows_bare p = ap (λ x. x.rows) (node_bare p)

  pub child_bare : (p d : ℕ) → child_at (one_mask t) p d ≡ option_map unmasked (child_at t p d)
  child_bare p d = rw (filtered (λ x. x.up == p) t.others, found _ (children t p))

  holder_bare : (p g : ℕ) → holder (one_mask t) p g ≡ option_map unmasked (holder t p g)
  holder_bare p g = rw (filtered (λ x. x.up == p) t.others, found _ (children t p))

  hidden_bare : (g : ℕ) → hidden (one_mask t) g ≡ hidden t g
  hidden_bare g = rw (any (λ x. has (config x) g) t.others)

  pub reach_bare : (p va : ℕ) (a : Access) (z : Size) → reach (one_mask t) p va a z ≡ reach t p va a z
  reach_bare p va a z = rw (rows_bare p, by (row_at (node t p).rows (vpage va)))
    where
      by : (o : Option Row) → reach_by_row (one_mask t) va a o ≡ reach_by_row t va a o
      by None = refl
      by (Some r) = rw (hidden_bare r.frame)

  block_bare : (p k : ℕ) → block (one_mask t) p k ≡ block t p k
  block_bare p k = rw (reach_bare p (0xfffff000 + 4 * k) Load Word, at (reach t p (0xfffff000 + 4 * k) Load Word))
    where
      by : (o : Option ℕ) → block_at (one_mask t) p o ≡ block_at t p o
      by None = refl
      by (Some a) = rw (reach_bare p a Load Word)

      at : (q : Reached) → block_at (one_mask t) p (word_reached (one_mask t) q) ≡ block_at t p (word_reached t q)
      at (Place g i) = by (word_reached t (Place g i))
      at (Faulted f) = refl

  pub handler_bare : (p k : ℕ) → handler (one_mask t) p k ≡ handler t p k
  handler_bare p k = rw (block_bare p k, by (block t p k))
    where
      at : (q : Reached) → context_reached (one_mask t) q ≡ context_reached t q
      at (Place g i) = refl
      at (Faulted f) = refl

      by : (o : Option ℕ) → handler_at (one_mask t) p o ≡ handler_at t p o
      by None = refl
      by (Some a) = rw (reach_bare p a Load Word, at (reach t p a Load Word))

  pub place_bare : (p k : ℕ) → save_place (one_mask t) p k ≡ save_place t p k
  place_bare p k = rw (block_bare p k, by (block t p k))
    where
      by : (o : Option ℕ) → store_at (one_mask t) p o ≡ store_at t p o
      by None = refl
      by (Some a) = reach_bare p a Store Word

  none_bare : (p d : ℕ) → is_none (child_at (one_mask t) p d) ≡ is_none (child_at t p d)
  none_bare p d = rw (child_bare p d, no_node (child_at t p d))

  child_of_bare : (p d : ℕ) → child_of (one_mask t) p d ≡ unmasked (child_of t p d)
  child_of_bare p d = rw (child_bare p d, by (child_at t p d))
    where
      by : (o : Option Node) → unwrap_or (option_map unmasked o) nobody ≡ unmasked (unwrap_or o nobody)
      by None = refl
      by (Some x) = refl

  child_name_bare : (p d : ℕ) → child_name (one_mask t) p d ≡ child_name t p d
  child_name_bare p d = rw (child_bare p d, by (child_at t p d))
    where
      by : (o : Option Node) → unwrap_or (option_map (λ x. x.name) (option_map unmasked o)) 0
          ≡ unwrap_or (option_map (λ x. x.name) o) 0
      by None = refl
      by (Some x) = refl

  free_bare : (p v : ℕ) → free (one_mask t) p v ≡ free t p v
  free_bare p v = rw (rows_bare p, by (row_at (node t p).rows v))
    where
      by : (o : Option Row) → is_free_row (one_mask t) p o ≡ is_free_row t p o
      by None = refl
      by (Some r) = rw (holder_bare p r.frame, no_node (holder t p r.frame))

  ancestry_bare : (p : ℕ) → ancestry (one_mask t) p ≡ ancestry t p
  ancestry_bare p =
      rw (← names (chain (one_mask t) p), ancestors t.root t.others p, names (chain t p))

  below_bare : (c : ℕ) → map unmasked (below (one_mask t) c) ≡ map unmasked (below t c)
  below_bare c = (λ i. map unmasked (filter (λ x. has (ancestry_bare x.name i) c) (nodes (one_mask t))))
      ∙ by (has (ancestry t t.root.name) c) _ _ (rw
      (filtered (λ x. has (ancestry t x.name) c) t.others, twice (filter (λ x. has (ancestry t x.name) c) t.others)))
    where
      by : (b : Bool) (xs ys : List Node) → map unmasked xs ≡ map unmasked ys
          → map unmasked (cond b (t.root ∷ xs) xs) ≡ map unmasked (cond b (t.root ∷ ys) ys)
      by true xs ys e = rw e
      by false xs ys e = e

  -- ---- calls on memory

  -- two answers are one, and the trees differ in masks alone
  record SameAnswers (a b : Answer) : Type 0 where
    status : a.status ≡ b.status
    value : a.value ≡ b.value
    tree : one_mask a.tree ≡ one_mask b.tree

  same_tree : one_mask (one_mask t) ≡ one_mask t
  same_tree = rw (twice t.others)

  unless : (o q : Option Status) (a b : Answer) → o ≡ q → SameAnswers a b
      → SameAnswers (answer_unless (one_mask t) o a) (answer_unless t q b)
  unless o q a b e k = rw e (by q)
    where
      by : (o : Option Status) → SameAnswers (answer_unless (one_mask t) o a) (answer_unless t o b)
      by None = k
      by (Some s) = record { status = refl; value = refl; tree = same_tree }

  changed : (c : ℕ) (f : Node → Node) (u v : ℕ → Option (ℕ → ℕ)) → ((x : Node) → unmasked (f (unmasked x))
      ≡ unmasked (f x)) → u ≡ v
      → one_mask (record (change_node c f (one_mask t)) { words = u })
      ≡ one_mask (record (change_node c f t) { words = v })
  changed c f u v s e =
      joined _ _ _ _ _ _ (mapped (change_at c f) (λ x. by x (x.name == c)) t.others) e
    where
      by : (x : Node) (b : Bool) → unmasked (cond b (f (unmasked x)) (unmasked x)) ≡ unmasked (cond b (f x) x)
      by x true = s x
      by x false = refl

  create_refused : (p : ℕ) (a : Five) → first_met (create_refusals (one_mask t) p a)
      ≡ first_met (create_refusals t p a)
  create_refused p a = cc (
    rows_bare p,
    free_bare p (vpage a.x0),
    free_bare p (vpage a.x1),
    free_bare p (vpage a.x2),
    free_bare p (vpage a.x3),
    free_bare p (vpage a.x4),
  )

  page_bare : (p a : ℕ) → page_of (one_mask t) p a ≡ page_of t p a
  page_bare p a = rw (rows_bare p)

  create_bare : (p : ℕ) (a : Five) → SameAnswers (create_partition (one_mask t) p a) (create_partition t p a)
  create_bare p a = unless _ _ _ _ (create_refused p a)
      (record {
        status = refl;
        value = refl;
        tree = joined _ _ _ _ _ _ (ap₂ (λ x l. unmasked x ∷ l) newborn_bare (twice t.others))
            (ap (λ x. words_without (config x) t.words) newborn_bare);
      })
    where
      newborn_bare : newborn (one_mask t) p a ≡ newborn t p a
      newborn_bare = cc (rows_bare p)

  delete_bare : (rs : List ℕ) (p d : ℕ) → SameAnswers (delete_partition (one_mask t) rs p d) (delete_partition t rs p d)
  delete_bare rs p d = unless (first_met (delete_refusals (one_mask t) rs p d))
      (first_met (delete_refusals t rs p d)) _ _
      (cc (none_bare p d, runs))
      (record {
        status = refl;
        value = refl;
        tree = cc (child_name_bare p d, gone (child_name t p d));
      })
    where
      runs : some_run rs (below (one_mask t) (child_name (one_mask t) p d)) ≡ some_run rs (below t (child_name t p d))
      runs = cc (
        child_name_bare p d,
        any (λ x. has rs x.name) (below (one_mask t) (child_name t p d)),
        below_bare
            (child_name t p d),
        any (λ x. has rs x.name) (below t (child_name t p d)),
      )

      gone : (c : ℕ) → one_mask (tree_without_subtree (one_mask t) c) ≡ one_mask (tree_without_subtree t c)
      gone c =
          let o = (λ i. filter (λ x. not (has (ancestry_bare x.name i) c)) (map unmasked t.others))
          ∙ filtered (λ x. not (has (ancestry t x.name) c)) t.others in
          let os = ap (map unmasked) o ∙ twice (filter (λ x. not (has (ancestry t x.name) c)) t.others) in
          let cs = sym (configs (below (one_mask t) c)) ∙ ap (flat_map config) (below_bare c) ∙ configs (below t c) in
          joined _ _ _ _ _ _ os (rw cs)

  count_refused : (p d cv : ℕ) → first_met (count_refusals (one_mask t) p d cv) ≡ first_met (count_refusals t p d cv)
  count_refused p d cv = cc (none_bare p d)

  count_bare : (p d cv : ℕ) → SameAnswers (count_to_map (one_mask t) p d cv) (count_to_map t p d cv)
  count_bare p d cv = unless _ _ _ _ (count_refused p d cv)
      (record {
        status = refl;
        value = rw (child_of_bare p d);
        tree = same_tree;
      })

  mapped_bare : (p v : ℕ) → SameAnswers (mapped_in_child (one_mask t) p v) (mapped_in_child t p v)
  mapped_bare p v = unless (first_met (find_refusals (one_mask t) p v)) (first_met (find_refusals t p v))
      _ _ (cc (rows_bare p))
      (record {
        status = refl;
        value = cc (page_bare p v, holder_bare p (page_of t p v), by (holder t p (page_of t p v)));
        tree = same_tree;
      })
    where
      by : (o : Option Node) → holder_born (option_map unmasked o) ≡ holder_born o
      by None = refl
      by (Some x) = refl

  remove_bare : (p d cv : ℕ) → SameAnswers (remove_vaddr (one_mask t) p d cv) (remove_vaddr t p d cv)
  remove_bare p d cv = unless (first_met (remove_refusals (one_mask t) p d cv))
      (first_met (remove_refusals t p d cv)) _ _
      (cc (none_bare p d, child_of_bare p d, lent))
      (record {
        status = refl;
        value = refl;
        tree = rw (child_name_bare p d) (changed (child_name t p d) (without_row (vpage cv)) _ _ (λ x. refl) refl);
      })
    where
      lent : free (one_mask t) (child_name (one_mask t) p d) (vpage cv) ≡ free t (child_name t p d) (vpage cv)
      lent = cc (child_name_bare p d, free_bare (child_name t p d) (vpage cv))

  add_bare : (p v d cv n : ℕ) → SameAnswers (add_vaddr (one_mask t) p v d cv n) (add_vaddr t p v d cv n)
  add_bare p v d cv n = unless (first_met (add_refusals (one_mask t) p v d cv n)) (first_met
      (add_refusals t p v d cv n)) _ _
      (cc (none_bare p d, child_of_bare p d, rows_bare p, free_bare p (vpage v)))
      (record {
        status = refl;
        value = refl;
        tree = rw (child_name_bare p d, page_bare p v)
            (changed (child_name t p d) (with_row (row (page_of t p v))) _ _ (λ x. refl) refl);
      })
    where
      row : ℕ → Row
      row g = record { at = vpage cv; frame = g; rights = n }

  collect_bare : (p d cv : ℕ) → SameAnswers (collect (one_mask t) p d cv) (collect t p d cv)
  collect_bare p d cv = unless (first_met (collect_refusals (one_mask t) p d cv)) (first_met
      (collect_refusals t p d cv)) _ _
      (cc (none_bare p d, child_of_bare p d))
      (record {
        status = refl;
        value = rw gs;
        tree = rw (child_name_bare p d) (changed (child_name t p d) (without_table (dir (vpage cv))) _ _ (λ x. refl)
            (rw gs));
      })
    where
      by : (x : Node) (o : Option Table) → returned_pages (unmasked x) o ≡ returned_pages x o
      by x None = refl
      by x (Some y) = refl

      gs : returned_pages (child_of (one_mask t) p d) (table_for (child_of (one_mask t) p d) (vpage cv))
          ≡ returned_pages (child_of t p d) (table_for (child_of t p d) (vpage cv))
      gs = rw (child_of_bare p d, by (child_of t p d) (table_for (child_of t p d) (vpage cv)))

  chain_bare : (p k : ℕ) (seen : List ℕ) (a : ℕ) → page_chain (one_mask t) p k seen a ≡ page_chain t p k seen a
  chain_bare p zero seen a = refl
  chain_bare p (suc k) seen a =
      cc (rows_bare p, free_bare p (vpage a), chain_bare p k (a ∷ seen) (next_in_chain t p a))

  prepare_bare : (p d cv a : ℕ) → SameAnswers (prepare (one_mask t) p d cv a) (prepare t p d cv a)
  prepare_bare p d cv a = unless _ _ _ _ (count_refused p d cv)
      (rw (child_name_bare p d, n, chain_bare p k [] a) (by (page_chain t p k [] a)))
    where
      k : ℕ
      k = pages_needed (child_of t p d) (vpage cv)

      n : pages_needed (child_of (one_mask t) p d) (vpage cv) ≡ k
      n = rw (child_of_bare p d)

      at : (c j : ℕ) (gs : List Pair) → one_mask (tree_with_table (one_mask t) c j gs)
          ≡ one_mask (tree_with_table t c j gs)
      at c j [] = same_tree
      at c j (g0 ∷ []) = same_tree
      at c j (g0 ∷ g1 ∷ []) = same_tree
      at c j (g0 ∷ g1 ∷ g2 ∷ gs) =
          changed c (with_table (record { index = j; mmu = g0; shadow1 = g1; shadow2 = g2 }) gs) _ _ (λ x. refl) refl

      by : (q : PageChain) → SameAnswers (prepare_with (one_mask t) (child_name t p d) (vpage cv) k q)
          (prepare_with t (child_name t p d) (vpage cv) k q)
      by (Refused s) = record { status = refl; value = refl; tree = same_tree }
      by (Pages gs) = record { status = refl; value = refl; tree = at (child_name t p d) (dir (vpage cv)) gs }

-- ---- events

-- two outcomes are one, and the worlds differ in masks alone
pub record Same (x y : Happened) : Type 0 where
  pub outcome : x.outcome ≡ y.outcome
  pub tree : one_mask x.world.tree ≡ one_mask y.world.tree
  pub cpus : x.world.cpus ≡ y.world.cpus

-- two nodes of one name, or none
abbrev Names : Option Node → Option Node → Type 0
Names o q = (node_name o ≡ node_name q) × (is_none o ≡ is_none q)

module _ (w : World) where
  -- the same world without these masks
  abbrev v : World
  v = record w { tree = one_mask w.tree }

  still : (o : Outcome) → Same (record { outcome = o; world = v }) (record { outcome = o; world = w })
  still o = record { outcome = refl; tree = same_tree w.tree; cpus = refl }

  saved : (c : Ctx) (p k : ℕ) → one_mask (save (one_mask w.tree) p k c) ≡ one_mask (save w.tree p k c)
  saved c p k = joined _ _ _ _ _ _ (twice w.tree.others) (rw (place_bare w.tree p k))

  -- the nearest taker, where a list of nodes has no masks
  among : (x : World) → ((p k : ℕ) → handler v.tree p k ≡ handler x.tree p k) → running v ≡ running x → (k born : ℕ)
      (qs : List Node) → nearest_among v k born (map unmasked qs) ≡ nearest_among x k born qs
  among x h n k born [] = refl
  among x h n k born (q ∷ qs) = rw (h q.name k, n) (by (has (running x) q.name) (handler x.tree q.name k) _ _
      (among x h n k q.born qs))
    where
      by : (b : Bool) (o : Option Ctx) (y z : Option Taker) → y ≡ z
          → taker_or b o (unmasked q) born y ≡ taker_or b o q born z
      by true o y z e = e
      by false None y z e = e
      by false (Some c) y z e = refl

  above : (x : World) → ((p k : ℕ) → handler v.tree p k ≡ handler x.tree p k) → running v ≡ running x → (k : ℕ)
      (qs : List Node) → nearest_above v k (map unmasked qs) ≡ nearest_above x k qs
  above x h n k [] = refl
  above x h n k (q ∷ qs) = among x h n k q.born qs

  taker_bare : (p k : ℕ) → nearest_taker v p k ≡ nearest_taker w p k
  taker_bare p k = rw (
    ← above v (λ q j. refl) refl k (chain v.tree p),
    ancestors w.tree.root w.tree.others p,
    above w
        (handler_bare w.tree) refl k (chain w.tree p),
  )

  delivered : (cpu : ℕ) (r : Occupant) (k a b : ℕ) → Same (deliver v cpu r k a b) (deliver w cpu r k a b)
  delivered cpu r k a b = rw (taker_bare r.name k) (by (nearest_taker w r.name k))
    where
      by : (o : Option Taker) → Same (deliver_to v cpu r k a b o) (deliver_to w cpu r k a b o)
      by None = record { outcome = refl; tree = saved r.ctx r.name 63; cpus = refl }
      by (Some y) = record { outcome = refl; tree = saved r.ctx r.name 63; cpus = refl }

  loaded : (cpu : ℕ) (r : Occupant) (va : ℕ) (a : Access) (z : Size)
      → Same (load_happens v cpu r va a z (reach v.tree r.name va a z)) (load_happens w cpu r va a z
      (reach w.tree r.name va a z))
  loaded cpu r va a z = rw (reach_bare w.tree r.name va a z) (by (reach w.tree r.name va a z))
    where
      by : (q : Reached) → Same (load_happens v cpu r va a z q) (load_happens w cpu r va a z q)
      by (Place g i) = still (O.Word (read_of va z (word_of (w.tree.words g) i)))
      by (Faulted f) = delivered cpu r (fault_vector f) va (16 * access_number a + fault_number f)

  written : (cpu : ℕ) (r : Occupant) (va : ℕ) (z : Size) (x : ℕ)
      → Same (wrote v cpu r va z x (reach v.tree r.name va Store z)) (wrote w cpu r va z x
      (reach w.tree r.name va Store z))
  written cpu r va z x = rw (reach_bare w.tree r.name va Store z) (by (reach w.tree r.name va Store z))
    where
      by : (q : Reached) → Same (wrote v cpu r va z x q) (wrote w cpu r va z x q)
      by (Place g i) = record {
        outcome = refl;
        tree = ap (λ u. with_word u g i (written_over va z x (word_of (w.tree.words g) i))) (same_tree w.tree);
        cpus = refl;
      }
      by (Faulted f) = delivered cpu r (fault_vector f) va (16 * access_number Store + fault_number f)

  replied : (cpu : ℕ) (r : Occupant) (a b : Answer) → SameAnswers w.tree a b
      → Same (reply_happens v cpu r a) (reply_happens w cpu r b)
  replied cpu r a b k = record {
    outcome = ap₂ (λ s x. O.Reply s x) k.status k.value;
    tree = k.tree;
    cpus = ap₂ (λ s x. slice_set w.cpus cpu
        (Some (record r { ctx = record r.ctx { regs = with_reply (status_number s) x r.ctx.regs } }))) k.status k.value;
  }

  answered : (c : MemoryCall) (p : ℕ) (a : Five) → SameAnswers w.tree (answer c v p a) (answer c w p a)
  answered CreatePartition p a = create_bare w.tree p a
  answered DeletePartition p a = delete_bare w.tree (running w) p a.x0
  answered CountToMap p a = count_bare w.tree p a.x0 a.x1
  answered Prepare p a = prepare_bare w.tree p a.x0 a.x1 a.x2
  answered Collect p a = collect_bare w.tree p a.x0 a.x1
  answered AddVAddr p a = add_bare w.tree p a.x0 a.x1 a.x2 a.x3
  answered RemoveVAddr p a = remove_bare w.tree p a.x0 a.x1
  answered MappedInChild p a = mapped_bare w.tree p a.x0

  yielded : (cpu : ℕ) (r : Occupant) (a : Five) → Same (yield v cpu r a) (yield w cpu r a)
  yielded cpu r a = to (target_node v.tree r.name a.x0) (target_node w.tree r.name a.x0) target
    where
      child : (o : Option Node) → Names (option_map unmasked o) o
      child None = (refl, refl)
      child (Some x) = (refl, refl)

      target : Names (target_node v.tree r.name a.x0) (target_node w.tree r.name a.x0)
      target = by (a.x0 == 0) (a.x0 == 1) (r.name == w.tree.root.name)
        where
          by : (b c d : Bool) → Names (cond b (cond d None (Some (node v.tree (node v.tree r.name).up)))
              (cond c (Some (node v.tree r.name)) (child_at v.tree r.name a.x0)))
              (cond b (cond d None (Some (node w.tree (node w.tree r.name).up)))
              (cond c (Some (node w.tree r.name)) (child_at w.tree r.name a.x0)))
          by true c true = (refl, refl)
          by true c false = (
            ap (λ x. (node v.tree x.up).name) (node_bare w.tree r.name)
                ∙ ap (λ x. x.name) (node_bare w.tree (node w.tree r.name).up),
            refl,
          )
          by false true d = (ap (λ x. x.name) (node_bare w.tree r.name), refl)
          by false false d = rw (child_bare w.tree r.name a.x0) (child (child_at w.tree r.name a.x0))

      to : (o q : Option Node) → Names o q → Same (yield_to v cpu r a o) (yield_to w cpu r a q)
      to o q n = passes _ _ _ _ _ _ refusals n.0 (cc (n.0, handler_bare w.tree (node_name q) a.x1))
        where
          refusals : first_met (yield_refusals v r.name a o) ≡ first_met (yield_refusals w r.name a q)
          refusals =
              cc (n.0, n.1, handler_bare w.tree (node_name q) a.x1, place_bare w.tree r.name a.x2)

          tree : one_mask (yielded_tree v.tree r a.x2) ≡ one_mask (yielded_tree w.tree r a.x2)
          tree =
              joined _ _ _ _ _ _ (mapped (masked_node w.tree.root.name
              (cond (r.name == w.tree.root.name) false w.tree.root.masked)) (λ x. refl) w.tree.others)
              (rw (place_bare w.tree r.name a.x2))

          by : (n : ℕ) (s : Option Status) (h : Option Ctx)
              → Same (reply_unless v cpu r s (yield_happens v cpu r a n h))
              (reply_unless w cpu r s (yield_happens w cpu r a n h))
          by n (Some s) h = replied cpu r _ _ (record { status = refl; value = refl; tree = same_tree w.tree })
          by n None None = still O.Idle
          by n None (Some c) = record { outcome = refl; tree = tree; cpus = refl }

          passes : (s z : Option Status) (m n : ℕ) (h k : Option Ctx) → s ≡ z → m ≡ n → h ≡ k
              → Same (reply_unless v cpu r s (yield_happens v cpu r a m h))
              (reply_unless w cpu r z (yield_happens w cpu r a n k))
          passes s z m n h k e d f = rw (e, d, f) (by n z k)

  called : (c : CallName) (cpu : ℕ) (r : Occupant) (a : Five) → Same (call c v cpu r a) (call c w cpu r a)
  called (OnMemory c) cpu r a = replied cpu r _ _ (answered c r.name a)
  called Yields cpu r a = yielded cpu r a
  called (Masks b) cpu r a = replied cpu r _ _ (record {
    status = refl;
    value = refl;
    tree = joined _ _ _ _ _ _ (mapped (masked_node r.name b) (λ x. refl) w.tree.others) refl;
  })
  called Unknown cpu r a = replied cpu r _ _ (record { status = refl; value = refl; tree = same_tree w.tree })

  untaken : (o : Option Occupant) → Same (none_taken v o) (none_taken w o)
  untaken None = still O.Idle
  untaken (Some r) = still O.Done

  polled : (cpu : ℕ) (o : Option Occupant) → Same (poll v cpu o) (poll w cpu o)
  polled cpu o = by (may_take w cpu o)
    where
      lowest : (js : List ℕ) → lowest_line v js ≡ lowest_line w js
      lowest [] = refl
      lowest (j ∷ js) = λ i. cond (is_some (handler_bare w.tree w.tree.root.name (32 + j) i)) (Some j) (lowest js i)

      -- the tree after a line was taken
      lined : (n : ℕ) (js : List ℕ) (o : Option Occupant)
          → one_mask (with_pending js (with_masked n true (save_running v.tree o)))
          ≡ one_mask (with_pending js (with_masked n true (save_running w.tree o)))
      lined n js o = by o
        where
          others : (xs : List Node) → map unmasked (map (lines_in w.tree.root.name js) (map (masked_node n true)
              (map unmasked xs))) ≡ map unmasked (map (lines_in w.tree.root.name js) (map (masked_node n true) xs))
          others [] = refl
          others (x ∷ xs) = rw (others xs)

          by : (o : Option Occupant) → one_mask (with_pending js (with_masked n true (save_running v.tree o)))
              ≡ one_mask (with_pending js (with_masked n true (save_running w.tree o)))
          by None = joined _ _ _ _ _ _ (others w.tree.others) refl
          by (Some r) = joined _ _ _ _ _ _ (others w.tree.others)
              (rw (place_bare w.tree r.name 63))

      line : (j : Option ℕ) → Same (poll_line v cpu o j) (poll_line w cpu o j)
      line None = untaken o
      line (Some j) = rw (handler_bare w.tree w.tree.root.name (32 + j)) (take (handler w.tree w.tree.root.name
          (32 + j)))
        where
          take : (h : Option Ctx) → Same (take_line v cpu o j h) (take_line w cpu o j h)
          take None = untaken o
          take (Some c) = record { outcome = refl; tree = lined w.tree.root.name _ o; cpus = refl }

      by : (b : Bool) → Same (cond b (poll_line v cpu o (lowest_line v w.tree.root.pending)) (none_taken v o))
          (cond b (poll_line w cpu o (lowest_line w w.tree.root.pending)) (none_taken w o))
      by true = rw (lowest w.tree.root.pending) (line (lowest_line w w.tree.root.pending))
      by false = untaken o

  by_runner : (cpu : ℕ) (o : Option Occupant) (f g : Occupant → Happened) → ((r : Occupant) → Same (f r) (g r))
      → Same (on_running v cpu o f) (on_running w cpu o g)
  by_runner cpu None f g h = still O.Idle
  by_runner cpu (Some r) f g h = h r

  pub masks_tell_nothing : (e : Event) → Same (what_happens v e) (what_happens w e)
  masks_tell_nothing (E.Load cpu va z) = by_runner cpu (runs_on w cpu) _ _ (λ r. loaded cpu r va Load z)
  masks_tell_nothing (E.Store cpu va z x) = by_runner cpu (runs_on w cpu) _ _ (λ r. written cpu r va z x)
  masks_tell_nothing (E.Fetch cpu) = by_runner cpu (runs_on w cpu) _ _ (λ r. loaded cpu r r.ctx.pc Fetch Word)
  masks_tell_nothing (E.Trap cpu k a b) = by_runner cpu (runs_on w cpu) _ _ (λ r. delivered cpu r k a b)
  masks_tell_nothing (E.Call cpu n a) = by_runner cpu (runs_on w cpu) _ _ (λ r. called (call_named n) cpu r a)
  masks_tell_nothing (E.Raise j) = record {
    outcome = refl;
    tree = joined _ _ _ _ _ _
        (mapped (lines_in w.tree.root.name (lines_with j w.tree.root.pending)) (λ x. refl) w.tree.others) refl;
    cpus = refl;
  }
  masks_tell_nothing (E.Poll cpu) = polled cpu (runs_on w cpu)
  masks_tell_nothing (E.SetContext cpu c) = by_runner cpu (runs_on w cpu) _ _
      (λ r. record { outcome = refl; tree = same_tree w.tree; cpus = refl })

-- trees that differ in masks alone look alike
pub bare_alike : (look : ℕ → ℕ → ℕ → ℕ) (t u : Tree) → one_mask t ≡ one_mask u → AlikeTrees look t u
bare_alike look t u e = record {
  nodes = ap {A = Tree} (λ x. record x { words = u.words }) e;
  words = λ g. let f = ap (λ x. x.words g) e in
      record { there = rw f; words = λ i. rw f };
}

-- so do they if the mask of a partition that isn't the root is set
pub masked_alike : (look : ℕ → ℕ → ℕ → ℕ) (p : ℕ) (b : Bool) (t : Tree) → p ≢ t.root.name
    → AlikeTrees look (with_masked p b t) t
masked_alike look p b t n = bare_alike look (with_masked p b t) t (λ i. record {
  frames = t.frames;
  root = record t.root { masked = cond (ne_eqb t.root.name p (λ e. n (sym e)) i) b t.root.masked };
  others = stays t.others i;
  words = t.words;
})
  where
    stays : (xs : List Node) → map unmasked (map (masked_node p b) xs) ≡ map unmasked xs
    stays [] = refl
    stays (x ∷ xs) = rw (stays xs)

-- what is reached is the same in trees that look alike
pub reach_alike : (look : ℕ → ℕ → ℕ → ℕ) (t u : Tree) (p va : ℕ) (a : Access) (z : Size) → AlikeTrees look t u
    → reach t p va a z ≡ reach u p va a z
reach_alike look t u p va a z k =
    cc (reach_bare t p va a z, k.nodes, reach_bare u p va a z)
