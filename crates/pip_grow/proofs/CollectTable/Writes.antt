-- A child from which a table is taken, from one step of the code to the next.
use Rattle.std.proofs.Common.{◌≡◌, ℕ, zero, suc, inl, inr, List, [], ◌∷◌, ◌++◌, length, refl, ap, ◌∙◌, subst, sym}
use Rattle.std.proofs.Common.{◌+◌, ◌*◌, ◌≤◌, arith, cond, Bool, true, false, Option, Some, None}
use Rattle.std.proofs.lemmas.Nat.{mul-le}
use Rattle.std.proofs.lemmas.List.{length-map}
use Rattle.pip_model.specs.Answers.{pair_frames}
use Rattle.std.specs.Prelude.{◌==◌, slice_index_or}
use Rattle.pip_base.specs.declared.types.Pair.{Pair}
use Rattle.pip_base.specs.Memory.{Memory}
use Rattle.pip_model.specs.Collect.{tree_without_table, first_va, returned_pages}
use Rattle.pip_model.specs.Layout.{LaysOut}
use Rattle.pip_model.specs.FullRows.{FullRow, full_rows}
use Rattle.pip_model.specs.Lists.{In}
use Rattle.pip_model.specs.Midway.{Midway, tree_rows}
use Rattle.pip_model.specs.NodeIn.{OthersStay, Space}
use Rattle.pip_model.specs.Partitions.{IsHeld}
use Rattle.pip_model.specs.Sound.{IsSound}
use Rattle.pip_model.specs.Tree.{Node, Table, Tree, chain, change_at, find_node, table_at, vpage}
use Rattle.pip_model.proofs.Trees.Ancestry.{ancestry_in}
use Rattle.pip_model.proofs.Frames.Laid.{laid_space}
use Rattle.pip_model.proofs.Frames.Lays.{PagesStay-trans}
use Rattle.pip_model.proofs.Nodes.Writes.{Space-same}
use Rattle.pip_model.specs.Collect.{without_table}
use Rattle.pip_space.specs.Tables.{CanRemove, HasRemove, page_list, rows_beside}
use Rattle.pip_grow.specs.Chain.{chain_pages}
use Rattle.pip_grow.specs.Links.{ArePagesIn, links}
use Rattle.pip_grow.specs.Collecting.{CanCollect}
use Rattle.pip_kern.specs.Taking.{CanTake, CanTakeEach, CanTakePages, HasTaken, rows_taken, TakesPages, TakesPagesIn}
use Rattle.pip_grow.specs.declared.chain.TablePages.{TablePages}
use Rattle.pip_grow.proofs.PrepareTable.Writes.{one_page}
use Rattle.pip_grow.proofs.CollectTable.Tree.{back_inside, can_remove, can_take, child_found, collect-lays, rows_stay}
use Rattle.pip_grow.proofs.CollectTable.Tree.{shrunk_midway, collect-tree_sound}
use Rattle.pip_kern.proofs.Taking.{taking_start}

-- three pages of an array are those of the list
pub three_first : (ts : List Pair) (o : Option Pair) → length ts ≡ 3 → (a b c : Pair)
    → slice_index_or ts 0 a ∷ slice_index_or ts 1 b ∷ slice_index_or ts 2 c ∷ page_list o ≡ ts ++ page_list o
three_first [] o e a b c = absurd (omega arith)
three_first (x ∷ []) o e a b c = absurd (omega arith)
three_first (x ∷ y ∷ []) o e a b c = absurd (omega arith)
three_first (x ∷ y ∷ z ∷ []) o e a b c = refl
three_first (x ∷ y ∷ z ∷ w ∷ ts) o e a b c = absurd (omega arith)

-- the caller's chain is as long without the table
chain_stays : (t : Tree) (c i p : ℕ) (gs : List Pair) → length (chain (tree_without_table t c i gs) p) ≡ length (chain
    t p)
chain_stays t c i p gs =
    let f = change_at c (without_table i) in
    sym (length-map (chain (tree_without_table t c i gs) p) (λ z. z.name)) ∙ ap length (ancestry_in f (λ x. name x
    (x.name == c)) (λ x. up x (x.name == c)) t.root t.others p) ∙ length-map (chain t p) (λ z. z.name)
  where
    name : (x : Node) (b : Bool) → (cond b (without_table i x) x).name ≡ x.name
    name x true = refl
    name x false = refl

    up : (x : Node) (b : Bool) → (cond b (without_table i x) x).up ≡ x.up
    up x true = refl
    up x false = refl

-- what the code's remove_table says
abbrev pub PagesSay : Memory → ℕ → ℕ → TablePages → Type 0
PagesSay m part i g = (x : Node) (rows : ℕ → Option FullRow) → Space m x rows → x.name ≡ part → CanRemove x rows i
    → chain_pages g ≡ returned_pages x (table_at x.tables i)

abbrev pub RemoveSays : Memory → Memory → ℕ → ℕ → Type 0
RemoveSays m n part i = (x : Node) (rows : ℕ → Option FullRow) → Space m x rows → x.name ≡ part → CanRemove x rows i
    → Space n (without_table i x) (rows_beside i rows) × OthersStay x m n

module _ (t : Tree) (s : IsSound t) (caller : ℕ) (x : Node) (found : find_node t caller ≡ Some x)
    (child i : ℕ) (can : CanCollect t caller child i) (m : Memory) (lays : LaysOut t m) where
  abbrev c : Node
  c = can.node

  abbrev b : Table
  b = can.table

  abbrev u : Tree
  u = tree_without_table t c.name i (returned_pages c (Some b))

  pub space : Space m c (full_rows t c)
  space = laid_space t s m lays c.name c (child_found t s caller x found c can.is_in can.up i b can.has can.empty)

  removes : CanRemove c (full_rows t c) i
  removes = can_remove t s caller x found c can.is_in can.up i b can.has can.empty

  -- the table can be removed
  pub remove_can : HasRemove m child i
  unfolding space removes
  remove_can = record { node = c; rows = full_rows t c; is_in = space; name = can.name; can = removes }

  module _ (m1 : Memory) (g : TablePages) (pages_say : PagesSay m child i g) (says : RemoveSays m m1 child i) where
    abbrev tables : List Pair
    tables = g.mmu ∷ g.shadow1 ∷ g.shadow2 ∷ []

    pages_are : chain_pages g ≡ returned_pages c (Some b)
    unfolding space removes
    pages_are = pages_say c (full_rows t c) space can.name removes ∙ ap (returned_pages c) can.has

    removed : Space m1 (without_table i c) (full_rows t c) × OthersStay c m m1
    unfolding space removes
    removed =
        let both = says c (full_rows t c) space can.name removes in (
          Space-same m1 (without_table i c) (rows_beside i (full_rows t c)) (full_rows t c)
              (rows_stay t s caller x found c can.is_in can.up i b can.has can.empty) both.0,
          both.1,
        )

    start : Midway m1 u (rows_taken (tree_rows t) caller [])
    unfolding removed
    start = taking_start u m1 (tree_rows t) caller
        (shrunk_midway t s caller x found c can.is_in can.up i b can.has can.empty m m1 lays removed.0 removed.1)

    takes : (h : Pair) → In h (chain_pages g) → CanTake u caller (vpage h.va) h.frame
    unfolding pages_are
    takes h j = can_take t s caller x found c can.is_in can.up i b can.has can.empty h (subst (In h) pages_are j)

    tables_each : CanTakeEach u caller tables
    unfolding takes
    tables_each zero d low = takes g.mmu (inl refl)
    tables_each (suc zero) d low = takes g.shadow1 (inr (inl refl))
    tables_each (suc (suc zero)) d low = takes g.shadow2 (inr (inr (inl refl)))
    tables_each (suc (suc (suc k))) d low = absurd (omega arith)

    list_each : CanTakeEach u caller (page_list g.list)
    unfolding takes
    list_each = go g.list (λ h j. takes h (inr (inr (inr j))))
      where
        go : (o : Option Pair) → ((h : Pair) → In h (page_list o) → CanTake u caller (vpage h.va) h.frame)
            → CanTakeEach u caller (page_list o)
        go None says k d low = absurd (omega arith)
        go (Some p) says zero d low = says p (inl refl)
        go (Some p) says (suc k) d low = absurd (omega arith)

    -- then its pages can be taken back
    pub tables_can : CanTakePages m1 caller tables
    unfolding tables_each start
    tables_can = record { tree = u; rows = tree_rows t; taken = []; each = tables_each; midway = start }

    module _ (m2 : Memory) (tables_say : TakesPages caller tables (pair_frames tables) m1 m2) (list : List Pair)
        (list_is : list ≡ page_list g.list) where
      tables_taken : HasTaken u (tree_rows t) caller (pair_frames tables) m1 m2
      unfolding tables_each start
      tables_taken = tables_say u (tree_rows t) [] tables_each start

      each : CanTakeEach u caller list
      unfolding list_each
      each = subst (CanTakeEach u caller) (sym list_is) list_each

      -- within a bound on the steps
      pub taken_in : (before between after : ℕ) → TakesPagesIn caller tables (length tables) m1 before between
          → TakesPagesIn caller list (length list) m2 between after
          → after ≤ before + 28 * length (chain t caller) + 8
      unfolding tables_each each tables_taken start
      taken_in before between after one last =
          let first = one u (tree_rows t) [] tables_each start in
          let then = last u (tree_rows t) (pair_frames tables) each tables_taken.midway in
          let most = mul-le (length list) (7 * length (chain u caller) + 2) 1 (7 * length (chain u caller) + 2)
          (subst (λ l. length l ≤ 1) (sym list_is) (one_page g.list)) (omega arith) in
          let same = chain_stays t c.name i caller (returned_pages c (Some b)) in
          omega (arith, first, then, most, same)

      -- and the list page
      pub list_can : CanTakePages m2 caller list
      unfolding each tables_taken
      list_can =
          record { tree = u; rows = tree_rows t; taken = pair_frames tables; each = each; midway = tables_taken.midway }

      module _ (m3 : Memory) (list_says : TakesPages caller list (pair_frames list) m2 m3) where
        all_back : HasTaken u (tree_rows t) caller (pair_frames (returned_pages c (Some b))) m1 m3
        unfolding each tables_taken pages_are
        all_back =
            let last = list_says u (tree_rows t) (pair_frames tables) each tables_taken.midway in
            let pages : pair_frames tables ++ pair_frames list ≡ pair_frames (returned_pages c (Some b)) =
            ap (λ ps. pair_frames tables ++ pair_frames ps) list_is ∙ ap pair_frames pages_are in
            record {
              midway = subst (λ fs. Midway m3 u (rows_taken (tree_rows t) caller fs)) pages last.midway;
              stay = PagesStay-trans u m1 m2 m3 tables_taken.stay last.stay;
            }

        -- then they can be linked
        pub link_can : ArePagesIn m3 (chain_pages g)
        unfolding all_back removed pages_are
        link_can = subst (ArePagesIn m3) (sym pages_are) (back_inside t s caller x found c can.is_in can.up i b can.has
            can.empty m m1 lays removed.0 removed.1 m3 all_back)

        -- which lays out the new tree
        pub collect-writes_tree : (n : Memory) → n ≡ links m3 (chain_pages g)
            → (g.mmu.va ≡ first_va (returned_pages c (Some b)))
            × IsHeld (tree_without_table t child i (returned_pages c (Some b))) n
        unfolding all_back removed pages_are
        collect-writes_tree n is =
            let lay : LaysOut u n = subst (LaysOut u) (sym (is ∙ ap (links m3) pages_are)) (collect-lays t s caller x
            found c can.is_in can.up i b can.has can.empty m m1 lays removed.0 removed.1 m3 all_back) in
            let named = subst (λ k. IsHeld (tree_without_table t k i (returned_pages c (Some b))) n) can.name
            (collect-tree_sound t s caller x found c can.is_in can.up i b can.has can.empty, lay) in
            (ap first_va pages_are, named)
