-- A child that ends with all below it, from the first step of the code to the last.
use Rattle.std.proofs.Common.{◌≡◌, ℕ, ◌*◌, ◌-◌, ◌<◌, zero, suc, inl, inr, true, List, [], ◌∷◌, ◌++◌, sym, ap, ◌∙◌}
use Rattle.std.proofs.Common.{subst, arith, length, refl, Some, slice_index_or}
use Rattle.std.specs.Prelude.{flat_map, map}
use Rattle.pip_base.specs.declared.types.Pair.{Pair}
use Rattle.pip_base.specs.Memory.{Memory, word_at}
use Rattle.pip_model.specs.Answers.{pair_frames}
use Rattle.pip_model.specs.FullRows.{cells_of, full_rows}
use Rattle.pip_model.specs.Layout.{LaysOut}
use Rattle.pip_model.specs.Lists.{In}
use Rattle.pip_model.specs.Midway.{tree_rows}
use Rattle.pip_model.specs.NodeIn.{HasNode, NodeIn}
use Rattle.pip_model.specs.declared.level.Level.{Level}
use Rattle.pip_model.specs.Sound.{IsSound}
use Rattle.pip_model.specs.Tree.{Node, Table, Tree, base_pairs, config, dir, find_node, held_pages, lists, pairs}
use Rattle.pip_model.specs.Tree.{table_pairs, vpage}
use Rattle.pip_model.proofs.Frames.Laid.{filled, laid_space}
use Rattle.pip_model.proofs.OnLists.Members.{In-append_left, In-map, In-map_from}
use Rattle.pip_model.proofs.Trees.Free.{hidden_by}
use Rattle.pip_model.proofs.Trees.Lookup.{found_in, found_name, other_found, other_in}
use Rattle.pip_model.proofs.Trees.RowLookup.{held_cases, held_config, page_at_row, page_row, row_in}
use Rattle.pip_kern.specs.Taking.{CanTake, CanTakeEach, CanTakePages, row_taken}
use Rattle.pip_birth.specs.Ending.{CanEnd, ClearsPages, EndsEachChild, EndsChild, HasChild, HasEnding, IsEndingAt}
use Rattle.pip_birth.specs.Ending.{without}
use Rattle.pip_birth.proofs.DeletePartition.Tree.{parent, parent_row}
use Rattle.pip_birth.proofs.DeletePartition.Writes.Base.{word_is}
use Rattle.pip_birth.proofs.DeletePartition.Writes.Pages.{row_now, row_there, space, taking, x_old}
use Rattle.pip_birth.proofs.DeletePartition.Writes.Steps.{ending_cleared, ending_done, ending_start}

in_get : (ps : List Pair) (k : ℕ) (d : Pair) → k < length ps → In (slice_index_or ps k d) ps
in_get [] k d low = absurd (omega arith)
in_get (p ∷ ps) zero d low = inl refl
in_get (p ∷ ps) (suc k) d low = inr (in_get ps k d (omega arith))

no_tables : (ts : List Table) → length ts ≡ 0 → ts ≡ []
no_tables [] e = refl
no_tables (b ∷ ts) e = absurd (omega arith)

no_pairs : (gs : List Pair) → length gs ≡ 0 → gs ≡ []
no_pairs [] e = refl
no_pairs (g ∷ gs) e = absurd (omega arith)

module _ (t : Tree) (y : Node) (can : CanEnd t y) (m : Memory) (lays : LaysOut t m) where
  s : IsSound t
  s = can.sound

  y_other : In y t.others
  y_other = other_in t y.name y can.found

  y_found : find_node t y.name ≡ Some y
  unfolding s
  y_found = other_found t s y.name y can.found

  abbrev x : Node
  x = (parent t y can).0

  -- ---- at first

  pub nothing_yet : IsEndingAt t y m 0 m
  nothing_yet =
      record { back = []; ending = ending_start t y can m lays; freed = λ v r less. absurd (omega arith) }

  pub child_there : HasNode m y.name
  unfolding s y_found
  child_there = record {
    node = y;
    cells = cells_of (full_rows t y);
    is_in = (laid_space t s m lays y.name y y_found).node;
    name = refl;
  }

  -- ---- page by page

  -- when all pages that its parent has of it are back, it has ended
  pub pages_end : (n : Memory) → IsEndingAt t y m (1024 * 1024) n → LaysOut (without t y) n
  unfolding s
  pages_end n k = ending_done t y can m n k.back lays k.ending (λ g h.
      let (r, at, page) = page_row x (s.pages_apart x (found_in t y.up x (x_old t y can))) g (parent_row t y can g h) in
      let row = row_there t y can r.at r at in
      let low = ((space t y can m n (1024 * 1024) k).tabled r.at (row_taken k.back true (filled t x r))
      (row_now t y can m n (1024 * 1024) k r.at (filled t x r) row)).0 in
      rw (← page) (k.freed r.at (filled t x r) (omega (arith, low)) row
      (subst (λ f. In f (held_pages y)) (sym page) h)))

  -- ---- its base alone

  -- a page of its configuration can be taken back, by its address
  can_take_pair : (g : Pair) → In g (pairs y) → CanTake (without t y) y.up (vpage g.va) g.frame
  unfolding s y_other
  can_take_pair g i =
      let lent = s.lent y x y_other (found_in t y.up x (x_old t y can)) (sym (found_name t y.up x (x_old t y can))) in
      let (q, at, page) = page_at_row x (vpage g.va) g.frame (lent.placed g i) in
      let h : In g.frame (held_pages y) = held_config y g.frame (In-map (λ (k : Pair). k.frame) g (pairs y) i) in
      rw (← page) (taking t y can (vpage g.va) (filled t x q) (row_there t y can (vpage g.va) q at)
      (subst (λ f. In f (held_pages y)) (sym page) h))

  in_pairs : (g : Pair) → In g (base_pairs y.base) → In g (pairs y)
  in_pairs g h = In-append_left g (base_pairs y.base) (flat_map table_pairs y.tables ++ y.more) h

  pub base_each : CanTakeEach (without t y) y.up (base_pairs y.base)
  unfolding can_take_pair in_pairs
  base_each k d low = let g = slice_index_or (base_pairs y.base) k d in
      can_take_pair g (in_pairs g (in_get (base_pairs y.base) k d low))

  of_base : (f : ℕ) → In f (pair_frames (base_pairs y.base)) → In f (config y)
  unfolding in_pairs
  of_base f j = let (q, d, e) = In-map_from (λ (q : Pair). q.frame) f (base_pairs y.base) j in
      subst (λ v. In v (config y)) (sym e) (In-map (λ (q : Pair). q.frame) q (pairs y) (in_pairs q d))

  module _ (none : length y.tables ≡ 0) where
    empty : y.tables ≡ []
    empty = no_tables y.tables none

    no_more : y.more ≡ []
    unfolding s y_other empty
    no_more =
        let few : lists (length y.tables) - 1 ≡ 0 = rw empty in
        no_pairs y.more (cc ((s.tables y (inr y_other)).listed))

    all_base : config y ≡ pair_frames (base_pairs y.base)
    unfolding empty no_more
    all_base =
        rw (empty, no_more)

    -- it holds nothing else
    only_base : (g : ℕ) → In g (held_pages y) → In g (pair_frames (base_pairs y.base))
    unfolding s y_other empty all_base
    only_base g h = elim (held_cases y (s.pages_apart y (inr y_other)) g h) [
      | inl i ↦ subst (In g) all_base i
      | inr row ↦
          let (r, at, page) = row in
          let i = (s.tables y (inr y_other)).tabled r (row_in y r.at r at).0 in
          absurd (rw empty at i)
    ]

    pub base_ends : (n : Memory) → ClearsPages y.up (base_pairs y.base) m n → LaysOut (without t y) n
    unfolding y_other base_each of_base only_base
    base_ends n clears =
        let start = ending_start t y can m lays in
        let fs = pair_frames (base_pairs y.base) in
        let k = ending_cleared t y can m m [] start n fs (λ g i. (
          held_config y g (of_base g i),
          hidden_by t g y
              (inr y_other) (of_base g i),
        )) (clears (without t y) (tree_rows t) [] base_each start.midway) in
        ending_done t y can m n fs lays k only_base

-- ---- as the code asks

pub child_node : (m : Memory) (parent_name child born : ℕ) → HasChild m parent_name child born → HasNode m child
child_node m parent_name child born h = rw (← h.name) (child_there h.tree h.node h.can m h.laid)

pub child_pages : (m : Memory) (parent_name child born : ℕ) (h : HasChild m parent_name child born) (ps : List Pair)
    → ((z : Node) (cells : Level → ℕ → ℕ) → NodeIn m z cells → z.name ≡ child → ps ≡ base_pairs z.base)
    → CanTakePages m parent_name ps
child_pages m parent_name child born h ps says =
    let n = child_there h.tree h.node h.can m h.laid in
    let pages : ps ≡ base_pairs h.node.base =
    says h.node (cells_of (full_rows h.tree h.node)) (laid_space h.tree h.can.sound m h.laid h.node.name h.node
    (other_found h.tree h.can.sound h.node.name h.node h.can.found)).node h.name in
    rw (← h.up) (subst (CanTakePages m h.node.up) (sym pages)
    (record {
      tree = without h.tree h.node;
      rows = tree_rows h.tree;
      taken = [];
      each =
          base_each h.tree h.node h.can m h.laid;
      midway = (ending_start h.tree h.node h.can m h.laid).midway;
    }))

pub child_ending : (m : Memory) (parent_name child born : ℕ) → HasChild m parent_name child born
    → HasEnding m parent_name born 0
child_ending m parent_name child born h = record {
  tree = h.tree;
  node = h.node;
  start = m;
  can = h.can;
  up = h.up;
  place = h.place;
  at = nothing_yet h.tree h.node h.can m h.laid;
}

pub ends_by_base : (m n : Memory) (parent_name child born : ℕ) → word_at m child 12 ≡ 0 → (ps : List Pair)
    → ((z : Node) (cells : Level → ℕ → ℕ) → NodeIn m z cells → z.name ≡ child → ps ≡ base_pairs z.base)
    → ClearsPages parent_name ps m n → EndsChild parent_name child born m n
ends_by_base m n parent_name child born none ps says clears t y can laid name up place =
    let node = (laid_space t can.sound m laid y.name y (other_found t can.sound y.name y can.found)).node in
    let pages : ps ≡ base_pairs y.base = says y (cells_of (full_rows t y)) node name in
    let few : length y.tables ≡ 0 =
    rw (← word_is m child y (cells_of (full_rows t y)) node name 12 (omega arith)) none in
    base_ends t y can m laid few n
    (rw pages at (subst (λ p. ClearsPages p ps m n) (sym up) clears))

pub ends_by_pages : (m n : Memory) (parent_name child born : ℕ) → EndsEachChild parent_name born 0 (1024 * 1024) m n
    → EndsChild parent_name child born m n
ends_by_pages m n parent_name child born says t y can laid name up place =
    pages_end t y can m laid n (says t y m can up place (nothing_yet t y can m laid))
