-- The tree that is read off a memory, and a node of it whose pages are judged.
use Rattle.std.proofs.Common.{◌≡◌, ℕ, ◌+◌, ◌-◌, ◌*◌, ◌^◌, ◌<◌, ◌≤◌, [], length, refl, sym, ap, ◌∙◌, subst, arith}
use Rattle.std.proofs.Common.{Option, Some, None, not}
use Rattle.std.specs.Prelude.{option_map}
use Rattle.pip_base.specs.Memory.{Memory, word_at}
use Rattle.pip_base.specs.Words.{leaf_word}
use Rattle.pip_model.specs.declared.reading.Stop.{Stop}
use Rattle.pip_model.specs.Audit.{frame_difference}
use Rattle.pip_model.specs.FullRows.{cells_of, full_row, full_rows, given_word, row_word}
use Rattle.pip_model.specs.Layout.{layout}
use Rattle.pip_model.specs.Lists.{Distinct, In}
use Rattle.pip_model.specs.NodeIn.{directory_of, list_page}
use Rattle.pip_audit.specs.declared.tables.Triple.{Triple}
use Rattle.pip_audit.specs.Links.{page_after}
use Rattle.pip_audit.proofs.Links.{after_list}
use Rattle.pip_model.specs.NodeWords.{DescriptorPage, DirectoryPage, ListPage, Role as PageRole, TablePage, role}
use Rattle.pip_model.specs.NodeWords.{role_word, table_page}
use Rattle.pip_model.specs.declared.level.Level.{Level}
use Rattle.pip_model.specs.declared.level.Level.TheVariants.{Mmu, Shadow1, Shadow2}
use Rattle.pip_model.specs.ReadOff.{Complete, base_read, Reading, Stopped, node_read, node_stop, row_read, tree_of}
use Rattle.pip_model.specs.ReadOff.{tree_of_reading, tree_unless, visits, walk}
use Rattle.pip_model.specs.Sound.{IsSound}
use Rattle.pip_model.specs.Tree.{Node, Row, Table, Tree, config, lists, row_at, row_pages, table_at}
use Rattle.pip_model.proofs.Audit.Over.{gather_at}
use Rattle.pip_model.proofs.Frames.Laid.{layout_config, layout_none, no_words_zero, zero_owner}
use Rattle.pip_model.proofs.Frames.ReadBack.{full-at}
use Rattle.pip_model.proofs.Nodes.Roles.{descriptor_role_back, directory_role_back, in_table, list_role_back}
use Rattle.pip_model.proofs.Nodes.Roles.{one_table_page, role_config, role_of_descriptor, role_of_directory}
use Rattle.pip_model.proofs.Nodes.Roles.{role_of_list, role_of_table, table_found, table_role_back}
use Rattle.pip_model.proofs.Trees.Ancestors.{name-page}
use Rattle.pip_model.proofs.OnLists.Members.{Distinct-left}
use Rattle.pip_model.proofs.Trees.Numbers.{page_small}
use Rattle.pip_model.proofs.Trees.RowLookup.{held_config, held_row}
use Rattle.pip_audit.specs.declared.auditor.Auditor.{Auditor}
use Rattle.pip_audit.specs.Comparing.{CanJudge, FitsRole, HoldsLevel, HoldsRole, Plays, differs_in, page_in, row_held}
use Rattle.pip_audit.specs.Comparing.{rows_held, tree_found, tree_in, wanted_word}
use Rattle.pip_audit.specs.Reading.{IsRead, tree_read}
use Rattle.pip_audit.specs.Tables.{held_at, tables_in, triple_of}
use Rattle.pip_audit.proofs.Differing.{frame_same}
use Rattle.pip_audit.proofs.EachNode.{name_is}
use Rattle.pip_audit.proofs.PageWords.{tables_long}
use Rattle.pip_audit.proofs.PartLaws.{row_stands, rows_are}
use Rattle.pip_audit.proofs.Verdicts.{tree_is}

-- it has a node's worth of frames
pub frames_in : (m : Memory) → (tree_in m).frames ≡ length m
unfolding tree_of
frames_in m = go (node_stop m 1) (walk m (node_read m 1) (length m) (visits m (node_read m 1)) [])
  where
    go : (o : Option Stop) (r : Reading)
        → (tree_found m (tree_unless o (tree_of_reading m (node_read m 1) r))).frames ≡ length m
    go (Some s) r = refl
    go None (Stopped s) = refl
    go None (Complete others) = refl

-- and is the one that was read
pub read_in : (m : Memory) (a : Auditor) (r : IsRead m a) → tree_in m ≡ tree_read m r.others
read_in m a r = ap (tree_found m) (tree_is m a r)

-- ---- a node whose pages are judged

module _ (m : Memory) (a : Auditor) (j : CanJudge m a) where
  abbrev tree : Tree
  tree = tree_in m

  abbrev part : ℕ
  part = a.node.part

  abbrev node : Node
  node = node_read m a.node.part

  pub once : Distinct (config node)
  once = Distinct-left (config node) (row_pages node) (j.sound.pages_apart node j.node).pages

  pub config_inside : (f : ℕ) → In f (config node) → f < length m
  config_inside f h = let below = page_small tree f j.sound node j.node (held_config node f h) in let n = frames_in m in
      omega (arith, below, n)

  pub plays_inside : (f : ℕ) (o : Option PageRole) → Plays m part f o → f < length m
  plays_inside f None p = absurd p
  plays_inside f (Some r) p = config_inside f (role_config node f r p)

  pub list_fits : (k : ℕ) → k ≤ length node.more → k < lists (word_at m part 12)
  list_fits k h =
      let n : length node.more ≡ lists (length node.tables) - 1 = (j.sound.tables node j.node).listed in
      let c : length node.more ≡ lists (word_at m part 12) - 1 = n ∙ ap (λ q. lists q - 1) (tables_long m part) in
      omega (arith, h, c)

  pub fits_list : (k : ℕ) → k < lists (word_at m part 12) → k ≤ length node.more
  fits_list k h =
      let n : length node.more ≡ lists (length node.tables) - 1 = (j.sound.tables node j.node).listed in
      let c : length node.more ≡ lists (word_at m part 12) - 1 = n ∙ ap (λ q. lists q - 1) (tables_long m part) in
      omega (arith, h, c)

  pub table_fits : (f d : ℕ) (level : Level) → role node f ≡ Some (TablePage level d) → d < 1024
  table_fits f d level e =
      let b = table_role_back node level d f e in
      let small = (j.sound.tables node j.node).small b.0 b.1 in
      let at = b.2 in
      omega (arith, small, at)

  pub plays_fits : (f : ℕ) (o : Option PageRole) → Plays m part f o → FitsRole m part o
  plays_fits f None p = absurd p
  plays_fits f (Some DescriptorPage) p = tt
  plays_fits f (Some (DirectoryPage level)) p = tt
  plays_fits f (Some (TablePage level d)) p = table_fits f d level p
  plays_fits f (Some (ListPage k)) p = list_fits k (list_role_back node k f p).0

  row_is : (v : ℕ) → v < 2 ^ 20 → row_at node.rows v ≡ row_read m (tables_in m part) v
  row_is v small = ap (λ rs. row_at rs v) (rows_are m part) ∙ gather_at (row_read m (tables_in m part))
      (row_stands m (tables_in m part)) 0 (2 ^ 20) v (omega arith) (omega (arith, small))

  cell_is : (level : Level) (v : ℕ) → v < 2 ^ 20 → HoldsLevel m a level
      → row_word level (rows_held m a v) ≡ row_word level (full_rows tree node v)
  cell_is level v small holds = go (row_read m (tables_in m part) v) refl
      ∙ sym (ap (row_word level) (full-at tree node v (row_read m (tables_in m part) v) (row_is v small)))
    where
      of_row : (lv : Level) (q : Row) → q.frame < length m → HoldsLevel m a lv
          → row_word lv (Some (row_held a q)) ≡ row_word lv (full_row tree node (Some q))
      of_row Mmu q below h = ap (λ b. leaf_word q.frame (not b) q.rights) (h q.frame below)
      of_row Shadow1 q below h = h q.frame below ∙ ap (λ p. given_word tree p q.frame) (sym (name_is m part))
      of_row Shadow2 q below h = h q.frame below

      go : (o : Option Row) → row_read m (tables_in m part) v ≡ o
          → row_word level (rows_held m a v) ≡ row_word level (full_row tree node o)
      go None e = ap (λ o. row_word level (option_map (row_held a) o)) e
      go (Some q) e =
          let below = page_small tree q.frame j.sound node j.node (held_row node v q (row_is v small ∙ e)) in
          let n = frames_in m in
          ap (λ o. row_word level (option_map (row_held a) o)) e ∙ of_row level q (omega (arith, below, n)) holds

  role_is : (r : PageRole) (f i : ℕ) → role node f ≡ Some r → HoldsRole m a (Some r) → i < 1024
      → role_word node (cells_of (rows_held m a)) r i ≡ role_word node (cells_of (full_rows tree node)) r i
  unfolding role_word
  role_is DescriptorPage f i e h l = refl
  role_is (DirectoryPage level) f i e h l = refl
  role_is (TablePage level d) f i e h l = let small = table_fits f d level e in
      cell_is level (1024 * d + i) (omega (arith, small, l)) h
  role_is (ListPage k) f i e h l = refl

  wanted_is : (o : Option PageRole) (f i : ℕ) → Plays m part f o → HoldsRole m a o → i < 1024
      → wanted_word m a o i ≡ layout tree f i
  wanted_is None f i p h l = absurd p
  wanted_is (Some r) f i p h l = role_is r f i p h l ∙ sym (layout_config tree j.sound f i node r j.node p)

  pub judged : (o : Option PageRole) (f : ℕ) → Plays m part f o → HoldsRole m a o
      → frame_difference m (λ _ i. wanted_word m a o i) f ≡ differs_in m f
  judged o f p h = frame_same m (λ _ i. wanted_word m a o i) (layout tree) f (λ i l. wanted_is o f i p h l)

  -- ---- which pages play which roles

  pub plays_descriptor : (p : ℕ) → p ≡ part → role node p ≡ Some DescriptorPage
  plays_descriptor p e =
      let at : p ≡ node.base.descriptor.frame = e ∙ sym (name_is m part) ∙ name-page tree j.sound node j.node in
      ap (role node) at ∙ role_of_descriptor node once

  pub descriptor_only : (p f : ℕ) → p ≡ part → role node f ≡ Some DescriptorPage → f ≡ p
  descriptor_only p f e q =
      descriptor_role_back node f q ∙ sym (name-page tree j.sound node j.node) ∙ name_is m part ∙ sym e

  pub plays_directory : (level : Level) (p : ℕ) → p ≡ (directory_of level node.base).frame
      → role node p ≡ Some (DirectoryPage level)
  plays_directory level p e = ap (role node) e ∙ role_of_directory node once level

  pub directory_only : (level : Level) (p f : ℕ) → p ≡ (directory_of level node.base).frame
      → role node f ≡ Some (DirectoryPage level) → f ≡ p
  directory_only level p f e q = directory_role_back node level f q ∙ sym e

  list_is : (k : ℕ) → k < lists (word_at m part 12) → (list_page node k).frame ≡ page_after m (word_at m part 9) k
  unfolding node_read
  list_is k h = after_list m (base_read m part).list (lists (word_at m part 12) - 1) k (omega (arith, h))

  pub plays_list : (k p : ℕ) → k < lists (word_at m part 12) → p ≡ page_after m (word_at m part 9) k
      → role node p ≡ Some (ListPage k)
  plays_list k p h e = ap (role node) (e ∙ sym (list_is k h)) ∙ role_of_list node once k (fits_list k h)

  pub list_only : (k p f : ℕ) → k < lists (word_at m part 12) → p ≡ page_after m (word_at m part 9) k
      → role node f ≡ Some (ListPage k) → f ≡ p
  list_only k p f h e q = (list_role_back node k f q).1 ∙ list_is k h ∙ sym e

  pub list_below : (k f : ℕ) → role node f ≡ Some (ListPage k) → k < lists (word_at m part 12)
  list_below k f q = list_fits k (list_role_back node k f q).0

  page_is : (level : Level) (o : Option Table) (t : Triple) → option_map triple_of o ≡ Some t
      → (b : Table) × (o ≡ Some b) × (page_in level t ≡ (table_page level b).frame)
  page_is level None t e = cc
  page_is level (Some b) t e = (b, refl, at level)
    where
      same : {u : Triple} → Some u ≡ Some t → t ≡ u
      same q = cc

      at : (lv : Level) → page_in lv t ≡ (table_page lv b).frame
      at Mmu = ap (page_in Mmu) (same e)
      at Shadow1 = ap (page_in Shadow1) (same e)
      at Shadow2 = ap (page_in Shadow2) (same e)

  pub plays_table : (level : Level) (d p : ℕ) (t : Triple) → d < 1024 → held_at a.node d ≡ Some t
      → p ≡ page_in level t → role node p ≡ Some (TablePage level d)
  plays_table level d p t small e q =
      let b = page_is level (table_at node.tables d) t (sym (j.holds.of.of d small) ∙ e) in
      let found = table_found node.tables d b.0 b.1 in
      ap (role node) (q ∙ b.2) ∙ role_of_table node once level b.0 found.0 ∙ ap (λ k. Some (TablePage level k)) found.1

  pub table_only : (level : Level) (d p f : ℕ) (t : Triple) → d < 1024 → held_at a.node d ≡ Some t
      → p ≡ page_in level t → role node f ≡ Some (TablePage level d) → f ≡ p
  table_only level d p f t small e q r =
      one_table_page node (j.sound.tables node j.node).differ level d f p r (plays_table level d p t small e q)

  pub no_table : (level : Level) (d f : ℕ) → d < 1024 → held_at a.node d ≡ None
      → role node f ≡ Some (TablePage level d) → ⊥
  no_table level d f small e r =
      let b = table_role_back node level d f r in
      let there : table_at node.tables d ≡ Some b.0 = subst (λ k. table_at node.tables k ≡ Some b.0) b.2
      (in_table node.tables (j.sound.tables node j.node).differ b.0 b.1) in
      never (sym e ∙ j.holds.of.of d small ∙ ap (option_map triple_of) there)
    where
      never : {t : Triple} → None ≡ Some t → ⊥
      never q = cc

-- frame 0 has zeros
pub zero_judged : (m : Memory) (a : Auditor) → IsSound (tree_in m)
    → frame_difference m (λ _ i. wanted_word m a None i) 0 ≡ differs_in m 0
zero_judged m a s = frame_same m (λ _ i. wanted_word m a None i) (layout (tree_in m)) 0
    (λ i l. sym (layout_none (tree_in m) 0 i (no_words_zero (tree_in m) s) (zero_owner (tree_in m) s)))
