-- The words of a sound tree's layout are words of 32 bits.
use Rattle.std.proofs.Common.{◌≡◌, ℕ, zero, suc, ◌+◌, ◌-◌, ◌*◌, ◌/◌, ◌%◌, ◌^◌, ◌≤◌, ◌<◌, ◌==◌, inl, inr, Bool, true}
use Rattle.std.proofs.Common.{false, cond, List, [], ◌∷◌, ◌++◌, map, length, refl, sym, ap, subst, arith}
use Rattle.std.proofs.Common.{Option, Some, None}
use Rattle.std.specs.Prelude.{find, flat_map, is_some, nat_lt, option_map, slice_index, slice_index_or, sum_by}
use Rattle.std.specs.List.{AllByRecursion, list_any}
use Rattle.std.proofs.Math.Dec.{eqb}
use Rattle.std.proofs.lemmas.Bool.{cases_eq}
use Rattle.std.proofs.lemmas.Map.Steps.{length-le_from_distinct_below}
use Rattle.pip_base.specs.declared.types.Pair.{Pair}
use Rattle.pip_model.specs.Boot.{own}
use Rattle.pip_model.specs.FullRows.{FullRow, cells_of, from_word, full_rows, given_by, given_word, vpage_in_parent}
use Rattle.pip_model.specs.FullRows.{place_word, row_word}
use Rattle.pip_model.specs.Layout.{config_word, layout, owned_word}
use Rattle.pip_model.specs.Lists.{In, has}
use Rattle.pip_model.specs.NodeWords.{DescriptorPage, DirectoryPage, ListPage, Role, TablePage, base_words}
use Rattle.pip_model.specs.NodeWords.{descriptor_word, directory_entry, no_table, page_word, role, role_word}
use Rattle.pip_model.specs.NodeWords.{slot_words, slots, table_page}
use Rattle.pip_model.specs.declared.level.Level.{Level}
use Rattle.pip_model.specs.declared.level.Level.TheVariants.{Mmu, Shadow1, Shadow2}
use Rattle.pip_model.specs.Sound.{AreLines, IsSound, IsWord}
use Rattle.pip_model.specs.Tree.{Node, Row, Table, Tree, base_pairs, children, config, find_node, holder, holds, nodes}
use Rattle.pip_model.specs.Tree.{pairs, row_pages, table_at, table_pairs, vpage}
use Rattle.pip_model.proofs.Frames.Laid.{filled, full_back}
use Rattle.pip_model.proofs.Frames.Same.{bits, bits_double, bits_sum}
use Rattle.pip_model.proofs.OnLists.Members.{In-append_left, In-append_right, In-filter_from, In-map, In-map_from}
use Rattle.pip_model.proofs.OnLists.Members.{find_in}
use Rattle.pip_model.proofs.Trees.Depth.{any_member, distinct_by_test}
use Rattle.pip_model.proofs.Trees.Numbers.{at_small, born_small, page_small, rights_small, up_small, va_small}

-- ---- numbers

either : (b : Bool) (x y : ℕ) → IsWord x → IsWord y → IsWord (cond b x y)
either true x y h k = h
either false x y h k = k

each : (ws : List ℕ) (i : ℕ) → AllByRecursion IsWord ws → IsWord (slice_index ws i)
each [] zero h = omega arith
each [] (suc i) h = omega arith
each (w ∷ ws) zero h = h.0
each (w ∷ ws) (suc i) h = each ws i h.1

power : (n : ℕ) → 1 ≤ 2 ^ n
power zero = omega arith
power (suc n) = let h = power n in omega (arith, h)

-- the bits of lines below 16
bits_below : (k low : ℕ) (js : List ℕ) → AreLines low js → low + k ≡ 16 → bits low js < 2 ^ k
unfolding bits
bits_below k low [] l e = let p = power k in omega (arith, p)
bits_below zero low (j ∷ js) l e = let a = l.0 in let b = l.1 in absurd (omega (arith, a, b, e))
bits_below (suc k) low (j ∷ js) l e = elim (cases_eq low j) [
  | inl q ↦
      let one : 2 ^ (j - low) ≡ 1 = let z : j - low ≡ 0 = omega (arith, q) in ap (λ n. 2 ^ n) z in
      let later = subst (λ n. AreLines (suc n) js) (sym q) l.2 in
      let double = bits_double low (suc j) js (omega (arith, q)) l.2 in
      let less = bits_below k (suc low) js later (omega (arith, e)) in
      omega (arith, one, double, less)
  | inr ne ↦
      let a = l.0 in
      let b = l.1 in
      let later : AreLines (suc low) (j ∷ js) = (omega (arith, a, ne), b, l.2) in
      let double : bits low (j ∷ js) ≡ 2 * bits (suc low) (j ∷ js) =
      bits_double low (suc low) (j ∷ js) (omega arith) later in
      let less = bits_below k (suc low) (j ∷ js) later (omega (arith, e)) in
      omega (arith, double, less)
]

lines_small : (js : List ℕ) → AreLines 0 js → IsWord (sum_by (λ j. 2 ^ j) js)
lines_small js l = let less = bits_below 16 0 js l refl in let same = bits_sum js in omega (arith, less, same)

-- ---- lists

flat_in : {A B : Type 0} (f : A → List B) (y : B) (x : A) (xs : List A) → In x xs → In y (f x) → In y (flat_map f xs)
flat_in f y x [] i j = absurd i
flat_in f y x (z ∷ zs) (inl e) j = In-append_left y (f z) (flat_map f zs) (subst (λ w. In y (f w)) e j)
flat_in f y x (z ∷ zs) (inr i) j = In-append_right y (f z) (flat_map f zs) (flat_in f y x zs i j)

at_or : {A : Type 0} (P : A → Type 0) (xs : List A) (d : A) (k : ℕ) → ((x : A) → In x xs → P x) → P d
    → P (slice_index_or xs k d)
at_or P [] d zero h p = p
at_or P [] d (suc k) h p = p
at_or P (x ∷ xs) d zero h p = h x (inl refl)
at_or P (x ∷ xs) d (suc k) h p = at_or P xs d k (λ y i. h y (inr i)) p

-- ---- one node

module _ (t : Tree) (s : IsSound t) (x : Node) (i : In x (nodes t)) where
  abbrev IsSmall : Pair → Type 0
  IsSmall g = IsWord g.va × IsWord g.frame

  pair_small : (g : Pair) → In g (pairs x) → (IsWord g.va) × (g.frame < 4096)
  pair_small g j =
      let page = In-append_left g.frame (config x) (row_pages x) (In-map (λ p. p.frame) g (pairs x) j) in
      let a = page_small t g.frame s x i page in
      let b = s.boot_root.large in
      (va_small t s x i g j, omega (arith, a, b))

  both_small : (g : Pair) → In g (pairs x) → IsSmall g
  both_small g j = let p = pair_small g j in let f = p.1 in (p.0, omega (arith, f))

  in_base : (g : Pair) → In g (base_pairs x.base) → In g (pairs x)
  in_base g j = In-append_left g (base_pairs x.base) (flat_map table_pairs x.tables ++ x.more) j

  in_tables : (b : Table) (g : Pair) → In b x.tables → In g (table_pairs b) → In g (pairs x)
  in_tables b g j k = In-append_right g (base_pairs x.base) (flat_map table_pairs x.tables ++ x.more)
      (In-append_left g (flat_map table_pairs x.tables) x.more (flat_in table_pairs g b x.tables j k))

  in_more : (g : Pair) → In g x.more → In g (pairs x)
  in_more g j = In-append_right g (base_pairs x.base) (flat_map table_pairs x.tables ++ x.more)
      (In-append_right g (flat_map table_pairs x.tables) x.more j)

  few_tables : length x.tables ≤ 1024
  few_tables = subst (λ k. k ≤ 1024) (indexes x.tables)
      (length-le_from_distinct_below (map (λ b. b.index) x.tables) 1024
      (distinct_by_test (map (λ b. b.index) x.tables) (s.tables x i).differ) small)
    where
      indexes : (bs : List Table) → length (map (λ b. b.index) bs) ≡ length bs
      indexes [] = refl
      indexes (b ∷ bs) = ap suc (indexes bs)

      small : (q : ℕ) → list_any (eqb q) (map (λ b. b.index) x.tables) ≡ true → q < 1024
      small q h =
          let member = any_member q (map (λ b. b.index) x.tables) h in
          let (b, j, e) = In-map_from (λ b. b.index) q x.tables member in
          subst (λ k. k < 1024) (sym e) ((s.tables x i).small b j)

  pending_small : IsWord (sum_by (λ j. 2 ^ j) x.pending)
  pending_small = elim i [
    | inl e ↦ subst (λ z. IsWord (sum_by (λ j. 2 ^ j) z.pending)) (sym e) (lines_small t.root.pending s.lines)
    | inr o ↦ subst (λ js. IsWord (sum_by (λ j. 2 ^ j) js)) (sym (s.no_lines_but_the_root x o)) (omega arith)
  ]

  base_small : AllByRecursion IsWord (base_words x)
  base_small =
      let a = both_small x.base.descriptor (in_base _ (inl refl)) in
      let b = both_small x.base.mmu (in_base _ (inr (inl refl))) in
      let c = both_small x.base.shadow1 (in_base _ (inr (inr (inl refl)))) in
      let d = both_small x.base.shadow2 (in_base _ (inr (inr (inr (inl refl))))) in
      let e = both_small x.base.list (in_base _ (inr (inr (inr (inr (inl refl)))))) in
      (a.0, (a.1, (b.0, (b.1, (c.0, (c.1, (d.0, (d.1, (e.0, (e.1, tt))))))))))

  descriptor_small : (k : ℕ) → IsWord (descriptor_word x k)
  descriptor_small k =
      let few = few_tables in
      either (nat_lt k 10) _ _ (each (base_words x) k base_small)
      (either (k == 11) _ _ (up_small t s x i)
      (either (k == 12) _ _ (omega (arith, few))
      (either (k == 14) _ _ (either x.masked 1 0 (omega arith) (omega arith))
      (either (k == 15) _ 0 pending_small (omega arith)))))

  directory_small : (level : Level) (o : Option Table) (k : ℕ) → table_at x.tables k ≡ o
      → IsWord (directory_entry level o)
  directory_small level None k e = omega arith
  directory_small level (Some b) k e =
      let there = (find_in (λ c. c.index == k) b x.tables e).0 in
      let p = (pair_small (table_page level b) (in_tables b (table_page level b) there (of level))).1 in
      omega (arith, p)
    where
      of : (level : Level) → In (table_page level b) (table_pairs b)
      of Mmu = inl refl
      of Shadow1 = inr (inl refl)
      of Shadow2 = inr (inr (inl refl))

  -- ---- tables

  given_small : (o : Option Node) (g : ℕ) → holder t x.name g ≡ o → IsWord (given_by o g)
  given_small None g e = omega arith
  given_small (Some y) g e =
      let found = (find_in (λ z. holds z g) y (children t x.name) e).0 in
      let child = (In-filter_from (λ z. z.up == x.name) y t.others found).0 in
      let born = born_small t s y (inr child) in
      kind (y.name == g) (has (config y) g) born
    where
      kind : (a b : Bool) → IsWord y.born → IsWord (vpage y.born * 4096 + cond a 1 (cond b 2 3))
      kind true b h = omega (arith, h)
      kind false true h = omega (arith, h)
      kind false false h = omega (arith, h)

  place_small : (o : Option Node) (g : ℕ) → find_node t x.up ≡ o → IsWord (place_word (vpage_in_parent o g))
  place_small None g e = omega arith
  place_small (Some y) g e = go (find (λ r. r.frame == g) y.rows) refl
    where
      go : (o : Option Row) → find (λ r. r.frame == g) y.rows ≡ o → IsWord (place_word (option_map (λ r. r.at) o))
      go None f = omega arith
      go (Some r) f =
          let node = (find_in (λ z. z.name == x.up) y (nodes t) e).0 in
          let a = at_small t s y node r (find_in (λ r. r.frame == g) r y.rows f).0 in
          omega (arith, a)

  row_small : (level : Level) (q : Row) → In q x.rows → IsWord (row_word level (Some (filled t x q)))
  unfolding given_word from_word
  row_small Mmu q j =
      let row = In-append_right q.frame (config x) (row_pages x) (In-map (λ r. r.frame) q x.rows j) in
      let f = page_small t q.frame s x i row in
      let n = s.boot_root.large in
      let r = rights_small t s x i q j in
      go (filled t x q).user f n r
    where
      go : (b : Bool) → q.frame < t.frames → t.frames ≤ 4096 → q.rights < 8
          → IsWord (q.frame * 4096 + 1 + cond b 2 0 + 4 * q.rights)
      go true f n r = omega (arith, f, n, r)
      go false f n r = omega (arith, f, n, r)
  row_small Shadow1 q j = given_small (holder t x.name q.frame) q.frame refl
  row_small Shadow2 q j = either (x.name == t.root.name) 0 _ (omega arith) (place_small (find_node t x.up) q.frame refl)

  cells_small : (level : Level) (v : ℕ) → IsWord (cells_of (full_rows t x) level v)
  cells_small level v = go (full_rows t x v) refl
    where
      go : (o : Option FullRow) → full_rows t x v ≡ o → IsWord (row_word level o)
      go None e = omega arith
      go (Some r) e =
          let (q, at, is) = full_back t x v r e in
          subst (λ z. IsWord (row_word level (Some z))) (sym is)
          (row_small level q (find_in (λ r. r.at == v) q x.rows at).0)

  -- ---- lists

  page_small_word : (k j : ℕ) → IsWord (page_word x.more (slots x.tables) k j)
  unfolding page_word slots
  page_small_word k j =
      let next = at_or IsSmall x.more (own 0) k (λ g m. both_small g (in_more g m)) (omega arith, omega arith) in
      let slot = at_or (λ b. AllByRecursion IsWord (slot_words b)) x.tables no_table (170 * k + (j - 2) / 6)
      (λ b m.
      let a = both_small b.mmu (in_tables b b.mmu m (inl refl)) in
      let c = both_small b.shadow1 (in_tables b b.shadow1 m (inr (inl refl))) in
      let d = both_small b.shadow2 (in_tables b b.shadow2 m (inr (inr (inl refl)))) in
      (a.0, (a.1, (c.0, (c.1, (d.0, (d.1, tt)))))))
      (omega arith, (omega arith, (omega arith, (omega arith, (omega arith, (omega arith, tt)))))) in
      either (j == 0) _ _ next.1
      (either (j == 1) _ _ next.0
      (either (nat_lt j 1022) _ 0
      (each (slot_words (slice_index_or x.tables (170 * k + (j - 2) / 6) no_table)) ((j - 2) % 6) slot)
      (omega arith)))

  role_small : (r : Role) (k : ℕ) → IsWord (role_word x (cells_of (full_rows t x)) r k)
  unfolding role_word
  role_small DescriptorPage k = descriptor_small k
  role_small (DirectoryPage level) k = directory_small level (table_at x.tables k) k refl
  role_small (TablePage level d) k = cells_small level (1024 * d + k)
  role_small (ListPage n) k = page_small_word n k

  config_small : (o : Option Role) (k : ℕ) → IsWord (config_word t x o k)
  config_small None k = omega arith
  config_small (Some r) k = role_small r k

-- ---- the layout

pub layout_words : (t : Tree) → IsSound t → (f k : ℕ) → k < 1024 → IsWord (layout t f k)
unfolding layout
layout_words t s f k h =
    either (is_some (t.words f)) _ _ (s.numbers f k h) (owned (find (λ x. has (config x) f) (nodes t)) refl)
  where
    owned : (o : Option Node) → find (λ x. has (config x) f) (nodes t) ≡ o → IsWord (owned_word t f k o)
    owned None e = omega arith
    owned (Some x) e = config_small t s x (find_in (λ x. has (config x) f) x (nodes t) e).0 (role x f) k
