-- Sums over the walk are sums over all partitions, and small.
use Rattle.std.proofs.Common.{◌≡◌, ℕ, suc, ◌+◌, ◌*◌, ◌≤◌, inl, inr, List, [], ◌∷◌, ◌++◌, map, length, refl, sym, ap}
use Rattle.std.proofs.Common.{◌∙◌, subst, arith}
use Rattle.std.specs.Prelude.{flat_map, fold, sum_by}
use Rattle.std.proofs.lemmas.Map.Steps.{length-le_from_distinct_below}
use Rattle.pip_base.specs.declared.types.Pair.{Pair}
use Rattle.pip_model.specs.Dump.{nodes_depth_first}
use Rattle.pip_model.specs.Lists.{Distinct, In}
use Rattle.pip_model.specs.Sound.{IsSound}
use Rattle.pip_model.specs.Tree.{Node, Row, Table, Tree, lists, pairs, table_pairs, config, held_pages, names_of, nodes}
use Rattle.pip_model.specs.Tree.{row_pages}
use Rattle.pip_model.proofs.Trees.Depth.{any_member, distinct_by_test, few_nodes}
use Rattle.pip_model.proofs.Trees.Lookup.{names_apart}
use Rattle.pip_model.proofs.OnLists.Members.{In-map}
use Rattle.pip_model.proofs.Trees.Numbers.{page_small}
use Rattle.pip_model.proofs.Trees.Walks.{meets_all}

-- ---- lists

-- a list with one member in its middle
record Parted (x : Node) (ys : List Node) : Type 0 where
  front : List Node
  back : List Node
  is : ys ≡ front ++ x ∷ back

parted : (x : Node) (ys : List Node) → In x ys → Parted x ys
parted x [] i = absurd i
parted x (y ∷ ys) (inl e) = record { front = []; back = ys; is = ap (λ z. z ∷ ys) (sym e) }
parted x (y ∷ ys) (inr i) = let p = parted x ys i in
    record { front = y ∷ p.front; back = p.back; is = ap (λ l. y ∷ l) p.is }

sum_from : (f : Node → ℕ) (a : ℕ) (xs : List Node) → fold (λ b x. b + f x) a xs ≡ a + sum_by f xs
sum_from f a [] = omega arith
sum_from f a (x ∷ xs) = let h = sum_from f (a + f x) xs in let k = sum_from f (0 + f x) xs in omega (arith, h, k)

pub sum_cons : (f : Node → ℕ) (x : Node) (xs : List Node) → sum_by f (x ∷ xs) ≡ f x + sum_by f xs
sum_cons f x xs = sum_from f (0 + f x) xs ∙ omega arith

sum_middle : (f : Node → ℕ) (x : Node) (front back : List Node)
    → sum_by f (front ++ x ∷ back) ≡ f x + sum_by f (front ++ back)
sum_middle f x [] back = sum_cons f x back
sum_middle f x (y ∷ ys) back =
    let h = sum_middle f x ys back in
    let a = sum_cons f y (ys ++ x ∷ back) in
    let b = sum_cons f y (ys ++ back) in
    a ∙ (ap (λ n. f y + n) h ∙ (swapped (f y) (f x) (sum_by f (ys ++ back)) ∙ ap (λ n. f x + n) (sym b)))
  where
    swapped : (k m n : ℕ) → k + (m + n) ≡ m + (k + n)
    swapped k m n = omega arith

out_of_middle : (x z : Node) (front back : List Node) → In z (front ++ x ∷ back) → (z ≡ x → ⊥) → In z (front ++ back)
out_of_middle x z [] back (inl e) n = absurd (n e)
out_of_middle x z [] back (inr i) n = i
out_of_middle x z (y ∷ ys) back (inl e) n = inl e
out_of_middle x z (y ∷ ys) back (inr i) n = inr (out_of_middle x z ys back i n)

in_middle : (x z : Node) (front back : List Node) → In z (front ++ back) → In z (front ++ x ∷ back)
in_middle x z [] back i = inr i
in_middle x z (y ∷ ys) back (inl e) = inl e
in_middle x z (y ∷ ys) back (inr i) = inr (in_middle x z ys back i)

once_less : (x : Node) (front back : List Node) → Distinct (names_of (front ++ x ∷ back))
    → Distinct (names_of (front ++ back)) × (In x (front ++ back) → ⊥)
once_less x [] back d = (d.1, λ i. d.0 (In-map (λ (z : Node). z.name) x back i))
once_less x (y ∷ ys) back d =
    let (e, n) = once_less x ys back d.1 in (
      (λ i. d.0 (more i), e),
      λ i. elim i [
        | inl same ↦ d.0 (In-map (λ (z : Node). z.name) y
            (ys ++ x ∷ back) (subst (λ z. In z (ys ++ x ∷ back)) same (middle ys)))
        | inr j ↦ n j
      ],
    )
  where
    middle : (zs : List Node) → In x (zs ++ x ∷ back)
    middle [] = inl refl
    middle (z ∷ zs) = inr (middle zs)

    more : In y.name (names_of (ys ++ back)) → In y.name (names_of (ys ++ x ∷ back))
    more i = go ys i
      where
        go : (zs : List Node) → In y.name (names_of (zs ++ back)) → In y.name (names_of (zs ++ x ∷ back))
        go [] i = inr i
        go (z ∷ zs) (inl e) = inl e
        go (z ∷ zs) (inr i) = inr (go zs i)

-- two lists with the same members, each once, have the same sums
pub same_sum : (f : Node → ℕ) (xs ys : List Node) → Distinct (names_of xs) → Distinct (names_of ys)
    → ((z : Node) → In z xs → In z ys) → ((z : Node) → In z ys → In z xs) → sum_by f xs ≡ sum_by f ys
same_sum f [] [] d e to from = refl
same_sum f [] (y ∷ ys) d e to from = absurd (from y (inl refl))
same_sum f (x ∷ xs) ys d e to from =
    let p = parted x ys (to x (inl refl)) in
    let (once, gone) = once_less x p.front p.back (subst (λ l. Distinct (names_of l)) p.is e) in
    let rest = same_sum f xs (p.front ++ p.back) d.1 once
    (λ z i. out_of_middle x z p.front p.back (subst (In z) p.is (to z (inr i)))
    (λ q. d.0 (subst (λ n. In n.name (names_of xs)) q (In-map (λ (w : Node). w.name) z xs i))))
    (λ z i. elim (from z (subst (In z) (sym p.is) (in_middle x z p.front p.back i)))
    [ inl q ↦ absurd (gone (subst (λ n. In n (p.front ++ p.back)) q i)) | inr j ↦ j ]) in
    sum_cons f x xs ∙ ap (λ n. f x + n) rest ∙ sym (ap (sum_by f) p.is ∙ sum_middle f x p.front p.back)

module _ (t : Tree) (s : IsSound t) where
  pub walk_sum : (f : Node → ℕ) → sum_by f (nodes_depth_first t) ≡ sum_by f (nodes t)
  walk_sum f = (let h = meets_all t s in
      same_sum f (nodes_depth_first t) (nodes t) h.once (names_apart t s) h.no_others h.all)

  pub walk_long : length (nodes_depth_first t) ≡ length (nodes t)
  unfolding walk_sum
  walk_long = sym (ones (nodes_depth_first t)) ∙ (walk_sum (λ x. 1) ∙ ones (nodes t))
    where
      ones : (xs : List Node) → sum_by (λ x. 1) xs ≡ length xs
      ones [] = refl
      ones (x ∷ xs) = let h = ones xs in let k = sum_cons (λ z. 1) x xs in omega (arith, h, k)

  sum_most : (f : Node → ℕ) (xs : List Node) → ((x : Node) → In x xs → f x ≤ 4096) → sum_by f xs ≤ 4096 * length xs
  sum_most f [] h = omega arith
  sum_most f (x ∷ xs) h = let a = h x (inl refl) in let b = sum_most f xs (λ z i. h z (inr i)) in
      let k = sum_cons f x xs in omega (arith, a, b, k)

  held_most : (x : Node) → In x (nodes t) → length (held_pages x) ≤ 4096
  held_most x i =
      let few = length-le_from_distinct_below (held_pages x) t.frames (distinct_by_test (held_pages x)
      (s.pages_apart x i).pages) (λ q h. page_small t q s x i (any_member q (held_pages x) h)) in
      let large = s.boot_root.large in
      omega (arith, few, large)

  long_parts : (x : Node) → length (held_pages x) ≡ length (config x) + length x.rows
  long_parts x = length_both (config x) (row_pages x) ∙ ap (λ n. length (config x) + n) (length_mapped x.rows)
    where
      length_both : (xs ys : List ℕ) → length (xs ++ ys) ≡ length xs + length ys
      length_both [] ys = omega arith
      length_both (x ∷ xs) ys = let h = length_both xs ys in omega (arith, h)

      length_mapped : (rows : List Row) → length (map (λ (r : Row). r.frame) rows) ≡ length rows
      length_mapped [] = refl
      length_mapped (r ∷ rs) = ap suc (length_mapped rs)

  each_most : (f : Node → ℕ) → ((x : Node) → f x ≤ length (held_pages x)) → sum_by f (nodes_depth_first t) ≤ 4096 * 4096
  unfolding walk_long walk_sum sum_most held_most
  each_most f h =
      let few = few_nodes t s in
      let large = s.boot_root.large in
      let same = walk_sum f in
      let most = sum_most f (nodes t) (λ x i. let a = h x in let b = held_most x i in omega (arith, a, b)) in
      omega (arith, few, large, same, most)

  pub rows_most : sum_by (λ x. length x.rows) (nodes_depth_first t) ≤ 4096 * 4096
  unfolding each_most long_parts
  rows_most = each_most (λ x. length x.rows) (λ x. let e = long_parts x in omega (arith, e))

  pub pages_most : sum_by (λ x. length (config x)) (nodes_depth_first t) ≤ 4096 * 4096
  unfolding each_most long_parts
  pages_most = each_most (λ x. length (config x)) (λ x. let e = long_parts x in omega (arith, e))

  -- how many pages a node's configuration has
  pub config_long : (x : Node) → In x (nodes t) → length (config x) ≡ 4 + 3 * length x.tables + lists (length x.tables)
  config_long x i =
      let listed = (s.tables x i).listed in
      let some : 1 ≤ lists (length x.tables) = omega arith in
      let a = frames_long (pairs x) in
      let b = pairs_long x.tables x.more in
      omega (arith, listed, some, a, b)
    where
      frames_long : (gs : List Pair) → length (map (λ (g : Pair). g.frame) gs) ≡ length gs
      frames_long [] = refl
      frames_long (g ∷ gs) = ap suc (frames_long gs)

      pairs_long : (ts : List Table) (more : List Pair)
          → length (flat_map table_pairs ts ++ more) ≡ 3 * length ts + length more
      pairs_long [] more = omega arith
      pairs_long (b ∷ bs) more = let h = pairs_long bs more in omega (arith, h)

  pub tables_few : (x : Node) → In x (nodes t) → 4 + 3 * length x.tables + lists (length x.tables) ≤ 4096
  unfolding config_long held_most long_parts
  tables_few x i = let a = config_long x i in let b = held_most x i in let k = long_parts x in omega (arith, a, b, k)
