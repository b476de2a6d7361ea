-- createPartition keeps the tree sound.
use Rattle.std.proofs.Common.{◌&&◌, ◌||◌, ◌≡◌, ℕ, ◌%◌, inl, inr, Bool, false, not, cond, [], ◌∷◌, refl, sym, ap, ◌∙◌}
use Rattle.std.proofs.Common.{subst, arith, Option, Some, None}
use Rattle.std.specs.Prelude.{is_some}
use Rattle.pip_base.specs.declared.outcome.Status.{Status}
use Rattle.std.specs.List.{list_any}
use Rattle.pip_base.specs.declared.types.Pair.{Pair}
use Rattle.pip_model.specs.Accepted.{MayCreate}
use Rattle.pip_model.specs.Answers.{Five, answer_unless, first_met, list_of, is_mapped, page_of, pair_at}
use Rattle.pip_model.specs.CreatePartition.{create_partition, create_refusals, tree_with_newborn, newborn}
use Rattle.pip_model.specs.Lists.{In, has, repeats}
use Rattle.pip_model.specs.Sound.{AreApart, CanRead, EachChild, EachNode, EachOther, EachSiblings, GivesNoMore}
use Rattle.pip_model.specs.Sound.{RowsHaveTables, HasVisibleWords, IsLentBy, IsNamedByBase, IsRooted, IsSound}
use Rattle.pip_model.specs.Sound.{KeepsPagesApart}
use Rattle.pip_model.specs.Tree.{Node, Tree, config, free, held_pages, is_place, names_of, node, nodes, page_at, pairs}
use Rattle.pip_model.specs.Tree.{row_pages, vpage}
use Rattle.pip_base.specs.declared.outcome.Status.TheVariants as S
use Rattle.pip_model.proofs.OnLists.Members.{In-map_from, any_none, Distinct-map}
use Rattle.pip_model.proofs.Trees.Ancestors.{name_in, name-config, parent_in, same_name}
use Rattle.pip_model.proofs.Trees.Numbers.{without_small}
use Rattle.pip_model.proofs.Trees.Free.{IsName, node_found, address-usable, usable_same, unheld-config, not_false}
use Rattle.pip_model.proofs.Trees.Free.{passed}

pub may_create : (t : Tree) (p : ℕ) (a : Five) → first_met (create_refusals t p a) ≡ None → MayCreate t p a
may_create t p a e =
    let cs = create_refusals t p a in
    let off : list_any (λ x. not (is_place x)) (list_of a) ≡ false = passed cs e S.NotAligned in
    let rep : repeats (list_of a) ≡ false = passed cs e S.Repeated in
    let unm : list_any (λ x. not (is_mapped t p (vpage x))) (list_of a) ≡ false = passed cs e S.NotMapped in
    let unf : list_any (λ x. not (free t p (vpage x))) (list_of a) ≡ false = passed cs e S.NotFree in
    record {
      usable = λ x i. address-usable t p x (not_false _ (any_none (λ x. not (is_place x)) x (list_of a) off i))
          (not_false _ (any_none (λ x. not (is_mapped t p (vpage x))) x (list_of a) unm i))
          (not_false _ (any_none (λ x. not (free t p (vpage x))) x (list_of a) unf i));
      differ = rep;
    }

-- the words, by what is hidden at one page before the call: new, root, rest
words_at : (new root rest row : Bool) (w : Option (ℕ → ℕ)) → is_some w ≡ (row && not (root || rest))
    → is_some (cond new None w) ≡ (row && not (root || (new || rest)))
words_at new root rest row w e = grind arith

module _ (t : Tree) (p : ℕ) (a : Five) (s : IsSound t) (n : IsName t p) (m : MayCreate t p a) where
  pub held_new : (g : ℕ) → In g (config (newborn t p a)) → (x : ℕ) × In x (list_of a) × (g ≡ page_of t p x)
  held_new g i = In-map_from (page_of t p) g (list_of a) i

  pub newborn-fresh : (g : ℕ) → In g (config (newborn t p a)) → (z : Node) → In z (nodes t) → In g (config z) → ⊥
  newborn-fresh g i z j h =
      let (x, k, e) = held_new g i in
      let u = m.usable x k in
      let f = node_found t p n in
      unheld-config t p (page_of t p x) s (node t p) f.0 f.1 u.row u.unheld z j (subst (λ g. In g (config z)) e h)

  pub fresh_name : In (newborn t p a).name (names_of (nodes t)) → ⊥
  fresh_name i =
      let (z, j, e) = In-map_from (λ z. z.name) (newborn t p a).name (nodes t) i in
      newborn-fresh (newborn t p a).name (inl refl) z j (subst (λ g. In g (config z)) (sym e) (name-config t s z j))

  rooted : IsRooted t.root (newborn t p a ∷ t.others)
  rooted = (fresh_name, n, s.parents_come_first)

  each_node : (P : Node → Type 0) → P (newborn t p a) → EachNode P t → EachNode P (tree_with_newborn t p a)
  each_node P h k x (inl e) = k x (inl e)
  each_node P h k x (inr (inl e)) = rw e h
  each_node P h k x (inr (inr i)) = k x (inr i)

  each_other : (P : Node → Type 0) → P (newborn t p a) → EachOther P t → EachOther P (tree_with_newborn t p a)
  each_other P h k x (inl e) = rw e h
  each_other P h k x (inr i) = k x i

  new_child : (R : Node → Node → Type 0) → R (node t p) (newborn t p a) → (x y : Node) → x ≡ newborn t p a
      → In y (nodes t) → x.up ≡ y.name → R y x
  new_child R h x y q j u =
      let f = node_found t p n in
      let k : node t p ≡ y = same_name t (node t p) y s f.0 j (cc (f.1)) in
      rw (← k) (subst (R (node t p)) (sym q) h)

  -- the new node is nobody's parent, and its own is the caller
  each_child : (R : Node → Node → Type 0) → R (node t p) (newborn t p a) → EachChild R t
      → EachChild R (tree_with_newborn t p a)
  each_child R h k x y i (inr (inl e)) u =
      absurd (fresh_name (subst (λ q. In q (names_of (nodes t))) (rw (u, e)) (up_name i)))
    where
      up_name : In x (newborn t p a ∷ t.others) → In x.up (names_of (nodes t))
      up_name (inl q) = subst (λ z. In z.up (names_of (nodes t))) (sym q) n
      up_name (inr j) = let (y, l, q) = parent_in t.root t.others s.parents_come_first x j in
          subst (λ q. In q (names_of (nodes t))) (sym q) (name_in y (nodes t) l)
  each_child R h k x y (inl q) (inl e) u = new_child R h x y q (inl e) u
  each_child R h k x y (inl q) (inr (inr j)) u = new_child R h x y q (inr j) u
  each_child R h k x y (inr i) (inl e) u = k x y i (inl e) u
  each_child R h k x y (inr i) (inr (inr j)) u = k x y i (inr j) u

  unique_new : KeepsPagesApart (newborn t p a)
  unique_new = record {
    pages = Distinct-map (page_of t p) (list_of a) m.differ
        (λ x y i j. usable_same t p s n x y (m.usable x i) (m.usable y j));
    places = tt;
  }

  pub given_new : (g : Pair) → In g (pairs (newborn t p a)) → (x : ℕ) × In x (list_of a) × (g ≡ pair_at t p x)
  given_new g i = In-map_from (pair_at t p) g (list_of a) i

  lent_new : IsLentBy (node t p) (newborn t p a)
  lent_new = record {
    rows = λ g i. let (x, j, e) = held_new g i in subst (λ g. In g (row_pages (node t p))) (sym e) (m.usable x j).row;
    aligned = λ g i. let (x, j, e) = given_new g i in subst (λ g. g.va % 4096 ≡ 0) (sym e) (m.usable x j).aligned;
    placed = λ g i. let (x, j, e) = given_new g i in
        subst (λ g. page_at (node t p) (vpage g.va) ≡ Some g.frame) (sym e) (m.usable x j).placed;
  }

  apart_new : (y : Node) → In y t.others → p ≡ y.up → AreApart (newborn t p a) y
  apart_new y i u g h k = let (x, j, e) = held_new g h in
      (m.usable x j).unheld y i (sym u) (subst (λ g. In g (held_pages y)) e k)

  apart : EachSiblings AreApart (tree_with_newborn t p a)
  apart x y (inl e) (inl f) u d = absurd (d (cc))
  apart x y (inl e) (inr j) u d = rw e (apart_new y j (sym (ap (λ z. z.up) e) ∙ u))
  apart x y (inr i) (inl f) u d =
      rw f (λ g h k. apart_new x i (sym (u ∙ ap (λ z. z.up) f)) g k h)
  apart x y (inr i) (inr j) u d = s.siblings_apart x y i j u d

  tables_new : RowsHaveTables (newborn t p a)
  tables_new =
      record { first = λ r i. absurd i; differ = tt; tabled = λ r i. absurd i; small = λ r i. absurd i; listed = refl }

  words : HasVisibleWords (tree_with_newborn t p a)
  words g =
      let w = s.words g in
      words_at (has (config (newborn t p a)) g) (has (config t.root) g) (list_any (λ x. has (config x) g) t.others)
      (has (row_pages t.root) g) (t.words g) w

  pub with_newborn-sound : IsSound (tree_with_newborn t p a)
  with_newborn-sound = record {
    parents_come_first = rooted;
    boot_root = assumption;
    pages_apart = each_node KeepsPagesApart unique_new s.pages_apart;
    lent = each_child IsLentBy lent_new s.lent;
    named_by_descriptor = each_other IsNamedByBase (record { name = refl; born = refl }) s.named_by_descriptor;
    siblings_apart = apart;
    readable = each_node CanRead (λ r i. absurd i) s.readable;
    rights = each_child GivesNoMore (λ r q i. absurd i) s.rights;
    tables = each_node RowsHaveTables tables_new s.tables;
    no_lines_but_the_root = each_other (λ x. x.pending ≡ []) refl s.no_lines_but_the_root;
    words = words;
    lines = s.lines;
    numbers = λ g i l. without_small (config (newborn t p a)) t.words g i (s.numbers g i l);
  }

-- createPartition keeps every tree sound
pub create-sound : (t : Tree) (p : ℕ) (a : Five) → IsSound t → IsName t p → IsSound (create_partition t p a).tree
create-sound t p a s n = go (first_met (create_refusals t p a)) refl
  where
    go : (o : Option Status) → first_met (create_refusals t p a) ≡ o
        → IsSound (answer_unless t o (record { status = S.Ok; value = 0; tree = tree_with_newborn t p a })).tree
    go (Some q) e = s
    go None e = with_newborn-sound t p a s n (may_create t p a e)
