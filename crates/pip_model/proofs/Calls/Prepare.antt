-- prepare keeps the tree sound.
use Rattle.std.proofs.Common.{◌≡◌, ℕ, zero, suc, ◌+◌, ◌-◌, ◌^◌, ◌≤◌, ◌<◌, ◌==◌, ◌⊎◌, ◌&&◌, ◌||◌, inl, inr, Bool, true}
use Rattle.std.proofs.Common.{false, not, cond, List, [], ◌∷◌, ◌++◌, map, length, refl, sym, ap, ◌∙◌, subst, arith}
use Rattle.std.proofs.Common.{eqb-true, eq-eqb, Option, Some, None, length-append}
use Rattle.std.specs.Prelude.{is_some, is_none, option_map, unwrap_or, flat_map}
use Rattle.std.specs.List.{list_any}
use Rattle.std.proofs.lemmas.Bool.{cases_Bool, cases_eq, cases_lt, or_cases}
use Rattle.pip_base.specs.declared.outcome.Status.{Status}
use Rattle.pip_base.specs.declared.types.Pair.{Pair}
use Rattle.pip_base.specs.declared.outcome.Status.TheVariants as S
use Rattle.pip_model.specs.Accepted.{MayPrepare, IsUnheld, CanBeGiven}
use Rattle.pip_model.specs.Answers.{answer_unless, child_name, child_of, first_met, is_mapped, nobody, page_of, pair_at}
use Rattle.pip_model.specs.Answers.{words_without}
use Rattle.pip_model.specs.CountToMap.{count_refusals, pages_needed}
use Rattle.pip_model.specs.Lists.{Distinct, In, has}
use Rattle.pip_model.specs.Prepare.{PageChain, Pages, Refused, go_on, next_in_chain, page_chain, page_refusals, prepare}
use Rattle.pip_model.specs.Prepare.{prepare_with, tree_with_table, with_table}
use Rattle.pip_model.specs.Sound.{RowsHaveTables, IsSound, KeepsPagesApart}
use Rattle.pip_model.specs.Tree.{Node, Table, Tree, base_pairs, change_node, child_at, config, dir, free, has_table}
use Rattle.pip_model.specs.Tree.{held_pages, hidden, is_place, lists, node, nodes, page_at, pairs, row_pages}
use Rattle.pip_model.specs.Tree.{table_pairs, vpage}
use Rattle.pip_model.proofs.OnLists.Members.{In-append_left, In-append_right, In-append_cases, In-map, In-map_from}
use Rattle.pip_model.proofs.OnLists.Members.{in_has, has_in, any_none, any_some, Distinct-by, count, count-append}
use Rattle.pip_model.proofs.OnLists.Members.{count-in, in-count, count-distinct, distinct-count, no_count, map_append}
use Rattle.pip_model.proofs.Trees.Ancestors.{same_name}
use Rattle.pip_model.proofs.Trees.Free.{IsName, node_found, address-usable, usable_same, not_false, tests_agree}
use Rattle.pip_model.proofs.Trees.Free.{hidden_from, hidden_by, passed}
use Rattle.pip_model.proofs.Trees.Numbers.{without_small}
use Rattle.pip_model.proofs.Calls.Add.{child_found}
use Rattle.pip_model.proofs.Trees.ChangeNode.{MayBecome, change_words-sound, hidden-after, hidden-child, hidden-other}

-- a chain of pages that may be taken, at addresses that differ from each other and from those seen
abbrev pub IsChain : Tree → ℕ → List ℕ → List Pair → Type 0
IsChain t p seen [] = Unit {0}
IsChain t p seen (g ∷ gs) =
    ((g ≡ pair_at t p g.va) × CanBeGiven t p g.va × (In g.va seen → ⊥)) × IsChain t p (g.va ∷ seen) gs

pub page_may : (t : Tree) (p : ℕ) (seen : List ℕ) (a : ℕ) → first_met (page_refusals t p seen a) ≡ None
    → CanBeGiven t p a × (In a seen → ⊥)
page_may t p seen a e =
    let cs = page_refusals t p seen a in
    let off : list_any (λ x. not (is_place x)) (a ∷ []) ≡ false = passed cs e S.NotAligned in
    let rep : has seen a ≡ false = passed cs e S.Repeated in
    let unm : not (is_mapped t p (vpage a)) ≡ false = passed cs e S.NotMapped in
    let unf : not (free t p (vpage a)) ≡ false = passed cs e S.NotFree in
    let la = not_false (is_place a) (any_none (λ x. not (is_place x)) a (a ∷ []) off (inl refl)) in (
      address-usable t p a la (not_false (is_mapped t p (vpage a)) unm) (not_false (free t p (vpage a)) unf),
      (λ i. let h = in_has a seen i in grind (arith, h, rep)),
    )

chain_step : (t : Tree) (p k : ℕ) (seen : List ℕ) (a : ℕ) (gs : List Pair) (o : Option Status) (c : PageChain)
    → first_met (page_refusals t p seen a) ≡ o → go_on o (pair_at t p a) c ≡ Pages gs → ((hs : List Pair) → c ≡ Pages hs
    → IsChain t p (a ∷ seen) hs × (length hs ≡ k)) → IsChain t p seen gs × (length gs ≡ suc k)
chain_step t p k seen a gs (Some q) c e h ih = cc
chain_step t p k seen a gs None (Refused q) e h ih = cc
chain_step t p k seen a gs None (Pages hs) e h ih =
    let q : pair_at t p a ∷ hs ≡ gs = cc in
    let r = ih hs refl in
    let u = page_may t p seen a e in
    rw (← q) (((refl, u.0, u.1), r.0), ap suc r.1)

pub chain_is : (t : Tree) (p k : ℕ) (seen : List ℕ) (a : ℕ) (gs : List Pair) → page_chain t p k seen a ≡ Pages gs
    → IsChain t p seen gs × (length gs ≡ k)
chain_is t p zero seen a gs e = let q : [] ≡ gs = cc in rw (← q) (tt, refl)
chain_is t p (suc k) seen a gs e = chain_step t p k seen a gs (first_met (page_refusals t p seen a)) (page_chain t p k
    (a ∷ seen) (next_in_chain t p a)) refl e (λ hs h. chain_is t p k (a ∷ seen) (next_in_chain t p a) hs h)

-- each page of the chain
pub chain_each : (t : Tree) (p : ℕ) (seen : List ℕ) (gs : List Pair) → IsChain t p seen gs → (g : Pair) → In g gs
    → (g ≡ pair_at t p g.va) × CanBeGiven t p g.va × (In g.va seen → ⊥)
chain_each t p seen [] c g i = absurd i
chain_each t p seen (h ∷ gs) c g (inl e) =
    rw e c.0
chain_each t p seen (h ∷ gs) c g (inr i) = let r = chain_each t p (h.va ∷ seen) gs c.1 g i in
    (r.0, r.1, (λ j. r.2 (inr j)))

chain_places : (t : Tree) (p : ℕ) (seen : List ℕ) (gs : List Pair) → IsChain t p seen gs → Distinct (map (λ g. g.va) gs)
chain_places t p seen [] c = tt
chain_places t p seen (h ∷ gs) c = (
  (λ i. let (g, j, e) = In-map_from (λ g. g.va) h.va gs i in
      let r = chain_each t p (h.va ∷ seen) gs c.1 g j in r.2 (inl (sym e))),
  chain_places t p (h.va ∷ seen) gs c.1,
)

pub chain_pages : (t : Tree) (p : ℕ) (seen : List ℕ) (gs : List Pair) → IsSound t → IsName t p → IsChain t p seen gs
    → Distinct (map (λ g. g.frame) gs)
chain_pages t p seen gs s n c = Distinct-by (λ g. g.va) (λ g. g.frame) gs (chain_places t p seen gs c) (λ x y i j e.
    let a = chain_each t p seen gs c x i in
    let b = chain_each t p seen gs c y j in
    usable_same t p s n x.va y.va a.1 b.1 (cc (a.0, b.0)))

-- how often a page stands among what was given
abbrev pub times : ℕ → List Pair → ℕ
times g gs = count g (map (λ h. h.frame) gs)

pub times-append : (g : ℕ) (xs ys : List Pair) → times g (xs ++ ys) ≡ times g xs + times g ys
times-append g xs ys =
    rw (map_append (λ h. h.frame) xs ys, count-append g (map (λ h. h.frame) xs) (map (λ h. h.frame) ys))

flat_one : (ts : List Table) (b : Table)
    → flat_map table_pairs (ts ++ b ∷ []) ≡ flat_map table_pairs ts ++ table_pairs b
flat_one [] b = refl
flat_one (t ∷ ts) b = rw (flat_one ts b)

-- the pages of x with those of the table and the list page
pub times_with : (g : ℕ) (x : Node) (b : Table) (rest : List Pair)
    → times g (pairs (with_table b rest x)) ≡ times g (pairs x) + times g (table_pairs b ++ rest)
times_with g x b rest =
    let e0 = times-append g (base_pairs x.base) (flat_map table_pairs (x.tables ++ b ∷ []) ++ (x.more ++ rest)) in
    let e1 = times-append g (flat_map table_pairs (x.tables ++ b ∷ [])) (x.more ++ rest) in
    let e2 = ap (times g) (flat_one x.tables b) ∙ times-append g (flat_map table_pairs x.tables) (table_pairs b) in
    let e3 = times-append g x.more rest in
    let e4 = times-append g (base_pairs x.base) (flat_map table_pairs x.tables ++ x.more) in
    let e5 = times-append g (flat_map table_pairs x.tables) x.more in
    let e6 = times-append g (table_pairs b) rest in
    omega (arith, e0, e1, e2, e3, e4, e5, e6)

pub pairs_with : (g : Pair) (x : Node) (b : Table) (rest : List Pair) → In g (pairs (with_table b rest x))
    → In g (pairs x) ⊎ In g (table_pairs b ++ rest)
pairs_with g x b rest i =
    elim (In-append_cases g (base_pairs x.base) (flat_map table_pairs (x.tables ++ b ∷ []) ++ (x.more ++ rest)) i) [
      | inl j ↦ inl (In-append_left g (base_pairs x.base) (flat_map table_pairs x.tables ++ x.more) j)
      | inr j ↦ elim (In-append_cases g (flat_map table_pairs (x.tables ++ b ∷ [])) (x.more ++ rest) j) [
        | inl k ↦ elim (In-append_cases g (flat_map table_pairs x.tables) (table_pairs b)
            (rw (← flat_one x.tables b) k)) [
              | inl l ↦ inl (In-append_right g (base_pairs x.base)
                  (flat_map table_pairs x.tables ++ x.more) (In-append_left g (flat_map table_pairs x.tables) x.more l))
              | inr l ↦ inr (In-append_left g (table_pairs b) rest l)
            ]
        | inr k ↦ elim (In-append_cases g x.more rest k) [
          | inl l ↦ inl (In-append_right g (base_pairs x.base)
              (flat_map table_pairs x.tables ++ x.more) (In-append_right g (flat_map table_pairs x.tables) x.more l))
          | inr l ↦ inr (In-append_right g (table_pairs b) rest l)
        ]
      ]
    ]

pub pages_with : (x : Node) (b : Table) (rest : List Pair) → KeepsPagesApart x
    → Distinct (map (λ g. g.frame) (table_pairs b ++ rest))
    → ((h : ℕ) → In h (map (λ g. g.frame) (table_pairs b ++ rest)) → In h (held_pages x) → ⊥)
    → KeepsPagesApart (with_table b rest x)
pages_with x b rest k once apart =
    record { pages = count-distinct (held_pages (with_table b rest x)) each; places = k.places }
  where
    new : List ℕ
    new = map (λ g. g.frame) (table_pairs b ++ rest)

    each : (g : ℕ) → count g (held_pages (with_table b rest x)) ≤ 1
    each g =
        let a = count-append g (config (with_table b rest x)) (row_pages x) in
        let w = times_with g x b rest in
        let o = distinct-count (held_pages x) k.pages g in
        let e = count-append g (config x) (row_pages x) in
        let d = distinct-count new once g in
        elim (cases_lt 0 (count g new)) [
          | inl l ↦ omega (arith, no_count g (held_pages x) (apart g (in-count g new l)))
          | inr l ↦ omega arith
        ]

pub tables_with : (x : Node) (b : Table) (rest : List Pair) → RowsHaveTables x
    → (In b.index (map (λ t. t.index) x.tables) → ⊥) → b.index < 1024
    → length rest ≡ lists (length x.tables + 1) - lists (length x.tables) → RowsHaveTables (with_table b rest x)
tables_with x b rest k new small listed = record {
  first = k.first;
  differ = rw (map_append (λ t. t.index) x.tables (b ∷ []))
      (count-distinct _ (λ g. let o = distinct-count _ k.differ g in let a =
      count-append g (map (λ t. t.index) x.tables) (b.index ∷ []) in
      elim (cases_Bool (b.index == g)) [
        | inl e ↦ let z =
            no_count g (map (λ t. t.index) x.tables)
            (λ i. new (subst (λ l. In l (map (λ t. t.index) x.tables)) (sym (eqb-true b.index g e)) i)) in
            let f : count g (b.index ∷ []) ≡ 1 = ap (λ v. cond v 1 0 + 0) e in
            omega (arith, a, z, f)
        | inr e ↦ let f : count g (b.index ∷ []) ≡ 0 =
            ap (λ v. cond v 1 0 + 0) e in omega (arith, a, o, f)
      ]));
  tabled = λ r i. rw (map_append (λ t. t.index) x.tables (b ∷ []))
      (In-append_left (dir r.at) (map (λ t. t.index) x.tables) (b.index ∷ []) (k.tabled r i));
  small = λ u i. elim (In-append_cases u x.tables (b ∷ []) i)
      [ inl j ↦ k.small u j | inr j ↦ elim j [ inl e ↦ rw e small | inr l ↦ absurd l ] ];
  listed =
      omega (arith, length-append x.tables (b ∷ []), length-append x.more rest);
}

or_left_true : (a b : Bool) → a ≡ true → (a || b) ≡ true
or_left_true a b e = rw e

or_right_true : (a b : Bool) → b ≡ true → (a || b) ≡ true
or_right_true true b e = refl
or_right_true false b e = e

words_at : (new hid row : Bool) (w : Option (ℕ → ℕ)) → is_some w ≡ (row && not hid)
    → is_some (cond new None w) ≡ (row && not (hid || new))
words_at new hid row w e = grind arith

module _ (t : Tree) (p : ℕ) (c : Node) (b : Table) (rest : List Pair) (s : IsSound t) (n : IsName t p)
    (m : MayPrepare t p c b rest) where
  abbrev y : Node
  y = with_table b rest c

  abbrev new_pages : List ℕ
  new_pages = map (λ g. g.frame) (table_pairs b ++ rest)

  is_parent : (z : Node) → In z (nodes t) → c.up ≡ z.name → node t p ≡ z
  is_parent z j u = let k = node_found t p n in same_name t (node t p) z s k.0 j (cc (k.1, m.up))

  config_case : (h : ℕ) → In h (config (with_table b rest c))
      → In h (config c) ⊎ In h (map (λ g. g.frame) (table_pairs b ++ rest))
  config_case h k = let (g, l, e) = In-map_from (λ g. g.frame) h (pairs y) k in elim (pairs_with g c b rest l) [
    | inl a ↦ inl (subst (λ q. In q (config c)) (sym e) (In-map (λ g. g.frame) g (pairs c) a))
    | inr a ↦ inr (subst (λ q. In q new_pages) (sym e) (In-map (λ g. g.frame) g (table_pairs b ++ rest) a))
  ]

  held_case : (h : ℕ) → In h (held_pages (with_table b rest c))
      → In h (held_pages c) ⊎ In h (map (λ g. g.frame) (table_pairs b ++ rest))
  held_case h k = elim (In-append_cases h (config y) (row_pages y) k) [
    | inl j ↦ elim (config_case h j) [ inl a ↦ inl (In-append_left h (config c) (row_pages c) a) | inr a ↦ inr a ]
    | inr j ↦ inl (In-append_right h (config c) (row_pages c) j)
  ]

  new_page : (h : ℕ) → In h (map (λ g. g.frame) (table_pairs b ++ rest)) → In h (row_pages (node t p)) × IsUnheld t p h
  new_page h i =
      let (g, j, e) = In-map_from (λ g. g.frame) h (table_pairs b ++ rest) i in
      let r = m.each g j in
      let q : h ≡ page_of t p g.va = cc (r.0) in
      (rw q r.1.row, subst (IsUnheld t p) (sym q) r.1.unheld)

  may_become : MayBecome t c (with_table b rest c)
  may_become =
      let d = s.named_by_descriptor c m.child in
      record {
        child = m.child;
        apart =
            pages_with c b rest (s.pages_apart c (inr m.child)) m.pages (λ h j k. (new_page h j).1 c m.child m.up k);
        named = assumption;
        readable = s.readable c (inr m.child);
        tables = tables_with c b rest (s.tables c (inr m.child)) m.new m.small m.listed;
        quiet = s.no_lines_but_the_root c m.child;
        lent = λ z j u. let l = s.lent c z m.child j u in let is = is_parent z j u in (
          record {
            rows = λ h k. elim (held_case h k)
                [ inl a ↦ l.rows h a | inr a ↦ subst (λ z. In h (row_pages z)) is (new_page h a).0 ];
            aligned = λ g k. elim (pairs_with g c b rest k) [ inl a ↦ l.aligned g a | inr a ↦ (m.each g a).1.aligned ];
            placed = λ g k. elim (pairs_with g c b rest k) [
              | inl a ↦ l.placed g a
              | inr a ↦ rw (← is) ((m.each g a).1.placed ∙ ap Some (sym (ap (λ g. g.frame) (m.each g a).0)))
            ];
          },
          s.rights c z m.child j u,
        );
        siblings = λ z j u ne h k l. elim (held_case h l)
            [ inl a ↦ s.siblings_apart z c j m.child u ne h k a | inr a ↦ (new_page h a).1 z j (u ∙ m.up) k ];
        lends = λ x i u. let l = s.lent x c i (inr m.child) u in
            (assumption, s.rights x c i (inr m.child) u);
      }

  config_has : (g : ℕ) → In g (config c) ⊎ In g (map (λ g. g.frame) (table_pairs b ++ rest))
      → In g (config (with_table b rest c))
  config_has g (inl i) = in-count g (config y) (omega (arith, count-in g (config c) i, times_with g c b rest))
  config_has g (inr i) = in-count g (config y) (omega (arith, count-in g new_pages i, times_with g c b rest))

  -- what is hidden afterwards
  pub hidden_now : (g : ℕ) → hidden (change_node c.name (with_table b rest) t) g
      ≡ (hidden t g || has (map (λ h. h.frame) (table_pairs b ++ rest)) g)
  unfolding may_become
  hidden_now g = tests_agree _ _
      (λ q. elim (hidden-after t s c (with_table b rest) (λ x. refl) (λ x. refl) may_become g q) [
        | inl i ↦ elim (config_case g i) [
          | inl a ↦ or_left_true _ _ (hidden_by t g c (inr m.child) a)
          | inr a ↦
              or_right_true (hidden t g) _ (in_has g new_pages a)
        ]
        | inr x ↦ or_left_true _ _ (hidden_by t g x.0 x.1 x.3)
      ])
      (λ q. elim (or_cases (hidden t g) (has new_pages g) q) [
        | inl h ↦ let (x, i, k) = hidden_from t g h in elim (cases_eq x.name c.name) [
          | inl e ↦ hidden-child t s c (with_table b rest) (λ x. refl) (λ x. refl) may_become g
              (config_has g (inl (rw (← same_name t x c s i (inr m.child) e) k)))
          | inr ne ↦ hidden-other t s c (with_table b rest) (λ x. refl) (λ x. refl) may_become g x i ne k
        ]
        | inr h ↦ hidden-child t s c (with_table b rest) (λ x. refl) (λ x. refl) may_become g
            (config_has g (inr (has_in g new_pages h)))
      ])

  pub with_table-sound : IsSound (record (change_node c.name (with_table b rest) t) {
    words =
        words_without (map (λ g. g.frame) (table_pairs b ++ rest)) t.words;
  })
  unfolding may_become hidden_now
  with_table-sound =
      change_words-sound t s c (with_table b rest) (λ x. refl) (λ x. refl) may_become (words_without new_pages t.words)
      (λ g. words_at (has new_pages g) (hidden t g) (has (row_pages t.root) g) (t.words g) (s.words g)
      ∙ ap (λ h. has (row_pages t.root) g && not h) (sym (hidden_now g)))
      (λ g i l. without_small new_pages t.words g i (s.numbers g i l))

table_none : (x : Node) (v : ℕ) → has_table x v ≡ false → In (dir v) (map (λ t. t.index) x.tables) → ⊥
table_none x v e i =
    let (y, j, q) = In-map_from (λ t. t.index) (dir v) x.tables i in
    let h : has_table x v ≡ true = any_some (λ t. t.index == dir v) y x.tables j (eq-eqb y.index (dir v) (sym q)) in
    grind (arith, e, h)

pub may_prepare : (t : Tree) (p : ℕ) (c : Node) (v : ℕ) (g0 g1 g2 : Pair) (rest : List Pair) → IsSound t → IsName t p
    → In c t.others → c.up ≡ p → v < 2 ^ 20 → IsChain t p [] (g0 ∷ g1 ∷ g2 ∷ rest) → length (g0 ∷ g1 ∷ g2 ∷ rest)
    ≡ pages_needed c v → MayPrepare t p c (record { index = dir v; mmu = g0; shadow1 = g1; shadow2 = g2 }) rest
may_prepare t p c v g0 g1 g2 rest s n i u small ch len = go (has_table c v) refl
  where
    go : (b : Bool) → has_table c v ≡ b
        → MayPrepare t p c (record { index = dir v; mmu = g0; shadow1 = g1; shadow2 = g2 }) rest
    go true e = let z : pages_needed c v ≡ 0 =
        rw e in
        absurd (omega arith)
    go false e = let z : pages_needed c v ≡ 3 + lists (length c.tables + 1) - lists (length c.tables) =
        rw e in record {
          child = i;
          up = u;
          each = λ g j. let r = chain_each t p [] (g0 ∷ g1 ∷ g2 ∷ rest) ch g j in (r.0, r.1);
          pages = chain_pages t p [] (g0 ∷ g1 ∷ g2 ∷ rest) s n ch;
          new = table_none c v e;
          small = omega arith;
          listed = omega arith;
        }

prepared-sound : (t : Tree) (p : ℕ) (c : Node) (v : ℕ) (gs : List Pair) → IsSound t → IsName t p → In c t.others → c.up
    ≡ p → v < 2 ^ 20 → IsChain t p [] gs → length gs ≡ pages_needed c v → IsSound (tree_with_table t c.name (dir v) gs)
prepared-sound t p c v [] s n i u small ch len = s
prepared-sound t p c v (g0 ∷ []) s n i u small ch len = s
prepared-sound t p c v (g0 ∷ g1 ∷ []) s n i u small ch len = s
prepared-sound t p c v (g0 ∷ g1 ∷ g2 ∷ rest) s n i u small ch len =
    with_table-sound t p c _ rest s n (may_prepare t p c v g0 g1 g2 rest s n i u small ch len)

with_chain : (t : Tree) (p : ℕ) (c : Node) (v first : ℕ) (o : PageChain) → IsSound t → IsName t p → In c t.others
    → c.up ≡ p → v < 2 ^ 20 → page_chain t p (pages_needed c v) [] first ≡ o
    → IsSound (prepare_with t c.name v (pages_needed c v) o).tree
with_chain t p c v first (Refused q) s n i u small e = s
with_chain t p c v first (Pages gs) s n i u small e = let k = chain_is t p (pages_needed c v) [] first gs e in
    prepared-sound t p c v gs s n i u small k.0 k.1

pub prepare-sound : (t : Tree) (p d cv first : ℕ) → IsSound t → IsName t p → cv < 2 ^ 32
    → IsSound (prepare t p d cv first).tree
prepare-sound t p d cv first s n small = go (first_met cs) refl
  where
    cs : List (Bool × Status)
    cs = count_refusals t p d cv

    at_child : (o : Option Node) → child_at t p d ≡ o → is_none (child_at t p d) ≡ false
        → IsSound (prepare_with t (unwrap_or (option_map (λ x. x.name) (child_at t p d)) 0) (vpage cv)
        (pages_needed (unwrap_or (child_at t p d) nobody) (vpage cv))
        (page_chain t p (pages_needed (unwrap_or (child_at t p d) nobody) (vpage cv)) [] first)).tree
    at_child None k e = absurd (grind (arith, k, e))
    at_child (Some c) k e =
        let f = child_found t p d c k in
        rw k (with_chain t p c (vpage cv) first (page_chain t p (pages_needed c (vpage cv)) [] first) s n f.0 f.1
        (omega arith) refl)

    go : (o : Option Status) → first_met cs ≡ o
        → IsSound (answer_unless t o (let k = pages_needed (child_of t p d) (vpage cv) in
        prepare_with t (child_name t p d) (vpage cv) k (page_chain t p k [] first))).tree
    go (Some q) e = s
    go None e = at_child (child_at t p d) refl (passed cs e S.NotChild)
