-- collect keeps the tree sound.
use Rattle.std.proofs.Common.{◌≡◌, ℕ, ◌+◌, ◌-◌, ◌==◌, ◌&&◌, ◌||◌, inl, inr, Bool, true, false, not, cond, List, [], ◌∷◌}
use Rattle.std.proofs.Common.{◌++◌, map, length, refl, sym, ap, ap₂, ◌∙◌, subst, arith, eqb-true, Option, Some, None}
use Rattle.std.specs.Prelude.{is_some, is_none, option_map, unwrap_or, flat_map, find}
use Rattle.std.proofs.lemmas.Bool.{ne_eqb, eqb-false, ltb-true, ltb-false, cases_eq, false_from_ne_true}
use Rattle.pip_base.specs.declared.outcome.Status.{Status}
use Rattle.pip_base.specs.declared.types.Pair.{Pair}
use Rattle.pip_base.specs.declared.outcome.Status.TheVariants as S
use Rattle.pip_model.specs.Answers.{child_name, child_of, first_met, nobody}
use Rattle.pip_model.specs.Collect.{collect, collect_refusals, tree_without_table, falls, first_va, front_of}
use Rattle.pip_model.specs.Collect.{has_row_in, last_first, last_of, last_pair, chain_word, words_with_chain}
use Rattle.pip_model.specs.Collect.{returned_pages, swap_out, table_for, without_table}
use Rattle.pip_model.specs.Lists.{In, has}
use Rattle.pip_model.specs.Sound.{RowsHaveTables, IsSound, KeepsPagesApart}
use Rattle.pip_model.specs.Tree.{Node, Table, Tree, base_pairs, change_node, child_at, config, dir, held_pages, hidden}
use Rattle.pip_model.specs.Tree.{lists, pairs, row_pages, table_pairs, vpage}
use Rattle.pip_model.proofs.OnLists.Members.{In-append_left, In-append_right, In-append_cases, In-map, In-map_from}
use Rattle.pip_model.proofs.OnLists.Members.{in_has, has_in, any_none, find_in, count, count-append, count-in, in-count}
use Rattle.pip_model.proofs.OnLists.Members.{count-distinct, distinct-count, no_count}
use Rattle.pip_model.proofs.Trees.Ancestors.{same_name, not_root, root_is_top, holds_up, one_config}
use Rattle.pip_model.proofs.Trees.Free.{tests_agree, hidden_from, hidden_by, unless-sound, passed}
use Rattle.pip_model.proofs.Trees.Numbers.{linked_small, va_small}
use Rattle.pip_model.proofs.Calls.Add.{child_found}
use Rattle.pip_model.proofs.Calls.Prepare.{times, times-append}
use Rattle.pip_model.proofs.Trees.ChangeNode.{MayBecome, change_words-sound, hidden-after, hidden-child, hidden-other}

-- a sum over the tables, one number each
abbrev pub total : (Table → ℕ) → List Table → ℕ
total f [] = 0
total f (t ∷ ts) = f t + total f ts

total_last : (f : Table → ℕ) (u : Table) (us : List Table)
    → f (last_of u us) + total f (front_of (u ∷ us)) ≡ total f (u ∷ us)
total_last f u [] = refl
total_last f u (v ∷ us) = omega (arith, total_last f v us)

total_moved : (f : Table → ℕ) (ts : List Table) → total f (last_first ts) ≡ total f ts
total_moved f [] = refl
total_moved f (t ∷ ts) = total_last f t ts

out_step : (f : Table → ℕ) (b t : Table) (ts rest : List Table) (q : Bool) (o : Option Table)
    → cond q (Some t) o ≡ Some b → (o ≡ Some b → total f rest + f b ≡ total f ts)
    → total f (cond q (last_first ts) (t ∷ rest)) + f b ≡ f t + total f ts
out_step f b t ts rest true o e ih = let k : t ≡ b = cc in omega (arith, total_moved f ts, ap f k)
out_step f b t ts rest false o e ih = omega arith

-- what is left, and the table that goes
pub total_out : (f : Table → ℕ) (i : ℕ) (b : Table) (ts : List Table) → find (λ t. t.index == i) ts ≡ Some b
    → total f (swap_out i ts) + f b ≡ total f ts
total_out f i b [] e = cc
total_out f i b (t ∷ ts) e =
    out_step f b t ts (swap_out i ts) (t.index == i) (find (λ t. t.index == i) ts) e (total_out f i b ts)

-- lengths, indexes and pages are such sums
pub total_length : (ts : List Table) → total (λ t. 1) ts ≡ length ts
total_length [] = refl
total_length (t ∷ ts) = omega (arith, total_length ts)

total_index : (k : ℕ) (ts : List Table) → total (λ t. cond (t.index == k) 1 0) ts ≡ count k (map (λ t. t.index) ts)
total_index k [] = refl
total_index k (t ∷ ts) = rw (total_index k ts)

total_pages : (g : ℕ) (ts : List Table) → total (λ t. times g (table_pairs t)) ts ≡ times g (flat_map table_pairs ts)
total_pages g [] = refl
total_pages g (t ∷ ts) = omega (arith, total_pages g ts, times-append g (table_pairs t) (flat_map table_pairs ts))

-- members
in_last : (v u : Table) (us : List Table) → In v (last_of u us ∷ front_of (u ∷ us)) → In v (u ∷ us)
in_last v u [] i = i
in_last v u (w ∷ us) (inl e) = inr (in_last v w us (inl e))
in_last v u (w ∷ us) (inr (inl e)) = inl e
in_last v u (w ∷ us) (inr (inr i)) = inr (in_last v w us (inr i))

pub in_moved : (v : Table) (ts : List Table) → In v (last_first ts) → In v ts
in_moved v [] i = i
in_moved v (t ∷ ts) i = in_last v t ts i

in_cond : (q : Bool) (v t : Table) (ts rest : List Table) → In v (cond q (last_first ts) (t ∷ rest))
    → (In v rest → In v ts) → In v (t ∷ ts)
in_cond true v t ts rest i h = inr (in_moved v ts i)
in_cond false v t ts rest (inl e) h = inl e
in_cond false v t ts rest (inr i) h = inr (h i)

pub in_out : (v : Table) (i : ℕ) (ts : List Table) → In v (swap_out i ts) → In v ts
in_out v i [] h = h
in_out v i (t ∷ ts) h = in_cond (t.index == i) v t ts (swap_out i ts) h (in_out v i ts)

in_front : (g : Pair) (gs : List Pair) → In g (front_of gs) → In g gs
in_front g [] i = i
in_front g (h ∷ []) i = absurd i
in_front g (h ∷ k ∷ gs) (inl e) = inl e
in_front g (h ∷ k ∷ gs) (inr i) = inr (in_front g (k ∷ gs) i)

times_front : (g : ℕ) (gs : List Pair) → times g (front_of gs) + times g (last_pair gs) ≡ times g gs
times_front g [] = refl
times_front g (h ∷ []) = omega arith
times_front g (h ∷ k ∷ gs) = omega (arith, times_front g (k ∷ gs))

length_front : (gs : List Pair) → length (front_of gs) ≡ length gs - 1
length_front [] = refl
length_front (h ∷ []) = refl
length_front (h ∷ k ∷ gs) = omega (arith, length_front (k ∷ gs))

-- the list page that goes, if one does
abbrev pub list_page : Node → List Pair
list_page x = cond (falls x) (last_pair x.more) []

times_more : (b : Bool) (g : ℕ) (gs : List Pair)
    → times g (cond b (front_of gs) gs) + times g (cond b (last_pair gs) []) ≡ times g gs
times_more true g gs = times_front g gs
times_more false g gs = omega arith

-- the pages that stay and the pages that go
pub times_taken : (g i : ℕ) (x : Node) (b : Table) → find (λ t. t.index == i) x.tables ≡ Some b
    → times g (pairs (without_table i x)) + times g (table_pairs b ++ list_page x) ≡ times g (pairs x)
times_taken g i x b e =
    let a0 = times-append g (base_pairs x.base)
    (flat_map table_pairs (swap_out i x.tables) ++ cond (falls x) (front_of x.more) x.more) in
    let a1 = times-append g (flat_map table_pairs (swap_out i x.tables)) (cond (falls x) (front_of x.more) x.more) in
    let a2 = times-append g (base_pairs x.base) (flat_map table_pairs x.tables ++ x.more) in
    let a3 = times-append g (flat_map table_pairs x.tables) x.more in
    let a4 = times-append g (table_pairs b) (list_page x) in
    let p0 = total_pages g (swap_out i x.tables) in
    let p1 = total_pages g x.tables in
    let o = total_out (λ t. times g (table_pairs t)) i b x.tables e in
    let m = times_more (falls x) g x.more in
    omega (arith, a0, a1, a2, a3, a4, p0, p1, o, m)

in_more : (b : Bool) (g : Pair) (gs : List Pair) → In g (cond b (front_of gs) gs) → In g gs
in_more true g gs i = in_front g gs i
in_more false g gs i = i

flat_pairs : (g : Pair) (ts : List Table) → In g (flat_map table_pairs ts)
    → (b : Table) × In b ts × In g (table_pairs b)
flat_pairs g [] i = absurd i
flat_pairs g (t ∷ ts) i = elim (In-append_cases g (table_pairs t) (flat_map table_pairs ts) i)
    [ inl j ↦ (t, inl refl, j) | inr j ↦ let (b, k, h) = flat_pairs g ts j in (b, inr k, h) ]

pub pairs_flat : (g : Pair) (b : Table) (ts : List Table) → In b ts → In g (table_pairs b)
    → In g (flat_map table_pairs ts)
pairs_flat g b [] i h = absurd i
pairs_flat g b (t ∷ ts) (inl e) h =
    In-append_left g (table_pairs t) (flat_map table_pairs ts) (rw (← e) h)
pairs_flat g b (t ∷ ts) (inr i) h = In-append_right g (table_pairs t) (flat_map table_pairs ts) (pairs_flat g b ts i h)

pub pairs_taken : (i : ℕ) (x : Node) (g : Pair) → In g (pairs (without_table i x)) → In g (pairs x)
pairs_taken i x g h = elim (In-append_cases g (base_pairs x.base)
    (flat_map table_pairs (swap_out i x.tables) ++ cond (falls x) (front_of x.more) x.more) h) [
      | inl j ↦ In-append_left g (base_pairs x.base) (flat_map table_pairs x.tables ++ x.more) j
      | inr j ↦ In-append_right g (base_pairs x.base) (flat_map table_pairs x.tables ++ x.more) (elim (In-append_cases g
          (flat_map table_pairs (swap_out i x.tables)) (cond (falls x) (front_of x.more) x.more) j) [
            | inl k ↦ let (b, l, m) = flat_pairs g (swap_out i x.tables) k in
                In-append_left g (flat_map table_pairs x.tables) x.more
                (pairs_flat g b x.tables (in_out b i x.tables l) m)
            | inr k ↦ In-append_right g (flat_map table_pairs x.tables) x.more (in_more (falls x) g x.more k)
          ])
    ]

pub config_taken : (i : ℕ) (x : Node) (g : ℕ) → In g (config (without_table i x)) → In g (config x)
config_taken i x g h = let (d, j, e) = In-map_from (λ d. d.frame) g (pairs (without_table i x)) h in
    subst (λ n. In n (config x)) (sym e) (In-map (λ d. d.frame) d (pairs x) (pairs_taken i x d j))

pub apart_taken : (i : ℕ) (x : Node) (b : Table) → KeepsPagesApart x → find (λ t. t.index == i) x.tables ≡ Some b
    → KeepsPagesApart (without_table i x)
apart_taken i x b k found = record {
  pages = count-distinct (held_pages (without_table i x)) (λ g.
      let o = distinct-count (held_pages x) k.pages g in
      let a = count-append g (config x) (row_pages x) in
      let d = count-append g (config (without_table i x)) (row_pages x) in
      let t = times_taken g i x b found in
      omega (arith, o, a, d, t));
  places = k.places;
}

pub tables_taken : (i : ℕ) (x : Node) (b : Table) → RowsHaveTables x → find (λ t. t.index == i) x.tables ≡ Some b
    → b.index ≡ i → has_row_in x i ≡ false → RowsHaveTables (without_table i x)
tables_taken i x b k found same empty = record {
  first = k.first;
  differ = count-distinct (map (λ t. t.index) (swap_out i x.tables)) (λ g.
      omega (arith, distinct-count (map (λ t. t.index) x.tables) k.differ g, index_left g));
  tabled = λ r j. in-count (dir r.at) (map (λ t. t.index) (swap_out i x.tables)) (
      let c = count-in (dir r.at) (map (λ t. t.index) x.tables) (k.tabled r j) in
      let a = index_left (dir r.at) in
      let f : (dir r.at == i) ≡ false = any_none (λ r. dir r.at == i) r x.rows empty j in
      let n : (b.index == dir r.at) ≡ false =
      ne_eqb b.index (dir r.at) (λ e. eqb-false (dir r.at) i f (cc)) in
      let z : ◌≡◌ {A = ℕ} (cond (b.index == dir r.at) 1 0) 0 = rw n in
      omega arith);
  small = λ t j. k.small t (in_out t i x.tables j);
  listed = go (falls x) refl;
}
  where
    index_left : (g : ℕ) → count g (map (λ t. t.index) (swap_out i x.tables)) + cond (b.index == g) 1 0
        ≡ count g (map (λ t. t.index) x.tables)
    index_left g =
        let o = total_out (λ t. cond (t.index == g) 1 0) i b x.tables found in
        let p = total_index g (swap_out i x.tables) in
        let q = total_index g x.tables in
        omega (arith, o, p, q)

    shorter : length (swap_out i x.tables) + 1 ≡ length x.tables
    shorter =
        omega (arith, total_out (λ t. 1) i b x.tables found, total_length (swap_out i x.tables), total_length x.tables)

    go : (f : Bool) → falls x ≡ f → length (cond f (front_of x.more) x.more) ≡ lists (length (swap_out i x.tables)) - 1
    go true e =
        omega (arith, ltb-true (lists (length x.tables - 1)) (lists (length x.tables)) e, shorter, length_front x.more)
    go false e =
        omega (arith, ltb-false (lists (length x.tables - 1)) (lists (length x.tables)) e, shorter)

linked_some : (gs : List Pair) (words : ℕ → Option (ℕ → ℕ)) (g : ℕ)
    → is_some (words_with_chain gs words g) ≡ (has (map (λ h. h.frame) gs) g || is_some (words g))
linked_some [] words g = refl
linked_some (h ∷ gs) words g = go (h.frame == g) (linked_some gs words g)
  where
    go : (b : Bool) → is_some (words_with_chain gs words g) ≡ (has (map (λ h. h.frame) gs) g || is_some (words g))
        → is_some (cond b (Some (chain_word (first_va gs))) (words_with_chain gs words g))
        ≡ ((b || has (map (λ h. h.frame) gs) g) || is_some (words g))
    go true e = refl
    go false e = e

-- a page is given back: by whether it is among them, is hidden before and after, and is in the root's rows
words_back : (back before after row : Bool) (w : Bool) → w ≡ (row && not before) → (back ≡ true
    → (row ≡ true) × (after ≡ false)) → (back ≡ false → after ≡ before) → (back || w) ≡ (row && not after)
words_back true before after row w e f g = let h = f refl in ap₂ (λ r a. r && not a) (sym h.0) (sym h.1)
words_back false before after row w e f g = rw (e, ← g refl)

module _ (t : Tree) (c : Node) (i : ℕ) (b : Table) (s : IsSound t) (child : In c t.others)
    (found : find (λ t. t.index == i) c.tables ≡ Some b) (same : b.index ≡ i) (empty : has_row_in c i ≡ false) where
  abbrev y : Node
  y = without_table i c

  held_from : (g : ℕ) → In g (held_pages (without_table i c)) → In g (held_pages c)
  held_from g h = elim (In-append_cases g (config y) (row_pages y) h) [
    | inl j ↦ In-append_left g (config c) (row_pages c) (config_taken i c g j)
    | inr j ↦ In-append_right g (config c) (row_pages c) j
  ]

  may_become : MayBecome t c (without_table i c)
  may_become =
      let d = s.named_by_descriptor c child in
      record {
        child = child;
        apart = apart_taken i c b (s.pages_apart c (inr child)) found;
        named = assumption;
        readable = s.readable c (inr child);
        tables = tables_taken i c b (s.tables c (inr child)) found same empty;
        quiet = s.no_lines_but_the_root c child;
        lent = λ z j u. let l = s.lent c z child j u in (
          record {
            rows = λ g h. l.rows g (held_from g h);
            aligned = λ g h. l.aligned g (pairs_taken i c g h);
            placed = λ g h. l.placed g (pairs_taken i c g h);
          },
          s.rights c z child j u,
        );
        siblings = λ z j u ne g h k. s.siblings_apart z c j child u ne g h (held_from g k);
        lends = λ x j u. let l = s.lent x c j (inr child) u in
            (assumption, s.rights x c j (inr child) u);
      }

  abbrev back : List ℕ
  back = map (λ g. g.frame) (table_pairs b ++ list_page c)

  -- c's pages are those that stay and those that come back
  child_pages : (g : ℕ) → times g (pairs (without_table i c)) + count g back ≡ count g (config c)
  child_pages g = times_taken g i c b found

  back_config : (g : ℕ) → In g back → In g (config c)
  back_config g h = in-count g (config c) (omega (arith, count-in g back h, child_pages g))

  back_gone : (g : ℕ) → In g back → In g (config (without_table i c)) → ⊥
  back_gone g h k =
      let m = count-in g back h in
      let n = count-in g (config y) k in
      let p = child_pages g in
      let o = distinct-count (held_pages c) (s.pages_apart c (inr child)).pages g in
      let a = count-append g (config c) (row_pages c) in
      absurd (omega arith)

  hidden_gone : (g : ℕ) → In g back → hidden (change_node c.name (without_table i) t) g ≡ false
  unfolding may_become
  hidden_gone g h =
      false_from_ne_true _ (λ q. elim (hidden-after t s c (without_table i) (λ x. refl) (λ x. refl) may_become g q) [
        | inl k ↦ back_gone g h k
        | inr x ↦ x.2 (rw (← one_config t g s c x.0 (inr child) x.1 (back_config g h) x.3))
      ])

  hidden_kept : (g : ℕ) → (In g back → ⊥) → hidden (change_node c.name (without_table i) t) g ≡ hidden t g
  unfolding may_become
  hidden_kept g n = tests_agree _ _
      (λ q. elim (hidden-after t s c (without_table i) (λ x. refl) (λ x. refl) may_become g q)
      [ inl k ↦ hidden_by t g c (inr child) (config_taken i c g k) | inr x ↦ hidden_by t g x.0 x.1 x.3 ])
      (λ q. let (x, j, k) = hidden_from t g q in elim (cases_eq x.name c.name) [
        | inr ne ↦ hidden-other t s c (without_table i) (λ x. refl) (λ x. refl) may_become g x j ne k
        | inl e ↦
            let w = count-in g (config c) (rw (← same_name t x c s j (inr child) e) k) in
            let p = child_pages g in
            let z = no_count g back n in
            hidden-child t s c (without_table i) (λ x. refl) (λ x. refl) may_become g
            (in-count g (config y) (omega arith))
      ])

  back_given : (d : Pair) → In d (table_pairs b ++ list_page c) → In d (pairs c)
  back_given d j = In-append_right d (base_pairs c.base)
      (flat_map table_pairs c.tables ++ c.more) (elim (In-append_cases d (table_pairs b) (list_page c) j) [
        | inl k ↦ In-append_left d (flat_map table_pairs c.tables) c.more
            (pairs_flat d b c.tables (find_in (λ t. t.index == i) b c.tables found).0 k)
        | inr k ↦ In-append_right d (flat_map table_pairs c.tables) c.more (in_page (falls c) k)
      ])
    where
      last_in : (gs : List Pair) → In d (last_pair gs) → In d gs
      last_in [] k = k
      last_in (g ∷ []) k = k
      last_in (g ∷ h ∷ gs) k = inr (last_in (h ∷ gs) k)

      in_page : (q : Bool) → In d (cond q (last_pair c.more) []) → In d c.more
      in_page true k = last_in c.more k
      in_page false k = absurd k

  pub without_table-sound : IsSound (record (change_node c.name (without_table i) t) {
    words =
        words_with_chain (table_pairs b ++ list_page c) t.words;
  })
  unfolding may_become
  without_table-sound = change_words-sound t s c (without_table i) (λ x. refl) (λ x. refl) may_become
      (words_with_chain (table_pairs b ++ list_page c) t.words)
      (λ g. linked_some (table_pairs b ++ list_page c) t.words g
      ∙ words_back (has back g) (hidden t g) (hidden (change_node c.name (without_table i) t) g)
      (has (row_pages t.root) g) (is_some (t.words g)) (s.words g)
      (λ e. let h = has_in g back e in (
        elim (root_is_top t s c (inr child)) [
          | inl q ↦ absurd (not_root t s c child (rw q))
          | inr a ↦ in_has g (row_pages t.root)
              (holds_up t g s t.root c a (In-append_left g (config c) (row_pages c) (back_config g h)))
        ],
        hidden_gone g h,
      ))
      (λ e. hidden_kept g (λ h. let k = in_has g back h in grind (arith, e, k))))
      (λ g k l. linked_small (table_pairs b ++ list_page c) t.words g k
      (λ d j. va_small t s c (inr child) d (back_given d j)) (s.numbers g k l))

pub collect-sound : (t : Tree) (p d cv : ℕ) → IsSound t → IsSound (collect t p d cv).tree
collect-sound t p d cv s = unless-sound t (first_met cs) _ s (at_child (child_at t p d) refl)
  where
    cs : List (Bool × Status)
    cs = collect_refusals t p d cv

    at_table : (c : Node) (o : Option Table) → In c t.others → table_for c (vpage cv) ≡ o → is_none o ≡ false
        → has_row_in c (dir (vpage cv)) ≡ false
        → IsSound (tree_without_table t c.name (dir (vpage cv)) (returned_pages c o))
    at_table c None i e q f = cc
    at_table c (Some b) i e q f = without_table-sound t c (dir (vpage cv)) b s i e
        (eqb-true b.index (dir (vpage cv)) (find_in (λ t. t.index == dir (vpage cv)) b c.tables e).1) f

    at_child : (o : Option Node) → child_at t p d ≡ o → first_met cs ≡ None → IsSound (tree_without_table t
        (child_name t p d) (dir (vpage cv)) (returned_pages (child_of t p d) (table_for (child_of t p d) (vpage cv))))
    at_child None k e = let q : is_none (child_at t p d) ≡ false = passed cs e S.NotChild in
        absurd (grind (arith, k, q))
    at_child (Some c) k e =
        let q : is_none (table_for (child_of t p d) (vpage cv)) ≡ false = passed cs e S.NoTable in
        let f : has_row_in (child_of t p d) (dir (vpage cv)) ≡ false = passed cs e S.NotEmpty in
        let is : child_of t p d ≡ c = rw k in
        let na : child_name t p d ≡ c.name = rw k in
        rw na (subst (λ z. IsSound (tree_without_table t c.name (dir (vpage cv))
        (returned_pages z (table_for z (vpage cv))))) (sym is)
        (at_table c (table_for c (vpage cv)) (child_found t p d c k).0 refl
        (subst (λ z. is_none (table_for z (vpage cv)) ≡ false) is q)
        (subst (λ z. has_row_in z (dir (vpage cv)) ≡ false) is f)))
