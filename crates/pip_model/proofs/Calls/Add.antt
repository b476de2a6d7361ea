-- addVAddr keeps the tree sound.
use Rattle.std.proofs.Common.{◌≡◌, ◌≢◌, ℕ, ◌+◌, ◌≤◌, ◌%◌, ◌++◌, ◌==◌, ◌⊎◌, ◌||◌, inl, inr, Bool, true, false, not, cond}
use Rattle.std.proofs.Common.{List, [], ◌∷◌, map, refl, sym, ap, ◌∙◌, subst, arith, eqb-true, Option, Some, None}
use Rattle.pip_model.specs.Accepted.{MayAdd}
use Rattle.pip_model.specs.AddVAddr.{add_refusals, add_vaddr, tree_with_row, insert_row, with_row}
use Rattle.pip_model.specs.Answers.{answer_unless, child_name, child_of, first_met, is_mapped, nobody, page_of}
use Rattle.pip_model.specs.Answers.{rights_at}
use Rattle.pip_model.specs.Lists.{Distinct, In, Rising}
use Rattle.pip_model.specs.Sound.{AreAmong, IsSound}
use Rattle.pip_model.specs.Tree.{Node, Row, Tree, child_at, children, config, dir, free, has_table, held_pages}
use Rattle.pip_model.specs.Tree.{is_place, node, nodes, page_at, row_at, row_pages, vpage}
use Rattle.std.specs.Prelude.{nat_lt, is_some, is_none, option_map, bit_and, unwrap_or}
use Rattle.std.specs.List.{list_any}
use Rattle.std.proofs.lemmas.Bool.{or_parts, eqb-false}
use Rattle.pip_base.specs.declared.outcome.Status.{Status}
use Rattle.pip_base.specs.declared.outcome.Status.TheVariants as S
use Rattle.pip_model.proofs.OnLists.Members.{In-append_left, In-append_right, In-append_cases, In-map, In-map_from}
use Rattle.pip_model.proofs.OnLists.Members.{find_in, any_none, any_from, In-filter_from, Distinct-right, same_at_key}
use Rattle.pip_model.proofs.Trees.Ancestors.{same_name}
use Rattle.pip_model.proofs.Trees.Free.{IsName, node_found, address-usable, not_false, passed}
use Rattle.pip_model.proofs.Trees.ChangeNode.{MayBecome, change_node-sound}

-- a row among those that rise
insert_case : (b : Bool) (r q s : Row) (ss : List Row) → (In q (insert_row r ss) → In q ss ⊎ (q ≡ r))
    → In q (cond b (r ∷ s ∷ ss) (s ∷ insert_row r ss)) → In q (s ∷ ss) ⊎ (q ≡ r)
insert_case true r q s ss ih (inl e) = inr e
insert_case true r q s ss ih (inr i) = inl i
insert_case false r q s ss ih (inl e) = inl (inl e)
insert_case false r q s ss ih (inr i) = elim (ih i) [ inl k ↦ inl (inr k) | inr k ↦ inr k ]

pub insert-in : (r q : Row) (rows : List Row) → In q (insert_row r rows) → In q rows ⊎ (q ≡ r)
insert-in r q [] (inl e) = inr e
insert-in r q [] (inr i) = absurd i
insert-in r q (s ∷ ss) i = insert_case (nat_lt r.at s.at) r q s ss (insert-in r q ss) i

insert_keep : (b : Bool) (r q s : Row) (ss : List Row) → (In q ss → In q (insert_row r ss)) → In q (s ∷ ss)
    → In q (cond b (r ∷ s ∷ ss) (s ∷ insert_row r ss))
insert_keep true r q s ss ih i = inr i
insert_keep false r q s ss ih (inl e) = inl e
insert_keep false r q s ss ih (inr i) = inr (ih i)

insert-kept : (r q : Row) (rows : List Row) → In q rows → In q (insert_row r rows)
insert-kept r q [] i = absurd i
insert-kept r q (s ∷ ss) i = insert_keep (nat_lt r.at s.at) r q s ss (insert-kept r q ss) i

none_parts : (b : Bool) (s : Row) (o : Option Row) → cond b (Some s) o ≡ None → (b ≡ false) × (o ≡ None)
none_parts true s o e = cc
none_parts false s o e = (refl, e)

swap : (a b : Bool) (r s : Row) (o : Option Row) → (a ≡ true → b ≡ true → ⊥)
    → cond a (Some s) (cond b (Some r) o) ≡ cond b (Some r) (cond a (Some s) o)
swap true true r s o h = absurd (h refl refl)
swap true false r s o h = refl
swap false b r s o h = refl

pub insert-at : (r : Row) (v : ℕ) (rows : List Row) → row_at rows r.at ≡ None
    → row_at (insert_row r rows) v ≡ cond (r.at == v) (Some r) (row_at rows v)
insert-at r v [] h = refl
insert-at r v (s ∷ ss) h = let n = none_parts (s.at == r.at) s (row_at ss r.at) h in
    go (nat_lt r.at s.at) n.0 (insert-at r v ss n.1)
  where
    go : (b : Bool) → (s.at == r.at) ≡ false → row_at (insert_row r ss) v ≡ cond (r.at == v) (Some r) (row_at ss v)
        → row_at (cond b (r ∷ s ∷ ss) (s ∷ insert_row r ss)) v ≡ cond (r.at == v) (Some r) (row_at (s ∷ ss) v)
    go true n ih = refl
    go false n ih = rw (ih, swap (s.at == v) (r.at == v) r s (row_at ss v) (λ e f. absurd (grind (arith, n, e, f))))

insert-rises : (low : ℕ) (r : Row) (rows : List Row) → low ≤ r.at → Rising low (map (λ q. q.at) rows)
    → row_at rows r.at ≡ None → Rising low (map (λ q. q.at) (insert_row r rows))
insert-rises low r [] l d h = (l, tt)
insert-rises low r (s ∷ ss) l d h = let n = none_parts (s.at == r.at) s (row_at ss r.at) h in
    go (nat_lt r.at s.at) refl n.0 (λ k. insert-rises (s.at + 1) r ss k d.1 n.1)
  where
    go : (b : Bool) → nat_lt r.at s.at ≡ b → (s.at == r.at) ≡ false
        → (s.at + 1 ≤ r.at → Rising (s.at + 1) (map (λ q. q.at) (insert_row r ss)))
        → Rising low (map (λ q. q.at) (cond b (r ∷ s ∷ ss) (s ∷ insert_row r ss)))
    go true e n ih = (l, (grind (arith, e), d.1))
    go false e n ih = (d.0, ih (grind (arith, e, n)))

insert-apart : (r : Row) (rows : List Row) → Distinct (map (λ q. q.frame) rows)
    → (In r.frame (map (λ q. q.frame) rows) → ⊥) → Distinct (map (λ q. q.frame) (insert_row r rows))
insert-apart r [] d n = ((λ i. i), tt)
insert-apart r (s ∷ ss) d n = go (nat_lt r.at s.at) (insert-apart r ss d.1 (λ i. n (inr i)))
  where
    go : (b : Bool) → Distinct (map (λ q. q.frame) (insert_row r ss))
        → Distinct (map (λ q. q.frame) (cond b (r ∷ s ∷ ss) (s ∷ insert_row r ss)))
    go true ih = (n, d)
    go false ih = (
      (λ i. let (q, j, e) = In-map_from (λ q. q.frame) s.frame (insert_row r ss) i in elim (insert-in r q ss j) [
        | inl k ↦ d.0 (rw e (In-map (λ q. q.frame) q ss k))
        | inr k ↦ n (inl (rw (← k, ← e)))
      ]),
      ih,
    )

insert-pages : (r : Row) (cs : List ℕ) (rows : List Row) → Distinct (cs ++ map (λ q. q.frame) rows)
    → (In r.frame (cs ++ map (λ q. q.frame) rows) → ⊥) → Distinct (cs ++ map (λ q. q.frame) (insert_row r rows))
insert-pages r [] rows d n = insert-apart r rows d n
insert-pages r (c ∷ cs) rows d n = (
  (λ i. elim (In-append_cases c cs (map (λ q. q.frame) (insert_row r rows)) i) [
    | inl j ↦ d.0 (In-append_left c cs (map (λ q. q.frame) rows) j)
    | inr j ↦ let (q, k, e) = In-map_from (λ q. q.frame) c (insert_row r rows) j in elim (insert-in r q rows k) [
      | inl l ↦ d.0 (In-append_right c cs (map (λ q. q.frame) rows)
          (rw e (In-map (λ q. q.frame) q rows l)))
      | inr l ↦ n (inl (rw (← l, ← e)))
    ]
  ]),
  insert-pages r cs rows d.1 (λ i. n (inr i)),
)

module _ (t : Tree) (p : ℕ) (c : Node) (r : Row) (s : IsSound t) (n : IsName t p) (m : MayAdd t p c r) where
  held_case : (g : ℕ) → In g (held_pages (with_row r c)) → In g (held_pages c) ⊎ (g ≡ r.frame)
  held_case g h = elim (In-append_cases g (config c) (row_pages (with_row r c)) h) [
    | inl j ↦ inl (In-append_left g (config c) (row_pages c) j)
    | inr j ↦ let (q, k, e) = In-map_from (λ q. q.frame) g (with_row r c).rows j in
        elim (insert-in r q c.rows k) [
          | inl l ↦ inl (In-append_right g (config c) (row_pages c)
              (rw e (In-map (λ q. q.frame) q c.rows l)))
          | inr l ↦ inr (rw (e, l))
        ]
  ]

  not_held : In r.frame (held_pages c) → ⊥
  not_held h = m.unheld c m.child m.up h

  is_parent : (y : Node) → In y (nodes t) → c.up ≡ y.name → node t p ≡ y
  is_parent y j u = let k = node_found t p n in same_name t (node t p) y s k.0 j (cc (k.1, m.up))

  -- its rows of before are there
  page_kept : (g : ℕ) → In g (row_pages c) → In g (row_pages (with_row r c))
  page_kept g i = let (q, j, e) = In-map_from (λ q. q.frame) g c.rows i in
      rw e (In-map (λ q. q.frame) q (with_row r c).rows (insert-kept r q c.rows j))

  placed_still : (v g : ℕ) → page_at c v ≡ Some g → page_at (with_row r c) v ≡ Some g
  placed_still v g e = rw (insert-at r v c.rows m.absent, go (r.at == v) refl)
    where
      go : (b : Bool) → (r.at == v) ≡ b → option_map (λ q. q.frame) (cond b (Some r) (row_at c.rows v)) ≡ Some g
      go false k = e
      go true k = let none : page_at c r.at ≡ None = rw m.absent in
          let some : page_at c r.at ≡ Some g = rw (eqb-true r.at v k) e in
          cc

  pub may_become : MayBecome t c (with_row r c)
  may_become =
      let k = s.pages_apart c (inr m.child) in
      let b = s.named_by_descriptor c m.child in
      let h = s.tables c (inr m.child) in
      record {
        child = m.child;
        apart = record {
          pages = insert-pages r (config c) c.rows k.pages not_held;
          places = insert-rises 0 r c.rows (omega arith) k.places m.absent;
        };
        named = assumption;
        readable = λ q i. elim (insert-in r q c.rows i)
            [ inl j ↦ s.readable c (inr m.child) q j | inr e ↦ rw e m.readable ];
        tables = record {
          first = λ q i. elim (insert-in r q c.rows i)
              [ inl j ↦ h.first q j | inr e ↦ λ z. m.nonzero (rw (← e, z)) ];
          differ = h.differ;
          tabled = λ q i. elim (insert-in r q c.rows i) [
            | inl j ↦ h.tabled q j
            | inr e ↦
                rw e m.table
          ];
          small = h.small;
          listed = h.listed;
        };
        quiet = s.no_lines_but_the_root c m.child;
        lent = λ y j u. let l = s.lent c y m.child j u in let is = is_parent y j u in (
          record {
            rows = λ g i. elim (held_case g i) [
              | inl a ↦ l.rows g a
              | inr e ↦
                  rw (← is) (subst (λ h. In h (row_pages (node t p))) (sym e) m.row)
            ];
            aligned = l.aligned;
            placed = l.placed;
          },
          λ q w i o e. elim (insert-in r q c.rows i) [
            | inl a ↦ s.rights c y m.child j u q w a o e
            | inr a ↦ rw a (m.among w (subst (λ z. In w z.rows) (sym is) o) (sym e ∙ ap (λ q. q.frame) a))
          ],
        );
        siblings = λ y j u ne g i o. elim (held_case g o) [
          | inl a ↦ s.siblings_apart y c j m.child u ne g i a
          | inr e ↦
              m.unheld y j (u ∙ m.up) (subst (λ h. In h (held_pages y)) e i)
        ];
        lends = λ x i u. let l = s.lent x c i (inr m.child) u in (
          record {
            rows = λ g h. page_kept g (l.rows g h);
            aligned = l.aligned;
            placed = λ g h. placed_still (vpage g.va) g.frame (l.placed g h);
          },
          λ q w a o e. elim (insert-in r w c.rows o) [
            | inl j ↦ s.rights x c i (inr m.child) u q w a j e
            | inr j ↦ absurd (not_held (In-append_right r.frame (config c) (row_pages c)
                (l.rows r.frame (In-append_right r.frame (config x) (row_pages x)
                (rw (← j, ← e) (In-map (λ q. q.frame) q x.rows a))))))
          ],
        );
      }

  pub with_row-sound : IsSound (tree_with_row t c.name r)
  unfolding may_become
  with_row-sound = change_node-sound t s c (with_row r) (λ x. refl) (λ x. refl) may_become (λ x. refl)

-- what a child that was found is
pub child_found : (t : Tree) (p d : ℕ) (c : Node) → child_at t p d ≡ Some c → In c t.others × (c.up ≡ p) × (c.born ≡ d)
child_found t p d c e =
    let f = find_in (λ x. x.born == d) c (children t p) e in
    let k = In-filter_from (λ x. x.up == p) c t.others f.0 in
    (k.0, eqb-true c.up p k.1, eqb-true c.born d f.1)

table_found : (x : Node) (v : ℕ) → has_table x v ≡ true → In (dir v) (map (λ t. t.index) x.tables)
table_found x v e = let (y, i, q) = any_from (λ t. t.index == dir v) x.tables e in
    rw (← eqb-true y.index (dir v) q) (In-map (λ t. t.index) y x.tables i)

none_of : {A : Type 0} (o : Option A) → is_some o ≡ false → o ≡ None
none_of None e = refl
none_of (Some x) e = cc

-- the rights of the row that has the page
rights_found : (t : Tree) (p : ℕ) → IsSound t → IsName t p → (v r : ℕ) (o : Option Row) → row_at (node t p).rows v ≡ o
    → bit_and r (unwrap_or (option_map (λ q. q.rights) o) 0) ≡ r → is_some o ≡ true → (w : Row) → In w (node t p).rows
    → w.frame ≡ unwrap_or (option_map (λ q. q.frame) o) 0 → AreAmong r w.rights
rights_found t p s n v r None e h k w i q = cc
rights_found t p s n v r (Some u) e h k w i q =
    let f = find_in (λ q. q.at == v) u (node t p).rows e in
    let d = Distinct-right (config (node t p)) (row_pages (node t p))
    (s.pages_apart (node t p) (node_found t p n).0).pages in
    let g : u ≡ w = same_at_key (λ q. q.frame) u w (node t p).rows d f.0 i (sym q) in
    rw (← g) h

pub may_add : (t : Tree) (p v d cv r : ℕ) (c : Node) → IsSound t → IsName t p → child_at t p d ≡ Some c
    → first_met (add_refusals t p v d cv r) ≡ None
    → MayAdd t p c (record { at = vpage cv; frame = page_of t p v; rights = r })
may_add t p v d cv r c s n k e =
    let cs = add_refusals t p v d cv r in
    let off : list_any (λ x. not (is_place x)) (v ∷ d ∷ cv ∷ []) ≡ false = passed cs e S.NotAligned in
    let zer : list_any (λ x. x == 0) (v ∷ d ∷ cv ∷ []) ≡ false = passed cs e S.NullPage in
    let unm : not (is_mapped t p (vpage v)) ≡ false = passed cs e S.NotMapped in
    let unf : not (free t p (vpage v)) ≡ false = passed cs e S.NotFree in
    let bad : (not (bit_and 1 r == 1) || (not (bit_and r 7 == r) || not (bit_and r (rights_at t p (vpage v)) == r)))
    ≡ false = passed cs e S.NoRight in
    let tab : not (has_table (child_of t p d) (vpage cv)) ≡ false = passed cs e S.NoTable in
    let pre : is_some (row_at (child_of t p d).rows (vpage cv)) ≡ false = passed cs e S.Taken in
    let is : child_of t p d ≡ c = rw k in
    let found = child_found t p d c k in
    let lv = not_false (is_place v) (any_none (λ x. not (is_place x)) v (v ∷ d ∷ cv ∷ []) off (inl refl)) in
    let lc =
    not_false (is_place cv) (any_none (λ x. not (is_place x)) cv (v ∷ d ∷ cv ∷ []) off (inr (inr (inl refl)))) in
    let zc : (cv == 0) ≡ false = any_none (λ x. x == 0) cv (v ∷ d ∷ cv ∷ []) zer (inr (inr (inl refl))) in
    let mp = not_false (is_mapped t p (vpage v)) unm in
    let u = address-usable t p v lv mp (not_false (free t p (vpage v)) unf) in
    let parts = or_parts (not (bit_and 1 r == 1)) (not (bit_and r 7 == r)
    || not (bit_and r (rights_at t p (vpage v)) == r)) bad in
    let rest = or_parts (not (bit_and r 7 == r)) (not (bit_and r (rights_at t p (vpage v)) == r)) parts.1 in
    let al : cv % 4096 ≡ 0 = eqb-true (cv % 4096) 0 lc in
    let nz : cv ≢ 0 = eqb-false cv 0 zc in
    record {
      child = found.0;
      up = found.1;
      row = u.row;
      unheld = u.unheld;
      among = λ w i q. rights_found t p s n (vpage v) r (row_at (node t p).rows (vpage v)) refl
          (eqb-true _ _ (not_false _ rest.1)) mp w i q;
      readable = eqb-true _ _ (not_false _ parts.0);
      table = rw (← is) (table_found (child_of t p d) (vpage cv) (not_false _ tab));
      absent = rw (← is) (none_of (row_at (child_of t p d).rows (vpage cv)) pre);
      nonzero = omega arith;
    }

pub add-sound : (t : Tree) (p v d cv r : ℕ) → IsSound t → IsName t p → IsSound (add_vaddr t p v d cv r).tree
add-sound t p v d cv r s n = go (first_met (add_refusals t p v d cv r)) refl
  where
    row : Row
    row = record { at = vpage cv; frame = page_of t p v; rights = r }

    at_child : (o : Option Node) → child_at t p d ≡ o → first_met (add_refusals t p v d cv r) ≡ None
        → IsSound (tree_with_row t (child_name t p d) (record { at = vpage cv; frame = page_of t p v; rights = r }))
    at_child None k e = let f : is_none (child_at t p d) ≡ false = passed (add_refusals t p v d cv r) e S.NotChild in
        absurd (grind (arith, k, f))
    at_child (Some c) k e =
        let is : child_name t p d ≡ c.name = rw k in
        rw is (with_row-sound t p c _ s n (may_add t p v d cv r c s n k e))

    go : (o : Option Status) → first_met (add_refusals t p v d cv r) ≡ o
        → IsSound (answer_unless t o (record {
          status = S.Ok;
          value = 0;
          tree = tree_with_row t (child_name t p d) (record { at = vpage cv; frame = page_of t p v; rights = r });
        })).tree
    go (Some q) e = s
    go None e = at_child (child_at t p d) refl e
