-- Each part of soundness that is a test is what soundness says.
use Rattle.std.proofs.Common.{◌≡◌, ℕ, suc, ◌+◌, ◌-◌, ◌%◌, ◌≤◌, ◌<◌, ◌==◌, ◌&&◌, ◌||◌, inl, inr, Bool, true, false, not}
use Rattle.std.proofs.Common.{List, [], ◌∷◌, map, length, refl, sym, ap, ap₂, ◌∙◌, subst, arith, eqb-true, eq-eqb}
use Rattle.std.proofs.Common.{Option, Some, None}
use Rattle.std.specs.Prelude.{nat_le, nat_lt}
use Rattle.std.specs.List.{list_all}
use Rattle.std.proofs.lemmas.Bool.Decides.{nat_tests}
use Rattle.pip_base.specs.declared.types.Pair.{Pair}
use Rattle.pip_model.specs.Boot.{boot_root}
use Rattle.pip_model.specs.Lists.{Distinct, In, Rising, has, repeats}
use Rattle.pip_model.specs.Parts.{are_among, are_apart, broken_part, can_read, each_child, each_siblings, gives_no_more}
use Rattle.pip_model.specs.Parts.{has_boot_root, has_no_lines, has_tables, implies, indexes, is_lent_by}
use Rattle.pip_model.specs.Parts.{is_named_by_base, is_page, is_rising, is_rooted, keeps_pages_apart}
use Rattle.pip_model.specs.Parts.{part_parents_come_first, part_boot_root, part_pages_apart, part_lent}
use Rattle.pip_model.specs.Parts.{part_siblings_apart, part_rights, part_tables_of_rows, part_no_lines_but_the_root}
use Rattle.pip_model.specs.Parts.{same_all, same_base, same_node, same_pair, same_row, same_table, unless_broken}
use Rattle.pip_model.specs.Sound.{AreAmong, AreApart, CanRead, EachChild, EachNode, EachOther, EachSiblings}
use Rattle.pip_model.specs.Sound.{GivesNoMore, HasBootRoot, RowsHaveTables, IsLentBy, IsNamedByBase, IsRooted}
use Rattle.pip_model.specs.Sound.{KeepsPagesApart}
use Rattle.pip_model.specs.Tree.{Base, Node, Row, Table, Tree, dir, held_pages, lists, names_of, nodes, page_at, pairs}
use Rattle.pip_model.specs.Tree.{row_pages, vpage}
use Rattle.pip_model.proofs.OnLists.Members.{has_in, in_has}

-- a test decides a statement
pub record Decides (b : Bool) (P : Type 0) : Type 0 where
  pub to : b ≡ true → P
  pub from : P → b ≡ true

both_from : (a b : Bool) → (a && b) ≡ true → (a ≡ true) × (b ≡ true)
both_from true true e = (refl, refl)
both_from true false e = cc
both_from false b e = cc

both_to : (a b : Bool) → a ≡ true → b ≡ true → (a && b) ≡ true
both_to a b e f = ap₂ (λ a b. a && b) e f

pub dec_and : {P Q : Type 0} (a b : Bool) → Decides a P → Decides b Q → Decides (a && b) (P × Q)
dec_and a b p q = record {
  to = λ e. let r = both_from a b e in
      (p.to r.0, q.to r.1);
  from = λ h. both_to a b (p.from h.0) (q.from h.1);
}

pub dec_implies : {P Q : Type 0} (a b : Bool) → Decides a P → Decides b Q → Decides (implies a b) (P → Q)
dec_implies {P} {Q} a b p q =
    record { to = λ e h. q.to (use_it a b (p.from h) e); from = λ f. make a b (λ e. q.from (f (p.to e))) }
  where
    use_it : (a b : Bool) → a ≡ true → implies a b ≡ true → b ≡ true
    use_it true b h e = e
    use_it false b h e = cc

    make : (a b : Bool) → (a ≡ true → b ≡ true) → implies a b ≡ true
    make true b f = f refl
    make false b f = refl

pub dec_not : {P : Type 0} (a : Bool) → Decides a P → Decides (not a) (P → ⊥)
dec_not {P} a p = record { to = λ e h. clash a (p.from h) e; from = λ f. make a (λ e. f (p.to e)) }
  where
    clash : (a : Bool) → a ≡ true → not a ≡ true → ⊥
    clash true h e = cc
    clash false h e = cc

    make : (a : Bool) → (a ≡ true → ⊥) → not a ≡ true
    make true f = absurd (f refl)
    make false f = refl

pub dec_by : {P Q : Type 0} (a : Bool) → Decides a P → (P → Q) → (Q → P) → Decides a Q
dec_by a p f g = record { to = λ e. f (p.to e); from = λ h. p.from (g h) }

pub dec_eq : (a b : ℕ) → Decides (a == b) (a ≡ b)
dec_eq a b = record { to = λ e. eqb-true a b e; from = λ e. eq-eqb a b e }

pub dec_has : (xs : List ℕ) (x : ℕ) → Decides (has xs x) (In x xs)
dec_has xs x = record { to = has_in x xs; from = in_has x xs }

pub dec_le : (a b : ℕ) → Decides (nat_le a b) (a ≤ b)
dec_le a b = record { to = λ e. grind (arith, nat_tests, e); from = λ h. grind (arith, nat_tests, h) }

pub dec_lt : (a b : ℕ) → Decides (nat_lt a b) (a < b)
dec_lt a b = record { to = λ e. grind (arith, nat_tests, e); from = λ h. grind (arith, nat_tests, h) }

pub dec_all : {A : Type 0} {P : A → Type 0} (p : A → Bool) (xs : List A) → ((x : A) → Decides (p x) (P x))
    → Decides (list_all p xs) ((x : A) → In x xs → P x)
dec_all {A} {P} p xs d = record { to = all_of xs; from = of_all xs }
  where
    all_of : (xs : List A) → list_all p xs ≡ true → (x : A) → In x xs → P x
    all_of [] e x i = absurd i
    all_of (y ∷ ys) e x (inl q) = rw q ((d y).to (both_from (p y) (list_all p ys) e).0)
    all_of (y ∷ ys) e x (inr i) = all_of ys (both_from (p y) (list_all p ys) e).1 x i

    of_all : (xs : List A) → ((x : A) → In x xs → P x) → list_all p xs ≡ true
    of_all [] f = refl
    of_all (y ∷ ys) f = both_to (p y) (list_all p ys) ((d y).from (f y (inl refl))) (of_all ys (λ x i. f x (inr i)))

pub dec_distinct : (xs : List ℕ) → Decides (not (repeats xs)) (Distinct xs)
dec_distinct xs = record { to = to xs; from = from xs }
  where
    split : (a b : Bool) → not (a || b) ≡ true → (a ≡ false) × (not b ≡ true)
    split true b e = cc
    split false b e = (refl, e)

    join : (a b : Bool) → (a ≡ true → ⊥) → not b ≡ true → not (a || b) ≡ true
    join true b f e = absurd (f refl)
    join false b f e = e

    clash : (a : Bool) → a ≡ true → a ≡ false → ⊥
    clash true h e = cc
    clash false h e = cc

    to : (xs : List ℕ) → not (repeats xs) ≡ true → Distinct xs
    to [] e = tt
    to (x ∷ xs) e = let r = split (has xs x) (repeats xs) e in ((λ i. clash (has xs x) (in_has x xs i) r.0), to xs r.1)

    from : (xs : List ℕ) → Distinct xs → not (repeats xs) ≡ true
    from [] d = refl
    from (x ∷ xs) d = join (has xs x) (repeats xs) (λ e. d.0 (has_in x xs e)) (from xs d.1)

pub dec_rising : (low : ℕ) (xs : List ℕ) → Decides (is_rising low xs) (Rising low xs)
dec_rising low [] = record { to = λ e. tt; from = λ h. refl }
dec_rising low (x ∷ xs) = dec_and (nat_le low x) (is_rising (x + 1) xs) (dec_le low x) (dec_rising (x + 1) xs)

-- ---- values

dec_pair : (a b : Pair) → Decides (same_pair a b) (a ≡ b)
dec_pair a b =
    dec_by (same_pair a b) (dec_and (a.va == b.va) (a.frame == b.frame) (dec_eq a.va b.va) (dec_eq a.frame b.frame))
    (λ h. let p = h.0 in let q = h.1 in λ i. record { va = p i; frame = q i })
    (λ e. (rw e, rw e))

dec_base : (a b : Base) → Decides (same_base a b) (a ≡ b)
dec_base a b = dec_by (same_base a b)
    (dec_and _ _ (dec_pair a.descriptor b.descriptor) (dec_and _ _ (dec_pair a.mmu b.mmu) (dec_and _ _
    (dec_pair a.shadow1 b.shadow1) (dec_and _ _ (dec_pair a.shadow2 b.shadow2) (dec_pair a.list b.list)))))
    (λ h. let p0 = h.0 in let p1 = h.1.0 in let p2 = h.1.1.0 in let p3 = h.1.1.1.0 in let p4 = h.1.1.1.1 in
    λ i. record { descriptor = p0 i; mmu = p1 i; shadow1 = p2 i; shadow2 = p3 i; list = p4 i })
    (λ e. (
      rw e,
      (rw e, (rw e, (rw e, rw e))),
    ))

dec_table : (a b : Table) → Decides (same_table a b) (a ≡ b)
dec_table a b = dec_by (same_table a b)
    (dec_and _ _ (dec_eq a.index b.index) (dec_and _ _ (dec_pair a.mmu b.mmu)
    (dec_and _ _ (dec_pair a.shadow1 b.shadow1) (dec_pair a.shadow2 b.shadow2))))
    (λ h. let p0 = h.0 in let p1 = h.1.0 in let p2 = h.1.1.0 in let p3 = h.1.1.1 in
    λ i. record { index = p0 i; mmu = p1 i; shadow1 = p2 i; shadow2 = p3 i })
    (λ e. (rw e, (rw e, (rw e, rw e))))

dec_row : (a b : Row) → Decides (same_row a b) (a ≡ b)
dec_row a b = dec_by (same_row a b)
    (dec_and _ _ (dec_eq a.at b.at) (dec_and _ _ (dec_eq a.frame b.frame) (dec_eq a.rights b.rights)))
    (λ h. let p0 = h.0 in let p1 = h.1.0 in let p2 = h.1.1 in λ i. record { at = p0 i; frame = p1 i; rights = p2 i })
    (λ e. (rw e, (rw e, rw e)))

dec_list : {A : Type 0} (same : A → A → Bool) → ((x y : A) → Decides (same x y) (x ≡ y)) → (xs ys : List A)
    → Decides (same_all same xs ys) (xs ≡ ys)
dec_list same d [] [] = record { to = λ e. refl; from = λ e. refl }
dec_list same d [] (y ∷ ys) = record { to = λ e. cc; from = λ e. cc }
dec_list same d (x ∷ xs) [] = record { to = λ e. cc; from = λ e. cc }
dec_list {A} same d (x ∷ xs) (y ∷ ys) =
    dec_by (same_all same (x ∷ xs) (y ∷ ys)) (dec_and _ _ (d x y) (dec_list same d xs ys))
    (λ h. ap₂ (λ a b. a ∷ b) h.0 h.1)
    (λ e. (head x y xs ys e, tail x y xs ys e))
  where
    head : (x y : A) (xs ys : List A) → x ∷ xs ≡ y ∷ ys → x ≡ y
    head x y xs ys e = cc

    tail : (x y : A) (xs ys : List A) → x ∷ xs ≡ y ∷ ys → xs ≡ ys
    tail x y xs ys e = cc

dec_root : (x : Node) (n : ℕ)
    → Decides (same_node x (boot_root n)) (◌≡◌ {A = Node} (record x { masked = false; pending = [] }) (boot_root n))
dec_root x n = dec_by (same_node x (boot_root n))
    (dec_and _ _ (dec_eq x.name (boot_root n).name) (dec_and _ _ (dec_eq x.up (boot_root n).up)
    (dec_and _ _ (dec_eq x.born (boot_root n).born) (dec_and _ _ (dec_base x.base (boot_root n).base)
    (dec_and _ _ (dec_list same_table dec_table x.tables (boot_root n).tables) (dec_and _ _ (dec_list same_pair dec_pair
    x.more (boot_root n).more) (dec_list same_row dec_row x.rows (boot_root n).rows)))))))
    (λ h. let p0 = h.0 in let p1 = h.1.0 in let p2 = h.1.1.0 in let p3 = h.1.1.1.0 in let p4 = h.1.1.1.1.0 in
    let p5 = h.1.1.1.1.1.0 in let p6 = h.1.1.1.1.1.1 in
    λ i. record {
      name = p0 i;
      up = p1 i;
      born = p2 i;
      base = p3 i;
      tables = p4 i;
      more = p5 i;
      rows = p6 i;
      masked = false;
      pending = [];
    })
    (λ e. (
      cc,
      (
        cc,
        (cc, (cc, (cc, (cc, cc)))),
      ),
    ))

-- ---- the parts

dec_rooted : (root : Node) (xs : List Node) → Decides (is_rooted root xs) (IsRooted root xs)
dec_rooted root [] = dec_eq root.up root.name
dec_rooted root (x ∷ xs) = dec_by (is_rooted root (x ∷ xs))
    (dec_and _ _ (dec_not _ (dec_has (names_of (root ∷ xs)) x.name))
    (dec_and _ _ (dec_has (names_of (root ∷ xs)) x.up) (dec_rooted root xs)))
    (λ h. (h.0, h.1.0, h.1.1)) (λ h. (h.0, (h.1, h.2)))

dec_boot : (t : Tree) → Decides (has_boot_root t) (HasBootRoot t)
dec_boot t = dec_by (has_boot_root t)
    (dec_and _ _ (dec_le 16 t.frames) (dec_and _ _ (dec_le t.frames 4096) (dec_root t.root t.frames)))
    (λ h. record { small = h.0; large = h.1.0; same = h.1.1 })
    (λ h. (h.small, (h.large, h.same)))

dec_apart : (x : Node) → Decides (keeps_pages_apart x) (KeepsPagesApart x)
dec_apart x =
    dec_by (keeps_pages_apart x) (dec_and _ _ (dec_distinct (held_pages x)) (dec_rising 0 (map (λ r. r.at) x.rows)))
    (λ h. record { pages = h.0; places = h.1 }) (λ h. (h.pages, h.places))

dec_page : (o : Option ℕ) (g : ℕ) → Decides (is_page o g) (o ≡ Some g)
dec_page None g = record { to = λ e. cc; from = λ e. cc }
dec_page (Some f) g = dec_by (f == g) (dec_eq f g) (λ e. rw e) (λ e. cc)

dec_lent : (y x : Node) → Decides (is_lent_by y x) (IsLentBy y x)
dec_lent y x = dec_by (is_lent_by y x)
    (dec_and _ _ (dec_all (λ g. has (row_pages y) g) (held_pages x) (λ g. dec_has (row_pages y) g))
    (dec_all (λ (g : Pair). g.va % 4096 == 0 && is_page (page_at y (vpage g.va)) g.frame) (pairs x)
    (λ g. dec_and _ _ (dec_eq (g.va % 4096) 0) (dec_page (page_at y (vpage g.va)) g.frame))))
    (λ h. record { rows = h.0; aligned = λ g i. (h.1 g i).0; placed = λ g i. (h.1 g i).1 })
    (λ h. (h.rows, (λ g i. (h.aligned g i, h.placed g i))))

dec_named : (x : Node) → Decides (is_named_by_base x) (IsNamedByBase x)
dec_named x = dec_by (is_named_by_base x)
    (dec_and _ _ (dec_eq x.name x.base.descriptor.frame) (dec_eq x.born x.base.descriptor.va))
    (λ h. record { name = h.0; born = h.1 }) (λ h. (h.name, h.born))

dec_are_apart : (x y : Node) → Decides (are_apart x y) (AreApart x y)
dec_are_apart x y = dec_all (λ g. not (has (held_pages y) g)) (held_pages x) (λ g. dec_not _ (dec_has (held_pages y) g))

dec_among : (r o : ℕ) → Decides (are_among r o) (AreAmong r o)
dec_among r o = dec_eq _ r

dec_read : (x : Node) → Decides (can_read x) (CanRead x)
dec_read x = dec_all (λ (r : Row). are_among 1 r.rights) x.rows (λ r. dec_among 1 r.rights)

dec_gives : (y x : Node) → Decides (gives_no_more y x) (GivesNoMore y x)
dec_gives y x = dec_by (gives_no_more y x)
    (dec_all (λ (r : Row). list_all (λ (s : Row). implies (r.frame == s.frame) (are_among r.rights s.rights)) y.rows)
    x.rows
    (λ r. dec_all (λ (s : Row). implies (r.frame == s.frame) (are_among r.rights s.rights)) y.rows
    (λ s. dec_implies _ _ (dec_eq r.frame s.frame) (dec_among r.rights s.rights))))
    (λ h r s i j. h r i s j) (λ h r i s j. h r s i j)

dec_tables : (x : Node) → Decides (has_tables x) (RowsHaveTables x)
dec_tables x = dec_by (has_tables x)
    (dec_and _ _ (dec_all (λ (r : Row). not (r.at == 0)) x.rows (λ r. dec_not _ (dec_eq r.at 0)))
    (dec_and _ _ (dec_distinct (indexes x))
    (dec_and _ _ (dec_all (λ (r : Row). has (indexes x) (dir r.at)) x.rows (λ r. dec_has (indexes x) (dir r.at)))
    (dec_and _ _ (dec_all (λ (t : Table). nat_lt t.index 1024) x.tables (λ t. dec_lt t.index 1024))
    (dec_eq (length x.more) (lists (length x.tables) - 1))))))
    (λ h. record { first = h.0; differ = h.1.0; tabled = h.1.1.0; small = h.1.1.1.0; listed = h.1.1.1.1 })
    (λ h. (h.first, (h.differ, (h.tabled, (h.small, h.listed)))))

dec_no_lines : (x : Node) → Decides (has_no_lines x) (x.pending ≡ [])
dec_no_lines x = go x.pending
  where
    go : (js : List ℕ) → Decides (length js == 0) (js ≡ [])
    go [] = record { to = λ e. refl; from = λ e. refl }
    go (j ∷ js) = record { to = λ e. absurd (full (length js) (eqb-true (suc (length js)) 0 e)); from = λ e. cc }
      where
        full : (n : ℕ) → suc n ≡ 0 → ⊥
        full n e = omega arith

dec_child : {R : Node → Node → Type 0} (r : Node → Node → Bool) (t : Tree) → ((y x : Node) → Decides (r y x) (R y x))
    → Decides (each_child r t) (EachChild R t)
dec_child r t d = dec_by (each_child r t)
    (dec_all (λ (x : Node). list_all (λ (y : Node). implies (x.up == y.name) (r y x)) (nodes t)) t.others
    (λ x. dec_all (λ (y : Node). implies (x.up == y.name) (r y x)) (nodes t)
    (λ y. dec_implies _ _ (dec_eq x.up y.name) (d y x))))
    (λ h x y i j. h x i y j) (λ h x i y j. h x y i j)

dec_siblings : {R : Node → Node → Type 0} (r : Node → Node → Bool) (t : Tree) → ((x y : Node) → Decides (r x y) (R x y))
    → Decides (each_siblings r t) (EachSiblings R t)
dec_siblings r t d = dec_by (each_siblings r t)
    (dec_all (λ (x : Node).
    list_all (λ (y : Node). implies (x.up == y.up) (implies (not (x.name == y.name)) (r x y))) t.others) t.others
    (λ x. dec_all (λ (y : Node). implies (x.up == y.up) (implies (not (x.name == y.name)) (r x y))) t.others
    (λ y. dec_implies _ _ (dec_eq x.up y.up) (dec_implies _ _ (dec_not _ (dec_eq x.name y.name)) (d x y)))))
    (λ h x y i j. h x i y j) (λ h x i y j. h x y i j)

pub tests_parents_come_first : (t : Tree) → Decides (part_parents_come_first t) (IsRooted t.root t.others)
unfolding part_parents_come_first
tests_parents_come_first t = dec_rooted t.root t.others

pub tests_boot_root : (t : Tree) → Decides (part_boot_root t) (HasBootRoot t)
unfolding part_boot_root
tests_boot_root t = dec_boot t

pub tests_pages_apart : (t : Tree) → Decides (part_pages_apart t) (EachNode KeepsPagesApart t)
unfolding part_pages_apart
tests_pages_apart t = dec_all keeps_pages_apart (nodes t) dec_apart

pub tests_lent : (t : Tree) → Decides (part_lent t) (EachChild IsLentBy t × EachOther IsNamedByBase t)
unfolding part_lent
tests_lent t = dec_and _ _ (dec_child is_lent_by t dec_lent) (dec_all is_named_by_base t.others dec_named)

pub tests_siblings_apart : (t : Tree) → Decides (part_siblings_apart t) (EachSiblings AreApart t)
unfolding part_siblings_apart
tests_siblings_apart t = dec_siblings are_apart t dec_are_apart

pub tests_rights : (t : Tree) → Decides (part_rights t) (EachNode CanRead t × EachChild GivesNoMore t)
unfolding part_rights
tests_rights t = dec_and _ _ (dec_all can_read (nodes t) dec_read) (dec_child gives_no_more t dec_gives)

pub tests_tables_of_rows : (t : Tree) → Decides (part_tables_of_rows t) (EachNode RowsHaveTables t)
unfolding part_tables_of_rows
tests_tables_of_rows t = dec_all has_tables (nodes t) dec_tables

pub tests_no_lines_but_the_root : (t : Tree)
    → Decides (part_no_lines_but_the_root t) (EachOther (λ x. x.pending ≡ []) t)
unfolding part_no_lines_but_the_root
tests_no_lines_but_the_root t = dec_all has_no_lines t.others dec_no_lines

-- a tree breaks none where all hold
pub unbroken : (t : Tree) → broken_part t ≡ None → (part_parents_come_first t ≡ true) × (part_boot_root t ≡ true)
    × (part_pages_apart t ≡ true) × (part_lent t ≡ true) × (part_siblings_apart t ≡ true) × (part_rights t ≡ true)
    × (part_tables_of_rows t ≡ true) × (part_no_lines_but_the_root t ≡ true)
unfolding broken_part
unbroken t e =
    let r1 = passed (part_parents_come_first t) 1 _ e in
    let r2 = passed (part_boot_root t) 2 _ r1.1 in
    let r3 = passed (part_pages_apart t) 3 _ r2.1 in
    let r4 = passed (part_lent t) 4 _ r3.1 in
    let r5 = passed (part_siblings_apart t) 5 _ r4.1 in
    let r6 = passed (part_rights t) 6 _ r5.1 in
    let r7 = passed (part_tables_of_rows t) 7 _ r6.1 in
    let r8 = passed (part_no_lines_but_the_root t) 8 _ r7.1 in
    (r1.0, r2.0, r3.0, r4.0, r5.0, r6.0, r7.0, r8.0)
  where
    passed : (b : Bool) (part : ℕ) (o : Option ℕ) → unless_broken b part o ≡ None → (b ≡ true) × (o ≡ None)
    passed true part o e = (refl, e)
    passed false part o e = cc

pub all_hold : (t : Tree) → part_parents_come_first t ≡ true → part_boot_root t ≡ true → part_pages_apart t ≡ true
    → part_lent t ≡ true → part_siblings_apart t ≡ true → part_rights t ≡ true → part_tables_of_rows t ≡ true
    → part_no_lines_but_the_root t ≡ true → broken_part t ≡ None
unfolding broken_part
all_hold t a b c d e f g h = pass 1 a (pass 2 b (pass 3 c (pass 4 d (pass 5 e (pass 6 f (pass 7 g (pass 8 h refl)))))))
  where
    pass : {b : Bool} {o : Option ℕ} (part : ℕ) → b ≡ true → o ≡ None → unless_broken b part o ≡ None
    pass {b} {o} part e f = rw (e, f)
