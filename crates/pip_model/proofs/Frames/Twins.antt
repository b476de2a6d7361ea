-- Two sound trees with the same words: every node of one has a node of its name in the other, with the
-- same base and the same rows.
use Rattle.std.proofs.Common.{◌≡◌, ℕ, ◌+◌, ◌*◌, ◌%◌, ◌<◌, ◌==◌, inl, inr, true, not, map, cond, List, [], ◌∷◌, length}
use Rattle.std.proofs.Common.{refl, sym, ap, ◌∙◌, subst, arith, eqb-true, eq-eqb, Option, Some, None}
use Rattle.pip_base.specs.Words.{directory_word, shadow1_word}
use Rattle.pip_model.specs.Layout.{HasSameLayout, layout}
use Rattle.pip_model.specs.NodeWords.{RolePage, descriptor_word, directory_entry, role_word, roles, table_page}
use Rattle.pip_model.specs.declared.level.Level.{Level}
use Rattle.pip_model.specs.declared.level.Level.TheVariants.{Mmu, Shadow1}
use Rattle.pip_model.specs.FullRows.{full_row, full_rows, given_by, given_word, cells_of, row_word}
use Rattle.pip_model.specs.Lists.{In, has}
use Rattle.pip_model.specs.Sound.{IsRooted, IsSound}
use Rattle.pip_model.specs.Tree.{Node, Row, Table, Tree, children, config, dir, held_pages, hidden, holder, holds}
use Rattle.pip_model.specs.Tree.{nodes, page_at, row_at, row_pages, table_at, vpage}
use Rattle.pip_model.specs.NodeIn.{directory_of}
use Rattle.pip_model.proofs.OnLists.Members.{In-append_left, In-map_from, In-filter, In-filter_from, in_has, find_in}
use Rattle.pip_model.proofs.OnLists.Members.{find_none, find_member, Rising-distinct}
use Rattle.pip_model.proofs.Trees.Ancestors.{name-page}
use Rattle.pip_model.proofs.Trees.Numbers.{page_small, rights_small}
use Rattle.pip_model.proofs.Locality.Reads.{holder_unique}
use Rattle.pip_model.proofs.Trees.Free.{row_found}
use Rattle.pip_model.proofs.Frames.ReadBack.{directory_role, table_role, role_in_config, role-layout, descriptor-layout}
use Rattle.pip_model.proofs.Frames.ReadBack.{table-layout, full-at, base-same, leaf-same, child-read}

-- a page with a role is a frame
pub role_small : (t : Tree) (x : Node) (q : RolePage) → IsSound t → In x (nodes t) → In q (roles x) → q.frame < t.frames
role_small t x q s i h =
    page_small t q.frame s x i (In-append_left q.frame (config x) (row_pages x) (role_in_config x q h))

-- a page with a role in each tree has the same words in both
pub role-same : (t u : Tree) → IsSound t → IsSound u → HasSameLayout t u → (x y : Node) → In x (nodes t)
    → In y (nodes u) → (k : ℕ) → k < 1024 → (q v : RolePage) → In q (roles x) → In v (roles y) → q.frame ≡ v.frame
    → role_word x (cells_of (full_rows t x)) q.role k ≡ role_word y (cells_of (full_rows u y)) v.role k
role-same t u s r w x y i j k l q v h m e =
    rw (← role-layout t k x q s i h, w.word q.frame k (role_small t x q s i h) l, e, role-layout u k y v r j m)

module _ (t u : Tree) (s : IsSound t) (r : IsSound u) (w : HasSameLayout t u) where
  -- the descriptors of two nodes of one name
  pub descriptor-same : (x y : Node) → In x (nodes t) → In y (nodes u) → x.name ≡ y.name → (i : ℕ) → i < 1024
      → descriptor_word x i ≡ descriptor_word y i
  descriptor-same x y i j e k l =
      let a : x.base.descriptor.frame ≡ y.base.descriptor.frame = rw (← name-page t s x i, e, name-page u r y j) in
      sym (descriptor-layout t k x s i)
      ∙ w.word x.base.descriptor.frame k (page_small t x.base.descriptor.frame s x i (inl refl)) l
      ∙ ap (λ f. layout u f k) a
      ∙ descriptor-layout u k y r j

  pub base_equal : (x y : Node) → In x (nodes t) → In y (nodes u) → x.name ≡ y.name
      → (x.base ≡ y.base) × (x.up ≡ y.up) × (length x.tables ≡ length y.tables)
  base_equal x y i j e = base-same x y (descriptor-same x y i j e)

  -- so are their directories
  directories : (level : Level) (x y : Node) → In x (nodes t) → In y (nodes u) → x.name ≡ y.name → (k : ℕ) → k < 1024
      → directory_entry level (table_at x.tables k) ≡ directory_entry level (table_at y.tables k)
  unfolding role_word
  directories level x y i j e k l = role-same t u s r w x y i j k l _ _ (directory_role level x)
      (directory_role level y) (ap (λ b. (directory_of level b).frame) (base_equal x y i j e).0)

  -- the tables of x are those of y, by their indexes
  entry_some : (level : Level) (o : Option Table) (n : ℕ) → directory_entry level o ≡ directory_word n
      → (c : Table) × (o ≡ Some c) × ((table_page level c).frame ≡ n)
  entry_some level None n e = absurd (omega arith)
  entry_some level (Some c) n e = (c, refl, omega arith)

  pub table_twin : (x y : Node) → In x (nodes t) → In y (nodes u) → x.name ≡ y.name → (b : Table) → In b x.tables
      → (c : Table) × In c y.tables × (c.index ≡ b.index)
      × ((level : Level) → (table_page level c).frame ≡ (table_page level b).frame)
  table_twin x y i j e b k =
      let small = (s.tables x i).small b k in
      let found : table_at x.tables b.index ≡ Some b = find_member (λ t. t.index) b x.tables (s.tables x i).differ k in
      let entry : (level : Level) → directory_entry level (table_at y.tables b.index) ≡ directory_entry level (Some b) =
      λ level. rw (← directories level x y i j e b.index small, found) in
      let (c, f, p) = entry_some Mmu (table_at y.tables b.index) b.mmu.frame (entry Mmu) in
      let g = find_in (λ t. t.index == b.index) c y.tables f in (
        c,
        g.0,
        eqb-true c.index b.index g.1,
        (λ level. same level c b (cc (entry level))),
      )
    where
      same : (level : Level) (c b : Table) → directory_word (table_page level c).frame
          ≡ directory_word (table_page level b).frame → (table_page level c).frame ≡ (table_page level b).frame
      same level c b e = omega arith

-- the word of v in the tables of two nodes of one name, where v has a table
cell_same : (t u : Tree) → IsSound t → IsSound u → HasSameLayout t u → (level : Level) (x y : Node) → In x (nodes t)
    → In y (nodes u) → x.name ≡ y.name → (v : ℕ) → In (dir v) (map (λ b. b.index) x.tables)
    → row_word level (full_rows t x v) ≡ row_word level (full_rows u y v)
cell_same t u s r w level x y i j e v h =
    let (b, k, d) = In-map_from (λ b. b.index) (dir v) x.tables h in
    let (c, l, ix, p) = table_twin t u s r w x y i j e b k in
    let n : 1024 * b.index + v % 1024 ≡ v = omega arith in
    let n' : 1024 * c.index + v % 1024 ≡ v = omega arith in
    sym (rw (table-layout level t (v % 1024) x b s i k, n))
    ∙ w.word (table_page level b).frame (v % 1024) (role_small t x _ s i (table_role level x b k)) (omega arith)
    ∙ ap (λ g. layout u g (v % 1024)) (sym (p level))
    ∙ table-layout level u (v % 1024) y c r j l ∙ ap (λ z. row_word level (full_rows u y z)) n'

-- the rows of two nodes of one name are the same, v by v
row_some : (t u : Tree) (s : IsSound t) (r : IsSound u) (w : HasSameLayout t u) (x y : Node) → In x (nodes t)
    → In y (nodes u) → x.name ≡ y.name → (v : ℕ) (q : Row) → row_at x.rows v ≡ Some q → row_at y.rows v ≡ Some q
row_some t u s r w x y i j e v q h =
    let f = find_in (λ z. z.at == v) q x.rows h in
    let at : q.at ≡ v = eqb-true q.at v f.1 in
    let tabled : In (dir v) (map (λ b. b.index) x.tables) =
    rw (← at) ((s.tables x i).tabled q f.0) in
    at_row (row_at y.rows v) refl (sym (ap (row_word Mmu) (full-at t x v (Some q) h)) ∙ cell_same t u s r w Mmu x y i j
    e v tabled ∙ ap (row_word Mmu) (full-at u y v (row_at y.rows v) refl)) (rights_small t s x i q f.0) at
  where
    at_row : (o : Option Row) → row_at y.rows v ≡ o
        → row_word Mmu (full_row t x (Some q)) ≡ row_word Mmu (full_row u y o) → q.rights < 8 → q.at ≡ v → o ≡ Some q
    at_row None k a small at = absurd (omega arith)
    at_row (Some z) k a small at =
        let g = find_in (λ z. z.at == v) z y.rows k in
        rw (← leaf-same (not (hidden t q.frame)) (not (hidden u z.frame)) q z small (rights_small u r y j z g.0)
        (at ∙ sym (eqb-true z.at v g.1)) a)

pub same_sides : (t u : Tree) → HasSameLayout t u → HasSameLayout u t
same_sides t u w =
    record { frames = sym w.frames; word = λ f i l h. sym (w.word f i (rw w.frames l) h) }

pub rows-same : (t u : Tree) (s : IsSound t) (r : IsSound u) (w : HasSameLayout t u) (x y : Node) → In x (nodes t)
    → In y (nodes u) → x.name ≡ y.name → (v : ℕ) → row_at x.rows v ≡ row_at y.rows v
rows-same t u s r w x y i j e v = go (row_at x.rows v) (row_at y.rows v) refl refl
  where
    go : (a b : Option Row) → row_at x.rows v ≡ a → row_at y.rows v ≡ b → a ≡ b
    go (Some q) b h k = rw (← row_some t u s r w x y i j e v q h) k
    go None (Some z) h k = let m = row_some u t r s (same_sides t u w) y x j i (sym e) v z k in cc
    go None None h k = refl

-- a child of x has a twin below y
child_twin : (t u : Tree) (s : IsSound t) (r : IsSound u) (w : HasSameLayout t u) (c x y : Node) → In c t.others
    → In x (nodes t) → In y (nodes u) → c.up ≡ x.name → x.name ≡ y.name → (d : Node) × In d u.others × (d.name ≡ c.name)
unfolding given_word
child_twin t u s r w c x y h i j up e =
    let nm = s.named_by_descriptor c h in
    let lent = s.lent c x h i up in
    let al : c.born % 4096 ≡ 0 = rw (nm.born, lent.aligned c.base.descriptor (inl refl)) in
    let pl : page_at x (vpage c.born) ≡ Some c.name =
    rw (nm.born, lent.placed c.base.descriptor (inl refl), ← nm.name) in
    let (q, k, at, pg) = row_found x (vpage c.born) c.name pl in
    let rx : row_at x.rows (vpage c.born) ≡ Some q = sym (ap (row_at x.rows) at)
    ∙ find_member (λ z. z.at) q x.rows (Rising-distinct 0 _ (s.pages_apart x i).places) k in
    let ry : row_at y.rows (vpage c.born) ≡ Some q = row_some t u s r w x y i j e (vpage c.born) q rx in
    let tabled : In (dir (vpage c.born)) (map (λ b. b.index) x.tables) =
    rw (← at) ((s.tables x i).tabled q k) in
    let word : given_by (holder t x.name q.frame) q.frame ≡ given_by (holder u y.name q.frame) q.frame =
    sym (rw (full-at t x (vpage c.born) (Some q) rx)) ∙ cell_same t u s r w Shadow1 x y i j e
    (vpage c.born) tabled ∙ ap (row_word Shadow1) (full-at u y (vpage c.born) (Some q) ry) in
    let ch : In c (children t x.name) = In-filter (λ z. z.up == x.name) c t.others h (eq-eqb c.up x.name up) in
    let hc : holds c q.frame ≡ true = in_has q.frame (held_pages c)
    (subst (λ f. In f (held_pages c)) (sym pg) (rw nm.name (inl refl))) in
    let ho : holder t x.name q.frame ≡ Some c = found_holder t x.name q.frame s c ch hc in
    let one : given_by (Some c) q.frame ≡ shadow1_word 1 (vpage c.born) = rw (eq-eqb c.name q.frame (sym pg)) in
    at_holder (holder u y.name q.frame) refl (cc) al pg
  where
    found_holder : (t : Tree) (p g : ℕ) → IsSound t → (c : Node) → In c (children t p) → holds c g ≡ true
        → holder t p g ≡ Some c
    found_holder t p g s c i h = go (holder t p g) refl
      where
        go : (o : Option Node) → holder t p g ≡ o → o ≡ Some c
        go None e = let n = find_none (λ z. holds z g) c (children t p) e i in absurd (grind (arith, n, h))
        go (Some d) e = let f = find_in (λ z. holds z g) d (children t p) e in
            rw (holder_unique t p g s d c f.0 i f.1 h)

    at_holder : (o : Option Node) {q : ℕ} → holder u y.name q ≡ o → shadow1_word 1 (vpage c.born) ≡ given_by o q
        → c.born % 4096 ≡ 0 → q ≡ c.name → (d : Node) × In d u.others × (d.name ≡ c.name)
    at_holder None k a al pg = absurd (omega arith)
    at_holder (Some d) {q} k a al pg =
        let f = find_in (λ z. holds z q) d (children u y.name) k in
        let o = In-filter_from (λ z. z.up == y.name) d u.others f.0 in
        let du : d.up ≡ y.name = eqb-true d.up y.name o.1 in
        let dn = r.named_by_descriptor d o.0 in
        let da : d.born % 4096 ≡ 0 =
        rw (dn.born, (r.lent d y o.0 j du).aligned d.base.descriptor (inl refl)) in
        let z = child-read d q c.born da al (sym a) in
        (d, o.0, z.1 ∙ pg)

-- every node has a twin
pub twin_in : (t u : Tree) (s : IsSound t) (r : IsSound u) (w : HasSameLayout t u) (xs : List Node) → IsRooted t.root xs
    → ((x : Node) → In x xs → In x t.others) → (x : Node) → In x (t.root ∷ xs)
    → (y : Node) × In y (nodes u) × (y.name ≡ x.name)
twin_in t u s r w xs o n x (inl e) = (
  u.root,
  inl refl,
  ap (λ z. z.name) r.boot_root.same ∙ sym (ap (λ z. z.name) s.boot_root.same) ∙ sym (rw e),
)
twin_in t u s r w [] o n x (inr i) = absurd i
twin_in t u s r w (z ∷ xs) o n x (inr (inr i)) = twin_in t u s r w xs o.2 (λ v j. n v (inr j)) x (inr i)
twin_in t u s r w (z ∷ xs) o n x (inr (inl e)) =
    let (v, k, up) = In-map_from (λ z. z.name) z.up (t.root ∷ xs) o.1 in
    let (y, l, q) = twin_in t u s r w xs o.2 (λ v j. n v (inr j)) v k in
    let kn : In v (nodes t) = elim k [ inl a ↦ inl a | inr a ↦ inr (n v (inr a)) ] in
    let (d, m, p) = child_twin t u s r w x v y (n x (inl e)) kn l (rw e up) (sym q) in
    (d, inr m, p)
