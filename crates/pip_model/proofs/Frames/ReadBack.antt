-- What the words of the frames tell of one node of a sound tree.
use Rattle.std.proofs.Common.{◌≡◌, ℕ, ◌+◌, ◌*◌, ◌%◌, ◌≤◌, ◌<◌, ◌==◌, ◌⊎◌, ◌&&◌, inl, inr, Bool, true, false, not, cond}
use Rattle.std.proofs.Common.{List, [], ◌∷◌, ◌++◌, map, length, refl, sym, ap, ◌∙◌, subst, arith, eqb-true, Option}
use Rattle.std.proofs.Common.{Some, None}
use Rattle.std.specs.Prelude.{is_some, find, flat_map, option_map}
use Rattle.pip_base.specs.declared.types.Pair.{Pair}
use Rattle.pip_base.specs.Words.{leaf_word, shadow1_word}
use Rattle.pip_model.specs.Layout.{config_word, layout, owned_word}
use Rattle.pip_model.specs.NodeWords.{DescriptorPage, DirectoryPage, RolePage, TablePage, descriptor_word, list_roles}
use Rattle.pip_model.specs.NodeWords.{role, role_word, roles, table_page, table_roles}
use Rattle.pip_model.specs.declared.level.Level.{Level}
use Rattle.pip_model.specs.declared.level.Level.TheVariants.{Mmu, Shadow1, Shadow2}
use Rattle.pip_model.specs.FullRows.{cells_of, full_row, full_rows, given_by, row_word, use_of}
use Rattle.pip_model.specs.Lists.{Distinct, In, has}
use Rattle.pip_model.specs.Sound.{IsSound}
use Rattle.pip_model.specs.Tree.{Node, Row, Table, Tree, config, hidden, nodes, row_at, row_pages, table_pairs, vpage}
use Rattle.pip_model.specs.Tree.{word_of}
use Rattle.pip_model.specs.NodeIn.{directory_of}
use Rattle.pip_model.proofs.OnLists.Members.{Distinct-left, In-append_left, In-append_right, In-map, in_has, has_in}
use Rattle.pip_model.proofs.OnLists.Members.{find_in, find_none, find_member}
use Rattle.pip_model.proofs.Trees.Ancestors.{one_config}
use Rattle.pip_model.proofs.Trees.Free.{hidden_by}

-- a page of x's configuration has x's words
owner_found : (t : Tree) (f i : ℕ) (x : Node) (o : Option Node) → IsSound t → In x (nodes t) → In f (config x)
    → find (λ x. has (config x) f) (nodes t) ≡ o → owned_word t f i o ≡ config_word t x (role x f) i
owner_found t f i x None s j h e =
    let k : has (config x) f ≡ false = find_none (λ x. has (config x) f) x (nodes t) e j in
    let l = in_has f (config x) h in absurd (grind (arith, k, l))
owner_found t f i x (Some y) s j h e =
    let k = find_in (λ x. has (config x) f) y (nodes t) e in
    rw (one_config t f s y x k.0 j (has_in f (config y) k.1) h)

pub config-layout : (t : Tree) (f i : ℕ) (x : Node) → IsSound t → In x (nodes t) → In f (config x)
    → layout t f i ≡ config_word t x (role x f) i
unfolding layout
config-layout t f i x s j h =
    let n : is_some (t.words f) ≡ false =
    s.words f ∙ and_not (has (row_pages t.root) f) (hidden t f) (hidden_by t f x j h) in
    rw (n, owner_found t f i x (find (λ x. has (config x) f) (nodes t)) s j h refl)
  where
    and_not : (a b : Bool) → b ≡ true → (a && not b) ≡ false
    and_not true b e = rw e
    and_not false b e = refl

-- the pages with roles are the pages of the configuration
table_pages_same : (ts : List Table) (gs : List Pair) (k : ℕ) → map (λ q. q.frame) (flat_map table_roles ts
    ++ list_roles k gs) ≡ map (λ g. g.frame) (flat_map table_pairs ts ++ gs)
table_pages_same [] [] k = refl
table_pages_same [] (g ∷ gs) k = rw (table_pages_same [] gs (k + 1))
table_pages_same (b ∷ ts) gs k =
    rw (table_pages_same ts gs k)

pub roles_pages : (x : Node) → map (λ q. q.frame) (roles x) ≡ config x
roles_pages x = rw (table_pages_same x.tables x.more 1)

-- no two of them are one page
pub roles_distinct : (t : Tree) (x : Node) → IsSound t → In x (nodes t) → Distinct (map (λ q. q.frame) (roles x))
roles_distinct t x s j =
    subst Distinct (sym (roles_pages x)) (Distinct-left (config x) (row_pages x) (s.pages_apart x j).pages)

pub role_in_config : (x : Node) (q : RolePage) → In q (roles x) → In q.frame (config x)
role_in_config x q h = subst (In q.frame) (roles_pages x) (In-map (λ q. q.frame) q (roles x) h)

pub role_found : (t : Tree) (x : Node) (q : RolePage) → IsSound t → In x (nodes t) → In q (roles x)
    → role x q.frame ≡ Some q.role
unfolding role
role_found t x q s j h =
    rw (find_member (λ q. q.frame) q (roles x) (roles_distinct t x s j) h)

-- each word of a configuration page
pub role-layout : (t : Tree) (i : ℕ) (x : Node) (q : RolePage) → IsSound t → In x (nodes t) → In q (roles x)
    → layout t q.frame i ≡ role_word x (cells_of (full_rows t x)) q.role i
role-layout t i x q s j h =
    rw (config-layout t q.frame i x s j (role_in_config x q h), role_found t x q s j h)

pub descriptor-layout : (t : Tree) (i : ℕ) (x : Node) → IsSound t → In x (nodes t)
    → layout t x.base.descriptor.frame i ≡ descriptor_word x i
unfolding role_word
descriptor-layout t i x s j =
    role-layout t i x (record { frame = x.base.descriptor.frame; role = DescriptorPage }) s j (inl refl)

-- the tables' pages have roles
in_table_roles : (level : Level) (b : Table)
    → In (record { frame = (table_page level b).frame; role = TablePage level b.index }) (table_roles b)
in_table_roles Mmu b = inl refl
in_table_roles Shadow1 b = inr (inl refl)
in_table_roles Shadow2 b = inr (inr (inl refl))

in_all_tables : (b : Table) (ts : List Table) (q : RolePage) → In b ts → In q (table_roles b)
    → In q (flat_map table_roles ts)
in_all_tables b [] q i h = absurd i
in_all_tables b (c ∷ ts) q (inl e) h =
    In-append_left q (table_roles c) (flat_map table_roles ts) (rw (← e) h)
in_all_tables b (c ∷ ts) q (inr i) h =
    In-append_right q (table_roles c) (flat_map table_roles ts) (in_all_tables b ts q i h)

pub table_role : (level : Level) (x : Node) (b : Table) → In b x.tables
    → In (record { frame = (table_page level b).frame; role = TablePage level b.index }) (roles x)
table_role level x b i = inr (inr (inr (inr (inr (In-append_left _ (flat_map table_roles x.tables) (list_roles 1 x.more)
    (in_all_tables b x.tables _ i (in_table_roles level b)))))))

-- the word of a row in the table of its directory index
pub table-layout : (level : Level) (t : Tree) (k : ℕ) (x : Node) (b : Table) → IsSound t → In x (nodes t)
    → In b x.tables → layout t (table_page level b).frame k ≡ row_word level (full_rows t x (1024 * b.index + k))
unfolding role_word
table-layout level t k x b s j i = role-layout t k x
    (record { frame = (table_page level b).frame; role = TablePage level b.index }) s j (table_role level x b i)

pub full-at : (t : Tree) (x : Node) (v : ℕ) (o : Option Row) → row_at x.rows v ≡ o → full_rows t x v ≡ full_row t x o
unfolding full_rows
full-at t x v o e = rw e

-- the directories' pages have roles
pub directory_role : (level : Level) (x : Node)
    → In (record { frame = (directory_of level x.base).frame; role = DirectoryPage level }) (roles x)
directory_role Mmu x = inr (inl refl)
directory_role Shadow1 x = inr (inr (inl refl))
directory_role Shadow2 x = inr (inr (inr (inl refl)))

-- two descriptors with the same words
pub base-same : (x y : Node) → ((i : ℕ) → i < 1024 → descriptor_word x i ≡ descriptor_word y i)
    → (x.base ≡ y.base) × (x.up ≡ y.up) × (length x.tables ≡ length y.tables)
base-same x y h =
    let w0 : x.base.descriptor.va ≡ y.base.descriptor.va = h 0 (omega arith) in
    let w1 : x.base.descriptor.frame ≡ y.base.descriptor.frame = h 1 (omega arith) in
    let w2 : x.base.mmu.va ≡ y.base.mmu.va = h 2 (omega arith) in
    let w3 : x.base.mmu.frame ≡ y.base.mmu.frame = h 3 (omega arith) in
    let w4 : x.base.shadow1.va ≡ y.base.shadow1.va = h 4 (omega arith) in
    let w5 : x.base.shadow1.frame ≡ y.base.shadow1.frame = h 5 (omega arith) in
    let w6 : x.base.shadow2.va ≡ y.base.shadow2.va = h 6 (omega arith) in
    let w7 : x.base.shadow2.frame ≡ y.base.shadow2.frame = h 7 (omega arith) in
    let w8 : x.base.list.va ≡ y.base.list.va = h 8 (omega arith) in
    let w9 : x.base.list.frame ≡ y.base.list.frame = h 9 (omega arith) in (
      (λ i. record {
        descriptor = record { va = w0 i; frame = w1 i };
        mmu = record { va = w2 i; frame = w3 i };
        shadow1 = record { va = w4 i; frame = w5 i };
        shadow2 = record { va = w6 i; frame = w7 i };
        list = record { va = w8 i; frame = w9 i };
      }),
      h 11 (omega arith),
      h 12 (omega arith),
    )

-- a row is read off its word
pub leaf-same : (a b : Bool) (r q : Row) → r.rights < 8 → q.rights < 8 → r.at ≡ q.at
    → leaf_word r.frame a r.rights ≡ leaf_word q.frame b q.rights → r ≡ q
leaf-same a b r q m n e w =
    let p : r.frame ≡ q.frame = frames a b w in
    let g : r.rights ≡ q.rights = rights a b w in
    λ i. record { at = e i; frame = p i; rights = g i }
  where
    frames : (a b : Bool) → leaf_word r.frame a r.rights ≡ leaf_word q.frame b q.rights → r.frame ≡ q.frame
    frames true true w = omega arith
    frames true false w = omega arith
    frames false true w = omega arith
    frames false false w = omega arith

    rights : (a b : Bool) → leaf_word r.frame a r.rights ≡ leaf_word q.frame b q.rights → r.rights ≡ q.rights
    rights true true w = omega arith
    rights true false w = omega arith
    rights false true w = omega arith
    rights false false w = omega arith

-- the first shadow says where a child was born, and which page is its name
use-cases : (x : Node) (g : ℕ) → (use_of x g ≡ 1 × x.name ≡ g) ⊎ ((2 ≤ use_of x g) × (use_of x g ≤ 3))
use-cases x g = go (x.name == g) (has (config x) g) refl
  where
    go : (b c : Bool) → (x.name == g) ≡ b → (cond {A = ℕ} b 1 (cond {A = ℕ} c 2 3) ≡ 1 × x.name ≡ g)
        ⊎ ((2 ≤ cond {A = ℕ} b 1 (cond {A = ℕ} c 2 3)) × (cond {A = ℕ} b 1 (cond {A = ℕ} c 2 3) ≤ 3))
    go true c e = inl (refl, eqb-true x.name g e)
    go false true e = inr (omega arith)
    go false false e = inr (omega arith)

pub child-read : (y : Node) (g d : ℕ) → y.born % 4096 ≡ 0 → d % 4096 ≡ 0
    → given_by (Some y) g ≡ shadow1_word 1 (vpage d) → (y.born ≡ d) × (y.name ≡ g)
child-read y g d a b w = elim (use-cases y g) [
  | inl u ↦ let k = u.0 in (omega arith, u.1)
  | inr u ↦ absurd (omega (arith, b))
]
