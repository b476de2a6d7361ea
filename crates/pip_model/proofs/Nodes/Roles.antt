-- The pages of a node's configuration and what each is for; directories and the tables that they name.
use Rattle.std.proofs.Common.{◌≡◌, ◌≢◌, ℕ, zero, suc, ◌+◌, ◌<◌, ◌≤◌, ◌==◌, inl, inr, true, false, List, [], ◌∷◌, map}
use Rattle.std.proofs.Common.{length, refl, sym, ap, ◌∙◌, subst, arith, eqb-true, eq-eqb, Option, Some, None}
use Rattle.std.specs.Prelude.{find, flat_map, option_map, slice_index_or}
use Rattle.std.proofs.lemmas.Bool.{both_ways}
use Rattle.pip_base.specs.declared.types.Pair.{Pair}
use Rattle.pip_base.specs.Words.{directory_word}
use Rattle.pip_model.specs.NodeWords.{DescriptorPage, DirectoryPage, ListPage, Role, RolePage, TablePage}
use Rattle.pip_model.specs.NodeWords.{directory_entry, next_list_page, list_roles, role, roles, table_page, table_roles}
use Rattle.pip_model.specs.declared.level.Level.{Level}
use Rattle.pip_model.specs.declared.level.Level.TheVariants.{Mmu, Shadow1, Shadow2}
use Rattle.pip_model.specs.Boot.{own}
use Rattle.pip_model.specs.Lists.{Distinct, In}
use Rattle.pip_model.specs.NodeIn.{directory_of, list_page}
use Rattle.pip_model.specs.Tree.{Node, Table, config, dir, has_table, table_at}
use Rattle.pip_model.proofs.OnLists.Members.{In-append_cases, In-append_right, In-map_from, any_from, any_none}
use Rattle.pip_model.proofs.OnLists.Members.{any_some, find_in, find_member, find_none, same_at_key}
use Rattle.pip_model.proofs.Frames.ReadBack.{role_in_config, roles_pages, table_role}
use Rattle.pip_model.proofs.Trees.Lookup.{cases_option}

-- ---- the list of roles

-- a listed page has its role, where the pages differ
pub role_in : (x : Node) → Distinct (config x) → (q : RolePage) → In q (roles x) → role x q.frame ≡ Some q.role
unfolding role
role_in x d q i =
    rw (find_member (λ q. q.frame) q (roles x) (subst Distinct (sym (roles_pages x)) d) i)

-- a page with a role is listed
pub role_back : (x : Node) (f : ℕ) (r : Role) → role x f ≡ Some r
    → (q : RolePage) × In q (roles x) × (q.frame ≡ f) × (q.role ≡ r)
unfolding role
role_back x f r e = go (find (λ q. q.frame == f) (roles x)) refl e
  where
    go : (o : Option RolePage) → find (λ q. q.frame == f) (roles x) ≡ o → option_map (λ q. q.role) o ≡ Some r
        → (q : RolePage) × In q (roles x) × (q.frame ≡ f) × (q.role ≡ r)
    go None k h = cc
    go (Some q) k h = let i = find_in (λ q. q.frame == f) q (roles x) k in let same : q.role ≡ r = cc in
        (q, i.0, eqb-true q.frame f i.1, same)

-- a page with a role is configuration
pub role_config : (x : Node) (f : ℕ) (r : Role) → role x f ≡ Some r → In f (config x)
role_config x f r e = let (q, i, p, h) = role_back x f r e in subst (λ g. In g (config x)) p (role_in_config x q i)

-- a page of the configuration has a role
pub config_role : (x : Node) (f : ℕ) → In f (config x) → (r : Role) × (role x f ≡ Some r)
unfolding role
config_role x f h = go (find (λ q. q.frame == f) (roles x)) refl
  where
    go : (o : Option RolePage) → find (λ q. q.frame == f) (roles x) ≡ o
        → (r : Role) × (option_map (λ q. q.role) (find (λ q. q.frame == f) (roles x)) ≡ Some r)
    go (Some q) k = (q.role, rw k)
    go None k =
        let (q, i, p) = In-map_from (λ q. q.frame) f (roles x) (subst (In f) (sym (roles_pages x)) h) in
        let off : (q.frame == f) ≡ false = find_none (λ q. q.frame == f) q (roles x) k i in
        let on : (q.frame == f) ≡ true = eq-eqb q.frame f (sym p) in
        absurd (both_ways (q.frame == f) off on)

-- ---- the pages of the base, of tables and of the list

module _ (x : Node) (d : Distinct (config x)) where
  -- the descriptor has its role
  pub role_of_descriptor : role x x.base.descriptor.frame ≡ Some DescriptorPage
  role_of_descriptor = role_in x d (record { frame = x.base.descriptor.frame; role = DescriptorPage }) (inl refl)

  -- each directory has its role
  pub role_of_directory : (level : Level) → role x (directory_of level x.base).frame ≡ Some (DirectoryPage level)
  role_of_directory Mmu = role_in x d (record { frame = x.base.mmu.frame; role = DirectoryPage Mmu }) (inr (inl refl))
  role_of_directory Shadow1 =
      role_in x d (record { frame = x.base.shadow1.frame; role = DirectoryPage Shadow1 }) (inr (inr (inl refl)))
  role_of_directory Shadow2 =
      role_in x d (record { frame = x.base.shadow2.frame; role = DirectoryPage Shadow2 }) (inr (inr (inr (inl refl))))

  -- the first list page has its role
  pub role_of_first_list : role x x.base.list.frame ≡ Some (ListPage 0)
  role_of_first_list =
      role_in x d (record { frame = x.base.list.frame; role = ListPage 0 }) (inr (inr (inr (inr (inl refl)))))

-- a table's page has its role
pub role_of_table : (x : Node) → Distinct (config x) → (level : Level) (b : Table) → In b x.tables
    → role x (table_page level b).frame ≡ Some (TablePage level b.index)
role_of_table x d level b i =
    role_in x d (record { frame = (table_page level b).frame; role = TablePage level b.index }) (table_role level x b i)

in_list : (k j : ℕ) (gs : List Pair) (none : Pair) → j < length gs
    → In (record { frame = (slice_index_or gs j none).frame; role = ListPage (k + j) }) (list_roles k gs)
in_list k j [] none h = absurd (omega arith)
in_list k zero (g ∷ gs) none h = let e : k + 0 ≡ k = omega arith in
    inl (rw e)
in_list k (suc j) (g ∷ gs) none h =
    let e : k + 1 + j ≡ k + suc j = omega arith in
    inr (rw e at (in_list (k + 1) j gs none (omega arith)))

-- each list page has its role
pub role_of_list : (x : Node) → Distinct (config x) → (k : ℕ) → k ≤ length x.more
    → role x (list_page x k).frame ≡ Some (ListPage k)
role_of_list x d zero h = role_of_first_list x d
role_of_list x d (suc k) h =
    let q : RolePage = record { frame = (next_list_page x.more k).frame; role = ListPage (1 + k) } in
    let i : In q (list_roles 1 x.more) = in_list 1 k x.more (own 0) (omega arith) in
    let e : 1 + k ≡ suc k = omega arith in
    role_in x d q
    (inr (inr (inr (inr (inr (In-append_right q (flat_map table_roles x.tables) (list_roles 1 x.more) i))))))
    ∙ ap (λ n. Some (ListPage n)) e

-- ---- from a role back to the page

-- where a page with a role is in the list: in the base, in a table, or in the rest of the list pages
data Stand (x : Node) (q : RolePage) : Type 0 where
  AsDescriptor : (q.frame ≡ x.base.descriptor.frame) → q.role ≡ DescriptorPage → Stand x q
  AsDirectory : (level : Level) → q.frame ≡ (directory_of level x.base).frame → q.role ≡ DirectoryPage level → Stand x q
  AsTable : (level : Level) (b : Table) → In b x.tables → q.frame ≡ (table_page level b).frame
      → q.role ≡ TablePage level b.index → Stand x q
  AsList : (k : ℕ) → k ≤ length x.more → q.frame ≡ (list_page x k).frame → q.role ≡ ListPage k → Stand x q

table_stand : (ts : List Table) (q : RolePage) → In q (flat_map table_roles ts) → (level : Level) × (b : Table)
    × In b ts × (q.frame ≡ (table_page level b).frame) × (q.role ≡ TablePage level b.index)
table_stand [] q i = absurd i
table_stand (b ∷ ts) q (inl e) = (Mmu, b, inl refl, rw e, rw e)
table_stand (b ∷ ts) q (inr (inl e)) = (Shadow1, b, inl refl, rw e, rw e)
table_stand (b ∷ ts) q (inr (inr (inl e))) = (Shadow2, b, inl refl, rw e, rw e)
table_stand (b ∷ ts) q (inr (inr (inr i))) = let r = table_stand ts q i in (r.0, r.1, inr r.2, r.3, r.4)

list_stand : (k : ℕ) (gs : List Pair) (none : Pair) (q : RolePage) → In q (list_roles k gs)
    → (j : ℕ) × (j < length gs) × (q.frame ≡ (slice_index_or gs j none).frame) × (q.role ≡ ListPage (k + j))
list_stand k [] none q i = absurd i
list_stand k (g ∷ gs) none q (inl e) = let z : k ≡ k + 0 = omega arith in
    (0, omega arith, rw e, cc)
list_stand k (g ∷ gs) none q (inr i) =
    let r = list_stand (k + 1) gs none q i in
    let small = r.1 in
    let z : k + 1 + r.0 ≡ k + suc r.0 = omega arith in
    (suc r.0, omega arith, r.2, cc (r.3))

stand : (x : Node) (q : RolePage) → In q (roles x) → Stand x q
stand x q (inl e) = AsDescriptor (rw e) (rw e)
stand x q (inr (inl e)) = AsDirectory Mmu (rw e) (rw e)
stand x q (inr (inr (inl e))) = AsDirectory Shadow1 (rw e) (rw e)
stand x q (inr (inr (inr (inl e)))) = AsDirectory Shadow2 (rw e) (rw e)
stand x q (inr (inr (inr (inr (inl e))))) = AsList 0 (omega arith) (rw e) (rw e)
stand x q (inr (inr (inr (inr (inr i))))) =
    elim (In-append_cases q (flat_map table_roles x.tables) (list_roles 1 x.more) i) [
      | inl j ↦ let r = table_stand x.tables q j in AsTable r.0 r.1 r.2 r.3 r.4
      | inr j ↦ let r = list_stand 1 x.more (own 0) q j in let small = r.1 in let z : 1 + r.0 ≡ suc r.0 = omega arith in
          AsList (suc r.0) (omega arith) r.2 (cc (r.3))
    ]

descriptor_at : (x : Node) (q : RolePage) → Stand x q → q.role ≡ DescriptorPage → q.frame ≡ x.base.descriptor.frame
descriptor_at x q (AsDescriptor e h) r = e
descriptor_at x q (AsDirectory k e h) r = cc
descriptor_at x q (AsTable k b i e h) r = cc
descriptor_at x q (AsList k n e h) r = cc

directory_at : (x : Node) (q : RolePage) (level : Level) → Stand x q → q.role ≡ DirectoryPage level
    → q.frame ≡ (directory_of level x.base).frame
directory_at x q level (AsDescriptor e h) r = cc
directory_at x q level (AsDirectory k e h) r = let same : k ≡ level = cc in
    rw (e, same)
directory_at x q level (AsTable k b i e h) r = cc
directory_at x q level (AsList k n e h) r = cc

table_at_role : (x : Node) (q : RolePage) (level : Level) (d : ℕ) → Stand x q → q.role ≡ TablePage level d
    → (b : Table) × In b x.tables × (b.index ≡ d) × ((table_page level b).frame ≡ q.frame)
table_at_role x q level d (AsDescriptor e h) r = cc
table_at_role x q level d (AsDirectory k e h) r = cc
table_at_role x q level d (AsTable k b i e h) r =
    let same : k ≡ level = cc in
    let index : b.index ≡ d = cc in
    (b, i, index, rw (← same, ← e))
table_at_role x q level d (AsList k n e h) r = cc

list_at : (x : Node) (q : RolePage) (k : ℕ) → Stand x q → q.role ≡ ListPage k
    → (k ≤ length x.more) × (q.frame ≡ (list_page x k).frame)
list_at x q k (AsDescriptor e h) r = cc
list_at x q k (AsDirectory l e h) r = cc
list_at x q k (AsTable l b i e h) r = cc
list_at x q k (AsList j n e h) r = let same : j ≡ k = cc in
    (rw (← same) n, rw (e, same))

-- the page of the role is the descriptor
pub descriptor_role_back : (x : Node) (f : ℕ) → role x f ≡ Some DescriptorPage → f ≡ x.base.descriptor.frame
descriptor_role_back x f e = let (q, i, p, h) = role_back x f DescriptorPage e in
    cc (descriptor_at x q (stand x q i) h)

-- the page of the role is the directory of the level
pub directory_role_back : (x : Node) (level : Level) (f : ℕ) → role x f ≡ Some (DirectoryPage level)
    → f ≡ (directory_of level x.base).frame
directory_role_back x level f e = let (q, i, p, h) = role_back x f (DirectoryPage level) e in
    cc (directory_at x q level (stand x q i) h)

-- the page of the role is a page of the table of that index
pub table_role_back : (x : Node) (level : Level) (d f : ℕ) → role x f ≡ Some (TablePage level d)
    → (b : Table) × In b x.tables × (b.index ≡ d) × ((table_page level b).frame ≡ f)
table_role_back x level d f e =
    let (q, i, p, h) = role_back x f (TablePage level d) e in
    let r = table_at_role x q level d (stand x q i) h in
    (r.0, r.1, r.2, r.3 ∙ p)

-- the page of the role is that list page
pub list_role_back : (x : Node) (k f : ℕ) → role x f ≡ Some (ListPage k)
    → (k ≤ length x.more) × (f ≡ (list_page x k).frame)
list_role_back x k f e =
    let (q, i, p, h) = role_back x f (ListPage k) e in
    let r = list_at x q k (stand x q i) h in
    (r.0, cc (r.1))

-- one role has one page, where the directory indexes differ
pub one_table_page : (x : Node) → Distinct (map (λ b. b.index) x.tables) → (level : Level) (d f g : ℕ)
    → role x f ≡ Some (TablePage level d) → role x g ≡ Some (TablePage level d) → f ≡ g
one_table_page x dirs level d f g e h =
    let a = table_role_back x level d f e in
    let b = table_role_back x level d g h in
    let same : a.0 ≡ b.0 = same_at_key (λ z. z.index) a.0 b.0 x.tables dirs a.1 b.1 (a.2 ∙ sym b.2) in
    rw (← a.3, same, b.3)

-- ---- directories

-- the table that is found
pub table_found : (ts : List Table) (i : ℕ) (b : Table) → table_at ts i ≡ Some b → In b ts × (b.index ≡ i)
table_found ts i b e = let f = find_in (λ z. z.index == i) b ts e in (f.0, eqb-true b.index i f.1)

-- each table is found by its index
pub in_table : (ts : List Table) → Distinct (map (λ b. b.index) ts) → (b : Table) → In b ts
    → table_at ts b.index ≡ Some b
in_table ts d b i = find_member (λ z. z.index) b ts d i

-- where a vpage has a table, one is found
pub table_some : (x : Node) (v : ℕ) → has_table x v ≡ true → (b : Table) × (table_at x.tables (dir v) ≡ Some b)
table_some x v h = elim (cases_option (table_at x.tables (dir v))) [
  | inr b ↦ b
  | inl e ↦
      let (b, i, k) = any_from (λ z. z.index == dir v) x.tables h in
      let off : (b.index == dir v) ≡ false = find_none (λ z. z.index == dir v) b x.tables e i in
      absurd (both_ways (b.index == dir v) off k)
]

-- where it has none, none is found
pub table_none : (x : Node) (v : ℕ) → has_table x v ≡ false → table_at x.tables (dir v) ≡ None
table_none x v h = elim (cases_option (table_at x.tables (dir v))) [
  | inl e ↦ e
  | inr b ↦
      let f = find_in (λ z. z.index == dir v) b.0 x.tables b.1 in
      let off : (b.0.index == dir v) ≡ false = any_none (λ z. z.index == dir v) b.0 x.tables h f.0 in
      absurd (both_ways (b.0.index == dir v) off f.1)
]

-- and where one is found, it has one
pub table_has : (x : Node) (v : ℕ) (b : Table) → table_at x.tables (dir v) ≡ Some b → has_table x v ≡ true
table_has x v b e = let f = find_in (λ z. z.index == dir v) b x.tables e in
    any_some (λ z. z.index == dir v) b x.tables f.0 f.1

-- a vpage whose directory index is that of a table has a table
pub has_index : (x : Node) (v : ℕ) → In (dir v) (map (λ b. b.index) x.tables) → has_table x v ≡ true
has_index x v h = let (b, j, k) = In-map_from (λ b. b.index) (dir v) x.tables h in
    any_some (λ b. b.index == dir v) b x.tables j (eq-eqb b.index (dir v) (sym k))

-- where a directory's word isn't 0, it names the table that is found
pub entry_found : (level : Level) (ts : List Table) (i : ℕ) → directory_entry level (table_at ts i) ≢ 0 → (b : Table)
    × (table_at ts i ≡ Some b) × (directory_entry level (table_at ts i) ≡ directory_word (table_page level b).frame)
entry_found level ts i n = elim (cases_option (table_at ts i)) [
  | inl e ↦ absurd (n (rw e))
  | inr b ↦ (b.0, b.1, rw b.1)
]

-- where a table is found, the word is not 0
pub entry_some : (level : Level) (ts : List Table) (i : ℕ) (b : Table) → table_at ts i ≡ Some b
    → directory_entry level (table_at ts i) ≢ 0
entry_some level ts i b e = λ z. let k : directory_word (table_page level b).frame ≡ 0 =
    cc in absurd (omega arith)
