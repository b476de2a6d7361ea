-- The nodes that were read, judged by their places.
use Rattle.std.proofs.Common.{◌≡◌, ◌≢◌, ℕ, ◌+◌, ◌<◌, ◌≤◌, ◌&&◌, inl, inr, List, length, refl, sym, ap, ap₂, ◌∙◌, subst}
use Rattle.std.proofs.Common.{arith, Option, Some, None, Bool, true, false, cond, not, eq-eqb, ne_eqb}
use Rattle.std.specs.Prelude.{find, is_some, slice_index}
use Rattle.std.proofs.lemmas.Bool.{cases_Bool, cases_eq}
use Rattle.pip_base.specs.Memory.{Memory, word_at}
use Rattle.pip_model.specs.declared.reading.Difference.{Difference}
use Rattle.pip_model.specs.FullRows.{from_word, given_word, vpage_in_parent, vpage_of_page, place_word}
use Rattle.pip_model.specs.Layout.{layout, owned_word}
use Rattle.pip_model.specs.Lists.{In, has}
use Rattle.pip_model.specs.NodeWords.{DescriptorPage, DirectoryPage, ListPage, Role as PageRole, TablePage, role}
use Rattle.pip_model.specs.declared.level.Level.{Level}
use Rattle.pip_model.specs.declared.level.Level.TheVariants.{Mmu, Shadow1, Shadow2}
use Rattle.pip_model.specs.ReadOff.{node_read, bare_tree}
use Rattle.pip_model.specs.Sound.{IsSound}
use Rattle.pip_model.specs.Tree.{Node, Tree, config, find_node, hidden, nodes, row_pages, word_of}
use Rattle.pip_model.proofs.Frames.Lays.{only_zero}
use Rattle.pip_model.proofs.Frames.Shadows.{from_root_word}
use Rattle.pip_model.proofs.Nodes.Roles.{config_role}
use Rattle.pip_model.proofs.Trees.Free.{hidden_by, hidden_from}
use Rattle.pip_model.proofs.Trees.Lookup.{cases_option, found_in, found_name, in_found, up_found}
use Rattle.pip_audit.specs.declared.auditor.Auditor.{Auditor}
use Rattle.pip_audit.specs.declared.tables.Tables.{Tables}
use Rattle.pip_audit.specs.Comparing.{CanJudge, Covers, CoversNode, CoversTables, GoesOn, HoldsLevel, LoadsOnly}
use Rattle.pip_audit.specs.Comparing.{tree_in}
use Rattle.pip_audit.specs.FrameWords.{word_held}
use Rattle.pip_audit.specs.Given.{GivesAll, PlacesRows}
use Rattle.pip_audit.specs.FrameSets.{with_all}
use Rattle.pip_audit.specs.Reading.{IsRead, tree_read}
use Rattle.pip_audit.specs.Tables.{IsOf}
use Rattle.pip_audit.proofs.Differing.{frame_none, frame_same, role_stays}
use Rattle.pip_audit.proofs.EachNode.{apart_names, count_some, name_is, node_at, nodes_are, root_name, up_is}
use Rattle.pip_audit.proofs.Siblings.{with_from, with_new, with_old, node_in, place_of as place_among}
use Rattle.pip_audit.proofs.TreeIn.{frames_in, read_in}

-- ---- places of nodes

module _ (m : Memory) (a : Auditor) (r : IsRead m a) where
  abbrev names : List ℕ
  names = a.names.items

  first_name : slice_index names 0 ≡ 1
  first_name = root_name names a.count r.others r.has_read.names

  pub root_in : (tree_in m).root ≡ node_read m 1
  root_in = ap (λ (t : Tree). t.root) (read_in m a r)

  among : (k : ℕ) → k < a.count → In (node_at m names k) (nodes (tree_read m r.others))
  among k h = elim (cases_eq k 0) [
    | inl z ↦ inl (ap (node_read m) (ap (slice_index names) z ∙ first_name))
    | inr nz ↦ inr (node_in m names a.count r.others r.has_read.names (nodes_are m a r.others r.has_read) k
        (omega (arith, nz)) h)
  ]

  pub node_among : (k : ℕ) → k < a.count → In (node_at m names k) (nodes (tree_in m))
  node_among k h = subst (λ (t : Tree). In (node_at m names k) (nodes t)) (sym (read_in m a r)) (among k h)

  placed : (x : Node) → In x (nodes (tree_read m r.others)) → (k : ℕ) × (k < a.count) × (x ≡ node_at m names k)
  placed x (inl q) = (0, count_some m a r.others r.has_read, q ∙ ap (node_read m) (sym first_name))
  placed x (inr i) =
      let p = place_among names a.count r.others r.has_read.names x i in
      (p.0, p.2, nodes_are m a r.others r.has_read x i ∙ ap (node_read m) (sym p.3))

  pub placed_at : (x : Node) → In x (nodes (tree_in m)) → (k : ℕ) × (k < a.count) × (x ≡ node_at m names k)
  placed_at x i = placed x (subst (λ (t : Tree). In x (nodes t)) (read_in m a r) i)

  pub can_judge : IsSound (tree_in m) → (k : ℕ) → k < a.count → (t : Tables) → IsOf m t → t.part ≡ slice_index names k
      → CanJudge m (record a { node = t })
  can_judge s k h t of part = record {
    sound = s;
    holds = record { of = of; sets = r.has_read.room.sets; words = r.has_read.room.words };
    node = subst (λ f. In (node_read m f) (nodes (tree_in m))) (sym part) (node_among k h);
  }

  -- ---- what is held for shadows

  pub given_holds : (b : Auditor) (y : ℕ) (t : Tables) → GivesAll m y a b → t.part ≡ slice_index names y
      → HoldsLevel m (record b { node = t }) Shadow1
  given_holds b y t gives part = λ g h. gives r g ∙ ap₂ (λ u p. given_word u p g) (sym (read_in m a r)) (sym part)

  parent_is : IsSound (tree_in m) → (x : ℕ) → x < a.count
      → find_node (tree_in m) (node_at m names x).up ≡ Some (node_read m (word_at m (slice_index names x) 11))
  parent_is s x h =
      let z = node_at m names x in
      let p = up_found (tree_in m) s z.name z (in_found (tree_in m) s z (node_among x h)) in
      let at = placed_at p.0 (found_in (tree_in m) z.up p.0 p.1) in
      let own : p.0 ≡ node_read m p.0.name =
      at.2 ∙ ap (node_read m) (sym (ap (λ (n : Node). n.name) at.2 ∙ name_is m (slice_index names at.0))) in
      let name : p.0.name ≡ word_at m (slice_index names x) 11 =
      found_name (tree_in m) z.up p.0 p.1 ∙ up_is m (slice_index names x) in
      p.1 ∙ ap Some (own ∙ ap (node_read m) name)

  from_is : IsSound (tree_in m) → (x : ℕ) → 1 ≤ x → x < a.count → (g : ℕ) → from_word (tree_in m) (node_at m names x) g
      ≡ place_word (vpage_of_page (node_read m (word_at m (slice_index names x) 11)) g)
  unfolding from_word
  from_is s x lo h g =
      let z = node_at m names x in
      let ne : z.name ≢ (tree_in m).root.name =
      λ q. apart_names m a r.others r.has_read 0 x (omega (arith, lo)) h (first_name ∙ sym (name_is m 1)
      ∙ sym (ap (λ (n : Node). n.name) root_in) ∙ sym q ∙ name_is m (slice_index names x)) in
      ap (λ b. cond b 0 (place_word (vpage_in_parent (find_node (tree_in m) z.up) g)))
      (ne_eqb z.name (tree_in m).root.name ne)
      ∙ ap (λ o. place_word (vpage_in_parent o g)) (parent_is s x h)

  pub placed_holds : IsSound (tree_in m) → (x parent : ℕ) (t : Tables) → 1 ≤ x → x < a.count
      → PlacesRows m parent a.words.above → t.part ≡ slice_index names x → word_at m (slice_index names x) 11 ≡ parent
      → HoldsLevel m (record a { node = t }) Shadow2
  placed_holds s x parent t lo hi places part up = λ g h.
      places g
      ∙ ap (λ p. place_word (vpage_of_page (node_read m p) g)) (sym up)
      ∙ sym (from_is s x lo hi g)
      ∙ ap (λ f. from_word (tree_in m) (node_read m f) g) (sym part)

  pub root_holds : (t : Tables) → ((g : ℕ) → word_held a.words.above g ≡ 0) → t.part ≡ 1
      → HoldsLevel m (record a { node = t }) Shadow2
  root_holds t none part = λ g h.
      none g ∙ sym (from_root_word (tree_in m) (node_read m t.part) g
      (ap (λ f. (node_read m f).name) part ∙ sym (ap (λ (n : Node). n.name) root_in)))

-- ---- hidden pages

-- what is marked when those up to this place were gone through: their configuration
pub record Hides (m : Memory) (names : List ℕ) (end : ℕ) (marked : ℕ → Bool) : Type 0 where
  pub from : (g : ℕ) → marked g ≡ true → (k : ℕ) × (k < end) × In g (config (node_at m names k))
  pub marks : (g k : ℕ) → k < end → In g (config (node_at m names k)) → marked g ≡ true

pub hides_next : (m : Memory) (names : List ℕ) (x : ℕ) (old new : ℕ → Bool) → ((f : ℕ)
    → new f ≡ with_all old (config (node_at m names x)) f) → Hides m names x old → Hides m names (x + 1) new
hides_next m names x old new e h = record {
  from = λ g q. elim (with_from old (config (node_at m names x)) g (sym (e g) ∙ q)) [
    | inl p ↦ let k = h.from g p in let less = k.1 in (k.0, omega (arith, less), k.2)
    | inr i ↦ (x, omega arith, i)
  ];
  marks = λ g k l i. elim (cases_eq k x) [
    | inl q ↦ e g ∙ with_new old (config (node_at m names x)) g (subst (λ j. In g (config (node_at m names j))) q i)
    | inr ne ↦ e g ∙ with_old old (config (node_at m names x)) g (h.marks g k (omega (arith, l, ne)) i)
  ];
}

pub hides_all : (m : Memory) (a : Auditor) (r : IsRead m a) (marked : ℕ → Bool) → Hides m a.names.items a.count marked
    → (g : ℕ) → marked g ≡ hidden (tree_in m) g
hides_all m a r marked h g = same (marked g) (hidden (tree_in m) g) there back
  where
    there : marked g ≡ true → hidden (tree_in m) g ≡ true
    there e = let k = h.from g e in hidden_by (tree_in m) g (node_at m a.names.items k.0) (node_among m a r k.0 k.1) k.2

    back : hidden (tree_in m) g ≡ true → marked g ≡ true
    back e =
        let x = hidden_from (tree_in m) g e in
        let k = placed_at m a r x.0 x.1 in
        h.marks g k.0 k.1 (subst (λ (n : Node). In g (config n)) k.2 x.2)

    same : (p q : Bool) → (p ≡ true → q ≡ true) → (q ≡ true → p ≡ true) → p ≡ q
    same true q f b = sym (f refl)
    same false true f b = b refl
    same false false f b = refl

-- ---- what changes

pub loads_then : (a b c : Auditor) → LoadsOnly a b → LoadsOnly b c → LoadsOnly a c
loads_then a b c e f = f ∙ ap (λ (z : Auditor). record z { node = c.node; child = c.child; words = c.words }) e

pub loads_placed : (a b : Auditor) (t : Tables) → b ≡ record a { child = b.child; words = b.words }
    → LoadsOnly a (record b { node = t })
loads_placed a b t e = ap (λ (z : Auditor). record z { node = t }) e

-- ---- all frames

module _ (m : Memory) (a : Auditor) (r : IsRead m a) (s : IsSound (tree_in m)) (found : Option Difference)
    (zero_covered : Covers m found 0) (root_covered : CoversTables m found 1 Shadow2)
    (covered : (k : ℕ) → k < a.count → CoversNode m found (slice_index a.names.items k))
    (placed_covered : (k : ℕ) → 1 ≤ k → k < a.count → CoversTables m found (slice_index a.names.items k) Shadow2) where
  second : (k d f : ℕ) → k < a.count → role (node_at m a.names.items k) f ≡ Some (TablePage Shadow2 d)
      → Covers m found f
  second k d f h e = elim (cases_eq k 0) [
    | inl z ↦ root_covered d f (subst (λ n. role (node_read m n) f ≡ Some (TablePage Shadow2 d))
        (ap (slice_index a.names.items) z ∙ root_name a.names.items a.count r.others r.has_read.names) e)
    | inr nz ↦ placed_covered k (omega (arith, nz)) h d f e
  ]

  by_role : (k : ℕ) (rl : PageRole) (f : ℕ) → k < a.count → role (node_at m a.names.items k) f ≡ Some rl
      → Covers m found f
  by_role k DescriptorPage f h e = (covered k h).plain DescriptorPage refl f e
  by_role k (DirectoryPage level) f h e = (covered k h).plain (DirectoryPage level) refl f e
  by_role k (TablePage Mmu d) f h e = (covered k h).plain (TablePage Mmu d) refl f e
  by_role k (TablePage Shadow1 d) f h e = (covered k h).given d f e
  by_role k (TablePage Shadow2 d) f h e = second k d f h e
  by_role k (ListPage n) f h e = (covered k h).plain (ListPage n) refl f e

  words_are : (f : ℕ) (w : ℕ → ℕ) → (tree_in m).words f ≡ Some w → w ≡ word_at m f
  words_are f w e =
      let t : Tree = bare_tree m (node_read m 1) r.others in
      go (has (row_pages (node_read m 1)) f && not (hidden t f))
      (ap (λ (u : Tree). u.words f) (sym (read_in m a r)) ∙ e)
    where
      go : (b : Bool) → cond b (Some (word_at m f)) None ≡ Some w → w ≡ word_at m f
      go true q = sym (same q)
        where
          same : {u v : ℕ → ℕ} → Some u ≡ Some v → u ≡ v
          same q = cc
      go false q = cc

  -- a page that can be read has the words that were read
  page_read : (f : ℕ) (w : ℕ → ℕ) → (tree_in m).words f ≡ Some w → Covers m found f
  unfolding layout
  page_read f w e = inl (
      frame_same m (layout (tree_in m)) (word_at m) f (λ i h. ap (λ o. cond (is_some o) (word_of o i)
      (owned_word (tree_in m) f i (find (λ z. has (config z) f) (nodes (tree_in m))))) e
      ∙ ap (λ v. v i) (words_are f w e))
      ∙ sym (frame_none m (word_at m) f (λ k h. ap (λ b. cond b None (Some (record {
        frame = f;
        index = k;
        found = word_at m f k;
        want = word_at m f k;
      }))) (eq-eqb (word_at m f k) (word_at m f k) refl))))

  pub all_covered : (f : ℕ) → f < length m → Covers m found f
  all_covered f below = elim (cases_Bool (hidden (tree_in m) f)) [
    | inl on ↦
        let x = hidden_from (tree_in m) f on in
        let k = placed_at m a r x.0 x.1 in
        let q = config_role x.0 f x.2 in
        by_role k.0 q.0 f k.1 (subst (λ (n : Node). role n f ≡ Some q.0) k.2 q.1)
    | inr off ↦ elim (cases_option ((tree_in m).words f)) [
      | inr w ↦ page_read f w.0 w.1
      | inl none ↦
          let n = frames_in m in
          let z = only_zero (tree_in m) s f (omega (arith, below, n)) none
          (λ x i h. clash (sym off ∙ hidden_by (tree_in m) f x i h)) in
          subst (Covers m found) (sym z) zero_covered
    ]
  ]
    where
      clash : false ≡ true → ⊥
      clash e = cc

-- ---- what was covered

pub tables_stay : (m : Memory) (f g : Option Difference) (part : ℕ) (level : Level) → GoesOn m f g
    → CoversTables m f part level → CoversTables m g part level
tables_stay m f g part level goes c = λ d. role_stays m f g part (TablePage level d) goes (c d)

pub node_stays : (m : Memory) (part : ℕ) (f g : Option Difference) → GoesOn m f g → CoversNode m f part
    → CoversNode m g part
node_stays m part f g goes c = record {
  plain = λ r e. role_stays m f g part r goes (c.plain r e);
  given = tables_stay m f g part Shadow1 goes c.given;
}
