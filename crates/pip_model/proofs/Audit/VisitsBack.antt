-- Where frames lay out a sound tree, the pages that a node's first shadow says to read are its children's names, each
-- once.
use Rattle.std.proofs.Common.{◌≡◌, ℕ, ◌*◌, ◌%◌, ◌==◌, inl, inr, Bool, true, false, cond, List, [], ◌∷◌, map, refl, sym}
use Rattle.std.proofs.Common.{ap, ◌∙◌, subst, arith, eqb-true, eq-eqb, Option, Some, None}
use Rattle.std.specs.Prelude.{filter_map}
use Rattle.std.specs.List.{cons_option}
use Rattle.pip_base.specs.Memory.{word_at}
use Rattle.pip_base.specs.Words.{as_descriptor, shadow1_word}
use Rattle.pip_model.specs.FullRows.{cells_of, full_rows, given_word, row_word}
use Rattle.pip_model.specs.Layout.{LaysOut}
use Rattle.pip_model.specs.declared.level.Level.TheVariants.{Shadow1}
use Rattle.pip_model.specs.Lists.{Distinct, In}
use Rattle.pip_model.specs.ReadOff.{Visit, visit_in, visit_of, visits}
use Rattle.pip_model.specs.declared.reading.Stop.{Stop}
use Rattle.pip_model.specs.Sound.{IsSound}
use Rattle.pip_model.specs.Tree.{Node, Row, Table, Tree, config, dir, nodes, row_at, row_pages, table_at, vpage}
use Rattle.pip_model.proofs.Trees.Children.{child_back, child_is}
use Rattle.pip_model.proofs.Trees.Lookup.{in_found, in_other, other_in}
use Rattle.pip_model.proofs.OnLists.Members.{Distinct-right, In-map, In-map_from}
use Rattle.pip_model.proofs.Audit.NodeBack.{space}
use Rattle.pip_model.proofs.Nodes.Reads.{read_cell}
use Rattle.pip_model.proofs.Trees.Numbers.{at_small}
use Rattle.pip_model.proofs.Frames.ReadBack.{full-at}
use Rattle.pip_model.proofs.Nodes.Roles.{has_index, table_some}
use Rattle.pip_model.proofs.Trees.RowLookup.{in_row, row_in}
use Rattle.pip_model.proofs.Frames.Shadows.{child_row, row_child}

-- ---- what a partial function makes of a list

pub filtered_from : {A B : Type 0} (h : A → Option B) (b : B) (xs : List A) → In b (filter_map h xs)
    → (a : A) × In a xs × (h a ≡ Some b)
filtered_from h b [] i = absurd i
filtered_from {A = A} {B = B} h b (x ∷ xs) i = go (h x) refl (filtered_from h b xs) i
  where
    more : (a : A) × In a xs × (h a ≡ Some b) → (a : A) × In a (x ∷ xs) × (h a ≡ Some b)
    more r = (r.0, inr r.1, r.2)

    go : (o : Option B) → h x ≡ o → (In b (filter_map h xs) → (a : A) × In a xs × (h a ≡ Some b))
        → In b (cons_option o (filter_map h xs)) → (a : A) × In a (x ∷ xs) × (h a ≡ Some b)
    go None e ih j = more (ih j)
    go (Some c) e ih (inl q) = (x, inl refl, rw (e, ← q))
    go (Some c) e ih (inr j) = more (ih j)

pub filtered : {A B : Type 0} (h : A → Option B) (a : A) (b : B) (xs : List A) → In a xs → h a ≡ Some b
    → In b (filter_map h xs)
filtered h a b [] i e = absurd i
filtered h a b (x ∷ xs) (inl q) e =
    rw (← q, e) (inl refl)
filtered {B = B} h a b (x ∷ xs) (inr i) e = go (h x) (filtered h a b xs i e)
  where
    go : (o : Option B) → In b (filter_map h xs) → In b (cons_option o (filter_map h xs))
    go None j = j
    go (Some c) j = inr j

pub filtered_distinct : {A B : Type 0} (h : A → Option B) (f : A → ℕ) (g : B → ℕ) (xs : List A)
    → ((a : A) (b : B) → h a ≡ Some b → g b ≡ f a) → Distinct (map f xs) → Distinct (map g (filter_map h xs))
filtered_distinct h f g [] k d = tt
filtered_distinct {B = B} h f g (x ∷ xs) k d = go (h x) refl (filtered_distinct h f g xs k d.1)
  where
    go : (o : Option B) → h x ≡ o → Distinct (map g (filter_map h xs))
        → Distinct (map g (cons_option o (filter_map h xs)))
    go None e r = r
    go (Some b) e r = (
      (λ i. let (c, j, q) = In-map_from g (g b) (filter_map h xs) i in
          let (a, l, p) = filtered_from h c xs j in
          let same : f x ≡ f a = cc (k x b e, k a c p) in
          d.0 (rw same (In-map f a xs l))),
      r,
    )

-- a visit is to the page of its row
pub visit_page : (m : List (List ℕ)) (ts : List Table) (r : Row) (v : Visit) → visit_of m ts r ≡ Some v
    → v.page ≡ r.frame
unfolding visit_of
visit_page m ts r v = go (table_at ts (dir r.at))
  where
    pick : (b : Bool) (told : Stop) →
        ◌≡◌ {A = Option Visit} (cond b (Some (record { page = r.frame; told = told })) None) (Some v) → v.page ≡ r.frame
    pick true told e = cc
    pick false told e = cc

    go : (o : Option Table) → visit_in m r o ≡ Some v → v.page ≡ r.frame
    go None e = cc
    go (Some b) e = pick (word_at m b.shadow1.frame (r.at % 1024) % 4096
        == as_descriptor) (record { frame = b.shadow1.frame; index = r.at % 1024 }) e

module _ (t : Tree) (s : IsSound t) (m : List (List ℕ)) (lays : LaysOut t m) (x : Node) (i : In x (nodes t)) where
  -- the word of a row in its first shadow, and its table
  told : (r : Row) → In r x.rows → (b : Table) × (table_at x.tables (dir r.at) ≡ Some b)
      × (word_at m b.shadow1.frame (r.at % 1024) ≡ given_word t x.name r.frame)
  told r j =
      let (b, e) = table_some x r.at (has_index x r.at ((s.tables x i).tabled r j)) in (
        b,
        e,
        read_cell m x (cells_of (full_rows t x)) (space t s m lays x i).node Shadow1 r.at b (at_small t s x i r j)
            e ∙ ap (row_word Shadow1) (full-at t x r.at (Some r) (in_row x (s.pages_apart x i) r j)),
      )

  -- a page that is visited is a child's name
  pub visit_child : (v : Visit) → In v (visits m x) → (y : Node) × In y t.others × (y.up ≡ x.name) × (y.name ≡ v.page)
  unfolding visits visit_of
  visit_child v k =
      let (r, j, e) = filtered_from (visit_of m x.tables) v x.rows k in
      let (b, at, w) = told r j in
      let given : given_word t x.name r.frame % 4096 ≡ as_descriptor =
      pick (word_at m b.shadow1.frame (r.at % 1024)) (record {
        page = r.frame;
        told = record { frame = b.shadow1.frame; index = r.at % 1024 };
      }) v w (cc) in
      let (y, c, n) = row_child t s x.name (r.at * 4096) x r (in_found t s x i) (omega arith)
      (ap (row_at x.rows) (omega arith) ∙ in_row x (s.pages_apart x i) r j) given in
      let back = child_back t s x.name (r.at * 4096) y c in
      (y, other_in t y.name y back.0, back.1, cc (visit_page m x.tables r v e))
    where
      pick : {g : ℕ} (w : ℕ) (u v : Visit) → w ≡ g → cond (w % 4096 == as_descriptor) (Some u) None ≡ Some v
          → g % 4096 ≡ as_descriptor
      pick {g} w u v q e = rw (← q, go (w % 4096 == as_descriptor) refl e)
        where
          go : (b : Bool) → (w % 4096 == as_descriptor) ≡ b → cond b (Some u) None ≡ Some v → w % 4096 ≡ as_descriptor
          go true k e = eqb-true (w % 4096) as_descriptor k
          go false k e = cc

  -- and each child's name is visited
  pub child_visited : (y : Node) → In y t.others → y.up ≡ x.name → In y.name (map (λ v. v.page) (visits m x))
  unfolding visits visit_of
  child_visited y j up =
      let c = child_is t s x.name y.name x y (in_found t s x i) (in_other t s y j) up in
      let (r, at, frame, given) = child_row t s x.name y.born x y (in_found t s x i) c in
      let k = row_in x (vpage y.born) r at in
      let (b, e, w) = told r k.0 in
      let one : word_at m b.shadow1.frame (r.at % 1024) ≡ shadow1_word as_descriptor (vpage y.born) =
      rw (w, frame, given) in
      let test : (word_at m b.shadow1.frame (r.at % 1024) % 4096 == as_descriptor) ≡ true = eq-eqb (word_at m
      b.shadow1.frame (r.at % 1024) % 4096) as_descriptor (rw one (omega arith)) in
      let v : Visit = record { page = r.frame; told = record { frame = b.shadow1.frame; index = r.at % 1024 } } in
      let is : visit_of m x.tables r ≡ Some v = rw (e, test) in
      rw (← frame) (In-map (λ v. v.page) v (filter_map (visit_of m x.tables) x.rows)
      (filtered (visit_of m x.tables) r v x.rows k.0 is))

  -- no page twice
  pub visits_differ : Distinct (map (λ v. v.page) (visits m x))
  unfolding visits
  visits_differ = filtered_distinct (visit_of m x.tables) (λ r. r.frame) (λ v. v.page) x.rows
      (λ r v e. visit_page m x.tables r v e) (Distinct-right (config x) (row_pages x) (s.pages_apart x i).pages)
