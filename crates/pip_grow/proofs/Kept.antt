-- A tree in which each node keeps its name, its parent, its birthplace and its rows: what is said of a page's row where
-- the configuration is the same in respect of that page.
use Rattle.std.proofs.Common.{◌≡◌, ℕ, ◌==◌, ◌||◌, cond, inl, inr, Bool, true, false, List, [], ◌∷◌, map, refl, sym, ap}
use Rattle.std.proofs.Common.{◌∙◌, Option, Some, None}
use Rattle.std.specs.Prelude.{filter, find, option_map}
use Rattle.std.proofs.lemmas.List.Folds.{list_any-append}
use Rattle.pip_base.specs.Words.{shadow1_word}
use Rattle.pip_model.specs.FullRows.{from_word, given_by, given_word, vpage_in_parent, place_word, use_of}
use Rattle.pip_model.specs.Lists.{In, has}
use Rattle.pip_model.specs.Tree.{Node, Row, Tree, children, config, find_node, holder, holds, on_nodes, row_pages}
use Rattle.pip_model.specs.Tree.{vpage}
use Rattle.pip_model.proofs.Trees.Lookup.{cases_option, find_changed}
use Rattle.pip_model.proofs.OnLists.Members.{find_in}

-- children of the changed nodes are the changed children
children_kept : (f : Node → Node) → ((x : Node) → (f x).up ≡ x.up) → (q : ℕ) (xs : List Node)
    → filter (λ x. x.up == q) (map f xs) ≡ map f (filter (λ x. x.up == q) xs)
children_kept f ups q [] = refl
children_kept f ups q (x ∷ xs) =
    ap (λ n. cond (n == q) (f x ∷ filter (λ z. z.up == q) (map f xs)) (filter (λ z. z.up == q) (map f xs))) (ups x)
    ∙ go (x.up == q) (children_kept f ups q xs)
  where
    go : (b : Bool) → filter (λ z. z.up == q) (map f xs) ≡ map f (filter (λ z. z.up == q) xs)
        → cond b (f x ∷ filter (λ z. z.up == q) (map f xs)) (filter (λ z. z.up == q) (map f xs))
        ≡ map f (cond b (x ∷ filter (λ z. z.up == q) xs) (filter (λ z. z.up == q) xs))
    go true h = ap (λ l. f x ∷ l) h
    go false h = h

-- what is found among changed nodes by a test that says of each what another said before
find_kept : (f : Node → Node) (P Q : Node → Bool) (xs : List Node) → ((x : Node) → In x xs → P (f x) ≡ Q x)
    → find P (map f xs) ≡ option_map f (find Q xs)
find_kept f P Q [] same = refl
find_kept f P Q (x ∷ xs) same = ap (λ b. cond b (Some (f x)) (find P (map f xs))) (same x (inl refl))
    ∙ go (Q x) (find_kept f P Q xs (λ z i. same z (inr i)))
  where
    go : (b : Bool) → find P (map f xs) ≡ option_map f (find Q xs)
        → cond b (Some (f x)) (find P (map f xs)) ≡ option_map f (cond b (Some x) (find Q xs))
    go true h = refl
    go false h = h

module _ (f : Node → Node) (t : Tree) (words : ℕ → Option (ℕ → ℕ)) (names : (x : Node)
    → (f x).name ≡ x.name) (ups : (x : Node) → (f x).up ≡ x.up) (rows : (x : Node) → (f x).rows ≡ x.rows) where
  abbrev pub changed : Tree
  changed = record (on_nodes f t) { words = words }

  holds_kept : (z : Node) (g : ℕ) → has (config (f z)) g ≡ has (config z) g → holds (f z) g ≡ holds z g
  holds_kept z g same =
      list_any-append (λ k. k == g) (config (f z)) (row_pages (f z))
      ∙ (ap (λ b. b || has (row_pages (f z)) g) same
      ∙ (ap (λ (qs : List Row). has (config z) g || has (map (λ q. q.frame) qs) g) (rows z)
      ∙ sym (list_any-append (λ k. k == g) (config z) (row_pages z))))

  use_kept : (z : Node) (g : ℕ) → has (config (f z)) g ≡ has (config z) g → use_of (f z) g ≡ use_of z g
  use_kept z g same =
      ap (λ n. cond {A = ℕ} (n == g) 1 (cond {A = ℕ} (has (config (f z)) g) 2 3)) (names z)
      ∙ ap (λ b. cond {A = ℕ} (z.name == g) 1 (cond {A = ℕ} b 2 3)) same

  holder_kept : (q g : ℕ) → ((z : Node) → In z (children t q) → has (config (f z)) g ≡ has (config z) g)
      → holder changed q g ≡ option_map f (holder t q g)
  unfolding holds_kept
  holder_kept q g same =
      ap (find (λ z. holds z g)) (children_kept f ups q t.others)
      ∙ find_kept f (λ z. holds z g) (λ z. holds z g) (children t q) (λ z i. holds_kept z g (same z i))

  -- to whom a page is given
  pub given_kept : ((x : Node) → (f x).born ≡ x.born) → (q g : ℕ) → ((z : Node) → In z (children t q)
      → has (config (f z)) g ≡ has (config z) g) → given_word changed q g ≡ given_word t q g
  unfolding given_word holder_kept use_kept
  given_kept borns q g same = ap (λ o. given_by o g) (holder_kept q g same) ∙ elim (cases_option (holder t q g)) [
    | inl none ↦ ap (λ o. given_by (option_map f o) g) none ∙ sym (ap (λ o. given_by o g) none)
    | inr y ↦
        let i = (find_in (λ z. holds z g) y.0 (children t q) y.1).0 in
        ap (λ o. given_by (option_map f o) g) y.1
        ∙ (ap (λ k. shadow1_word k (vpage (f y.0).born)) (use_kept y.0 g (same y.0 i))
        ∙ (ap (λ b. shadow1_word (use_of y.0 g) (vpage b)) (borns y.0)
        ∙ sym (ap (λ o. given_by o g) y.1)))
  ]

  place_kept : (o : Option Node) (g : ℕ) → vpage_in_parent (option_map f o) g ≡ vpage_in_parent o g
  place_kept None g = refl
  place_kept (Some x) g =
      ap (λ (qs : List Row). option_map (λ (q : Row). q.at) (find (λ (q : Row). q.frame == g) qs)) (rows x)

  -- whence it comes
  pub from_kept : (z : Node) (g : ℕ) → from_word changed (f z) g ≡ from_word t z g
  unfolding from_word place_kept
  from_kept z g =
      ap (λ n. cond (n == (f t.root).name) 0 (place_word (vpage_in_parent (find_node changed (f z).up) g))) (names z)
      ∙ (ap (λ n. cond (z.name == n) 0 (place_word (vpage_in_parent (find_node changed (f z).up) g))) (names t.root)
      ∙ ap (λ o. cond (z.name == t.root.name) 0 (place_word o))
      (ap (λ k. vpage_in_parent (find_node changed k) g) (ups z)
      ∙ (ap (λ o. vpage_in_parent o g) (find_changed f t names z.up) ∙ place_kept (find_node t z.up) g)))
