-- Rows by their vpages and by their pages.
use Rattle.std.proofs.Common.{◌≡◌, ℕ, ◌==◌, ◌⊎◌, inl, inr, map, refl, sym, ap, ◌∙◌, subst, eqb-true, Option, Some, None}
use Rattle.std.specs.Prelude.{find, option_map}
use Rattle.pip_model.specs.FullRows.{vpage_of_page}
use Rattle.pip_model.specs.Lists.{In}
use Rattle.pip_model.specs.Sound.{KeepsPagesApart}
use Rattle.pip_model.specs.Tree.{Node, Row, config, held_pages, page_at, row_at, row_pages}
use Rattle.pip_model.proofs.OnLists.Members.{In-append_cases, In-append_left, In-append_right, In-map, In-map_from}
use Rattle.pip_model.proofs.OnLists.Members.{find_in, find_member, same_at_key, Distinct-right, Rising-distinct}

-- the row that is found
pub row_in : (x : Node) (v : ℕ) (r : Row) → row_at x.rows v ≡ Some r → In r x.rows × (r.at ≡ v)
row_in x v r e = let f = find_in (λ q. q.at == v) r x.rows e in (f.0, eqb-true r.at v f.1)

-- each row is found at its vpage
pub in_row : (x : Node) → KeepsPagesApart x → (r : Row) → In r x.rows → row_at x.rows r.at ≡ Some r
in_row x k r i = find_member (λ q. q.at) r x.rows (Rising-distinct 0 (map (λ q. q.at) x.rows) k.places) i

-- the row of a page is found
pub page_row : (x : Node) → KeepsPagesApart x → (g : ℕ) → In g (row_pages x)
    → (r : Row) × (row_at x.rows r.at ≡ Some r) × (r.frame ≡ g)
page_row x k g i = let (r, j, e) = In-map_from (λ q. q.frame) g x.rows i in (r, in_row x k r j, sym e)

-- a row's page is among the pages of the rows
pub row_page : (x : Node) (v : ℕ) (r : Row) → row_at x.rows v ≡ Some r → In r.frame (row_pages x)
row_page x v r e = In-map (λ q. q.frame) r x.rows (row_in x v r e).0

-- a row's page is held
pub held_row : (x : Node) (v : ℕ) (r : Row) → row_at x.rows v ≡ Some r → In r.frame (held_pages x)
held_row x v r e = In-append_right r.frame (config x) (row_pages x) (row_page x v r e)

-- a page of the configuration is held
pub held_config : (x : Node) (f : ℕ) → In f (config x) → In f (held_pages x)
held_config x f h = In-append_left f (config x) (row_pages x) h

-- what is held is configuration, or is in a row
pub held_cases : (x : Node) → KeepsPagesApart x → (g : ℕ) → In g (held_pages x)
    → In g (config x) ⊎ ((r : Row) × (row_at x.rows r.at ≡ Some r) × (r.frame ≡ g))
held_cases x k g h = elim (In-append_cases g (config x) (row_pages x) h) [
  | inl c ↦ inl c
  | inr i ↦ inr (page_row x k g i)
]

-- one page is in one row
pub one_row : (x : Node) → KeepsPagesApart x → (v w : ℕ) (r q : Row) → row_at x.rows v ≡ Some r
    → row_at x.rows w ≡ Some q → r.frame ≡ q.frame → (r ≡ q) × (v ≡ w)
one_row x k v w r q d e p =
    let a = row_in x v r d in
    let b = row_in x w q e in
    let same : r ≡ q =
    same_at_key (λ z. z.frame) r q x.rows (Distinct-right (config x) (row_pages x) k.pages) a.0 b.0 p in
    (same, rw (← a.1, same, b.1))

-- the place of a page is that of a row with it
pub place_row : (x : Node) → KeepsPagesApart x → (g v : ℕ) → vpage_of_page x g ≡ Some v
    → (r : Row) × (row_at x.rows v ≡ Some r) × (r.frame ≡ g)
place_row x k g v e = go (find (λ r. r.frame == g) x.rows) refl e
  where
    go : (o : Option Row) → find (λ r. r.frame == g) x.rows ≡ o → option_map (λ r. r.at) o ≡ Some v
        → (r : Row) × (row_at x.rows v ≡ Some r) × (r.frame ≡ g)
    go None f q = cc
    go (Some r) f q =
        let i = find_in (λ r. r.frame == g) r x.rows f in
        let at : r.at ≡ v = cc in
        (r, rw (← at) (in_row x k r i.0), eqb-true r.frame g i.1)

-- and the place of a row's page is the row's
pub place_is : (x : Node) → KeepsPagesApart x → (v : ℕ) (r : Row) → row_at x.rows v ≡ Some r
    → vpage_of_page x r.frame ≡ Some v
place_is x k v r e =
    let a = row_in x v r e in
    rw (find_member (λ q. q.frame) r x.rows (Distinct-right (config x) (row_pages x) k.pages) a.0, a.1)

-- a page in a row has a place
pub place_some : (x : Node) → KeepsPagesApart x → (g : ℕ) → In g (row_pages x) → (v : ℕ) × (vpage_of_page x g ≡ Some v)
place_some x k g i = let (r, e, p) = page_row x k g i in
    (r.at, rw p at (place_is x k r.at r e))

-- the page at a vpage
pub page_at_row : (x : Node) (v g : ℕ) → page_at x v ≡ Some g → (r : Row) × (row_at x.rows v ≡ Some r) × (r.frame ≡ g)
page_at_row x v g e = go (row_at x.rows v) refl e
  where
    go : (o : Option Row) → row_at x.rows v ≡ o → option_map (λ r. r.frame) o ≡ Some g
        → (r : Row) × (row_at x.rows v ≡ Some r) × (r.frame ≡ g)
    go None f q = cc
    go (Some r) f q = let p : r.frame ≡ g = cc in (r, f, p)
