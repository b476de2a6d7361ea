-- What the words of the shadows say of the tree: which child holds a page, where a child was born, where a page comes
-- from.
use Rattle.std.proofs.Common.{◌≡◌, ◌≢◌, ℕ, ◌*◌, ◌/◌, ◌%◌, ◌==◌, cond, inl, inr, Bool, true, false, refl, sym, ap, ◌∙◌}
use Rattle.std.proofs.Common.{subst, arith, eq-eqb, eqb-true, ne_eqb, Some, None}
use Rattle.pip_base.specs.Words.{as_descriptor, shadow1_word, shadow2_word}
use Rattle.pip_model.specs.FullRows.{from_word, given_by, given_word, vpage_in_parent, vpage_of_page, place_word}
use Rattle.pip_model.specs.FullRows.{use_of}
use Rattle.pip_model.specs.Lists.{In, has}
use Rattle.pip_model.specs.Midway.{find_other}
use Rattle.pip_model.specs.Sound.{IsSound}
use Rattle.pip_model.specs.Tree.{Node, Row, Tree, child_at, config, find_node, held_pages, holder, row_at, vpage}
use Rattle.pip_model.proofs.Trees.Ancestors.{name-config}
use Rattle.pip_model.proofs.Trees.Lookup.{cases_option, found_in, found_name, other_differs, other_in, other_name}
use Rattle.pip_model.proofs.Trees.Lookup.{parent_found}
use Rattle.pip_model.proofs.Trees.RowLookup.{held_config, one_row, page_at_row, place_row, place_some}
use Rattle.pip_model.proofs.Trees.Children.{child_back, child_is, holder_back, holder_is}
use Rattle.pip_model.proofs.Frames.Laid.{born_place, use_bounds}

-- the first shadow's word of a page that no child holds is 0
pub given_none : (t : Tree) (p g : ℕ) → holder t p g ≡ None → given_word t p g ≡ 0
unfolding given_word
given_none t p g e = rw e

-- and of one that a child holds it names the child's birthplace and the use
pub given_some : (t : Tree) (p g : ℕ) (y : Node) → holder t p g ≡ Some y
    → given_word t p g ≡ shadow1_word (use_of y g) (vpage y.born)
unfolding given_word
given_some t p g y e = rw e

-- so a page is free where the word is 0
pub given_free : (t : Tree) → IsSound t → (p g : ℕ) → given_word t p g ≡ 0 → holder t p g ≡ None
given_free t s p g z = elim (cases_option (holder t p g)) [
  | inl e ↦ e
  | inr y ↦
      absurd (omega (arith, (use_bounds t s y.0 g).0, given_some t p g y.0 y.1, z))
]

-- the birthplace is read off the word
pub given_born : (t : Tree) → IsSound t → (p g : ℕ) (y : Node) → holder t p g ≡ Some y
    → given_word t p g / 4096 * 4096 ≡ y.born
given_born t s p g y e =
    omega (arith, given_some t p g y e, (use_bounds t s y g).1, (born_place t s y.name y (holder_back t s p g y e).0).0)

-- a child uses the page that it is named by as its descriptor
pub use_descriptor : (y : Node) → use_of y y.name ≡ as_descriptor
use_descriptor y = rw (eq-eqb y.name y.name refl)

-- and no other page
pub descriptor_used : (y : Node) (g : ℕ) → use_of y g ≡ as_descriptor → y.name ≡ g
descriptor_used y g u = go (y.name == g) (has (config y) g) refl u
  where
    go : (b c : Bool) → (y.name == g) ≡ b → cond {A = ℕ} b 1 (cond {A = ℕ} c 2 3) ≡ 1 → y.name ≡ g
    go true c e h = eqb-true y.name g e
    go false true e h = absurd (omega arith)
    go false false e h = absurd (omega arith)

-- a child's descriptor is in its parent's row at the birthplace
pub born_row : (t : Tree) → IsSound t → (b : ℕ) (x y : Node) → find_other t b ≡ Some y → find_node t y.up ≡ Some x
    → (r : Row) × (row_at x.rows (vpage y.born) ≡ Some r) × (r.frame ≡ y.name)
born_row t s b x y k e =
    let i = other_in t b y k in
    let lent = s.lent y x i (found_in t y.up x e) (sym (found_name t y.up x e)) in
    let (r, at, page) =
    page_at_row x (vpage y.base.descriptor.va) y.base.descriptor.frame (lent.placed y.base.descriptor (inl refl)) in
    let born = (s.named_by_descriptor y i).born in
    (r, cc, cc (sym (s.named_by_descriptor y i).name))

-- where a child was born, the parent's row has its descriptor, and the word says so
pub child_row : (t : Tree) → IsSound t → (p d : ℕ) (x y : Node) → find_node t p ≡ Some x → child_at t p d ≡ Some y
    → (r : Row) × (row_at x.rows (vpage d) ≡ Some r) × (r.frame ≡ y.name)
    × (given_word t p y.name ≡ shadow1_word as_descriptor (vpage d))
child_row t s p d x y e c =
    let (k, u, b) = child_back t s p d y c in
    let (r, at, page) = born_row t s y.name x y k (cc) in
    let on = held_config y y.name (name-config t s y (inr (other_in t y.name y k))) in
    let word = given_some t p y.name y (holder_is t s p y.name y.name y k u on) in (
      r,
      cc,
      page,
      rw (word, use_descriptor y, b),
    )

-- and where a row's word says so, a child was born there
pub row_child : (t : Tree) → IsSound t → (p d : ℕ) (x : Node) (r : Row) → find_node t p ≡ Some x → d % 4096 ≡ 0
    → row_at x.rows (vpage d) ≡ Some r → given_word t p r.frame % 4096 ≡ as_descriptor
    → (y : Node) × (child_at t p d ≡ Some y) × (y.name ≡ r.frame)
row_child t s p d x r e even at word = elim (cases_option (holder t p r.frame)) [
  | inl none ↦ absurd (omega (arith, given_none t p r.frame none, word))
  | inr h ↦ found h.0 h.1
]
  where
    found : (y : Node) → holder t p r.frame ≡ Some y → (y : Node) × (child_at t p d ≡ Some y) × (y.name ≡ r.frame)
    found y h =
        let (k, u, on) = holder_back t s p r.frame y h in
        let w = given_some t p r.frame y h in
        let bounds = use_bounds t s y r.frame in
        let low = bounds.0 in
        let high = bounds.1 in
        let use_is : use_of y r.frame ≡ as_descriptor = omega arith in
        let name = descriptor_used y r.frame use_is in
        let (q, there, page) = born_row t s y.name x y k (cc) in
        let same : vpage d ≡ vpage y.born = (one_row x (s.pages_apart x (found_in t p x e)) (vpage d) (vpage y.born) r q
        at there (cc)).1 in
        let born_even = (born_place t s y.name y k).0 in
        let born : y.born ≡ d = omega arith in
        (y, rw (← born) (child_is t s p y.name x y e k u), name)

-- the second shadow's word is 0 in the root
pub from_root_word : (t : Tree) (x : Node) (g : ℕ) → x.name ≡ t.root.name → from_word t x g ≡ 0
unfolding from_word
from_root_word t x g e = rw (eq-eqb x.name t.root.name e)

-- and elsewhere the parent's place of the page
pub from_other_word : (t : Tree) → IsSound t → (b : ℕ) (x p : Node) (g v : ℕ) → find_other t b ≡ Some x
    → find_node t x.up ≡ Some p → vpage_of_page p g ≡ Some v → from_word t x g ≡ shadow2_word v
unfolding from_word
from_other_word t s b x p g v k e at =
    let ne : x.name ≢ t.root.name = λ z. other_differs t s b x k (cc (other_name t b x k)) in
    rw (ne_eqb x.name t.root.name ne) (rw (e, at))

-- the parent has what a node holds, in a row at that place
pub parent_place : (t : Tree) → IsSound t → (b : ℕ) (x : Node) → find_other t b ≡ Some x → (g : ℕ) → In g (held_pages x)
    → (p : Node) × (find_node t x.up ≡ Some p) × (w : ℕ) × (q : Row) × (row_at p.rows w ≡ Some q) × (q.frame ≡ g)
    × (from_word t x g ≡ shadow2_word w)
parent_place t s b x k g h =
    let (p, e) = parent_found t s b x k in
    let j = found_in t x.up p e in
    let (w, at) =
    place_some p (s.pages_apart p j) g ((s.lent x p (other_in t b x k) j (sym (found_name t x.up p e))).rows g h) in
    let (q, row, page) = place_row p (s.pages_apart p j) g w at in
    (p, e, w, q, row, page, from_other_word t s b x p g w k e at)
