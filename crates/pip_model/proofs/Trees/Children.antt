-- Children by what they hold and where they were born.
use Rattle.std.proofs.Common.{◌≡◌, ◌≢◌, ℕ, ◌==◌, inl, inr, true, false, refl, ap, ◌∙◌, eqb-true, eq-eqb, Option, Some}
use Rattle.std.proofs.Common.{None}
use Rattle.std.proofs.lemmas.Bool.{both_ways}
use Rattle.std.specs.Prelude.{is_none, option_map, unwrap_or}
use Rattle.pip_model.specs.Answers.{child_name, child_of, nobody}
use Rattle.pip_model.specs.Lists.{In}
use Rattle.pip_model.specs.Local.{IsBelow}
use Rattle.pip_model.specs.Midway.{find_other}
use Rattle.pip_model.specs.Sound.{IsSound}
use Rattle.pip_model.specs.Tree.{Node, Tree, child_at, children, find_node, held_pages, holder, holds}
use Rattle.pip_model.proofs.OnLists.Members.{In-filter, In-filter_from, find_in, find_none, has_in, in_has}
use Rattle.pip_model.proofs.Trees.Free.{IsName, no_holder-unheld}
use Rattle.pip_model.proofs.Trees.Ancestry.{child_below}
use Rattle.pip_model.proofs.Calls.Add.{child_found}
use Rattle.pip_model.proofs.Locality.Reads.{child_unique, holder_unique}
use Rattle.pip_model.proofs.Trees.Lookup.{cases_option, found_is_name, in_other, other_in}

-- the child that holds a page
pub holder_back : (t : Tree) → IsSound t → (p g : ℕ) (y : Node) → holder t p g ≡ Some y
    → (find_other t y.name ≡ Some y) × (y.up ≡ p) × In g (held_pages y)
holder_back t s p g y e =
    let f = find_in (λ x. holds x g) y (children t p) e in
    let c = In-filter_from (λ x. x.up == p) y t.others f.0 in
    (in_other t s y c.0, eqb-true y.up p c.1, has_in g (held_pages y) f.1)

-- where none is found, no child holds it
pub holder_none : (t : Tree) (p g b : ℕ) (y : Node) → holder t p g ≡ None → find_other t b ≡ Some y → y.up ≡ p
    → In g (held_pages y) → ⊥
holder_none t p g b y e d u h = no_holder-unheld t p g e y (other_in t b y d) u h

-- a child is among those of its parent
pub in_children : (t : Tree) (p b : ℕ) (y : Node) → find_other t b ≡ Some y → y.up ≡ p → In y (children t p)
in_children t p b y e u = In-filter (λ x. x.up == p) y t.others (other_in t b y e) (eq-eqb y.up p u)

-- a child that holds a page is the one that is found
pub holder_is : (t : Tree) → IsSound t → (p g b : ℕ) (y : Node) → find_other t b ≡ Some y → y.up ≡ p
    → In g (held_pages y) → holder t p g ≡ Some y
holder_is t s p g b y d u h = elim (cases_option (holder t p g)) [
  | inl none ↦ absurd (holder_none t p g b y none d u h)
  | inr z ↦
      let k = find_in (λ x. holds x g) z.0 (children t p) z.1 in
      rw (z.1, holder_unique t p g s z.0 y k.0 (in_children t p b y d u) k.1 (in_has g (held_pages y) h))
]

-- the child that was born at an address
pub child_back : (t : Tree) → IsSound t → (p d : ℕ) (y : Node) → child_at t p d ≡ Some y
    → (find_other t y.name ≡ Some y) × (y.up ≡ p) × (y.born ≡ d)
child_back t s p d y e = let (i, u, b) = child_found t p d y e in (in_other t s y i, u, b)

-- where none is found, no child was born there
pub child_none : (t : Tree) (p d b : ℕ) (y : Node) → child_at t p d ≡ None → find_other t b ≡ Some y → y.up ≡ p
    → y.born ≢ d
child_none t p d b y e k u = λ q.
    let off : (y.born == d) ≡ false = find_none (λ x. x.born == d) y (children t p) e (in_children t p b y k u) in
    let on : (y.born == d) ≡ true = eq-eqb y.born d q in
    absurd (both_ways (y.born == d) off on)

-- a child is found by its birthplace
pub child_is : (t : Tree) → IsSound t → (p b : ℕ) (x y : Node) → find_node t p ≡ Some x → find_other t b ≡ Some y
    → y.up ≡ p → child_at t p y.born ≡ Some y
child_is t s p b x y e k u = elim (cases_option (child_at t p y.born)) [
  | inl none ↦ absurd (child_none t p y.born b y none k u refl)
  | inr z ↦
      let i = find_in (λ x. x.born == y.born) z.0 (children t p) z.1 in
      z.1 ∙ ap Some (child_unique t p s (found_is_name t p x e) z.0 y i.0 (in_children t p b y k u)
      (eqb-true z.0.born y.born i.1))
]

-- the child that a call names by its birthplace
pub record IsNamed (t : Tree) (p d : ℕ) (c : Node) : Type 0 where
  pub found : child_at t p d ≡ Some c
  pub child : In c t.others
  pub up : c.up ≡ p
  pub name : child_name t p d ≡ c.name
  pub node : child_of t p d ≡ c

pub named_is : (t : Tree) (p d : ℕ) (c : Node) → child_at t p d ≡ Some c → IsNamed t p d c
named_is t p d c k = let f = child_found t p d c k in record {
  found = k;
  child = f.0;
  up = f.1;
  name = rw k;
  node = rw k;
}

-- it is there, where it was not refused
pub named_child : (t : Tree) (p d : ℕ) → is_none (child_at t p d) ≡ false → (c : Node) × IsNamed t p d c
named_child t p d e = let (c, k) = some_child (child_at t p d) e in (c, named_is t p d c k)
  where
    some_child : (o : Option Node) → is_none o ≡ false → (c : Node) × (o ≡ Some c)
    some_child None e = cc
    some_child (Some c) e = (c, refl)

-- it is below p
pub child_in : (t : Tree) (p : ℕ) → IsSound t → IsName t p → (d : ℕ) (c : Node) → child_at t p d ≡ Some c
    → IsBelow t p c
child_in t p s n d c k =
    let f = child_found t p d c k in
    child_below t p s n c (In-filter (λ x. x.up == p) c t.others f.0 (eq-eqb c.up p f.1))
