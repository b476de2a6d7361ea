-- A page that a partition may give away: no child holds it, so it is configuration of nobody.
use Rattle.std.proofs.Common.{◌≡◌, ℕ, ◌%◌, ◌==◌, inl, inr, Bool, true, false, cond, not, List, [], ◌∷◌, refl, sym, ap}
use Rattle.std.proofs.Common.{◌∙◌, subst, arith, eqb-true, eq-eqb, Option, Some, None}
use Rattle.std.specs.Prelude.{find, is_some, is_none, option_map, unwrap_or}
use Rattle.std.proofs.lemmas.Bool.{eqb-false}
use Rattle.pip_model.specs.Accepted.{IsUnheld, CanBeGiven}
use Rattle.pip_model.specs.Answers.{Answer, answer_unless, first_met, is_mapped, page_of}
use Rattle.pip_model.specs.Lists.{In, has}
use Rattle.pip_model.specs.Sound.{IsSound}
use Rattle.pip_model.specs.Tree.{Node, Row, Tree, children, config, free, held_pages, hidden, holder, holds, is_place}
use Rattle.pip_model.specs.Tree.{names_of, node, nodes, page_at, row_at, row_pages, vpage}
use Rattle.pip_base.specs.Status.{status_number}
use Rattle.pip_base.specs.declared.outcome.Status.{Status}
use Rattle.pip_model.proofs.OnLists.Members.{In-append_left, In-append_right, In-map, In-map_from, In-filter, find_in}
use Rattle.pip_model.proofs.OnLists.Members.{find_none, any_from, any_some, in_has, has_in, same_at_key, Distinct-right}
use Rattle.pip_model.proofs.Trees.Ancestors.{child_on_way, holds_up, row_above}

-- p is the name of a node
abbrev pub IsName : Tree → ℕ → Type 0
IsName t p = In p (names_of (nodes t))

node_from : (t : Tree) (p : ℕ) (o : Option Node) → find (λ x. x.name == p) (nodes t) ≡ o → IsName t p
    → In (unwrap_or o t.root) (nodes t) × ((unwrap_or o t.root).name ≡ p)
node_from t p (Some x) e n = let r = find_in (λ x. x.name == p) x (nodes t) e in (r.0, eqb-true x.name p r.1)
node_from t p None e n =
    let (x, i, q) = In-map_from (λ x. x.name) p (nodes t) n in
    let f : (x.name == p) ≡ false = find_none (λ x. x.name == p) x (nodes t) e i in
    absurd (eqb-false x.name p f (sym q))

pub node_found : (t : Tree) (p : ℕ) → IsName t p → In (node t p) (nodes t) × ((node t p).name ≡ p)
node_found t p n = node_from t p (find (λ x. x.name == p) (nodes t)) refl n

pub no_holder-unheld : (t : Tree) (p g : ℕ) → holder t p g ≡ None → IsUnheld t p g
no_holder-unheld t p g e c i u h =
    let j : In c (children t p) = In-filter (λ x. x.up == p) c t.others i (eq-eqb c.up p u) in
    let f : holds c g ≡ false = find_none (λ x. holds x g) c (children t p) e j in
    let m : holds c g ≡ true = in_has g (held_pages c) h in
    grind (arith, f, m)

-- a page in a row of p that no child holds is configuration of nobody
pub unheld-config : (t : Tree) (p g : ℕ) → IsSound t → (y : Node) → In y (nodes t) → y.name ≡ p → In g (row_pages y)
    → IsUnheld t p g → (z : Node) → In z (nodes t) → In g (config z) → ⊥
unheld-config t p g s y j n r u z i h =
    let (c, k, e, w) = child_on_way t y z (row_above t g s z y i j h r) in
    u c k (cc) (elim w [
      | inl q ↦ In-append_left g (config c) (row_pages c) (rw q h)
      | inr a ↦ In-append_right g (config c) (row_pages c)
          (holds_up t g s c z a (In-append_left g (config z) (row_pages z) h))
    ])

usable_from : (t : Tree) (p a : ℕ) (o : Option Row) → row_at (node t p).rows (vpage a) ≡ o → is_place a ≡ true
    → is_some o ≡ true → free t p (vpage a) ≡ true → CanBeGiven t p a
usable_from t p a None e l m f = cc
usable_from t p a (Some r) e l m f =
    let q : page_at (node t p) (vpage a) ≡ Some r.frame = rw e in
    let g : page_of t p a ≡ r.frame = rw q in
    let h : is_none (holder t p r.frame) ≡ true = grind (arith, e, f) in
    let k : holder t p r.frame ≡ None = grind (arith, h) in
    record {
      aligned = eqb-true (a % 4096) 0 l;
      placed = rw (q, ← g);
      row = rw g (In-map (λ r. r.frame) r (node t p).rows (find_in (λ r. r.at == vpage a) r (node t p).rows e).0);
      unheld = subst (IsUnheld t p) (sym g) (no_holder-unheld t p r.frame k);
    }

pub address-usable : (t : Tree) (p a : ℕ) → is_place a ≡ true → is_mapped t p (vpage a) ≡ true → free t p (vpage a)
    ≡ true
    → CanBeGiven t p a
address-usable t p a l m f = usable_from t p a (row_at (node t p).rows (vpage a)) refl l m f

row_from : (x : Node) (v g : ℕ) (o : Option Row) → row_at x.rows v ≡ o → option_map (λ r. r.frame) o ≡ Some g
    → (r : Row) × In r x.rows × (r.at ≡ v) × (r.frame ≡ g)
row_from x v g None e m = cc
row_from x v g (Some r) e m = let f = find_in (λ r. r.at == v) r x.rows e in
    (r, f.0, eqb-true r.at v f.1, grind (arith, m))

-- the row that `page_at` found
pub row_found : (x : Node) (v g : ℕ) → page_at x v ≡ Some g → (r : Row) × In r x.rows × (r.at ≡ v) × (r.frame ≡ g)
row_found x v g m = row_from x v g (row_at x.rows v) refl m

pub usable_same : (t : Tree) (p : ℕ) → IsSound t → IsName t p → (a b : ℕ) → CanBeGiven t p a → CanBeGiven t p b
    → page_of t p a ≡ page_of t p b → a ≡ b
usable_same t p s n a b u w e =
    let x = node t p in
    let (q, i, at, pg) = row_found x (vpage a) (page_of t p a) u.placed in
    let (r, j, at', pg') = row_found x (vpage b) (page_of t p b) w.placed in
    let d = Distinct-right (config x) (row_pages x) (s.pages_apart x (node_found t p n).0).pages in
    let k : q ≡ r = same_at_key (λ r. r.frame) q r x.rows d i j (cc) in
    let v : vpage a ≡ vpage b = rw (← at, k, at') in
    omega arith

pub not_false : (b : Bool) → not b ≡ false → b ≡ true
not_false b e = grind arith

-- where the answer is no refusal, no condition is met
pub condition-unmet : (cs : List (Bool × Status)) (c : Bool × Status) → first_met cs ≡ None → In c cs → c.0 ≡ false
condition-unmet [] c e i = absurd i
condition-unmet (d ∷ cs) c e (inl q) = grind (arith, e, q)
condition-unmet (d ∷ cs) c e (inr i) = condition-unmet cs c (grind (arith, e)) i

-- the condition of a status among some
abbrev pub condition : List (Bool × Status) → Status → Bool
condition [] s = false
condition (c ∷ cs) s = cond (status_number c.1 == status_number s) c.0 (condition cs s)

-- so the condition of no status is
pub passed : (cs : List (Bool × Status)) → first_met cs ≡ None → (s : Status) → condition cs s ≡ false
passed [] e s = refl
passed (c ∷ cs) e s = go (status_number c.1 == status_number s) c.0 e (λ h. passed cs h s)
  where
    go : (b d : Bool) → cond d (Some c.1) (first_met cs) ≡ None → (first_met cs ≡ None → condition cs s ≡ false)
        → cond b d (condition cs s) ≡ false
    go b true e h = cc
    go true false e h = refl
    go false false e h = h e

-- two tests that follow from each other
pub tests_agree : (a b : Bool) → (a ≡ true → b ≡ true) → (b ≡ true → a ≡ true) → a ≡ b
tests_agree true b f g = sym (f refl)
tests_agree false true f g = g refl
tests_agree false false f g = refl

pub hidden_from : (t : Tree) (g : ℕ) → hidden t g ≡ true → (x : Node) × In x (nodes t) × In g (config x)
hidden_from t g e = let (x, i, h) = any_from (λ x. has (config x) g) (nodes t) e in (x, i, has_in g (config x) h)

pub hidden_by : (t : Tree) (g : ℕ) (x : Node) → In x (nodes t) → In g (config x) → hidden t g ≡ true
hidden_by t g x i h = any_some (λ x. has (config x) g) x (nodes t) i (in_has g (config x) h)

-- an answer is sound where its tree is, and a refusal always
pub unless-sound : (t : Tree) (o : Option Status) (a : Answer) → IsSound t → (o ≡ None → IsSound a.tree)
    → IsSound (answer_unless t o a).tree
unless-sound t None a s h = h refl
unless-sound t (Some q) a s h = s
