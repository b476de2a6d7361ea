-- A child of the root: what is above it, where it stays, and which partitions run and take vectors while it runs.
use Rattle.std.proofs.Common.{◌≡◌, ◌≢◌, ℕ, zero, suc, ◌==◌, ◌⊎◌, inl, inr, Bool, true, false, List, [], ◌∷◌}
use Rattle.std.proofs.Common.{refl, sym, ap, ◌∙◌, subst, Option, Some, None, eq-eqb}
use Rattle.std.specs.Prelude.{find}
use Rattle.std.proofs.lemmas.Bool.{cases_eq, false_from_ne_true}
use Rattle.pip_base.specs.declared.types.Ctx.{Ctx}
use Rattle.pip_model.specs.Deliver.{nearest_among, nearest_taker, taker_or}
use Rattle.pip_model.specs.Handlers.{handler}
use Rattle.pip_model.specs.Lists.{In, has}
use Rattle.pip_model.specs.Local.{IsAside}
use Rattle.pip_model.specs.Sound.{IsSound}
use Rattle.pip_model.specs.Tree.{Node, Tree, ancestry, chain, child_at, names_of, node, nodes}
use Rattle.pip_model.specs.Worlds.{IsSoundWorld, World, running, runs_on}
use Rattle.pip_model.specs.declared.processors.Occupant.{Occupant}
use Rattle.pip_model.proofs.OnLists.Members.{has_in}
use Rattle.pip_model.proofs.Calls.Add.{child_found}
use Rattle.pip_model.proofs.Events.Soundness.{at_cpu, names_at}
use Rattle.pip_model.proofs.Locality.Agree.{AgreeTrees}
use Rattle.pip_model.proofs.Locality.Leaves.{LeavesTree}
use Rattle.pip_model.proofs.Locality.OneEvent.{own_name}
use Rattle.pip_model.proofs.Trees.Ancestors.{chain-node, name_in, not_root}
use Rattle.pip_model.proofs.Trees.Ancestry.{named_node, root_is_one}
use Rattle.pip_model.proofs.Trees.Children.{child_is}
use Rattle.pip_model.proofs.Trees.Free.{IsName, node_found}
use Rattle.pip_model.proofs.Trees.Lookup.{in_other}
use Rattle.pip_guests.proofs.Elsewhere.{name_after}
use Rattle.pip_guests.proofs.Lines.{line_parent, node_alike, not_top, own_line, parent_line, root_line, top_alone}
use Rattle.pip_slots.specs.Slots.{IsRootsChild}

-- ---- a child of the root

-- p is a child of the root, born at d
pub record Kid (d p : ℕ) (t : Tree) : Type 0 where
  pub name : IsName t p
  pub up : (node t p).up ≡ t.root.name
  pub born : (node t p).born ≡ d
  pub low : p ≢ t.root.name

pub kid_of : (w : World) (d p : ℕ) → IsSoundWorld w → IsRootsChild w d p → Kid d p w.tree
kid_of w d p s c =
    let f = child_found w.tree w.tree.root.name d c.node c.child in
    let same = named_node w.tree p s.tree c.node (inr f.0) c.name in
    record {
      name = subst (IsName w.tree) c.name (name_in c.node (nodes w.tree) (inr f.0));
      up = rw (same, f.1);
      born = rw (same, f.2);
      low = λ e. not_root w.tree s.tree c.node f.0 (cc (c.name));
    }

-- in a tree that agrees below it, it is that child, too
pub kid_same : (d p : ℕ) (t u : Tree) → IsSound t → IsSound u → Kid d p t → AgreeTrees p t u → Kid d p u
kid_same d p t u s r k a =
    let same = node_alike t u p s r a p (own_line t s p k.name) in
    record {
      name = name_after p t u s r k.name a;
      up = rw (← same, k.up, root_is_one t s, ← root_is_one u r);
      born = rw (← same, k.born);
      low = not_top t u s r p k.low;
    }

-- and after a change below it
pub kid_left : (d p : ℕ) (t u : Tree) → IsSound t → IsSound u → Kid d p t → LeavesTree p t u → Kid d p u
kid_left d p t u s r k l = record {
  name = own_name p t u l k.name;
  up = sym (ap (λ x. x.up) l.own) ∙ k.up ∙ (cc (root_is_one t s, root_is_one u r));
  born = sym (ap (λ x. x.born) l.own) ∙ k.born;
  low = not_top t u s r p k.low;
}

module _ (d p : ℕ) (t : Tree) (s : IsSound t) (k : Kid d p t) where
  pub kid_other : In (node t p) t.others
  kid_other = (parent_line t s p k.name k.low).0

  -- above it is the root alone
  pub kid_line : (a : ℕ) → In a (ancestry t p) → (a ≡ p) ⊎ (a ≡ t.root.name)
  kid_line a h =
      let f = node_found t p k.name in
      elim (line_parent t s a (node t p) kid_other (rw f.1 h)) [
        | inl e ↦ inl (e ∙ f.1)
        | inr j ↦ inr (top_alone t s a (rw k.up at j))
      ]

  -- what is neither below it nor the root is aside
  pub kid_aside : (q : ℕ) → IsName t q → (In p (ancestry t q) → ⊥) → q ≢ t.root.name → IsAside t p q
  kid_aside q n nb m = record {
    there = n;
    not_below = nb;
    not_above = λ h. elim (kid_line q h) [
      | inl e ↦ nb (rw e (own_line t s p k.name))
      | inr e ↦ m e
    ];
  }

  root_found : find (λ x. x.name == t.root.name) (nodes t) ≡ Some t.root
  root_found = rw (eq-eqb t.root.name t.root.name refl)

  -- the root finds it at its address
  pub kid_found : child_at t t.root.name d ≡ Some (node t p)
  kid_found = rw (← k.born) (child_is t s t.root.name (node t p).name t.root (node t p) root_found
      (in_other t s (node t p) kid_other) k.up)

  -- and another child at another address
  pub kid_apart : (b : ℕ) (c : Node) → b ≢ d → child_at t t.root.name b ≡ Some c → c.name ≢ p
  kid_apart b c n e q =
      let f = child_found t t.root.name b c e in
      let same = named_node t p s c (inr f.0) q in
      n (rw (← f.2, ← same, k.born))

-- ---- what runs

-- a name that runs does so on a processor
pub cpu_of_name : (cs : List (Option Occupant)) (n : ℕ) → In n (names_at cs)
    → (i : ℕ) × (r : Occupant) × (at_cpu cs i ≡ Some r) × (r.name ≡ n)
cpu_of_name [] n h = absurd h
cpu_of_name (None ∷ cs) n h = let (i, r, e, q) = cpu_of_name cs n h in (suc i, r, e, q)
cpu_of_name (Some c ∷ cs) n (inl e) = (zero, c, refl, sym e)
cpu_of_name (Some c ∷ cs) n (inr j) = let (i, r, e, q) = cpu_of_name cs n j in (suc i, r, e, q)

-- where only processor 0 runs a partition, no other runs
pub runs_alone : (w : World) (n : ℕ) (r : Occupant) → ((i : ℕ) → i ≢ 0 → runs_on w i ≡ None) → runs_on w 0 ≡ Some r
    → r.name ≢ n → has (running w) n ≡ false
runs_alone w n r alone k m = false_from_ne_true _ (λ z. go (cpu_of_name w.cpus n (has_in n _ z)))
  where
    go : (i : ℕ) × (q : Occupant) × (at_cpu w.cpus i ≡ Some q) × (q.name ≡ n) → ⊥
    go (i, q, e, d) = elim (cases_eq i 0) [
      | inl z ↦
          let u : Some q ≡ Some r = sym (rw (← z) e) ∙ k in
          let v : q ≡ r = cc in
          m (rw (← v, d))
      | inr z ↦ let u = sym (alone i z) ∙ e in cc
    ]

-- ---- who takes a vector

-- a partition that handles the vector and does not run is among those above
among_some : (w : World) (k n : ℕ) (c : Ctx) → handler w.tree n k ≡ Some c → has (running w) n ≡ false → (born : ℕ)
    (qs : List Node) → In n (names_of qs) → nearest_among w k born qs ≢ None
among_some w k n c e f born [] i z = i
among_some w k n c e f born (q ∷ qs) i z =
    go (has (running w) q.name) (handler w.tree q.name k) refl refl i z (λ j. among_some w k n c e f q.born qs j)
  where
    go : (b : Bool) (o : Option Ctx) → has (running w) q.name ≡ b → handler w.tree q.name k ≡ o
        → (n ≡ q.name) ⊎ In n (names_of qs) → taker_or b o q born (nearest_among w k q.born qs) ≡ None
        → (In n (names_of qs) → nearest_among w k q.born qs ≢ None) → ⊥
    go false (Some x) a b i z rest = cc
    go false None a b (inl d) z rest = let u = sym e ∙ ap (λ n. handler w.tree n k) d ∙ b in cc
    go false None a b (inr j) z rest = rest j z
    go true (Some x) a b (inl d) z rest = let u = sym f ∙ ap (λ n. has (running w) n) d ∙ a in cc
    go true (Some x) a b (inr j) z rest = rest j z
    go true None a b (inl d) z rest = let u = sym f ∙ ap (λ n. has (running w) n) d ∙ a in cc
    go true None a b (inr j) z rest = rest j z

-- where the root handles the vector and does not run, what another partition makes of it is taken
pub taker_some : (w : World) (q k : ℕ) (c : Ctx) → IsSoundWorld w → IsName w.tree q → q ≢ w.tree.root.name
    → handler w.tree w.tree.root.name k ≡ Some c → has (running w) w.tree.root.name ≡ false
    → nearest_taker w q k ≢ None
taker_some w q k c s n m e f z =
    let x = node w.tree q in
    let g = node_found w.tree q n in
    let p = parent_line w.tree s.tree q n m in
    let up : In w.tree.root.name (ancestry w.tree x.up) = root_line w.tree s.tree x.up p.1 in
    among_some w k w.tree.root.name c e f x.born (chain w.tree x.up) up
    (cc (chain-node w.tree s.tree x p.0, g.1))
