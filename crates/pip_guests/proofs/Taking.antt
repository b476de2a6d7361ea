-- In two worlds in which a guest is the same: which of its partitions run, at which its yields aim, and which take its
-- faults.
use Rattle.std.proofs.Common.{◌≡◌, ◌≢◌, ℕ, zero, suc, ◌==◌, inl, inr, Bool, true, false, cond, List, [], ◌∷◌, refl, sym}
use Rattle.std.proofs.Common.{ap, ap₂, ◌∙◌, subst, eqb-true, Option, Some, None}
use Rattle.std.proofs.lemmas.Bool.{ne_eqb}
use Rattle.pip_base.specs.declared.types.Ctx.{Ctx}
use Rattle.pip_model.specs.Ancestors.{Above, further, parent}
use Rattle.pip_model.specs.Deliver.{nearest_above, nearest_among, nearest_taker, taker_or}
use Rattle.pip_model.specs.Handlers.{handler}
use Rattle.pip_model.specs.Lists.{In, has}
use Rattle.pip_model.specs.Switching.{parent_of, target_node}
use Rattle.pip_model.specs.Tree.{Node, Tree, ancestry, chain, child_at, names_of, node, nodes}
use Rattle.pip_model.specs.Worlds.{IsSoundWorld, World, running}
use Rattle.pip_model.specs.declared.processors.Occupant.{Occupant}
use Rattle.pip_model.specs.declared.processors.Taker.{Taker}
use Rattle.pip_model.proofs.OnLists.Members.{has_in, in_has}
use Rattle.pip_model.proofs.Calls.Add.{child_found}
use Rattle.pip_model.proofs.Events.Soundness.{at_cpu, names_at, runs_named}
use Rattle.pip_model.proofs.Locality.Agree.{AgreeTrees, Agreeing, child-same}
use Rattle.pip_model.proofs.Locality.OneEvent.{to_trees}
use Rattle.pip_model.proofs.Trees.Ancestors.{chain-node}
use Rattle.pip_model.proofs.Trees.Ancestry.{ancestry_down, ancestry_over, named_node, not_own_parent, other_in}
use Rattle.pip_model.proofs.Trees.Ancestry.{over_ancestry, root_is_one}
use Rattle.pip_model.proofs.Trees.Free.{IsName, node_found, tests_agree}
use Rattle.pip_guests.specs.Guests.{IsSameGuest}
use Rattle.pip_guests.proofs.Lines.{agree_below, line_alike, line_name, line_node, line_parent, line_top, lines_same}
use Rattle.pip_guests.proofs.Lines.{node_alike, own_line, parent_line, top_alone}
use Rattle.pip_guests.proofs.Moves.{among_in}
use Rattle.pip_guests.proofs.Reading.{handler_alike}

-- a name that runs does so on a processor
cpu_of_name : (cs : List (Option Occupant)) (n : ℕ) → In n (names_at cs)
    → (i : ℕ) × (r : Occupant) × (at_cpu cs i ≡ Some r) × (r.name ≡ n)
cpu_of_name [] n h = absurd h
cpu_of_name (None ∷ cs) n h = let (i, r, e, q) = cpu_of_name cs n h in (suc i, r, e, q)
cpu_of_name (Some c ∷ cs) n (inl e) = (zero, c, refl, sym e)
cpu_of_name (Some c ∷ cs) n (inr j) = let (i, r, e, q) = cpu_of_name cs n j in (suc i, r, e, q)

module _ (w v : World) (p : ℕ) (s : IsSoundWorld w) (s' : IsSoundWorld v) (g : IsSameGuest p w v) where
  pub trees : AgreeTrees p w.tree v.tree
  trees = to_trees p w v g.below

  pub runs_alike : (n : ℕ) → In p (ancestry w.tree n) → has (running w) n ≡ has (running v) n
  runs_alike n h = tests_agree _ _
      (λ q. let (i, r, e, d) = cpu_of_name w.cpus n (has_in n _ q) in
      in_has n _ (rw (← d) (runs_named v i r s' (g.runs i r (subst (λ k. In p (ancestry w.tree k)) (sym d) h) e))))
      (λ q. let (i, r, e, d) = cpu_of_name v.cpus n (has_in n _ q) in
      in_has n _ (rw (← d) (runs_named w i r s (g.runs_back i r
      (subst (λ k. In p (ancestry v.tree k)) (sym d) (line_alike w.tree v.tree p s.tree s'.tree trees n h)) e))))

  pub handlers : (n k : ℕ) → In p (ancestry w.tree n) → handler w.tree n k ≡ handler v.tree n k
  handlers n k h = handler_alike w.tree v.tree n s.tree s'.tree (line_name w.tree n p h)
      (agree_below w.tree v.tree p s.tree s'.tree trees n h) k

  -- ---- yields

  pub target_alike : (q d : ℕ) → In p (ancestry w.tree q) → q ≢ w.tree.root.name → (q ≡ p → d ≡ 0 → ⊥)
      → target_node w.tree q d ≡ target_node v.tree q d
  target_alike q d h m asks = go (d == 0) (d == 1) refl
    where
      n : IsName w.tree q
      n = line_name w.tree q p h

      m' : q ≢ v.tree.root.name
      m' e = m (rw (e, root_is_one v.tree s'.tree, ← root_is_one w.tree s.tree))

      same : node w.tree q ≡ node v.tree q
      same = node_alike w.tree v.tree p s.tree s'.tree trees q h

      f : In (node w.tree q) w.tree.others × IsName w.tree (node w.tree q).up
          × In (node w.tree q).up (ancestry w.tree q)
      f = parent_line w.tree s.tree q n m

      up : (q ≡ p → ⊥) → In p (ancestry w.tree (node w.tree q).up)
      up k = elim (line_parent w.tree s.tree p (node w.tree q) f.0 (line_node w.tree s.tree p q h).2) [
        | inl e ↦ absurd (k (cc (sym (node_found w.tree q n).1)))
        | inr j ↦ j
      ]

      parents : (q ≡ p → ⊥) → parent_of w.tree q ≡ parent_of v.tree q
      parents k =
          ap (λ b. cond b None (Some (node w.tree (node w.tree q).up))) (ne_eqb q w.tree.root.name m)
          ∙ ap Some (node_alike w.tree v.tree p s.tree s'.tree trees (node w.tree q).up (up k)
          ∙ ap (λ x. node v.tree x.up) same)
          ∙ sym (rw (ne_eqb q v.tree.root.name m'))

      kid : Agreeing q w.tree v.tree
      kid = record {
        sound = s.tree;
        sound' = s'.tree;
        name = n;
        trees = agree_below w.tree v.tree p s.tree s'.tree trees q h;
      }

      go : (a b : Bool) → (d == 0) ≡ a → cond a (parent_of w.tree q) (cond b (Some (node w.tree q))
          (child_at w.tree q d)) ≡ cond a (parent_of v.tree q) (cond b (Some (node v.tree q)) (child_at v.tree q d))
      go true b e = parents (λ k. asks k (eqb-true d 0 e))
      go false true e = rw same
      go false false e = child-same kid d

  pub target_below : (q d : ℕ) (x : Node) → In p (ancestry w.tree q) → q ≢ w.tree.root.name → (q ≡ p → d ≡ 0 → ⊥)
      → target_node w.tree q d ≡ Some x → In p (ancestry w.tree x.name)
  target_below q d x h m asks e = go (d == 0) (d == 1) refl e
    where
      n : IsName w.tree q
      n = line_name w.tree q p h

      f : In (node w.tree q) w.tree.others × IsName w.tree (node w.tree q).up
          × In (node w.tree q).up (ancestry w.tree q)
      f = parent_line w.tree s.tree q n m

      up : (q ≡ p → ⊥) → In p (ancestry w.tree (node w.tree q).up)
      up k = elim (line_parent w.tree s.tree p (node w.tree q) f.0 (line_node w.tree s.tree p q h).2) [
        | inl e ↦ absurd (k (cc (sym (node_found w.tree q n).1)))
        | inr j ↦ j
      ]

      parents : (b : Bool) → (q ≡ p → ⊥) → cond b None (Some (node w.tree (node w.tree q).up)) ≡ Some x
          → In p (ancestry w.tree x.name)
      parents true k z = cc
      parents false k z =
          let y : node w.tree (node w.tree q).up ≡ x = cc in
          rw (← y, ← sym (node_found w.tree (node w.tree q).up f.1).1) (up k)

      go : (a b : Bool) → (d == 0) ≡ a → cond a (parent_of w.tree q)
          (cond b (Some (node w.tree q)) (child_at w.tree q d)) ≡ Some x → In p (ancestry w.tree x.name)
      go true b i z = parents (q == w.tree.root.name) (λ k. asks k (eqb-true d 0 i)) z
      go false true i z = let y : node w.tree q ≡ x = cc in
          rw (← y, ← sym (node_found w.tree q n).1) h
      go false false i z =
          let k = child_found w.tree q d x z in
          let g = node_found w.tree q n in
          ancestry_down w.tree s.tree x (node w.tree q) k.0 (k.1 ∙ sym g.1) p
          (rw g.1 h)

  -- ---- faults and traps

  -- a proper ancestor of p is not below p
  pub above_out : (z : Node) → In z w.tree.others → z.name ≡ p → (n : ℕ) → In n (ancestry w.tree z.up)
      → In p (ancestry w.tree n) → ⊥
  above_out z i e n j k =
      let l : In n (ancestry w.tree z.name) = rw (chain-node w.tree s.tree z i) (inr j) in
      let d : p ≡ n = lines_same w.tree s.tree p n k (rw (← e) l) in
      let o : In p (ancestry w.tree z.up) = rw d j in
      let up : In z.up (ancestry w.tree z.name) = rw (chain-node w.tree s.tree z i)
      (inr (own_line w.tree s.tree z.up (line_name w.tree z.up p o))) in
      let q : p ≡ z.up = lines_same w.tree s.tree p z.up o (rw (← e) up) in
      not_own_parent w.tree s.tree z i (cc)

  module _ (k : ℕ) (y : Taker) (below : In p (ancestry w.tree y.to)) (m : p ≢ w.tree.root.name) where
    -- one node of the subtree, and those above it
    step : (x : Node) → In x w.tree.others → In p (ancestry w.tree x.name) → (nearest_among w k x.born
        (chain w.tree x.up) ≡ Some y → nearest_among v k x.born (chain v.tree x.up) ≡ Some y) → (born : ℕ)
        → nearest_among w k born (chain w.tree x.name) ≡ Some y → nearest_among v k born (chain v.tree x.name) ≡ Some y
    step x i h rest born e =
        rw (
          chain-node v.tree s'.tree x i',
          ap₂ (λ b o. taker_or b o x born
              (nearest_among v k x.born (chain v.tree x.up))) (sym (runs_alike x.name h)) (sym (handlers x.name k h)),
          go (has (running w) x.name) (handler w.tree x.name k)
              (sym (ap (nearest_among w k born) (chain-node w.tree s.tree x i)) ∙ e),
        )
      where
        i' : In x v.tree.others
        i' = other_in w.tree v.tree s.tree s'.tree x i (trees.to x (inr i, h)).0

        go : (b : Bool) (o : Option Ctx) → taker_or b o x born (nearest_among w k x.born (chain w.tree x.up)) ≡ Some y
            → taker_or b o x born (nearest_among v k x.born (chain v.tree x.up)) ≡ Some y
        go false (Some c) z = z
        go false None z = rest z
        go true (Some c) z = rest z
        go true None z = rest z

    -- p itself
    base : IsName w.tree p → (born : ℕ) → nearest_among w k born (chain w.tree (node w.tree p).name) ≡ Some y
        → nearest_among v k born (chain v.tree (node w.tree p).name) ≡ Some y
    base n = let x = node w.tree p in let f = node_found w.tree p n in let i = (parent_line w.tree s.tree p n m).0 in
        step x i (rw f.1 (own_line w.tree s.tree p n))
        (λ z. absurd (above_out x i f.1 y.to (among_in w k x.born (chain w.tree x.up) y z) below))

    is_other : (t : Tree) (a b : Node) → Above t a b → In b t.others
    is_other t a b (parent i j e) = i
    is_other t a b (further i j e h) = i

    tail : IsName w.tree p → (x : Node) → Above w.tree (node w.tree p) x
        → nearest_among w k x.born (chain w.tree x.up) ≡ Some y → nearest_among v k x.born (chain v.tree x.up) ≡ Some y
    tail n x (parent i j e) z = rw e (base n x.born
        (subst (λ a. nearest_among w k x.born (chain w.tree a) ≡ Some y) e z))
    tail n x (further {z = q} i j e a) z =
        let f = node_found w.tree p n in
        let h : In p (ancestry w.tree q.name) = rw (← f.1)
        (over_ancestry w.tree s.tree (node w.tree p) q f.0 (inr a)) in
        rw e (step q (is_other w.tree (node w.tree p) q a) h (tail n q a) x.born
        (subst (λ b. nearest_among w k x.born (chain w.tree b) ≡ Some y) e z))

    -- a taker in the subtree is the taker in both
    pub taker_alike : (q : ℕ) → In p (ancestry w.tree q) → nearest_taker w q k ≡ Some y → nearest_taker v q k ≡ Some y
    taker_alike q h e =
        ap (λ a. nearest_above v k (chain v.tree a)) (sym f.1)
        ∙ ap (nearest_above v k) (chain-node v.tree s'.tree x i')
        ∙ on (sym (ap (nearest_above w k) (chain-node w.tree s.tree x i))
        ∙ ap (λ a. nearest_above w k (chain w.tree a)) f.1 ∙ e)
      where
        x : Node
        x = node w.tree q

        f : In (node w.tree q) (nodes w.tree) × ((node w.tree q).name ≡ q) × In p (ancestry w.tree (node w.tree q).name)
        f = line_node w.tree s.tree p q h

        n : IsName w.tree p
        n = line_top w.tree s.tree p q h

        not_top : q ≢ w.tree.root.name
        not_top d = m (top_alone w.tree s.tree p (rw d at h))

        i : In x w.tree.others
        i = (parent_line w.tree s.tree q (line_name w.tree q p h) not_top).0

        i' : In x v.tree.others
        i' = other_in w.tree v.tree s.tree s'.tree x i (trees.to x (inr i, f.2)).0

        on : nearest_among w k x.born (chain w.tree x.up) ≡ Some y
            → nearest_among v k x.born (chain v.tree x.up) ≡ Some y
        on z =
            let (b, j, d, o) = ancestry_over w.tree s.tree x f.0 p f.2 in
            let same : node w.tree p ≡ b = named_node w.tree p s.tree b j d in
            elim o [
              | inl c ↦ absurd (above_out x i (rw (← c, d)) y.to
                  (among_in w k x.born (chain w.tree x.up) y z) below)
              | inr a ↦ tail n x (rw same a) z
            ]
