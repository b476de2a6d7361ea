-- The targets of a yield, and what it tests.
use Rattle.std.proofs.Common.{◌≡◌, ◌≢◌, ℕ, ◌<◌, ◌≤◌, ◌%◌, ◌==◌, ◌&&◌, ◌||◌, cond, not, Bool, true, false, List, [], ◌∷◌}
use Rattle.std.proofs.Common.{refl, sym, ap, ◌∙◌, subst, arith, eq-eqb, eqb-true, ne_eqb, Option, Some, None}
use Rattle.std.specs.Prelude.{is_none, nat_le, nat_lt, option_map}
use Rattle.std.proofs.lemmas.Bool.{leb-false}
use Rattle.pip_base.specs.Memory.{Memory}
use Rattle.pip_base.specs.declared.outcome.Status.{Status}
use Rattle.pip_base.specs.declared.outcome.Status.TheVariants as S
use Rattle.pip_base.specs.declared.types.Ctx.{Ctx}
use Rattle.pip_model.specs.Answers.{Five, first_met}
use Rattle.pip_model.specs.Handlers.{can_save, handler}
use Rattle.pip_model.specs.Lists.{In, has}
use Rattle.pip_model.specs.Partitions.{HasPartition}
use Rattle.pip_model.specs.Sound.{IsSound}
use Rattle.pip_model.specs.Switching.{node_name, parent_of, target_node, yield_refusals}
use Rattle.pip_model.specs.Tree.{Node, Tree, child_at, find_node, is_place, node, nodes}
use Rattle.pip_model.specs.Worlds.{World, running}
use Rattle.pip_model.proofs.Trees.Children.{child_back}
use Rattle.pip_model.proofs.Trees.Depth.{own_parent}
use Rattle.pip_model.proofs.Events.Soundness.{node_in}
use Rattle.pip_model.proofs.Trees.Lookup.{found_name, in_found, node_is, other_found, root_found, root_up, same_found}
use Rattle.pip_model.proofs.Trees.Lookup.{up_found}

-- the parent's name
abbrev name_of : Option Node → Option ℕ
name_of o = option_map (λ y. y.name) o

module _ (t : Tree) (s : IsSound t) (p : ℕ) (x : Node) (found : find_node t p ≡ Some x)
    (up : ℕ) (up_is : up ≡ x.up) where
  -- the root has none
  pub no_parent : up ≡ p → None ≡ option_map (λ (y : Node). y.name) (parent_of t p)
  no_parent e =
      let root = own_parent t s p x found (sym up_is ∙ e) in
      let at : p ≡ t.root.name = sym (found_name t p x found) ∙ ap (λ z. z.name) root in
      sym (ap (λ b. name_of (cond b None (Some (node t (node t p).up)))) (eq-eqb p t.root.name at))

  -- another partition has one
  pub some_parent : up ≢ p → Some up ≡ option_map (λ (y : Node). y.name) (parent_of t p)
  some_parent ne =
      let (q, q_is) = up_found t s p x found in
      let apart : p ≢ t.root.name =
      λ e. ne (let is : x ≡ t.root = same_found t p x t.root found (ap (find_node t) e ∙ root_found t) in
      up_is ∙ ap (λ z. z.up) is ∙ root_up t s ∙ sym e) in
      sym (ap (λ b. name_of (cond b None (Some (node t (node t p).up)))) (ne_eqb p t.root.name apart)
      ∙ ap (λ z. Some (node t z.up).name) (node_is t p x found)
      ∙ ap (λ z. Some z.name) (node_is t x.up q q_is)
      ∙ ap Some (found_name t x.up q q_is ∙ sym up_is))

-- a target is the parent at 0, the caller at 1, else the child there
pub parent_target : (t : Tree) (p d : ℕ) → d ≡ 0
    → option_map (λ (y : Node). y.name) (target_node t p d) ≡ option_map (λ (y : Node). y.name) (parent_of t p)
parent_target t p d e =
    ap (λ b. name_of (cond b (parent_of t p) (cond (d == 1) (Some (node t p)) (child_at t p d)))) (eq-eqb d 0 e)

pub self_target : (t : Tree) (p d : ℕ) (x : Node) → find_node t p ≡ Some x → d ≡ 1
    → Some p ≡ option_map (λ (y : Node). y.name) (target_node t p d)
self_target t p d x found e = sym (ap (λ b.
    name_of (cond b (parent_of t p) (cond (d == 1) (Some (node t p)) (child_at t p d)))) (ne_eqb d 0 (λ z. omega arith))
    ∙ ap (λ b. name_of (cond b (Some (node t p)) (child_at t p d))) (eq-eqb d 1 e)
    ∙ ap (λ z. Some z.name) (node_is t p x found) ∙ ap Some (found_name t p x found))

pub child_target : (t : Tree) (p d : ℕ) → d ≢ 0 → d ≢ 1
    → option_map (λ (y : Node). y.name) (target_node t p d) ≡ option_map (λ (y : Node). y.name) (child_at t p d)
child_target t p d ne other =
    ap (λ b. name_of (cond b (parent_of t p) (cond (d == 1) (Some (node t p)) (child_at t p d)))) (ne_eqb d 0 ne)
    ∙ ap (λ b. name_of (cond b (Some (node t p)) (child_at t p d))) (ne_eqb d 1 other)

-- ---- a target that was found

-- it is a partition of the tree
target_in : (t : Tree) → IsSound t → (p d : ℕ) (y : Node) → target_node t p d ≡ Some y → find_node t y.name ≡ Some y
target_in t s p d y e = by_place (d == 0) (d == 1) e
  where
    of_parent : (b : Bool) → cond b None (Some (node t (node t p).up)) ≡ Some y → find_node t y.name ≡ Some y
    of_parent true k = cc
    of_parent false k = let is : node t (node t p).up ≡ y = cc in
        in_found t s y (subst (λ z. In z (nodes t)) is (node_in t (node t p).up))

    by_place : (b c : Bool) → cond b (parent_of t p) (cond c (Some (node t p)) (child_at t p d)) ≡ Some y
        → find_node t y.name ≡ Some y
    by_place true c k = of_parent (p == t.root.name) k
    by_place false true k = let is : node t p ≡ y = cc in in_found t s y (subst (λ z. In z (nodes t)) is (node_in t p))
    by_place false false k = other_found t s y.name y (child_back t s p d y k).0

some_named : (o : Option Node) (to : ℕ) → Some to ≡ option_map (λ (y : Node). y.name) o
    → (y : Node) × (o ≡ Some y) × (to ≡ y.name)
some_named None to e = cc
some_named (Some y) to e = (y, refl, cc)

none_named : (o : Option Node) → None ≡ option_map (λ (y : Node). y.name) o → is_none o ≡ true
none_named None e = refl
none_named (Some y) e = cc

module _ (t : Tree) (s : IsSound t)
    (p d to : ℕ) (named : Some to ≡ option_map (λ (y : Node). y.name) (target_node t p d)) where
  pub target_found : (y : Node) × (find_node t to ≡ Some y)
  target_found = let (y, is, name) = some_named (target_node t p d) to named in
      (y, ap (find_node t) name ∙ target_in t s p d y is)

  pub target_name : node_name (target_node t p d) ≡ to
  target_name = let (y, is, name) = some_named (target_node t p d) to named in ap node_name is ∙ sym name

  pub target_there : is_none (target_node t p d) ≡ false
  target_there = let (y, is, name) = some_named (target_node t p d) to named in ap is_none is

-- so it stands
pub target_stands : (m : Memory) (p d to : ℕ) (k : HasPartition m p)
    → Some to ≡ option_map (λ (y : Node). y.name) (target_node k.tree p d) → HasPartition m to
target_stands m p d to k named = let (y, found) = target_found k.tree k.sound p d to named in
    record { tree = k.tree; node = y; sound = k.sound; laid = k.laid; found = found }

-- ---- what yield tests

-- conditions one after another
pass : {b : Bool} (q : Status) (cs : List (Bool × Status)) → b ≡ false → first_met ((b, q) ∷ cs) ≡ first_met cs
pass {b = true} q cs e = cc
pass {b = false} q cs e = refl

stop : {b : Bool} (q : Status) (cs : List (Bool × Status)) → b ≡ true → first_met ((b, q) ∷ cs) ≡ Some q
stop {b = true} q cs e = refl
stop {b = false} q cs e = cc

-- an address that passes is 1 or a place
pub well_placed : (d : ℕ) → (not (d == 1) && not (is_place d)) ≡ false → d ≢ 1 → d % 4096 ≡ 0
well_placed d e ne =
    eqb-true (d % 4096) 0 (go (d % 4096 == 0) (ap (λ b. not b && not (is_place d)) (sym (ne_eqb d 1 ne)) ∙ e))
  where
    go : (b : Bool) → not b ≡ false → b ≡ true
    go true k = refl
    go false k = cc

pub vectors_pass : (k n : ℕ) → (nat_le 256 k || nat_le 257 n) ≡ false → (k < 256) × (n ≤ 256)
vectors_pass k n e = let (a, b) = neither (nat_le 256 k) (nat_le 257 n) e in
    (let x = leb-false 256 k a in omega (arith, x), let y = leb-false 257 n b in omega (arith, y))
  where
    neither : (a b : Bool) → (a || b) ≡ false → (a ≡ false) × (b ≡ false)
    neither true b k = cc
    neither false b k = (refl, k)

module _ (w : World) (s : IsSound w.tree) (p : ℕ) (a : Five) where
  -- the tests of a yield by p to the partition `to`, or to the node q, from each test on
  abbrev from_save : List (Bool × Status)
  from_save = (nat_lt a.x2 256 && not (can_save w.tree p a.x2), S.BadSave) ∷ []

  abbrev from_handler : ℕ → List (Bool × Status)
  from_handler to = (is_none (handler w.tree to a.x1), S.NoHandler) ∷ from_save

  abbrev from_running : ℕ → List (Bool × Status)
  from_running to = (not (to == p) && has (running w) to, S.Running) ∷ from_handler to

  abbrev from_vectors : ℕ → List (Bool × Status)
  from_vectors to = (nat_le 256 a.x1 || nat_le 257 a.x2, S.BadVector) ∷ from_running to

  abbrev from_target : Option Node → List (Bool × Status)
  from_target q = (is_none q, S.NotChild) ∷ from_vectors (node_name q)

  abbrev target : Option Node
  target = target_node w.tree p a.x0

  -- the first test that a yield doesn't pass
  abbrev refused : Option Status
  refused = first_met (yield_refusals w p a target)

  pub yield_misplaced : (not (a.x0 == 1) && not (is_place a.x0)) ≡ true → refused ≡ Some S.NotAligned
  yield_misplaced e = stop S.NotAligned (from_target target) e

  module _ (placed : (not (a.x0 == 1) && not (is_place a.x0)) ≡ false) where
    pub yield_childless : None ≡ option_map (λ (y : Node). y.name) target → refused ≡ Some S.NotChild
    yield_childless none =
        pass S.NotAligned (from_target target) placed
        ∙ stop S.NotChild (from_vectors (node_name target)) (none_named target none)

    module _ (to : ℕ) (named : Some to ≡ option_map (λ (y : Node). y.name) target) where
      found_first : refused ≡ first_met (from_vectors to)
      found_first =
          pass S.NotAligned (from_target target) placed
          ∙ pass S.NotChild (from_vectors (node_name target)) (target_there w.tree s p a.x0 to named)
          ∙ ap (λ n. first_met (from_vectors n)) (target_name w.tree s p a.x0 to named)

      pub yield_badly : (nat_le 256 a.x1 || nat_le 257 a.x2) ≡ true → refused ≡ Some S.BadVector
      unfolding found_first
      yield_badly e = found_first ∙ stop S.BadVector (from_running to) e

      module _ (good : (nat_le 256 a.x1 || nat_le 257 a.x2) ≡ false) where
        pub yield_runs : (not (to == p) && has (running w) to) ≡ true → refused ≡ Some S.Running
        unfolding found_first
        yield_runs e = found_first ∙ pass S.BadVector (from_running to) good ∙ stop S.Running (from_handler to) e

        module _ (still : (not (to == p) && has (running w) to) ≡ false) where
          still_first : refused ≡ first_met (from_handler to)
          unfolding found_first
          still_first =
              found_first ∙ pass S.BadVector (from_running to) good ∙ pass S.Running (from_handler to) still

          pub yield_unhandled : None ≡ handler w.tree to a.x1 → refused ≡ Some S.NoHandler
          unfolding still_first
          yield_unhandled e = still_first ∙ stop S.NoHandler from_save (ap is_none (sym e))

          module _ (c : Ctx) (handled : Some c ≡ handler w.tree to a.x1) where
            handled_first : refused ≡ first_met from_save
            unfolding still_first
            handled_first = still_first ∙ pass S.NoHandler from_save (ap is_none (sym handled))

            pub yield_unsaved : (nat_lt a.x2 256 && not (can_save w.tree p a.x2)) ≡ true → refused ≡ Some S.BadSave
            unfolding handled_first
            yield_unsaved e = handled_first ∙ stop S.BadSave [] e

            pub yield_passes : (nat_lt a.x2 256 && not (can_save w.tree p a.x2)) ≡ false → refused ≡ None
            unfolding handled_first
            yield_passes e = handled_first ∙ pass S.BadSave [] e

            pub yield_handler : handler w.tree (node_name target) a.x1 ≡ Some c
            yield_handler = ap (λ n. handler w.tree n a.x1) (target_name w.tree s p a.x0 to named) ∙ sym handled
