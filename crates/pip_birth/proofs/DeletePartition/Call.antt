-- deletePartition from one step of the code to the next.
use Rattle.std.proofs.Common.{◌≡◌, ◌≢◌, ◌/◌, ℕ, zero, suc, inl, inr, true, false, List, [], ◌∷◌, refl, sym, ap, ◌∙◌}
use Rattle.std.proofs.Common.{◌+◌, ◌≤◌}
use Rattle.std.proofs.Common.{subst, arith, Option, Some, None}
use Rattle.std.specs.Prelude.{is_none, option_map}
use Rattle.std.proofs.lemmas.Bool.{both_ways, false_from_ne_true}
use Rattle.pip_base.specs.declared.outcome.Status.{Status}
use Rattle.pip_model.specs.Answers.{accept, answer_unless, child_name, first_met}
use Rattle.pip_model.specs.DeletePartition.{delete_partition, delete_refusals, tree_without_subtree}
use Rattle.pip_model.specs.Layout.{LaysOut}
use Rattle.pip_model.specs.Lists.{has}
use Rattle.pip_model.specs.Work.{climbing_work, deleting_work, ending_work}
use Rattle.pip_model.specs.Midway.{OnChain, here}
use Rattle.pip_model.specs.Partitions.{HasPartition, IsHeld}
use Rattle.pip_model.specs.Sound.{IsSound}
use Rattle.pip_model.specs.Tree.{Node, Tree, ancestry, child_at, find_node, vpage}
use Rattle.pip_model.proofs.Trees.Ancestry.{ancestry_over}
use Rattle.pip_model.proofs.Trees.Chains.{above_chain}
use Rattle.pip_model.proofs.Trees.Depth.{chain_differs}
use Rattle.pip_model.proofs.Trees.Free.{condition-unmet}
use Rattle.pip_model.proofs.Trees.Children.{child_back}
use Rattle.pip_model.proofs.Calls.Delete.{without_subtree-sound, stays_in}
use Rattle.pip_model.proofs.Trees.Lookup.{found_in, found_is_name, found_name, in_found, other_differs}
use Rattle.pip_model.proofs.OnLists.Members.{has_in}
use Rattle.pip_kern.specs.Tested.{IsChildAt}
use Rattle.pip_kern.proofs.Calls.{named_child}
use Rattle.std.specs.Prelude.{unwrap_or}
use Rattle.pip_base.specs.Memory.{Memory}
use Rattle.pip_birth.specs.Deleting.{ArePartitions, HasPartitions}
use Rattle.pip_birth.specs.Ending.{CanEnd, EndsChild, HasChild, EndsChildIn, most_ending_work}

-- ---- the call

-- it is answered
pub delete-accepted : (t : Tree) (rs : List ℕ) (p d c : ℕ) → (first_met (delete_refusals t rs p d) ≡ None)
    × IsChildAt t p d c → delete_partition t rs p d ≡ accept 0 (tree_without_subtree t c)
delete-accepted t rs p d c tested =
    ap (λ o. answer_unless t o (accept 0 (tree_without_subtree t (child_name t p d)))) tested.0
    ∙ ap (λ (o : Option ℕ). accept 0 (tree_without_subtree t (unwrap_or o 0))) tested.1

-- the child is no root, and was born there
pub child_can : (t : Tree) → IsSound t → (p d c : ℕ) → IsChildAt t p d c
    → (y : Node) × CanEnd t y × (y.name ≡ c) × (y.up ≡ p) × (y.born ≡ d)
child_can t s p d c e =
    let (y, child, name, found) = named_child t s p d c e in
    let (f, up, born) = child_back t s p d y child in
    (y, record { sound = s; found = f }, name, up, born)

pub has_child : (m : Memory) (p d c v : ℕ) (h : HasPartition m p) → IsChildAt h.tree p d c → v ≡ d / 4096
    → HasChild m p c v
has_child m p d c v h e is =
    let (y, can, name, up, born) = child_can h.tree h.sound p d c e in
    record { tree = h.tree; node = y; can = can; laid = h.laid; name = name; up = up; place = rw (born, ← is) }

-- the tree without it
pub child_ends : (m n : Memory) (p d c v : ℕ) → EndsChild p c v m n → v ≡ d / 4096 → (t : Tree) → IsSound t
    → LaysOut t m → IsChildAt t p d c → LaysOut (tree_without_subtree t c) n
child_ends m n p d c v says is t s laid e =
    let (y, can, name, up, born) = child_can t s p d c e in
    subst (λ k. LaysOut (tree_without_subtree t k) n) name (says t y can laid name up (rw (born, ← is)))

-- within a bound on the steps
pub child_ends_in : (m : Memory) (p d c v before after : ℕ) → EndsChildIn p c v m before after → v ≡ d / 4096
    → (t : Tree) → IsSound t → LaysOut t m → IsChildAt t p d c
    → (after ≤ before + ending_work t p c) × (after ≤ before + most_ending_work t.frames)
child_ends_in m p d c v before after says is t s laid e =
    let (y, can, name, up, born) = child_can t s p d c e in
    says t y can laid name up (rw (born, ← is))

-- as the model has it, after the tests
pub deleted_in : (m : Memory) (p d c v before between after : ℕ) → EndsChildIn p c v m between after → v ≡ d / 4096
    → (t : Tree) → IsSound t → LaysOut t m → IsChildAt t p d c → (rs : List ℕ)
    → between ≤ before + 6 + climbing_work t rs
    → after ≤ before + 6 + climbing_work t rs + deleting_work t p (child_at t p d)
deleted_in m p d c v before between after says is t s laid e rs tests =
    let (y, child, name, found) = named_child t s p d c e in
    let ends : after ≤ between + ending_work t p c = (child_ends_in m p d c v between after says is t s laid e).0 in
    let there = subst (λ q. after ≤ between + ending_work t p q) (sym name) ends in
    rw child (omega (arith, there, tests))

-- ---- the caller afterwards

-- the caller isn't below its child
caller_left : (t : Tree) → IsSound t → (p d : ℕ) (x : Node) → find_node t p ≡ Some x → (rs : List ℕ) (o : Option Node)
    → child_at t p d ≡ o → first_met (delete_refusals t rs p d) ≡ None
    → find_node (tree_without_subtree t (child_name t p d)) p ≡ Some x
caller_left t s p d x found rs None none e = absurd (let on : is_none (child_at t p d) ≡ true = rw none in
    let off : is_none (child_at t p d) ≡ false = condition-unmet (delete_refusals t rs p d) _ e
    (inr (inr (inl refl))) in both_ways (is_none (child_at t p d)) off on)
caller_left t s p d x found rs (Some c) child e =
    let (f, up, born) = child_back t s p d c child in
    let root : c.name ≢ t.root.name = λ q. other_differs t s c.name c f (sym q) in
    let i = found_in t p x found in
    let n : x.name ≡ p = found_name t p x found in
    let off : has (ancestry t x.name) c.name ≡ false = false_from_ne_true _ (λ h.
    let (z, l, name, o) = ancestry_over t s x i c.name (has_in c.name (ancestry t x.name) h) in
    let chain : OnChain t z.name x.name =
    elim o [ inl q ↦ simp (← q) here | inr a ↦ above_chain t s z x a ] in
    chain_differs t s c.name c.name c f
    (rw (up, ← n) (subst (λ w. OnChain t w x.name) name chain)) refl) in
    let there = in_found (tree_without_subtree t c.name) (without_subtree-sound t c.name s root) x
    (stays_in t c.name s root x i off) in
    subst (λ k. find_node (tree_without_subtree t k) p ≡ Some x)
    (sym (ap (λ (q : Option Node). unwrap_or (option_map (λ (z : Node). z.name) q) 0) child))
    (cc)

-- so it can call again
pub delete-stands : (m n : Memory) (p : ℕ) (s : HasPartition m p) (rs : List ℕ) (d : ℕ)
    → IsHeld (delete_partition s.tree rs p d).tree n → HasPartition n p
delete-stands m n p s rs d after = record {
  tree = (delete_partition s.tree rs p d).tree;
  node = s.node;
  sound = after.0;
  laid = after.1;
  found = there (first_met (delete_refusals s.tree rs p d)) refl;
}
  where
    there : (o : Option Status) → first_met (delete_refusals s.tree rs p d) ≡ o → find_node (answer_unless s.tree o
        (accept 0 (tree_without_subtree s.tree (child_name s.tree p d)))).tree p ≡ Some s.node
    there (Some q) e = s.found
    there None e = caller_left s.tree s.sound p d s.node s.found rs (child_at s.tree p d) refl e

-- or so may it four times
pub caller_runs_four : (m : Memory) (p : ℕ) → HasPartition m p → HasPartitions m (p ∷ p ∷ p ∷ p ∷ [])
caller_runs_four m p s = record { tree = s.tree; sound = s.sound; laid = s.laid; each = each }
  where
    each : ArePartitions s.tree (p ∷ p ∷ p ∷ p ∷ [])
    each zero d low = found_is_name s.tree p s.node s.found
    each (suc zero) d low = found_is_name s.tree p s.node s.found
    each (suc (suc zero)) d low = found_is_name s.tree p s.node s.found
    each (suc (suc (suc zero))) d low = found_is_name s.tree p s.node s.found
    each (suc (suc (suc (suc k)))) d low = absurd (omega arith)
