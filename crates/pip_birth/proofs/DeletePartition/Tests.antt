-- The tests of deletePartition: from what the code answers to the conditions of the model.
use Rattle.std.proofs.Common.{◌≡◌, ℕ, zero, suc, ◌+◌, ◌<◌, ◌≤◌, inl, inr, Bool, true, false, List, [], ◌∷◌, length, ◌*◌}
use Rattle.std.proofs.Common.{slice_index_or, refl, sym, ap, ◌∙◌, subst, arith, cond, Some, None}
use Rattle.std.proofs.lemmas.Bool.{cases_eq, false_from_ne_true}
use Rattle.pip_base.specs.declared.outcome.Status.{Status}
use Rattle.pip_base.specs.declared.outcome.Status.TheVariants as S
use Rattle.pip_model.specs.Answers.{child_name, first_met}
use Rattle.pip_model.specs.DeletePartition.{delete_refusals, some_run}
use Rattle.pip_model.specs.Layout.{LaysOut}
use Rattle.pip_model.specs.Lists.{In, has}
use Rattle.pip_model.specs.Midway.{OnChain, here}
use Rattle.pip_model.specs.Partitions.{HasPartition, InEach}
use Rattle.pip_model.specs.Sound.{IsSound}
use Rattle.pip_model.specs.Work.{climbing_work}
use Rattle.std.proofs.Common.{take}
use Rattle.std.proofs.lemmas.List.Sums.{sum_by-le, sum_by-take-le, sum_by_more}
use Rattle.std.proofs.lemmas.Nat.{mul-le}
use Rattle.pip_model.proofs.Trees.Depth.{depth, depth_few, few_nodes}
use Rattle.pip_model.specs.Tree.{Node, Tree, ancestry, below, chain, find_node, names_of, nodes}
use Rattle.pip_model.proofs.Trees.Ancestors.{name_in}
use Rattle.pip_model.proofs.Trees.Ancestry.{ancestry_over, over_ancestry}
use Rattle.pip_model.proofs.Trees.Chains.{above_chain, chain_over}
use Rattle.pip_model.proofs.Trees.Lookup.{found_in, found_name, name_found}
use Rattle.pip_model.proofs.OnLists.Members.{In-filter, In-filter_from, In-map_from, any_from, any_some, has_in, in_has}
use Rattle.pip_model.proofs.Frames.Same.{frames-same}
use Rattle.pip_kern.specs.Tested.{IsChildAt, child_tests}
use Rattle.pip_kern.proofs.Calls.{named_child}
use Rattle.pip_kern.proofs.Tested.{first_met-pass, first_met-stop}
use Rattle.std.specs.Prelude.{unwrap_or}
use Rattle.pip_base.specs.Memory.{Memory}
use Rattle.pip_birth.specs.Deleting.{ArePartitions, HasPartitions}

-- ---- the partitions that run

-- they are partitions of each tree that is laid out
pub partitions_too : (m : Memory) (rs : List ℕ) → HasPartitions m rs → (t : Tree) → IsSound t → LaysOut t m
    → ArePartitions t rs
partitions_too m rs r t s lays k d low =
    let (x, i, e) = In-map_from (λ (z : Node). z.name) (slice_index_or rs k d) (nodes r.tree) (r.each k d low) in
    subst (λ q. In q (names_of (nodes t))) (sym e)
    (name_in x (nodes t) ((frames-same r.tree t m r.sound s r.laid lays).to x i))

pub runs_stands : (m : Memory) (rs : List ℕ) → HasPartitions m rs → (k d : ℕ) → k < length rs
    → HasPartition m (slice_index_or rs k d)
runs_stands m rs r k d low = let (x, e) = name_found r.tree r.sound (slice_index_or rs k d) (r.each k d low) in
    search

get_in : (rs : List ℕ) (k d : ℕ) → k < length rs → In (slice_index_or rs k d) rs
get_in [] k d low = absurd (omega arith)
get_in (r ∷ rs) zero d low = inl refl
get_in (r ∷ rs) (suc k) d low = inr (get_in rs k d (omega arith))

in_get : (rs : List ℕ) (d q : ℕ) → In q rs → (k : ℕ) × (k < length rs) × (slice_index_or rs k d ≡ q)
in_get [] d q i = absurd i
in_get (r ∷ rs) d q (inl e) = (0, omega arith, sym e)
in_get (r ∷ rs) d q (inr i) = let (k, low, e) = in_get rs d q i in (suc k, omega arith, e)

-- one of them is top or is below it
pub run_found : (t : Tree) (top : ℕ) (c : Node) → IsSound t → find_node t top ≡ Some c → (rs : List ℕ) → ArePartitions t
    rs → (k d : ℕ) → k < length rs → OnChain t top (slice_index_or rs k d) → true ≡ some_run rs (below t top)
run_found t top c s found rs all k d low chain =
    let q = slice_index_or rs k d in
    let (x, e) = name_found t s q (all k d low) in
    let o = chain_over t s top q chain c x found e in
    let on : has (ancestry t x.name) top ≡ true = in_has top (ancestry t x.name)
    (rw (← found_name t top c found) (over_ancestry t s c x (found_in t top c found) o)) in
    let runs : has rs x.name ≡ true =
    in_has x.name rs (rw (found_name t q x e) (get_in rs k d low)) in
    sym (any_some (λ z. has rs z.name) x (below t top)
    (In-filter (λ z. has (ancestry t z.name) top) x (nodes t) (found_in t q x e) on) runs)

-- none of them
pub run_none : (t : Tree) (top : ℕ) (c : Node) → IsSound t → find_node t top ≡ Some c → (rs : List ℕ) (n : ℕ)
    → length rs ≤ n → ((k d : ℕ) → k < n → OnChain t top (slice_index_or rs k d) → ⊥)
    → false ≡ some_run rs (below t top)
run_none t top c s found rs n full none = sym (false_from_ne_true _ (λ e.
    let (x, i, h) = any_from (λ z. has rs z.name) (below t top) e in
    let (j, on) = In-filter_from (λ z. has (ancestry t z.name) top) x (nodes t) i in
    let (k, low, is) = in_get rs 0 x.name (has_in x.name rs h) in
    let (z, l, name, o) = ancestry_over t s x j top (has_in top (ancestry t x.name) on) in
    let chain : OnChain t z.name x.name =
    elim o [ inl q ↦ simp (← q) here | inr a ↦ above_chain t s z x a ] in
    none k 0 (omega arith) (rw is (subst (λ w. OnChain t w x.name) name chain))))

-- one more isn't
pub run_more : (t : Tree) (top i r : ℕ) (rs : List ℕ) → r ≡ slice_index_or rs i r → i < length rs
    → ((k d : ℕ) → k < i → OnChain t top (slice_index_or rs k d) → ⊥) → (OnChain t top r → ⊥) → (k d : ℕ) → k < i + 1
    → OnChain t top (slice_index_or rs k d) → ⊥
run_more t top i r rs at inside none off k d low chain = elim (cases_eq k i) [
  | inl e ↦ off (rw (at, ← same_get rs i d r inside) (subst (λ j. OnChain t top (slice_index_or rs j d)) e chain))
  | inr ne ↦ none k d (omega arith) chain
]
  where
    same_get : (rs : List ℕ) (i a b : ℕ) → i < length rs → slice_index_or rs i a ≡ slice_index_or rs i b
    same_get [] i a b low = absurd (omega arith)
    same_get (q ∷ rs) zero a b low = refl
    same_get (q ∷ rs) (suc i) a b low = same_get rs i a b (omega arith)

-- the next of them
module _ (m : Memory) (rs : List ℕ) (r : HasPartitions m rs) (i q : ℕ) (at : q ≡ slice_index_or rs i q)
    (low : i < length rs) where
  pub item_stands : HasPartition m q
  item_stands = rw at (runs_stands m rs r i q low)

  module _ (t : Tree) (s : IsSound t) (lays : LaysOut t m) where
    pub item_named : (x : Node) × (find_node t q ≡ Some x)
    item_named =
        name_found t s q (subst (λ n. In n (names_of (nodes t))) (sym at) (partitions_too m rs r t s lays i q low))

    pub run_item : (top : ℕ) (c : Node) → find_node t top ≡ Some c → OnChain t top q → true ≡ some_run rs (below t top)
    run_item top c found chain =
        run_found t top c s found rs (partitions_too m rs r t s lays) i q low (rw (← at) chain)

-- ---- how far they climb

-- one more
pub climbed : (t : Tree) (rs : List ℕ) (i r : ℕ) → r ≡ slice_index_or rs i r → i < length rs → (before between after :
    ℕ)
    → between ≤ before + climbing_work t (take i rs) → after ≤ between + length (chain t r)
    → after ≤ before + climbing_work t (take (i + 1) rs)
climbed t rs i r at low before between after so one =
    let more = sum_by_more (λ q. length (chain t q)) rs i r low in
    let same = ap (λ q. length (chain t q)) at in
    omega (arith, so, one, more, same)

-- they are no more than all
pub climbed_all : (t : Tree) (rs : List ℕ) (i before after : ℕ) → after ≤ before + climbing_work t (take i rs)
    → after ≤ before + climbing_work t rs
climbed_all t rs i before after so =
    let all = sum_by-take-le (λ q. length (chain t q)) rs i in omega (arith, so, all)

-- and four climb no more than four times the number of frames
pub climbs_few : (t : Tree) → IsSound t → (rs : List ℕ) → length rs ≤ 4 → climbing_work t rs ≤ 4 * t.frames
unfolding depth
climbs_few t s rs four =
    let each = sum_by-le (λ q. length (chain t q)) t.frames rs
    (λ k d low. let short = depth_few t (slice_index_or rs k d) in let few = few_nodes t s in omega (
      arith,
      short,
      few,
    )) in
    let all = mul-le (length rs) t.frames 4 t.frames four (omega arith) in
    omega (arith, each, all)

-- ---- the tests

-- where there is such a child, the last test decides
tests_are : (t : Tree) (rs : List ℕ) (p d c : ℕ) → first_met (child_tests t p (d ∷ []) d) ≡ None → IsChildAt t p d c
    → first_met (delete_refusals t rs p d) ≡ cond (some_run rs (below t c)) (Some S.Running) None
tests_are t rs p d c passed is =
    first_met-pass (child_tests t p (d ∷ []) d) ((some_run rs (below t (child_name t p d)), S.Running) ∷ []) passed
    ∙ ap (λ n. cond (some_run rs (below t (unwrap_or n 0))) (Some S.Running) None) is

pub tested_run : (m : Memory) (t : Tree) (rs : List ℕ) (p d c : ℕ) (b : Bool) → IsSound t → LaysOut t m
    → first_met (child_tests t p (d ∷ []) d) ≡ None → IsChildAt t p d c
    → InEach m c (λ u x. b ≡ some_run rs (below u c))
    → first_met (delete_refusals t rs p d) ≡ cond b (Some S.Running) None
tested_run m t rs p d c b s lays passed is says =
    let (y, child, name, found) = named_child t s p d c is in
    rw (tests_are t rs p d c passed is, ← says t y s lays found)

-- a test of the address and the child that isn't passed is the first
pub child_refused : (t : Tree) (rs : List ℕ) (p d : ℕ) (q : Status) → first_met (child_tests t p (d ∷ []) d) ≡ Some q
    → first_met (delete_refusals t rs p d) ≡ Some q
child_refused t rs p d q e =
    first_met-stop (child_tests t p (d ∷ []) d) ((some_run rs (below t (child_name t p d)), S.Running) ∷ []) q e
