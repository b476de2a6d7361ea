-- The guests of a world: each is a child of the root, no two are above each other, and each processor runs one of them,
-- the root, or nothing.
use Rattle.std.proofs.Common.{◌≡◌, ◌≢◌, ℕ, zero, suc, ◌<◌, ◌≤◌, ◌==◌, ◌&&◌, not, ◌⊎◌, inl, inr, Bool, true, false}
use Rattle.std.proofs.Common.{cond}
use Rattle.std.proofs.Common.{List, [], ◌∷◌, ◌++◌, map, length, refl, sym, ap, ap₂, ◌∙◌, subst, arith, eqb-true}
use Rattle.std.proofs.Common.{eq-eqb}
use Rattle.std.proofs.Common.{Option, Some, None, slice_index}
use Rattle.std.specs.Prelude.{find, option_map, slice_get, unwrap_or}
use Rattle.std.proofs.lemmas.Bool.{ne_eqb}
use Rattle.pip_model.specs.Lists.{In, has}
use Rattle.pip_model.specs.Local.{IsAside}
use Rattle.pip_model.specs.Midway.{find_other}
use Rattle.pip_model.specs.Poll.{occupant_name}
use Rattle.pip_model.specs.Sound.{IsRooted, IsSound}
use Rattle.pip_model.specs.Tree.{Node, Tree, ancestry, chain, chain_in, names_of, nodes}
use Rattle.pip_model.specs.Worlds.{IsSoundWorld, World, runs_on}
use Rattle.pip_model.specs.declared.processors.Occupant.{Occupant}
use Rattle.pip_model.proofs.Events.Soundness.{runs_named}
use Rattle.pip_model.proofs.OnLists.Members.{In-append_cases, In-append_left, In-append_right, In-map, find_in}
use Rattle.pip_model.proofs.OnLists.Members.{has_in}
use Rattle.pip_model.proofs.OnLists.Members.{in_has}
use Rattle.pip_model.proofs.Trees.Ancestors.{chain-node, name_in, not_root}
use Rattle.pip_model.proofs.Trees.Ancestry.{chain_members}
use Rattle.pip_model.proofs.Trees.Lookup.{by_parents, name_found, other_in, other_name}
use Rattle.pip_apart.specs.Alone.{AreProcessors}
use Rattle.pip_apart.specs.Company.{runs_below}
use Rattle.pip_apart.specs.Tops.{all_before, first_before, first_some, names_root, is_top, processors_of, root_on}
use Rattle.pip_apart.specs.Tops.{top_at}
use Rattle.pip_apart.specs.Tops.{top_by, top_of, tops, tops_before, with_top}
use Rattle.pip_apart.proofs.Company.{none_below}
use Rattle.pip_apart.proofs.Testing.{and_both, both, not_true}

-- ---- the climb

-- the chain of the root is the root alone
pub root_chain : (t : Tree) → IsSound t → chain t t.root.name ≡ t.root ∷ []
root_chain t s = go t.others s.parents_come_first
  where
    go : (xs : List Node) → IsRooted t.root xs → chain_in t.root xs t.root.name ≡ t.root ∷ []
    go [] r = rw (eq-eqb t.root.name t.root.name refl)
    go (y ∷ ys) r =
        rw (ne_eqb y.name t.root.name (λ q. r.0 (inl q)), go ys r.2)

-- the root is no guest
pub root_no_top : (t : Tree) → is_top t t.root ≡ false
root_no_top t =
    rw (eq-eqb t.root.name t.root.name refl, second (t.root.up == t.root.name))
  where
    second : (b : Bool) → (b && false) ≡ false
    second true = refl
    second false = refl

-- and has none above it
pub root_top : (t : Tree) → IsSound t → top_of t t.root.name ≡ None
root_top t s =
    rw (root_chain t s, root_no_top t)

-- a child of the root is its own
pub child_top : (t : Tree) → IsSound t → (x : Node) → In x t.others → x.up ≡ t.root.name → top_of t x.name ≡ Some x.name
child_top t s x i e =
    let is : is_top t x ≡ true = and_both (x.up == t.root.name) _ (eq-eqb x.up t.root.name e)
    (rw (ne_eqb x.name t.root.name (λ q. not_root t s x i (sym q)))) in
    rw (chain-node t s x i, is)

-- and another partition has that of its parent
pub other_top : (t : Tree) → IsSound t → (x : Node) → In x t.others → x.up ≢ t.root.name
    → top_of t x.name ≡ top_of t x.up
other_top t s x i n =
    let is : is_top t x ≡ false = rw (ne_eqb x.up t.root.name n) in
    rw (chain-node t s x i, is)

-- ---- what a guest is

-- a child of the root, which is p or above it
pub record IsTop (t : Tree) (p q : ℕ) : Type 0 where
  pub node : Node
  pub others : In node t.others
  pub name : node.name ≡ q
  pub up : node.up ≡ t.root.name
  pub above : In q (ancestry t p)

pub top_is : (t : Tree) (p q : ℕ) → top_of t p ≡ Some q → IsTop t p q
top_is t p q e = go (find (is_top t) (chain t p)) refl e
  where
    go : (o : Option Node) → find (is_top t) (chain t p) ≡ o → option_map (λ x. x.name) o ≡ Some q → IsTop t p q
    go None k d = cc
    go (Some x) k d =
        let name : x.name ≡ q = cc in
        let f = find_in (is_top t) x (chain t p) k in
        let b = both (x.up == t.root.name) _ f.1 in
        let differs : x.name ≢ t.root.name = λ z. not_true (x.name == t.root.name) b.1 (eq-eqb x.name t.root.name z) in
        record {
          node = x;
          others = other (chain_members t.root t.others p x f.0) differs;
          name = name;
          up = eqb-true x.up t.root.name b.0;
          above = rw (← name) (In-map (λ z. z.name) x (chain t p) f.0);
        }
      where
        other : In x (t.root ∷ t.others) → x.name ≢ t.root.name → In x t.others
        other (inl same) n = absurd (n (rw same))
        other (inr i) n = i

-- every partition but the root has one
pub some_top : (t : Tree) → IsSound t → (a : ℕ) → In a (names_of (nodes t)) → a ≢ t.root.name
    → (q : ℕ) × (top_of t a ≡ Some q)
some_top t s a i n =
    let (x, f) = name_found t s a i in
    elim (by_parents t s (λ b. (b ≡ t.root.name) ⊎ ((q : ℕ) × (top_of t b ≡ Some q))) (inl refl) step a x f)
    [ inl e ↦ absurd (n e) | inr k ↦ k ]
  where
    step : (b : ℕ) (y : Node) → find_other t b ≡ Some y
        → (y.up ≡ t.root.name) ⊎ ((q : ℕ) × (top_of t y.up ≡ Some q))
        → (b ≡ t.root.name) ⊎ ((q : ℕ) × (top_of t b ≡ Some q))
    step b y e o = inr (rw (← other_name t b y e) (go (y.up == t.root.name) refl o))
      where
        j : In y t.others
        j = other_in t b y e

        go : (c : Bool) → (y.up == t.root.name) ≡ c → (y.up ≡ t.root.name) ⊎ ((q : ℕ) × (top_of t y.up ≡ Some q))
            → (q : ℕ) × (top_of t y.name ≡ Some q)
        go true z o = (y.name, child_top t s y j (eqb-true y.up t.root.name z))
        go false z (inl e) = absurd (not_true (y.up == t.root.name) (rw z) (eq-eqb y.up t.root.name e))
        go false z (inr (q, k)) =
            (q, other_top t s y j (λ e. not_true (y.up == t.root.name) (rw z) (eq-eqb y.up t.root.name e)) ∙ k)

-- above a child of the root are itself and the root
pub top_line : (t : Tree) (p q n : ℕ) → IsSound t → IsTop t p q → In n (ancestry t q) → (n ≡ q) ⊎ (n ≡ t.root.name)
top_line t p q n s h i = go (rw is at i)
  where
    is : ancestry t q ≡ q ∷ t.root.name ∷ []
    is =
        cc (
          h.name,
          chain-node t s h.node h.others,
          h.up,
          ap₂ (λ m xs. m ∷ map (λ z. z.name) xs) h.name
              (root_chain t s),
        )

    go : In n (q ∷ t.root.name ∷ []) → (n ≡ q) ⊎ (n ≡ t.root.name)
    go (inl e) = inl e
    go (inr (inl e)) = inr e
    go (inr (inr k)) = absurd k

pub top_named : (t : Tree) (p q : ℕ) → IsTop t p q → In q (names_of (nodes t))
top_named t p q h = subst (λ n. In n (names_of (nodes t))) h.name (name_in h.node (nodes t) (inr h.others))

pub top_not_root : (t : Tree) (p q : ℕ) → IsSound t → IsTop t p q → q ≢ t.root.name
top_not_root t p q s h e = not_root t s h.node h.others (cc (h.name))

-- two guests are aside
pub tops_aside : (t : Tree) (a b p q : ℕ) → IsSound t → IsTop t a p → IsTop t b q → p ≢ q → IsAside t p q
tops_aside t a b p q s h k n = record {
  there = top_named t b q k;
  not_below = λ i. elim (top_line t b q p s k i) [ inl e ↦ n e | inr e ↦ top_not_root t a p s h e ];
  not_above = λ i. elim (top_line t a p q s h i) [ inl e ↦ n (sym e) | inr e ↦ top_not_root t b q s k e ];
}

-- ---- the list of guests

-- one that is added is there
added : (ps : List ℕ) (q : ℕ) → In q (with_top ps (Some q))
added ps q = go (has ps q) refl
  where
    go : (b : Bool) → has ps q ≡ b → In q (cond b ps (ps ++ q ∷ []))
    go true e = has_in q ps e
    go false e = In-append_right q ps (q ∷ []) (inl refl)

-- and those before it
before_added : (ps : List ℕ) (o : Option ℕ) (q : ℕ) → In q ps → In q (with_top ps o)
before_added ps None q i = i
before_added ps (Some p) q i = go (has ps p)
  where
    go : (b : Bool) → In q (cond b ps (ps ++ p ∷ []))
    go true = i
    go false = In-append_left q ps (p ∷ []) i

-- no others are
added_from : (ps : List ℕ) (o : Option ℕ) (q : ℕ) → In q (with_top ps o) → In q ps ⊎ (o ≡ Some q)
added_from ps None q i = inl i
added_from ps (Some p) q i = go (has ps p) i
  where
    go : (b : Bool) → In q (cond b ps (ps ++ p ∷ [])) → In q ps ⊎ (Some p ≡ Some q)
    go true j = inl j
    go false j = elim (In-append_cases q ps (p ∷ []) j) [
      | inl k ↦ inl k
      | inr (inl e) ↦ inr (rw (← e))
      | inr (inr k) ↦ absurd k
    ]

-- one that is there is not added
pub there_already : (ps : List ℕ) (o : Option ℕ) (p : ℕ) (b : Bool) → o ≡ Some p → b ≡ has ps p → b ≡ true
    → ps ≡ with_top ps o
there_already ps o p b is said on =
    cc

tops_from : (w : World) (n q : ℕ) → In q (tops_before w n) → (cpu : ℕ) × (top_at w cpu ≡ Some q)
tops_from w zero q i = absurd i
tops_from w (suc n) q i = elim (added_from (tops_before w n) (top_at w n) q i)
    [ inl j ↦ tops_from w n q j | inr e ↦ (n, e) ]

tops_has : (w : World) (n cpu q : ℕ) → cpu < n → top_at w cpu ≡ Some q → In q (tops_before w n)
tops_has w zero cpu q l e = absurd (omega arith)
tops_has w (suc n) cpu q l e = go (cpu == n) refl (λ k. tops_has w n cpu q k e)
  where
    go : (b : Bool) → (cpu == n) ≡ b → (cpu < n → In q (tops_before w n))
        → In q (with_top (tops_before w n) (top_at w n))
    go true z before =
        subst (λ o. In q (with_top (tops_before w n) o)) (sym (ap (top_at w) (sym (eqb-true cpu n z)) ∙ e))
        (added (tops_before w n) q)
    go false z before =
        let differ : cpu ≢ n = λ d. not_true (cpu == n) (rw z) (eq-eqb cpu n d) in
        before_added (tops_before w n) (top_at w n) q (before (omega arith))

-- what runs on a processor on which there is a guest
pub record Runs (w : World) (cpu q : ℕ) : Type 0 where
  pub occupant : Occupant
  pub runs : runs_on w cpu ≡ Some occupant
  pub is : IsTop w.tree occupant.name q

pub top_runs : (w : World) (cpu q : ℕ) → top_at w cpu ≡ Some q → Runs w cpu q
top_runs w cpu q e = go (runs_on w cpu) refl e
  where
    go : (o : Option Occupant) → runs_on w cpu ≡ o → top_by w.tree o ≡ Some q → Runs w cpu q
    go None k d = cc
    go (Some r) k d = record { occupant = r; runs = k; is = top_is w.tree r.name q d }

-- each of the list is a guest
pub tops_are : (w : World) (q : ℕ) → In q (tops w) → (cpu : ℕ) × Runs w cpu q
tops_are w q i = let (cpu, e) = tops_from w (length w.cpus) q i in (cpu, top_runs w cpu q e)

-- ---- the processors of a guest

-- nothing runs on a processor that isn't there
pub none_there : (w : World) (cpu : ℕ) → length w.cpus ≤ cpu → runs_on w cpu ≡ None
none_there w cpu l = go w.cpus cpu l
  where
    go : (os : List (Option Occupant)) (k : ℕ) → length os ≤ k → unwrap_or (slice_get os k) None ≡ None
    go [] k l = refl
    go (o ∷ os) zero l = absurd (omega arith)
    go (o ∷ os) (suc k) l = go os k (omega arith)

-- where a number is in a list
record IsAt (xs : List ℕ) (x : ℕ) : Type 0 where
  place : ℕ
  within : place < length xs
  is : slice_index xs place ≡ x

place_in : (x : ℕ) (xs : List ℕ) → In x xs → IsAt xs x
place_in x [] i = absurd i
place_in x (y ∷ ys) (inl e) = record { place = 0; within = omega arith; is = sym e }
place_in x (y ∷ ys) (inr i) =
    let s : IsAt ys x = place_in x ys i in
    record { place = suc s.place; within = omega arith; is = s.is }

in_place : (xs : List ℕ) (k : ℕ) → k < length xs → In (slice_index xs k) xs
in_place [] k l = absurd (omega arith)
in_place (x ∷ xs) zero l = inl refl
in_place (x ∷ xs) (suc k) l = inr (in_place xs k (omega arith))

all_have : (f : ℕ → Bool) (n x : ℕ) → In x (all_before f n) → f x ≡ true
all_have f zero x i = absurd i
all_have f (suc n) x i = go (f n) refl i (all_have f n x)
  where
    go : (b : Bool) → f n ≡ b → In x (cond b (all_before f n ++ n ∷ []) (all_before f n))
        → (In x (all_before f n) → f x ≡ true) → f x ≡ true
    go true e j before = elim (In-append_cases x (all_before f n) (n ∷ []) j) [
      | inl k ↦ before k
      | inr (inl d) ↦ rw (d, e)
      | inr (inr k) ↦ absurd k
    ]
    go false e j before = before j

all_has : (f : ℕ → Bool) (n x : ℕ) → x < n → f x ≡ true → In x (all_before f n)
all_has f zero x l e = absurd (omega arith)
all_has f (suc n) x l e = go (x == n) refl (f n) refl (λ k. all_has f n x k e)
  where
    less : (x == n) ≡ false → x < n
    less z = let differ : x ≢ n = λ d. not_true (x == n) (rw z) (eq-eqb x n d) in omega arith

    go : (c : Bool) → (x == n) ≡ c → (b : Bool) → f n ≡ b → (x < n → In x (all_before f n))
        → In x (cond b (all_before f n ++ n ∷ []) (all_before f n))
    go true z true d before = In-append_right x (all_before f n) (n ∷ []) (inl (eqb-true x n z))
    go true z false d before = absurd (not_true (f n) (rw d) (rw (← eqb-true x n z, e)))
    go false z true d before = In-append_left x (all_before f n) (n ∷ []) (before (less z))
    go false z false d before = before (less z)

-- a number is below another, or it isn't
below_or_not : (a b : ℕ) → (a < b) ⊎ (b ≤ a)
below_or_not a zero = inr (omega arith)
below_or_not zero (suc b) = inl (omega arith)
below_or_not (suc a) (suc b) =
    elim (below_or_not a b) [ inl l ↦ inl (omega arith) | inr l ↦ inr (omega arith) ]

pub processors_are : (w : World) (p : ℕ) → IsSoundWorld w → AreProcessors w p (processors_of w p)
processors_are w p s = record {
  run = λ k l. all_have (runs_below w p) (length w.cpus) _ (in_place (processors_of w p) k l);
  all = λ cpu e.
      let a = place_in cpu (processors_of w p) (all_has (runs_below w p) (length w.cpus) cpu (there cpu e) e) in
      (a.place, a.within, a.is);
}
  where
    go : (cpu : ℕ) → runs_below w p cpu ≡ true → (cpu < length w.cpus) ⊎ (length w.cpus ≤ cpu) → cpu < length w.cpus
    go cpu e (inl l) = l
    go cpu e (inr l) =
        absurd (not_true (runs_below w p cpu) (rw (none_below w p cpu s (none_there w cpu l))) e)

    there : (cpu : ℕ) → runs_below w p cpu ≡ true → cpu < length w.cpus
    there cpu e = go cpu e (below_or_not cpu (length w.cpus))

-- ---- the first of which something is so

pub first_none : (f : ℕ → Bool) (n k : ℕ) → first_before f n ≡ None → k < n → f k ≡ false
first_none f zero k e l = absurd (omega arith)
first_none f (suc n) k e l = go (first_before f n) refl (f n) refl e (k == n) refl (first_none f n k)
  where
    go : (o : Option ℕ) → first_before f n ≡ o → (b : Bool) → f n ≡ b → first_some o (cond b (Some n) None) ≡ None
        → (c : Bool) → (k == n) ≡ c → (first_before f n ≡ None → k < n → f k ≡ false) → f k ≡ false
    go (Some x) d b h z c q before = cc
    go None d true h z c q before = cc
    go None d false h z true q before = rw (eqb-true k n q, h)
    go None d false h z false q before =
        let differ : k ≢ n = λ y. not_true (k == n) (rw q) (eq-eqb k n y) in
        before d (omega arith)

-- each processor runs a guest, or nothing, where the root runs on none
pub of_guests : (w : World) (cpu : ℕ) → IsSoundWorld w → root_on w ≡ None
    → ((p : ℕ) × In p (tops w) × (runs_below w p cpu ≡ true)) ⊎ (runs_on w cpu ≡ None)
of_guests w cpu s none = go (runs_on w cpu) refl
  where
    within : (r : Occupant) → runs_on w cpu ≡ Some r → (cpu < length w.cpus) ⊎ (length w.cpus ≤ cpu)
        → cpu < length w.cpus
    within r k (inl l) = l
    within r k (inr l) = let bad : None ≡ Some r = rw (← none_there w cpu l) k in cc

    go : (o : Option Occupant) → runs_on w cpu ≡ o
        → ((p : ℕ) × In p (tops w) × (runs_below w p cpu ≡ true)) ⊎ (runs_on w cpu ≡ None)
    go None k = inr k
    go (Some r) k =
        let l : cpu < length w.cpus = within r k (below_or_not cpu (length w.cpus)) in
        let off : names_root w.tree (runs_on w cpu) ≡ false =
        first_none (λ c. names_root w.tree (runs_on w c)) (length w.cpus) cpu none l in
        let differs : r.name ≢ w.tree.root.name = λ e. not_true (r.name == w.tree.root.name)
        (cc) (eq-eqb r.name w.tree.root.name e) in
        let (q, is) = some_top w.tree s.tree r.name (s.names_nodes r.name (runs_named w cpu r s k)) differs in
        let at : top_at w cpu ≡ Some q = rw (k, is) in
        inl (
          q,
          tops_has w (length w.cpus) cpu q l at,
          in_has q _ (subst (λ o. In q (ancestry w.tree (occupant_name o)))
              (sym k) (top_is w.tree r.name q is).above),
        )
