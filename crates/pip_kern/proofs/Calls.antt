-- What several calls share: values that are looked up, the child that is named, refusals, and what they do.
use Rattle.std.proofs.Common.{◌≡◌, ◌≢◌, ℕ, ◌||◌, cond, Bool, true, false, List, [], ◌∷◌, length, refl, sym, ap, ◌∙◌}
use Rattle.std.proofs.Common.{subst, Option, Some, None}
use Rattle.std.proofs.lemmas.Bool.{both_ways}
use Rattle.std.specs.List.{list_any}
use Rattle.std.specs.Prelude.{Ok, Result, Err, is_none, option_map, unwrap_or}
use Rattle.std.specs.Option.{ok_or}
use Rattle.pip_base.specs.declared.outcome.Status.{Status}
use Rattle.pip_base.specs.Memory.{Memory}
use Rattle.pip_base.specs.declared.outcome.Status.TheVariants as S
use Rattle.pip_model.specs.Answers.{Answer, accept, answer_unless, child_name, child_of, first_met, nobody, refuse}
use Rattle.pip_model.specs.Layout.{LaysOut}
use Rattle.pip_model.specs.FullRows.{FullRow}
use Rattle.pip_model.specs.Partitions.{HasPartition, InEach, IsHeld}
use Rattle.pip_kern.specs.Calls.{Does, DoesWithValue, IsAnswer, is_ok}
use Rattle.pip_kern.specs.Tested.{IsChildAt}
use Rattle.pip_model.specs.Sound.{IsSound}
use Rattle.pip_model.specs.Tree.{Node, Tree, child_at, find_node}
use Rattle.pip_model.proofs.Trees.Children.{child_back}
use Rattle.pip_model.proofs.Trees.Lookup.{other_found}
use Rattle.pip_space.specs.declared.row.Row.{Row as SpaceRow}

-- ---- values that may be missing

-- a value that is there, and one that is missing
pub some_of : {A : Type 0} (o : Option A) → is_none o ≡ false → (x : A) × (o ≡ Some x)
some_of None e = cc
some_of (Some x) e = (x, refl)

pub none_of : {A : Type 0} (o : Option A) → is_none o ≡ true → o ≡ None
none_of None e = refl
none_of (Some x) e = cc

-- one that is missing gives the status that was named for it
pub missing_status : {A : Type 0} (o : Option A) (q status : Status) → o ≡ None → Err q ≡ ok_or o status → q ≡ status
missing_status {A} o q status none e = let bad : Err q ≡ ok_or {T = A} None status =
    rw (e, none) in cc

-- one that is taken away where a test holds
pub some_kept : {A : Type 0} (on : Bool) (o : Option A) (a : A) → cond on None o ≡ Some a → (on ≡ false) × (o ≡ Some a)
some_kept true o a e = cc
some_kept false o a e = (refl, e)

-- what was looked up is what the tree has
pub looked_up : (f : SpaceRow → FullRow) (o p : Option SpaceRow) (r : Option FullRow) → option_map f o ≡ r → o ≡ p
    → r ≡ option_map f p
looked_up f o p r e is = rw (← e, is)

-- ---- the child

-- the child that was found
pub the_child : (t : Tree) (p d child : ℕ) (o : Option ℕ) → o ≡ Some child
    → o ≡ option_map (λ (y : Node). y.name) (child_at t p d) → (y : Node) × (child_at t p d ≡ Some y) × (child ≡ y.name)
the_child t p d child o some e = go (child_at t p d) refl (cc)
  where
    go : (o : Option Node) → child_at t p d ≡ o → Some child ≡ option_map (λ (y : Node). y.name) o
        → (y : Node) × (child_at t p d ≡ Some y) × (child ≡ y.name)
    go None is k = cc
    go (Some y) is k = (y, is, cc)

-- is a node of the tree
pub child_node : (t : Tree) → IsSound t → (p d child : ℕ) (y : Node) → child_at t p d ≡ Some y → child ≡ y.name
    → find_node t child ≡ Some y
child_node t s p d child y is name = cc (other_found t s y.name y (child_back t s p d y is).0)

-- the node of the child at an address
pub named_child : (t : Tree) → IsSound t → (p d c : ℕ) → IsChildAt t p d c
    → (y : Node) × (child_at t p d ≡ Some y) × (y.name ≡ c) × (find_node t c ≡ Some y)
named_child t s p d c e = let (y, is, name) = the_child t p d c (Some c) refl (sym e) in
    (y, is, sym name, child_node t s p d c y is name)

-- it is what calls speak of
pub child_of_is : (t : Tree) (p d : ℕ) (y : Node) → child_at t p d ≡ Some y → child_of t p d ≡ y
child_of_is t p d y e = rw e

pub child_name_is : (t : Tree) (p d : ℕ) (y : Node) → child_at t p d ≡ Some y → child_name t p d ≡ y.name
child_name_is t p d y e = rw e

-- so it is there
pub child_stands : (m : Memory) (p d child : ℕ) (o : Option ℕ) → o ≡ Some child → (s : HasPartition m p)
    → o ≡ option_map (λ (y : Node). y.name) (child_at s.tree p d) → HasPartition m child
child_stands m p d child o some s e =
    let (y, is, name) = the_child s.tree p d child o some e in
    record {
      tree = s.tree;
      node = y;
      sound = s.sound;
      laid = s.laid;
      found = child_node s.tree s.sound p d child y is name;
    }

-- ---- what a call does

-- a call that the model refuses
pub refused-does : (p : ℕ) (call : Tree → Answer) (m : Memory) (q : Status) → InEach m p (λ t x. call t ≡ refuse t q)
    → Does call p q 0 m m
refused-does p call m q is = record {
  answer = λ t x s lays found.
      (cc (is t x s lays found), cc (is t x s lays found));
  tree = λ t x s lays found. rw (is t x s lays found) (s, lays);
  refused = λ ne. refl;
  count = refl;
}

-- and one that it accepts
pub accepted-does : (p : ℕ) (call : Tree → Answer) (v : ℕ) (u : Tree → Tree) (m n : Memory) → length n ≡ length m
    → InEach m p (λ t x. call t ≡ accept v (u t)) → InEach m p (λ t x. IsSound (call t).tree)
    → InEach m p (λ t x. LaysOut (u t) n) → Does call p S.Ok v m n
accepted-does p call v u m n count is sound laid = record {
  answer = λ t x s lays found.
      (cc (is t x s lays found), cc (is t x s lays found));
  tree = λ t x s lays found. (
    sound t x s lays found,
    rw (is t x s lays found) (laid t x s lays found),
  );
  refused = λ ne. absurd (ne refl);
  count = count;
}

-- in both answers of a call that has a value the model's tree is laid out
pub gives-tree : (call : Tree → Answer) (p : ℕ) (r : Result ℕ Status) (m n : Memory) → DoesWithValue call p r m n
    → InEach m p (λ t x. IsHeld (call t).tree n)
gives-tree call p (Ok v) m n d = d.tree
gives-tree call p (Err q) m n d = d.1.tree

-- no condition has the status Ok
abbrev pub has_ok : List (Bool × Status) → Bool
has_ok cs = list_any (λ c. is_ok c.1) cs

ok_is : (q : Status) → q ≡ S.Ok → is_ok q ≡ true
ok_is q e = rw e

-- so none of them answers Ok
pub refusal-never_ok : (cs : List (Bool × Status)) (q : Status) → has_ok cs ≡ false → first_met cs ≡ Some q → q ≢ S.Ok
refusal-never_ok [] q off e = cc
refusal-never_ok (c ∷ cs) q off e = go (is_ok c.1) c.0 refl off e (refusal-never_ok cs q)
  where
    go : (k b : Bool) → is_ok c.1 ≡ k → (k || has_ok cs) ≡ false → cond b (Some c.1) (first_met cs) ≡ Some q
        → (has_ok cs ≡ false → first_met cs ≡ Some q → q ≢ S.Ok) → q ≢ S.Ok
    go true b is none met rest = cc
    go false false is none met rest = rest none met
    go false true is none met rest = λ z. let same : c.1 ≡ q = cc in let on = ok_is c.1 (cc) in
        both_ways (is_ok c.1) is on

-- a call with a value that is refused
pub refused-answer : (t : Tree) (cs : List (Bool × Status)) (a : Answer) (q : Status) → has_ok cs ≡ false
    → first_met cs ≡ Some q → IsAnswer (Err q) (answer_unless t (first_met cs) a)
unfolding refusal-never_ok
refused-answer t cs a q off e =
    (rw e, refusal-never_ok cs q off e, rw e)
