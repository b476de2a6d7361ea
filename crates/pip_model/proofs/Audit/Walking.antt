-- The walk goes on from its stack as it goes on from its list of visits.
use Rattle.std.proofs.Common.{◌≡◌, ℕ, zero, suc, ◌+◌, ◌-◌, ◌^◌, ◌≤◌, ◌<◌, false, cond, List, [], ◌∷◌, ◌++◌, refl, sym}
use Rattle.std.proofs.Common.{ap, ◌∙◌, arith, Option, Some, None}
use Rattle.std.specs.Prelude.{filter_map, option_and_then}
use Rattle.std.specs.List.{cons_option}
use Rattle.pip_model.specs.Lists.{has}
use Rattle.pip_model.specs.ReadOff.{Stopped, Visit, gather, node_read, node_stop, reading_unless, row_read, rows_read}
use Rattle.pip_model.specs.ReadOff.{visit_of, visits, walk, with_first}
use Rattle.pip_model.specs.Tree.{Node, names_of}
use Rattle.pip_model.specs.Walking.{Standing, ahead_of, visit_at, visits_from}
use Rattle.pip_model.proofs.Audit.NodeBack.{rows_gathered}
use Rattle.pip_model.proofs.Audit.Over.{gather_append, gather_empty}

-- a list that is gathered and then filtered is gathered
filter_gathered : {A B : Type 0} (h : A → Option B) (f : ℕ → Option A) (from n : ℕ)
    → filter_map h (gather f from n) ≡ gather (λ k. option_and_then h (f k)) from n
unfolding gather
filter_gathered h f from zero = refl
filter_gathered {A = A} {B = B} h f from (suc n) = one (f from) (gather f (from + 1) n)
    ∙ ap (with_first (option_and_then h (f from))) (filter_gathered h f (from + 1) n)
  where
    onto : (o : Option B) (ys : List B) → cons_option o ys ≡ with_first o ys
    onto None ys = refl
    onto (Some y) ys = refl

    one : (o : Option A) (xs : List A)
        → filter_map h (with_first o xs) ≡ with_first (option_and_then h o) (filter_map h xs)
    one None xs = refl
    one (Some x) xs = onto (h x) (filter_map h xs)

-- a node that is read has the rows of its tables
rows_are : (m : List (List ℕ)) (f : ℕ) → (node_read m f).rows ≡ rows_read m (node_read m f).tables
unfolding node_read
rows_are m f = refl

pub visits_whole : (m : List (List ℕ)) (f : ℕ)
    → visits m (node_read m f) ≡ visits_from m (record { page = f; from = 0 })
unfolding visits visits_from visit_at
visits_whole m f =
    ap (filter_map (visit_of m (node_read m f).tables)) (rows_are m f ∙ rows_gathered m (node_read m f).tables)
    ∙ filter_gathered (visit_of m (node_read m f).tables) (row_read m (node_read m f).tables) 0 (2 ^ 20)

-- the rows that are gone through with no visit, and then one
pub visits_step : (m : List (List ℕ)) (page from at : ℕ) (v : Visit) → from ≤ at → at < 2 ^ 20 → ((k : ℕ) → from ≤ k
    → k < at → visit_at m (node_read m page).tables k ≡ None) → visit_at m (node_read m page).tables at ≡ Some v
    → visits_from m (record { page = page; from = from }) ≡ v ∷ visits_from m (record { page = page; from = at + 1 })
unfolding visits_from gather
visits_step m page from at v lo hi none some =
    let f : ℕ → Option Visit = visit_at m (node_read m page).tables in
    let a : (at - from) + suc (2 ^ 20 - (at + 1)) ≡ 2 ^ 20 - from = omega arith in
    let b : from + (at - from) ≡ at = omega arith in
    sym (ap (gather f from) a)
    ∙ gather_append f from (at - from) (suc (2 ^ 20 - (at + 1)))
    ∙ ap (λ xs. xs ++ gather f (from + (at - from)) (suc (2 ^ 20 - (at + 1)))) (gather_empty f from
    (at - from) (λ k x y. none k x (omega (arith, lo, y))))
    ∙ ap (λ k. gather f k (suc (2 ^ 20 - (at + 1)))) b
    ∙ ap (λ o. with_first o (gather f (at + 1) (2 ^ 20 - (at + 1)))) some

pub visits_end : (m : List (List ℕ)) (page from : ℕ) → ((k : ℕ) → from ≤ k → k < 2 ^ 20
    → visit_at m (node_read m page).tables k ≡ None) → visits_from m (record { page = page; from = from }) ≡ []
unfolding visits_from
visits_end m page from none = gather_empty (visit_at m (node_read m page).tables) from
    (2 ^ 20 - from) (λ k lo hi. none k lo (omega arith))

-- one step of the walk over the stack
pub walk_on : (m : List (List ℕ)) (root : Node) (n page from at : ℕ) (ss : List Standing) (others : List Node)
    (v : Visit)
    → visits_from m (record { page = page; from = from }) ≡ v ∷ visits_from m (record { page = page; from = at + 1 })
    → has (names_of (root ∷ others)) v.page ≡ false → node_stop m v.page ≡ None
    → walk m root (suc n) (ahead_of m (record { page = page; from = from } ∷ ss)) others
    ≡ walk m root n (ahead_of m
    (record { page = v.page; from = 0 } ∷ record { page = page; from = at + 1 } ∷ ss)) (node_read m v.page ∷ others)
unfolding walk
walk_on m root n page from at ss others v step off passes =
    let rest : List Visit = visits_from m (record { page = page; from = at + 1 }) ++ ahead_of m ss in
    rw (step, off, passes, visits_whole m v.page)
