-- Pages that are put in a set one after the other.
use Rattle.std.proofs.Common.{◌≡◌, ℕ, zero, suc, ◌+◌, ◌-◌, ◌^◌, ◌<◌, ◌≤◌, ◌==◌, ◌&&◌, ◌||◌, Option, Some, None, List}
use Rattle.std.proofs.Common.{[], ◌∷◌, ◌++◌, map, drop, length, refl, sym, ap, ap₂, ◌∙◌, arith, Bool, true, false, not}
use Rattle.std.specs.Prelude.{slice_index, slice_index_or}
use Rattle.std.proofs.lemmas.List.{drop_more}
use Rattle.pip_base.specs.declared.types.Pair.{Pair}
use Rattle.pip_base.specs.Memory.{Memory}
use Rattle.pip_model.specs.ReadOff.{gather, row_read, with_first}
use Rattle.pip_model.specs.Tree.{Row}
use Rattle.pip_model.proofs.Audit.Over.{gather_append, gather_empty}
use Rattle.pip_audit.specs.FrameSets.{are_fresh, with_all}
use Rattle.pip_audit.specs.declared.tables.FoundRow.{FoundRow}
use Rattle.pip_audit.specs.Tables.{IsFirstRow, IsNextLeft, row_seen, tables_in}

pub fresh_same : (a b : ℕ → Bool) (gs : List ℕ) → ((f : ℕ) → a f ≡ b f) → are_fresh a gs ≡ are_fresh b gs
fresh_same a b [] h = refl
fresh_same a b (g ∷ gs) h = ap₂ (λ x y. not x && y) (h g)
    (fresh_same (λ f. f == g || a f) (λ f. f == g || b f) gs (λ f. ap (λ x. f == g || x) (h f)))

pub with_same : (a b : ℕ → Bool) (gs : List ℕ) (k : ℕ) → ((f : ℕ) → a f ≡ b f)
    → with_all a gs k ≡ with_all b gs k
with_same a b [] k h = h k
with_same a b (g ∷ gs) k h =
    with_same (λ f. f == g || a f) (λ f. f == g || b f) gs k (λ f. ap (λ x. f == g || x) (h f))

-- ---- one page more

assoc : (p q r : Bool) → ((p && q) && r) ≡ (p && (q && r))
assoc true q r = refl
assoc false q r = refl

module _ (xs gs : List ℕ) (g : ℕ) (is : xs ≡ g ∷ gs) (a b : ℕ → Bool) (e : (f : ℕ) → b f ≡ (f == g || a f)) where
  pub fresh_more : (t new : Bool) → new ≡ not (a g) → (t && are_fresh a xs) ≡ ((t && new) && are_fresh b gs)
  fresh_more t new n =
      ap (λ ys. t && are_fresh a ys) is
      ∙ ap₂ (λ x y. t && (x && y)) (sym n) (sym (fresh_same b (λ f. f == g || a f) gs e))
      ∙ sym (assoc t new (are_fresh b gs))

  pub with_more : (f : ℕ) → with_all a xs f ≡ with_all b gs f
  with_more f = ap (λ ys. with_all a ys f) is ∙ sym (with_same b (λ h. h == g || a h) gs f e)

-- the pages from place k on
pub next_page : (gs : List ℕ) (k g : ℕ) → k < length gs → slice_index gs k ≡ g → drop k gs ≡ g ∷ drop (k + 1) gs
next_page gs k g h is = drop_more gs k 0 h ∙ ap (λ x. x ∷ drop (k + 1) gs) is

pub frames_long : (ps : List Pair) → length (map (λ (p : Pair). p.frame) ps) ≡ length ps
frames_long [] = refl
frames_long (p ∷ ps) = ap suc (frames_long ps)

pub frame_at : (ps : List Pair) (k : ℕ) (d : Pair) → k < length ps
    → slice_index (map (λ (p : Pair). p.frame) ps) k ≡ (slice_index_or ps k d).frame
frame_at [] k d h = absurd (omega (arith, h))
frame_at (p ∷ ps) zero d h = refl
frame_at (p ∷ ps) (suc k) d h = frame_at ps k d (omega (arith, h))

pub drop_all : (gs : List ℕ) (k : ℕ) → length gs ≤ k → drop k gs ≡ []
drop_all [] zero h = refl
drop_all [] (suc k) h = refl
drop_all (g ∷ gs) zero h = absurd (omega (arith, h))
drop_all (g ∷ gs) (suc k) h = drop_all gs k (omega (arith, h))

-- ---- the rows of a node from a vpage on

rows_step : (f : ℕ → Option Row) (from at : ℕ) (r : Row) → from ≤ at → at < 2 ^ 20
    → ((k : ℕ) → from ≤ k → k < at → f k ≡ None) → f at ≡ Some r
    → gather f from (2 ^ 20 - from) ≡ r ∷ gather f (at + 1) (2 ^ 20 - (at + 1))
unfolding gather
rows_step f from at r lo hi none some =
    let a : (at - from) + suc (2 ^ 20 - (at + 1)) ≡ 2 ^ 20 - from = omega (arith, lo, hi) in
    let b : from + (at - from) ≡ at = omega (arith, lo) in
    sym (ap (gather f from) a)
    ∙ gather_append f from (at - from) (suc (2 ^ 20 - (at + 1)))
    ∙ ap (λ xs. xs ++ gather f (from + (at - from)) (suc (2 ^ 20 - (at + 1)))) (gather_empty f from
    (at - from) (λ k x y. none k x (omega (arith, lo, y))))
    ∙ ap (λ k. gather f k (suc (2 ^ 20 - (at + 1)))) b
    ∙ ap (λ o. with_first o (gather f (at + 1) (2 ^ 20 - (at + 1)))) some

-- the next of them is the first row from there on
pub next_is : (m : Memory) (part from : ℕ) (o : Option FoundRow) → IsFirstRow m (tables_in m part) from (2 ^ 20) o
    → IsNextLeft m part from o
next_is m part from None none =
    gather_empty (row_read m (tables_in m part)) from (2 ^ 20 - from) (λ k lo hi. none k lo (omega (arith, lo, hi)))
next_is m part from (Some r) is = record {
  from = is.0;
  small = is.1;
  inside = is.2;
  rows = rows_step (row_read m (tables_in m part)) from r.at (row_seen r) is.0 is.1 is.4 is.3;
}

-- ---- all that a node holds

pub fresh_append : (a : ℕ → Bool) (xs ys : List ℕ)
    → are_fresh a (xs ++ ys) ≡ (are_fresh a xs && are_fresh (with_all a xs) ys)
fresh_append a [] ys = refl
fresh_append a (x ∷ xs) ys = ap (λ b. not (a x) && b) (fresh_append (λ f. f == x || a f) xs ys)
    ∙ sym (assoc (not (a x)) (are_fresh (λ f. f == x || a f) xs) (are_fresh (with_all (λ f. f == x || a f) xs) ys))

pub with_append : (a : ℕ → Bool) (xs ys : List ℕ) (f : ℕ)
    → with_all a (xs ++ ys) f ≡ with_all (with_all a xs) ys f
with_append a [] ys f = refl
with_append a (x ∷ xs) ys f = with_append (λ g. g == x || a g) xs ys f

-- the rows' pages after those of configuration
pub fresh_both : (a b : ℕ → Bool) (xs ys : List ℕ) (r : Bool) → are_fresh a xs ≡ true
    → ((f : ℕ) → b f ≡ with_all a xs f) → r ≡ are_fresh b ys → r ≡ are_fresh a (xs ++ ys)
fresh_both a b xs ys r e h q = q ∙ fresh_same b (with_all a xs) ys h
    ∙ sym (fresh_append a xs ys ∙ ap (λ x. x && are_fresh (with_all a xs) ys) e)

pub fresh_not : (a : ℕ → Bool) (xs ys : List ℕ) → are_fresh a xs ≡ false → are_fresh a (xs ++ ys) ≡ false
fresh_not a xs ys e = fresh_append a xs ys ∙ ap (λ x. x && are_fresh (with_all a xs) ys) e

pub with_both : (a b : ℕ → Bool) (xs ys : List ℕ) (f : ℕ) (z : Bool) → ((f : ℕ) → b f ≡ with_all a xs f)
    → z ≡ with_all b ys f → z ≡ with_all a (xs ++ ys) f
with_both a b xs ys f z h q = q ∙ with_same b (with_all a xs) ys f h ∙ sym (with_append a xs ys f)
