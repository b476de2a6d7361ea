-- Counts of one outcome more.
use Rattle.std.proofs.Common.{◌≡◌, ◌≢◌, ℕ, ◌+◌, ◌^◌, ◌<◌, Bool, true, false, cond, inl, inr, List, [], ◌∷◌, ◌++◌}
use Rattle.std.proofs.Common.{length, sym, ap, ◌∙◌, subst, arith, eq-eqb, ne_eqb, get_or}
use Rattle.std.specs.Prelude.{count_by}
use Rattle.std.proofs.lemmas.Bool.{cases_eq}
use Rattle.std.proofs.lemmas.List.Sums.{count_by-le-length, sum_by-append}
use Rattle.pip_base.specs.declared.outcome.Outcome.{Outcome}
use Rattle.pip_base.specs.declared.outcome.Outcome.TheVariants as O
use Rattle.pip_base.specs.declared.outcome.Status.{Status}
use Rattle.pip_base.specs.Status.{status_number}
use Rattle.pip_model.specs.Soak.{is_reply}

-- it is counted where it passes the test
count_more : (p : Outcome → Bool) (os : List Outcome) (o : Outcome)
    → count_by p (os ++ o ∷ []) ≡ count_by p os + cond (p o) 1 0
count_more p os o = sum_by-append (λ x. cond (p x) 1 0) os (o ∷ []) ∙ omega arith

count_yes : (p : Outcome → Bool) (os : List Outcome) (o : Outcome) (old new : ℕ) → p o ≡ true → length os + 1 < 2 ^ 32
    → old ≡ count_by p os → (old + 1 < 2 ^ 32 → new ≡ old + 1) → new ≡ count_by p (os ++ o ∷ [])
count_yes p os o old new passes few e more =
    let short = count_by-le-length p os in
    let add = count_more p os o ∙ ap (λ b. count_by p os + cond b 1 0) passes in
    let is = more (omega (arith, short, few, e)) in
    omega (arith, add, is, e)

pub count_no : (p : Outcome → Bool) (os : List Outcome) (o : Outcome) (old : ℕ) → p o ≡ false → old ≡ count_by p os
    → old ≡ count_by p (os ++ o ∷ [])
count_no p os o old fails e = let add = count_more p os o ∙ ap (λ b. count_by p os + cond b 1 0) fails in
    omega (arith, add, e)

-- the replies by their statuses
pub replies_more : (old new : List ℕ) (os : List Outcome) (o : Outcome) (status : Status) (value : ℕ)
    → o ≡ O.Reply status value → length os + 1 < 2 ^ 32
    → (get_or old (status_number status) 0 + 1 < 2 ^ 32 → get_or new (status_number status) 0 ≡ get_or old
    (status_number status) 0 + 1) → ((s : ℕ) → s ≢ status_number status → get_or new s 0 ≡ get_or old s 0)
    → ((s : ℕ) → s < 19 → get_or old s 0 ≡ count_by (is_reply s) os) → (s : ℕ) → s < 19
    → get_or new s 0 ≡ count_by (is_reply s) (os ++ o ∷ [])
replies_more old new os o status value e few more others is s small = elim (cases_eq s (status_number status)) [
  | inl same ↦
      count_yes (is_reply s) os o (get_or old s 0) (get_or new s 0)
      (ap (is_reply s) e ∙ eq-eqb (status_number status) s (sym same)) few (is s small)
      (subst (λ k. get_or old k 0 + 1 < 2 ^ 32 → get_or new k 0 ≡ get_or old k 0 + 1) (sym same) more)
  | inr other ↦ others s other ∙ count_no (is_reply s) os o (get_or old s 0)
      (ap (is_reply s) e ∙ ne_eqb (status_number status) s (λ q. other (sym q))) (is s small)
]
