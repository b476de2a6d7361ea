-- The lines that are pending, as the code goes through them.
use Rattle.std.proofs.Common.{◌≡◌, ℕ, suc, ◌+◌, ◌<◌, ◌&&◌, ◌||◌, inl, inr, not, Bool, true, false, List}
use Rattle.std.proofs.Common.{[], ◌∷◌}
use Rattle.std.proofs.Common.{refl, sym, ap, ◌∙◌, subst, arith}
use Rattle.std.proofs.lemmas.Bool.{cases_eq}
use Rattle.pip_model.specs.Lists.{In, has}
use Rattle.pip_model.specs.Sound.{AreLines}
use Rattle.pip_model.specs.Tree.{Tree}
use Rattle.pip_model.proofs.OnLists.Members.{has_in, in_has}
use Rattle.pip_guests.specs.Sights.{Sight}
use Rattle.pip_guests.specs.Sights as T

pub not_pending : (js : List ℕ) (j : ℕ) → In j js → (b : Bool) → true ≡ (not (has js j) || b) → b ≡ true
not_pending js j i b e = sym (e ∙ ap (λ c. not c || b) (in_has j js i))

pub is_pending : (js : List ℕ) (j : ℕ) (b : Bool) → false ≡ (not (has js j) || b) → In j js × (b ≡ false)
is_pending js j b e = go (has js j) refl e
  where
    go : (c : Bool) → has js j ≡ c → false ≡ (not c || b) → In j js × (b ≡ false)
    go true k f = (has_in j js k, sym f)
    go false k f = cc

both_off : (a b : Bool) → false ≡ b → false ≡ (a && b)
both_off true b e = e
both_off false b e = refl

module _ (own : List ℕ) (sight : Sight) (t : Tree) where
  abbrev handled : ℕ → Bool
  handled j = T.handler_passes own sight t t.root.name (32 + j)

  -- each misses
  pub lines_all : (js : List ℕ) → ((j : ℕ) → In j js → handled j ≡ true) → true ≡ T.lines_pass own sight t js
  lines_all [] f = refl
  lines_all (j ∷ js) f = lines_all js (λ i k. f i (inr k)) ∙ sym (ap (λ b. b && T.lines_pass own sight t js)
      (f j (inl refl)))

  -- one doesn't
  pub lines_one : (js : List ℕ) (j : ℕ) → In j js → handled j ≡ false → false ≡ T.lines_pass own sight t js
  lines_one (i ∷ js) j (inl e) off = sym (ap (λ b. b && T.lines_pass own sight t js) (ap handled (sym e) ∙ off))
  lines_one (i ∷ js) j (inr k) off = both_off (handled i) (T.lines_pass own sight t js) (lines_one js j k off)
  lines_one [] j k off = absurd k

pub pending_low : (low : ℕ) (js : List ℕ) → AreLines low js → (j : ℕ) → In j js → j < 16
pending_low low (i ∷ js) a j (inl e) = let l = a.1 in omega (arith, l, e)
pending_low low (i ∷ js) a j (inr k) = pending_low (suc i) js a.2 j k
pending_low low [] a j k = absurd k

-- those below the next number
pub before_next : (own : List ℕ) (sight : Sight) (t : Tree) (js : List ℕ) (n : ℕ)
    → ((j : ℕ) → In j js → j < n → T.handler_passes own sight t t.root.name (32 + j) ≡ true)
    → true ≡ (not (has js n) || T.handler_passes own sight t t.root.name (32 + n))
    → (j : ℕ) → In j js → j < n + 1 → T.handler_passes own sight t t.root.name (32 + j) ≡ true
before_next own sight t js n f e j i low = elim (cases_eq j n) [
  | inl d ↦ ap (λ k. T.handler_passes own sight t t.root.name (32 + k)) d
      ∙ not_pending js n (subst (λ k. In k js) d i) (T.handler_passes own sight t t.root.name (32 + n)) e
  | inr d ↦ f j i (omega (arith, low, d))
]
