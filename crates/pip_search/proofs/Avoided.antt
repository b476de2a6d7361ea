-- A label that comes is avoided by no loop.
use Rattle.std.proofs.Common.{◌≡◌, ℕ, zero, suc, ◌+◌, ◌-◌, ◌*◌, ◌/◌, ◌%◌, ◌<◌, ◌≤◌, inl, inr, List, [], ◌∷◌, ◌++◌}
use Rattle.std.proofs.Common.{length, length-append, Some, slice_get, ap, sym, arith}
use Rattle.std.proofs.Math.Nat.{mul-le-mul_left, mul-le-mul_right}
use Rattle.std.proofs.lemmas.Bool.{cases_lt}
use Rattle.std.specs.List.{AllByRecursion}
use Rattle.pip_search.specs.Comes.{AreFair, ComingIsNotAvoided, HasEach, IsHidden}
use Rattle.pip_search.specs.Comes.{in_windows, times_over}
use Rattle.pip_search.specs.Reached.{AreChoices}
use Rattle.pip_search.specs.Summary.{IsShownOn}
use Rattle.pip_search.specs.Systems.{Model, after_choices}
use Rattle.pip_search.proofs.Falling.{hidden_both}
use Rattle.pip_search.proofs.Places.{get-below, get-more}

-- ---- what stands in a loop that is made over and over

length_over : (n : ℕ) (cs : List ℕ) → length (times_over n cs) ≡ n * length cs
length_over zero cs = omega arith
length_over (suc n) cs =
    omega (arith, length_over n cs, length-append cs (times_over n cs))

-- what stands after others
get_after : (xs ys : List ℕ) (i : ℕ) → slice_get (xs ++ ys) (length xs + i) ≡ slice_get ys i
get_after [] ys i = ap (slice_get ys) (omega arith)
get_after (x ∷ xs) ys i =
    let is : suc (length xs) + i ≡ suc (length xs + i) = omega arith in
    rw (is, get_after xs ys i)

get_over : (n a : ℕ) (cs : List ℕ) (q x : ℕ) → a < n → slice_get cs q ≡ Some x
    → slice_get (times_over n cs) (a * length cs + q) ≡ Some x
get_over zero a cs q x low at = absurd (omega arith)
get_over (suc n) zero cs q x low at =
    let is : zero * length cs + q ≡ q = omega arith in
    rw (is, get-more cs (times_over n cs) q x at)
get_over (suc n) (suc a) cs q x low at =
    let is : suc a * length cs + q ≡ length cs + (a * length cs + q) = omega arith in
    rw (is, get_after cs (times_over n cs) (a * length cs + q), get_over n a cs q x (omega arith) at)

-- a place in the middle of three lists
get_middle : (xs ys zs : List ℕ) (i x : ℕ) → i < length ys → slice_get (xs ++ (ys ++ zs)) (length xs + i) ≡ Some x
    → slice_get ys i ≡ Some x
get_middle xs ys zs i x low e = front ys zs i low (rw (← get_after xs (ys ++ zs) i) e)
  where
    front : (ys zs : List ℕ) (i : ℕ) → i < length ys → slice_get (ys ++ zs) i ≡ Some x → slice_get ys i ≡ Some x
    front [] zs i low e = absurd (omega arith)
    front (y ∷ ys) zs zero low e = e
    front (y ∷ ys) zs (suc i) low e = front ys zs i (omega arith) e

-- whichever choices of it come one after the other, as many as the loop has, all of the loop are among them
module _ (n : ℕ) (cs later some first : List ℕ) (whole : times_over n cs ≡ later ++ (some ++ first))
    (count : length some ≡ length cs) where
  stands : (a q x i : ℕ) → slice_get cs q ≡ Some x → a < n → a * length cs + q ≡ length later + i → i < length some
      → slice_get some i ≡ Some x
  stands a q x i at low is inside = get_middle later some first i x inside
      (rw (← is, ← whole, get_over n a cs q x low at))

  long : length later + length some ≤ n * length cs
  long =
      omega (arith, ap length whole, length_over n cs, length-append later (some ++ first), length-append some first)

  among : (q x : ℕ) → slice_get cs q ≡ Some x → (i : ℕ) × (slice_get some i ≡ Some x)
  among q x at =
      let low : q < length cs = get-below cs q x at in
      let a = length later / length cs in
      let r = length later % length cs in
      let rest : r < length cs = omega arith in
      let is : length cs * a + r ≡ length later = omega arith in
      let bound = long in
      elim (cases_lt q r) [
        | inl less ↦
            let i = length cs + q - r in
            let small : i < length some = omega arith in
            let under : (a + 1) * length cs < n * length cs = omega arith in
            (i, stands (a + 1) q x i at (smaller (a + 1) under) (omega arith) small)
        | inr most ↦
            let i = q - r in
            let small : i < length some = omega arith in
            let under : a * length cs < n * length cs = omega arith in
            (i, stands a q x i at (smaller a under) (omega arith) small)
      ]
    where
      smaller : (b : ℕ) → b * length cs < n * length cs → b < n
      smaller b less = elim (cases_lt b n) [
        | inl low ↦ low
        | inr most ↦ absurd (omega (arith, less, mul-le-mul_right (length cs) most))
      ]

fair_over : (classes : List ℕ) (n : ℕ) (cs : List ℕ) → HasEach classes cs
    → AreFair classes (λ _. length cs) (times_over n cs)
fair_over classes n cs each c later some first one whole count =
    let h = each c one in
    let (i, at) = among n cs later some first whole count h.place h.choice h.at in
    search

-- ---- choices that are made over and over

can_both : (P : ℕ → Type 0) (cs ds : List ℕ) → AllByRecursion P cs → AllByRecursion P ds → AllByRecursion P (cs ++ ds)
can_both P [] ds h k = k
can_both P (c ∷ cs) ds h k = (h.0, can_both P cs ds h.1 k)

can_over : (m : Model) (n : ℕ) (cs : List ℕ) → AreChoices m cs → AreChoices m (times_over n cs)
can_over m zero cs can = tt
can_over m (suc n) cs can = can_both (λ c. c < m.choices) cs (times_over n cs) can (can_over m n cs can)

not_both : (m : Model) (s : m.State) (label first : List ℕ) → IsShownOn m s label first → IsHidden m s label first → ⊥
not_both m s label [] shown hidden = shown
not_both m s label (c ∷ cs) shown hidden = hidden.0 (sym shown.1)

pub not_avoided : (m : Model) → ComingIsNotAvoided m
not_avoided m classes s label way loop counts comes avoided =
    let n : ℕ = in_windows (λ _. length loop) 0 counts in
    let count = length_over n loop in
    let some = avoided.some in
    let long : n * 1 ≤ n * length loop = mul-le-mul_left n (omega arith) in
    let enough : n ≤ length (times_over n loop) = omega arith in
    let h = comes way (times_over n loop) (λ _. length loop) avoided.can (can_over m n loop avoided.on) (λ _. some)
    (fair_over classes n loop avoided.each) enough in
    let hidden = hidden_both m (after_choices m s way) label h.later h.first
    (rw (← h.whole) (avoided.never n)) in
    not_both m (after_choices m s way) label h.first h.shown hidden.1
