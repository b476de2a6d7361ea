-- What the order of the children comes to.
use Rattle.std.specs.Prelude.{◌≡◌, ℕ, zero, suc, ◌+◌, ◌-◌, ◌%◌, ◌<◌, ◌≤◌, true, false}
use Rattle.std.proofs.Common.{arith, ap, sym, subst, ◌∙◌}
use Rattle.std.proofs.lemmas.Nat.{mod_below}
use Rattle.std.specs.Prelude.{if◌then◌else◌}
use Rattle.pip_native.specs.Choice.{is_alive, first_alive, next_of}

-- at most the number of children, which stands for none
first_small : (n alive last k : ℕ) → 0 < n → first_alive n alive last k ≤ n
first_small n alive last zero pos = omega arith
first_small n alive last (suc k) pos =
    let below : (last + (n - k)) % n < n = mod_below (last + (n - k)) n pos in
    elim (is_alive alive ((last + (n - k)) % n)) as (λ y. (if y then (last + (n - k)) % n
    else first_alive n alive last k) ≤ n) [ true ↦ omega arith | false ↦ first_small n alive last k pos ]

pub next_small : (n alive last : ℕ) → last < n → next_of n alive last ≤ n
next_small n alive last lt = first_small n alive last n (omega arith)

-- one that isn't alive is passed over
pub first_later : (n alive last before : ℕ) → before < n → is_alive alive ((last + before + 1) % n) ≡ false
    → first_alive n alive last (n - before) ≡ first_alive n alive last (n - (before + 1))
first_later n alive last before lt dead =
    let k = n - (before + 1) in
    let left : n - before ≡ suc k = omega arith in
    let place : last + (n - k) ≡ last + before + 1 = omega arith in
    let not_here : is_alive alive ((last + (n - k)) % n) ≡ false =
    subst (λ z. is_alive alive (z % n) ≡ false) (sym place) dead in
    ap (first_alive n alive last) left
    ∙ ap (λ b. if b then (last + (n - k)) % n else first_alive n alive last k) not_here
