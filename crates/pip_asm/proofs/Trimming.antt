-- Words without the zeros after them.
use Rattle.std.specs.Prelude.{◌≡◌, refl, ℕ, ◌+◌, ◌≤◌, ◌==◌, Bool, true, false, cond, length, List, [], ◌∷◌, ◌++◌}
use Rattle.std.proofs.Common.{ap, ◌∙◌, arith}
use Rattle.pip_model.specs.DisText.{trim_on, without_last_zeros}

pub trim_zero : (ws : List ℕ) → without_last_zeros (ws ++ 0 ∷ []) ≡ without_last_zeros ws
trim_zero [] = refl
trim_zero (w ∷ ws) = ap (trim_on w) (trim_zero ws)

last_kept : (w : ℕ) → (w == 0) ≡ false → without_last_zeros (w ∷ []) ≡ w ∷ []
last_kept w h = ap (λ b. cond b [] (w ∷ [])) h

kept_on : (v w : ℕ) (ws : List ℕ) → trim_on v (ws ++ w ∷ []) ≡ v ∷ (ws ++ w ∷ [])
kept_on v w [] = refl
kept_on v w (u ∷ us) = refl

pub trim_none : (ws : List ℕ) (w : ℕ) → (w == 0) ≡ false → without_last_zeros (ws ++ w ∷ []) ≡ ws ++ w ∷ []
trim_none [] w h = last_kept w h
trim_none (v ∷ ws) w h = ap (trim_on v) (trim_none ws w h) ∙ kept_on v w ws

trimmed_less : (w : ℕ) (vs : List ℕ) → length (trim_on w vs) ≤ length vs + 1
trimmed_less w [] = go (w == 0)
  where
    go : (b : Bool) → length (cond b [] (w ∷ [])) ≤ 1
    go true = omega arith
    go false = omega arith
trimmed_less w (v ∷ vs) = omega arith

pub trimmed_short : (ws : List ℕ) → length (without_last_zeros ws) ≤ length ws
trimmed_short [] = omega arith
trimmed_short (w ∷ ws) = omega (arith, trimmed_less w (without_last_zeros ws), trimmed_short ws)
